-- `passes::pass_one` meets its contract. Assumes nothing.
use Prim.Native.Nat.{◌+◌, ◌<◌}
use mathlib.Core.Path.{◌≡◌, refl, ap, ◌∙◌}
use native.Mathlib.Numerals.{add-one}
use native.Mathlib.Omega.{arith}
use lib.ListN.{length}
use Rattle.wsgs.specs.Basics.{Port, in_turn}
use Rattle.wsgs.specs.Words.{port_word}
use Rattle.wsgs.proofs.Laws.InTurn.{in_turn_some}
use Rattle.turns.specs.Charges.{output_told}
use Rattle.turns.specs.Requests.{Turn}
use Rattle.turns.proofs.Ready.{is_open}
use Rattle.turns.proofs.BitLaws.{one_shl}
use Rattle.turns.proofs.Costs.{charged_length, noted_length}
use Rattle.turns.proofs.MaskLaws.{free_first}
use Rattle.turns.proofs.TurnLaws.{first_asks, first_takes}
use Rattle.direct.proofs.PassLaws.{same_on, one_start, one_none, one_some}
use Rattle.direct.proofs.passes.pass_one.Goals as goal
use Rattle.direct.proofs.passes.pass_one.Goals.{In-loop-row, After-first_turn-choice, in-Some, in_default}

-- the input has a turn on both runs
paid : (c : In-loop-row) → Turn c.args.ports (c.loop-row.row + 1) (length c.loop-row.runs.credits.now)
paid c =
    record { few = c.requires.queues_fit.few; port = record { low = omega arith; high = omega arith }; long = omega (arith, c.requires.credits_fit, c.loop-row.invariant.credits) }

sent : (c : In-loop-row) → Turn c.args.ports (c.loop-row.row + 1) (length c.loop-row.runs.queues.now)
sent c =
    record { few = c.requires.queues_fit.few; port = record { low = omega arith; high = omega arith }; long = omega (arith, c.requires.queues_fit.queues, c.loop-row.invariant.queues) }

-- the output that a turn finds
found : (c : After-first_turn-choice) → output_told c.first_turn-choice.result.output ≡ in_turn (is_open c.args.ports c.loop-row.free c.loop-row.runs.credits.now c.loop-row.runs.queues.now (c.loop-row.row + 1)) c.args.ports (port_word c.loop-row.runs.given.now (c.loop-row.row + 1))
found c =
    let p = paid (goal.at-After-first_turn-choice c).In-loop-row in
    let s = sent (goal.at-After-first_turn-choice c).In-loop-row in
    first_takes _ _ _ _ s (omega (arith, c.requires.queues_fit.given, c.loop-row.invariant.given)) _ p _ (first_asks _ _ _ _ p s _ c.first_requests-asked.ensures.asked) _ _ c.first_turn-choice.ensures.output

pub loop-row-init : goal.loop-row-init
loop-row-init c =
    record {
      within = omega arith;
      loans = record { credits = refl; queues = refl; given = refl };
      credits = refl;
      queues = refl;
      given = refl;
      state = one_start _ c.requires.queues_fit.few _ _ _ _ (free_first _ _ c.requires.queues_fit.few c.all_free-free.ensures.mask);
    }

pub overflow_cast-outputs : goal.overflow_cast-outputs
overflow_cast-outputs c =
    let found = found (goal.at.overflow_cast-outputs c).After-first_turn-choice in
    let port : Port c.args.ports c.in-Some.output.0 = (in_turn_some _ _ _ _ (rw c.in-Some.is at found) (rw c.in-Some.is at c.first_turn-choice.ensures.some)).0 in
    omega (arith, port.high, c.requires.queues_fit.few)

pub loop-row-preserved : goal.loop-row-preserved
loop-row-preserved c =
    let paid = paid (goal.at.loop-row-preserved c).In-loop-row in
    let sent = sent (goal.at.loop-row-preserved c).In-loop-row in
    let found = found (goal.at.loop-row-preserved c).After-first_turn-choice in
    let before : c.loop-row.row < c.args.ports = omega arith in
    let turn = c.first_turn-choice.ensures in
    record {
      within = omega arith;
      loans = same_on c.loop-row.invariant.loans turn.loans;
      credits = ap length turn.credits_exit ∙ charged_length _ _ _ _ ∙ c.loop-row.invariant.credits;
      queues = ap length turn.queues_exit ∙ charged_length _ _ _ _ ∙ c.loop-row.invariant.queues;
      given = ap length turn.given_exit ∙ noted_length _ _ _ ∙ c.loop-row.invariant.given;
      state = elim c.match-choice.branch [
        | in-Some w ↦
            rw (w.free-is, w.outputs-is, w.first_pass-is)
            (one_some _ paid.few _ _ _ _ _ _ _ _ _ paid.long sent.long c.loop-row.row _ (add-one _) before c.loop-row.invariant.state _ (rw w.in-Some.is at found) (rw w.in-Some.is at turn.some)
            _ w.take-free.ensures.cleared _ (one_shl 32 c.loop-row.row (omega (arith, before, paid.few))) _ _ _
            (rw w.in-Some.is at turn.credits_exit) (rw w.in-Some.is at turn.queues_exit) (rw w.in-Some.is at turn.given_exit))
        | in_default w ↦
            rw (w.free-is, w.outputs-is, w.first_pass-is)
            (one_none _ paid.few _ _ _ _ _ _ _ _ _ paid.long sent.long c.loop-row.row _ (add-one _) before c.loop-row.invariant.state _ found (ap output_told w.in_default.is)
            _ _ _ turn.credits_exit turn.queues_exit turn.given_exit)
      ];
    }

pub returns : goal.returns
returns c =
    let e : c.loop-row.row ≡ c.args.ports = omega arith in
    let o = rw e at c.loop-row.invariant.state in record {
      loans = c.loop-row.invariant.loans;
      queues_fit = record {
        few = c.requires.queues_fit.few;
        queues = omega (arith, c.requires.queues_fit.queues, c.loop-row.invariant.queues);
        given = omega (arith, c.requires.queues_fit.given, c.loop-row.invariant.given);
      };
      state = o.held;
      first_pass = o.mark;
      credits_exit = o.cost;
    }
