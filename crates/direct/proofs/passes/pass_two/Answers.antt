-- `passes::pass_two` meets its contract. Assumes nothing.
use Prim.Native.Nat.{◌+◌, ◌<◌}
use mathlib.Core.Path.{◌≡◌, refl, ap, ◌∙◌}
use native.Mathlib.Numerals.{add-one}
use native.Mathlib.Omega.{arith}
use lib.ListN.{length, get_or}
use Rattle.wsgs.specs.Basics.{Port, in_turn}
use Rattle.wsgs.specs.Words.{port_word}
use Rattle.wsgs.specs.Steps.{pass_two}
use Rattle.wsgs.proofs.Laws.InTurn.{in_turn_some}
use Rattle.turns.specs.Charges.{output_told}
use Rattle.turns.specs.Requests.{Turn}
use Rattle.turns.proofs.Ready.{is_open}
use Rattle.turns.proofs.TurnLaws.{second_asks, second_takes}
use Rattle.direct.proofs.PassLaws.{two_served, two_none, two_some}
use Rattle.direct.proofs.passes.pass_two.Goals as goal
use Rattle.direct.proofs.passes.pass_two.Goals.{In-loop-row, After-second_turn-choice, in-Some, in_default}

-- the input has a turn
sent : (c : In-loop-row) → Turn c.args.ports (c.loop-row.row + 1) (length c.loop-row.queues)
sent c =
    record { few = c.requires.queues_fit.few; port = record { low = omega arith; high = omega arith }; long = omega (arith, c.requires.queues_fit.queues, c.loop-row.invariant.queues) }

-- the output that a turn finds
found : (c : After-second_turn-choice) → output_told c.second_turn-choice.result.output ≡ in_turn (is_open c.args.ports c.loop-row.free c.loop-row.queues c.loop-row.queues (c.loop-row.row + 1)) c.args.ports (port_word c.loop-row.given (c.loop-row.row + 1))
found c =
    let s = sent (goal.at-After-second_turn-choice c).In-loop-row in
    second_takes _ _ _ _ s (omega (arith, c.requires.queues_fit.given, c.loop-row.invariant.given)) _ _ (second_asks _ _ _ s _ c.second_requests-asked.ensures.asked) _ _ c.second_turn-choice.ensures.output

pub loop-row-init : goal.loop-row-init
unfolding pass_two
loop-row-init c =
    record { within = omega arith; queues = refl; given = refl; state = λ start words one h. h }

-- pass one served the input
pub loop-row-preserved-then-outputs-row-gt0 : goal.loop-row-preserved-then-outputs-row-gt0
loop-row-preserved-then-outputs-row-gt0 c =
    record {
      within = omega arith;
      queues = c.loop-row.invariant.queues;
      given = c.loop-row.invariant.given;
      state = λ st ws one h.
          two_served _ c.requires.queues_fit.few st ws one _ _ _ _ c.loop-row.row _ (add-one _) (c.loop-row.invariant.state st ws one h) (omega arith)
          (λ z. absurd (omega (arith, z, c.if-outputs-row-gt0.true)));
    }

pub overflow_cast-outputs : goal.overflow_cast-outputs
overflow_cast-outputs c =
    let found = found (goal.at.overflow_cast-outputs c).After-second_turn-choice in
    let port : Port c.args.ports c.in-Some.output.0 = (in_turn_some _ _ _ _ (rw c.in-Some.is at found) (rw c.in-Some.is at c.second_turn-choice.ensures.some)).0 in
    omega (arith, port.high, c.requires.queues_fit.few)

pub loop-row-preserved : goal.loop-row-preserved
loop-row-preserved c =
    let sent = sent (goal.at.loop-row-preserved c).In-loop-row in
    let found = found (goal.at.loop-row-preserved c).After-second_turn-choice in
    let before : c.loop-row.row < c.args.ports = omega arith in
    let none : get_or c.loop-row.outputs c.loop-row.row 0 ≡ 0 = omega (arith, c.if-outputs-row-gt0.false) in
    let turn = c.second_turn-choice.ensures in
    record {
      within = omega arith;
      queues = c.second_turn-choice.auto.queues ∙ c.loop-row.invariant.queues;
      given = c.second_turn-choice.auto.given ∙ c.loop-row.invariant.given;
      state = λ st ws one h.
          elim c.match-choice.branch [
            | in-Some w ↦
                rw (w.free-is, w.outputs-is)
                (two_some _ sent.few st ws one _ _ _ _ c.loop-row.row _ (add-one _) (c.loop-row.invariant.state st ws one h) before sent.long none _ (rw w.in-Some.is at found)
                (rw w.in-Some.is at turn.some) _ w.take-free.ensures.cleared _ _ (rw w.in-Some.is at turn.queues_exit) (rw w.in-Some.is at turn.given_exit))
            | in_default w ↦
                rw (w.free-is, w.outputs-is)
                (two_none _ sent.few st ws one _ _ _ _ c.loop-row.row _ (add-one _) (c.loop-row.invariant.state st ws one h) before sent.long none _ found
                (ap output_told w.in_default.is) _ _ turn.queues_exit turn.given_exit)
          ];
    }

pub returns : goal.returns
returns c =
    let e : c.loop-row.row ≡ c.args.ports = omega arith in record {
      pass_two = λ st ws one h. rw e at (c.loop-row.invariant.state st ws one h);
      first_pass = refl;
    }
