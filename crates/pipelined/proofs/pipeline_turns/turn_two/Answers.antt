-- `pipeline_turns::turn_two` meets its contract: the ways that its tests leave are those of the definition. Assumes nothing.
use Rattle.std.proofs.Common.{◌≡◌, ◌-◌, ◌*◌, length, ap, arith}
use Rattle.wsgs.specs.Basics.{Port, in_turn}
use Rattle.wsgs.specs.Words.{port_word}
use Rattle.wsgs.proofs.Laws.InTurn.{in_turn_some}
use Rattle.turns.specs.Masks.{ready_mask}
use Rattle.turns.specs.Charges.{output_told}
use Rattle.turns.specs.Requests.{Turn}
use Rattle.turns.proofs.Costs.{numbered, unnumbered}
use Rattle.turns.proofs.Ready.{is_open}
use Rattle.turns.proofs.TurnLaws.{second_asks, second_takes}
use Rattle.pipelined.proofs.PipelinedTurns.{turn_two_unasked, turn_two_held, turn_two_some, turn_two_none}
use Rattle.pipelined.proofs.pipeline_turns.turn_two.Goals as goal
use Rattle.pipelined.proofs.pipeline_turns.turn_two.Goals.{Start, After-is_some, After-second_requests-asked, After-second_turn-choice, In-Some}

-- the input has a turn on its queues
sent : (c : Start) → Turn c.args.ports c.args.input.0 (length c.args.queues.now)
sent c =
    record { few = c.requires.fits.input.few; port = c.requires.fits.input.port; long = c.requires.fits.queues }

-- what it asks for
requests : (c : After-second_requests-asked) → c.second_requests-asked.result ≡ ready_mask c.args.queues.now c.args.queues.now ((c.args.input.0 - 1) * c.args.ports) c.args.ports
requests c =
    second_asks _ _ _ (sent (goal.at-After-second_requests-asked c).Start) _ c.second_requests-asked.ensures.asked

-- the output that the turn finds
found : (c : After-second_turn-choice) → output_told c.second_turn-choice.result.output ≡ in_turn (is_open c.args.ports c.free_for-free.result c.args.queues.now c.args.queues.now c.args.input.0) c.args.ports (port_word c.args.given.now c.args.input.0)
found c =
    second_takes _ _ _ _ (sent (goal.at-After-second_turn-choice c).Start) c.requires.fits.given _ _ (requests (goal.at-After-second_turn-choice c).After-second_requests-asked) _ _ c.second_turn-choice.ensures.output

pub returns-then-is_some : goal.returns-then-is_some
returns-then-is_some c =
    record { turn = λ s e cr. turn_two_held _ s _ cr _ _ _ _ _ e c.output_of.ensures.read (numbered _ c.output_of.ensures.some c.is_some.ensures c.if-is_some.true) }

pub returns-then-asked-eq0 : goal.returns-then-asked-eq0
returns-then-asked-eq0 c =
    record { turn = λ s e cr. turn_two_unasked _ s _ cr _ _ _ _ (requests (goal.at.returns-then-asked-eq0 c).After-second_requests-asked) c.if-asked-eq0.true }

pub overflow_cast-flight : goal.overflow_cast-flight
overflow_cast-flight c =
    let found = found (goal.at.overflow_cast-flight c).After-second_turn-choice in
    let port : Port c.args.ports c.in-Some.output.0 = (in_turn_some _ _ _ _ (rw c.in-Some.is at found) (rw c.in-Some.is at c.second_turn-choice.ensures.some)).0 in
    omega (arith, port.high, c.requires.fits.input.few)

pub returns-in-Some : goal.returns-in-Some
returns-in-Some c =
    let found = found (goal.at.returns-in-Some c).After-second_turn-choice in
    let turn = c.second_turn-choice.ensures in
    record {
      turn = λ s e cr.
          turn_two_some _ s _ cr _ _ _ _ _ e c.output_of.ensures.read (unnumbered _ c.is_some.ensures c.if-is_some.false) _ _ (c.free_for-free.ensures.free s e)
          (rw c.in-Some.is at found) _ _ (rw c.in-Some.is at turn.queues_exit) (rw c.in-Some.is at turn.given_exit) (rw c.in-Some.is at turn.some);
    }

pub returns-in_default : goal.returns-in_default
returns-in_default c =
    let found = found (goal.at.returns-in_default c).After-second_turn-choice in
    let turn = c.second_turn-choice.ensures in
    record {
      turn = λ s e cr.
          turn_two_none _ s _ cr _ _ _ _ _ e c.output_of.ensures.read (unnumbered _ c.is_some.ensures c.if-is_some.false) _ _ (c.free_for-free.ensures.free s e)
          found _ _ turn.queues_exit turn.given_exit (omega (arith, ap output_told c.in_default.is));
    }
