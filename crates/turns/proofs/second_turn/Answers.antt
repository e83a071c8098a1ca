-- `turns::second_turn` meets its contract: where the input has a turn, the search's output is a port or none, and it pays for a port. Assumes nothing.
use mathlib.Core.Path.{sym, ◌∙◌}
use native.Mathlib.Omega.{arith}
use Rattle.turns.specs.Charges.{PairOf}
use Rattle.turns.proofs.Costs.{charged_some, charged_none, noted_some, noted_none}
use Rattle.turns.proofs.TurnLaws.{taken_pair}
use Rattle.turns.proofs.second_turn.Goals as goal
use Rattle.turns.proofs.second_turn.Goals.{In-Some}

-- the output that it pays for is a port
taken : (c : In-Some) → PairOf c.args.ports c.args.input.0 c.in-Some.output.0
taken c =
    taken_pair c.args.free c.args.asked _ _ _ (c.has_turn.ensures.turn c.if-not-has_turn.false) _ c.last_given-last.result c.choose-choice.ensures.output c.choose-choice.ensures.some _ c.in-Some.is

pub returns-then-not-has_turn-clause-queues_exit : goal.returns-then-not-has_turn-clause-queues_exit
returns-then-not-has_turn-clause-queues_exit c =
    sym (charged_none _ _ _ _ (omega arith))

pub returns-then-not-has_turn-clause-given_exit : goal.returns-then-not-has_turn-clause-given_exit
returns-then-not-has_turn-clause-given_exit c =
    sym (noted_none _ _ _ (omega arith))

pub take_packet-requires-clause-pair : goal.take_packet-requires-clause-pair
take_packet-requires-clause-pair c =
    taken (goal.at.take_packet-requires-clause-pair c).In-Some

pub note_given-requires-clause-output_fits : goal.note_given-requires-clause-output_fits
note_given-requires-clause-output_fits c =
    let t = taken (goal.at.note_given-requires-clause-output_fits c).In-Some in
    omega (arith, t.few, t.output.high)

pub returns-in-Some-clause-queues_exit : goal.returns-in-Some-clause-queues_exit
returns-in-Some-clause-queues_exit c =
    let t = taken (goal.at.returns-in-Some-clause-queues_exit c).In-Some in
    c.take_packet.ensures.less ∙ rw c.in-Some.is (sym (charged_some _ _ _ _ t.output.low))

pub returns-in-Some-clause-given_exit : goal.returns-in-Some-clause-given_exit
returns-in-Some-clause-given_exit c =
    let t = taken (goal.at.returns-in-Some-clause-given_exit c).In-Some in
    c.note_given.ensures.written ∙ rw c.in-Some.is (sym (noted_some _ _ _ t.output.low))

pub returns-in_default-clause-queues_exit : goal.returns-in_default-clause-queues_exit
returns-in_default-clause-queues_exit c =
    rw c.in_default.is (sym (charged_none _ _ _ _ (omega arith)))

pub returns-in_default-clause-given_exit : goal.returns-in_default-clause-given_exit
returns-in_default-clause-given_exit c =
    rw c.in_default.is (sym (noted_none _ _ _ (omega arith)))
