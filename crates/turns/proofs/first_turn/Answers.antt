-- `turns::first_turn` meets its contract: where the input has a turn, what it takes as in pass two it pays for with a credit too. Assumes nothing.
use mathlib.Core.Path.{sym, ◌∙◌}
use native.Mathlib.Omega.{arith}
use Rattle.turns.proofs.Costs.{charged_some, charged_none, noted_none}
use Rattle.turns.proofs.TurnLaws.{second_pair}
use Rattle.turns.proofs.first_turn.Goals as goal

pub returns-then-not-has_turn-clause-credits_exit : goal.returns-then-not-has_turn-clause-credits_exit
returns-then-not-has_turn-clause-credits_exit c =
    sym (charged_none _ _ _ _ (omega arith))

pub returns-then-not-has_turn-clause-queues_exit : goal.returns-then-not-has_turn-clause-queues_exit
returns-then-not-has_turn-clause-queues_exit c =
    sym (charged_none _ _ _ _ (omega arith))

pub returns-then-not-has_turn-clause-given_exit : goal.returns-then-not-has_turn-clause-given_exit
returns-then-not-has_turn-clause-given_exit c =
    sym (noted_none _ _ _ (omega arith))

pub spend_credit-requires-clause-pair : goal.spend_credit-requires-clause-pair
spend_credit-requires-clause-pair c =
    second_pair c.args.free c.args.asked _ _ _ (c.has_turn.ensures.turn c.if-not-has_turn.false) _ _ _ c.second_turn-choice.ensures.output c.second_turn-choice.ensures.some _ c.in-Some.is

pub returns-in-Some-clause-credits_exit : goal.returns-in-Some-clause-credits_exit
returns-in-Some-clause-credits_exit c =
    c.spend_credit.ensures.less ∙ rw c.in-Some.is (sym (charged_some _ _ _ _ (rw c.in-Some.is at c.second_turn-choice.ensures.some)))

pub returns-in_default-clause-credits_exit : goal.returns-in_default-clause-credits_exit
returns-in_default-clause-credits_exit c =
    rw c.in_default.is (sym (charged_none _ _ _ _ (omega arith)))
