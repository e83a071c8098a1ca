-- `questions::check_pair` meets its contract: the sizes refuse, or else the questions after them decide. Assumes nothing.
use Rattle.questions.proofs.Laws.Answers.{handed_on}
use mathlib.Core.Path.{sym}
use Rattle.questions.proofs.Laws.Pairs.{pair_sized, pair_short, pair_outside, pair_inside}
use Rattle.questions.proofs.check_pair.Goals as goal

pub returns-in_err-check_sizes : goal.returns-in_err-check_sizes
returns-in_err-check_sizes c =
    record { result = handed_on _ _ c.from_residual.ensures.1 (pair_sized _ _ _ _ _ c.in_err-check_sizes.ensures.result) }

pub returns-then-not-enough : goal.returns-then-not-enough
returns-then-not-enough c =
    record { result = pair_short _ _ _ _ c.in_ok-check_sizes.ensures.result (sym c.if-not-enough.true) }

pub returns-then-not-pair_in_range : goal.returns-then-not-pair_in_range
returns-then-not-pair_in_range c =
    record { result = pair_outside _ _ _ _ c.in_ok-check_sizes.ensures.result (sym c.if-not-enough.false) c.if-not-pair_in_range.ensures.result }

pub returns : goal.returns
returns c =
    record { result = pair_inside _ _ _ _ c.in_ok-check_sizes.ensures.result (sym c.if-not-enough.false) c.if-not-pair_in_range.ensures.result }
