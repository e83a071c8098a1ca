-- `questions::check_sizes` meets its contract: the two questions in turn. Assumes nothing.
use mathlib.Core.Path.{sym}
use Rattle.questions.specs.Refusals.{sizes_refusal}
use Rattle.questions.proofs.check_sizes.Goals as goal

pub returns-then-not-is_between : goal.returns-then-not-is_between
unfolding sizes_refusal
returns-then-not-is_between c =
    record { result = rw (sym c.if-not-is_between.ensures.result) }

pub returns-then-not-is_between-2 : goal.returns-then-not-is_between-2
unfolding sizes_refusal
returns-then-not-is_between-2 c =
    record { result = rw (sym c.if-not-is_between.ensures.result, sym c.if-not-is_between-2.ensures.result) }

pub returns : goal.returns
unfolding sizes_refusal
returns c =
    record { result = rw (sym c.if-not-is_between.ensures.result, sym c.if-not-is_between-2.ensures.result) }
