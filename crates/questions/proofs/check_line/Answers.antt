-- `questions::check_line` meets its contract: its test is question 6's of a start. Assumes nothing.
use borrow.Author.Tests.{le-leb, lt-leb}
use Rattle.questions.specs.Refusals.{line_refusal}
use Rattle.questions.proofs.check_line.Goals as goal

pub returns-then-line-gt-MAX_LINE_RATE : goal.returns-then-line-gt-MAX_LINE_RATE
unfolding line_refusal
returns-then-line-gt-MAX_LINE_RATE c =
    record { result = rw (lt-leb c.args.line 100000000 c.if-line-gt-MAX_LINE_RATE.true) }

pub returns : goal.returns
unfolding line_refusal
returns c =
    record { result = rw (le-leb c.args.line 100000000 c.if-line-gt-MAX_LINE_RATE.false) }
