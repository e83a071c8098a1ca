-- `questions::check_clock` meets its contract: its test is question 7's. Assumes nothing.
use native.Mathlib.Omega.{arith}
use Rattle.wsgs.proofs.Laws.Questions.{clock_stands, clock_advances}
use Rattle.questions.specs.Refusals.{clock_refusal}
use Rattle.questions.proofs.check_clock.Goals as goal

pub returns-then-clock-ge-MAX_SLOT : goal.returns-then-clock-ge-MAX_SLOT
unfolding clock_refusal
returns-then-clock-ge-MAX_SLOT c =
    record { result = clock_stands c.args.clock.slot (omega (arith, c.if-clock-ge-MAX_SLOT.true)) }

pub returns : goal.returns
unfolding clock_refusal
returns c =
    record { result = clock_advances c.args.clock.slot (omega (arith, c.if-clock-ge-MAX_SLOT.false)) }
