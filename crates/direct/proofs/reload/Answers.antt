-- `direct::reload` meets its contract: all runs are long enough for the copy. Assumes nothing.
use mathlib.Core.Path.{◌∙◌}
use native.Mathlib.Omega.{arith}
use borrow.Author.Tests.{eq-eqb, ne_eqb}
use Rattle.wsgs.specs.Frames.{into_frame}
use Rattle.wsgs.proofs.Laws.Bookings.{booking_words_length}
use Rattle.words.proofs.Laws.{copy_fits}
use Rattle.direct.proofs.reload.Goals as goal

pub returns-then-clock-eq0 : goal.returns-then-clock-eq0
unfolding into_frame
returns-then-clock-eq0 c =
    let l = c.requires.loading in
    let long = booking_words_length c.args.clock.frame c.args.clock.line c.args.book.slots.now c.args.book.rates.now in record {
      credits_exit = c.copy_bookings.ensures.to_exit ∙ copy_fits _ _ _ (omega (arith, l.slots, l.rates, long)) l.credits ∙ rw (eq-eqb _ _ c.if-clock-eq0.true);
    }

pub returns-else-clock-eq0 : goal.returns-else-clock-eq0
unfolding into_frame
returns-else-clock-eq0 c =
    record { credits_exit = rw (ne_eqb _ _ c.if-clock-eq0.false) }
