-- The loop's invariant: the words so far are the bookings.
use Rattle.std.proofs.Common.{◌≡◌, length}
use Rattle.wsgs.specs.Words.{copied}
use Rattle.wsgs.specs.Bookings.{booking_words}
use Rattle.bookings.proofs.copy_first.Given as goal

abbrev pub invariant-loop-at : goal.invariant-loop-at
invariant-loop-at g l =
    l.to ≡ copied (length l.yielded) (booking_words l.clock.frame l.clock.line l.book.slots.now l.book.rates.now) l.initial.to
