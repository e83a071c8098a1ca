-- The bookings of an asked pair's book. Assumes nothing.
use Rattle.std.specs.Prelude.{ℕ}
use Rattle.wsgs.specs.Bookings.{bookings}
use Rattle.wsgs.specs.Told.{book_lent}
use Rattle.book.specs.declared.asked.AskedPair.{AskedPair}

abbrev pub present : AskedPair → ℕ → ℕ → ℕ
present p = bookings p.clock.ports p.clock.frame p.clock.line (book_lent p.runs)
