-- The loop's invariant: the sum is that of the first bookings of the row, and the columns before have its booking.
use Rattle.std.proofs.Common.{◌≡◌, ◌*◌, ◌≤◌, length}
use Rattle.wsgs.specs.Basics.{sum}
use Rattle.book.specs.Afterwards.{afterwards}
use Rattle.book.proofs.Laws.Afterwards.{InRow}
use Rattle.book.proofs.afterwards.BookingRequest.add_row.Given as goal

abbrev pub invariant-loop-at : goal.invariant-loop-at
invariant-loop-at l =
    (l.at ≤ l.self.asked.clock.ports) × (length l.column-items ≡ l.self.asked.clock.ports)
    × (l.sum ≡ sum (λ y. afterwards l.self.asked l.self.more.0 l.input.0 y) l.at)
    × (l.sum ≤ 8589934592 * l.at)
    × InRow l.self.asked.clock.ports (afterwards l.self.asked l.self.more.0) l.input.0 l.at l.column-items
