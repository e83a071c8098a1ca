-- The loop's invariant: the sums of the first rows are written down, and those of the columns are over these rows.
use Rattle.std.proofs.Common.{◌≡◌, ◌≤◌, length}
use Rattle.book.specs.Afterwards.{afterwards, RowSums, ColumnSums}
use Rattle.book.proofs.afterwards.BookingRequest.all_sums.Given as goal

abbrev pub invariant-loop-at : goal.invariant-loop-at
invariant-loop-at l =
    (l.at ≤ l.self.asked.clock.ports) × (length l.row-items ≡ l.self.asked.clock.ports)
    × RowSums l.self.asked.clock.ports l.at (afterwards l.self.asked l.self.more.0) l.row-items
    × ColumnSums l.self.asked.clock.ports l.at (afterwards l.self.asked l.self.more.0) l.columns
