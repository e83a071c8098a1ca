-- The bookings that would follow a booking, lists of the sums of their rows and columns, and the tests of the pairs. Assumes nothing.
use Rattle.std.specs.Prelude.{◌≡◌, Bool, List, ℕ, ◌+◌, ◌≤◌, ◌<◌, length, get_or}
use Rattle.std.specs.List.{list_all, range_with_len}
use Rattle.wsgs.specs.Bookings.{row_sum, column_sum}
use Rattle.wsgs.specs.Rule.{with_more, booked_fits}
use Rattle.book.specs.declared.sums.Line.{Line}
use Rattle.book.specs.declared.sums.Line.TheVariants.{Row, Column}
use Rattle.book.specs.declared.asked.AskedPair.{AskedPair}
use Rattle.book.specs.declared.all_sums.AllSums.{AllSums}
use Rattle.book.specs.Asked.{present}
use Rattle.book.specs.Lines.{pair_at}

-- the bookings of a book, with so much more for the asked pair
unfoldable pub afterwards : AskedPair → (more : ℕ) → ℕ → ℕ → ℕ
afterwards p more = with_more (present p) p.pair.input.0 p.pair.output.0 more

-- lists with a sum for each of n ports, from 1 on: of the bookings a, those of the first x rows, and those of all columns over the first x rows
pub record RowSums (n x : ℕ) (a : ℕ → ℕ → ℕ) (sums : List ℕ) : Type 0 where
  pub long : n ≤ length sums
  pub at : (k : ℕ) → k < x → get_or sums k 0 ≡ row_sum n a (k + 1)

pub record ColumnSums (n x : ℕ) (a : ℕ → ℕ → ℕ) (sums : List ℕ) : Type 0 where
  pub long : n ≤ length sums
  pub at : (k : ℕ) → k < n → get_or sums k 0 ≡ column_sum x a (k + 1)

-- both, of all rows and columns of the bookings that would follow
pub record Totals (p : AskedPair) (more : ℕ) (t : AllSums) : Type 0 where
  pub rows : RowSums p.clock.ports p.clock.ports (afterwards p more) t.rows
  pub columns : ColumnSums p.clock.ports p.clock.ports (afterwards p more) t.columns

-- inequality (2) of the paper would hold of the line's pair at port k, where that has a booking
unfoldable pub fits_along : Line → AskedPair → (more : ℕ) → ℕ → Bool
unfolding booked_fits
fits_along l p more k =
    let other = pair_at l p.pair k in
    booked_fits p.clock.ports p.clock.frame (afterwards p more) other.input.0 other.output.0

-- it would hold of each pair of the row, and of each of the column
abbrev pub row_fits : AskedPair → (more : ℕ) → Bool
row_fits p more = list_all (fits_along Row p more) (range_with_len 1 p.clock.ports)

abbrev pub column_fits : AskedPair → (more : ℕ) → Bool
column_fits p more = list_all (fits_along Column p more) (range_with_len 1 p.clock.ports)
