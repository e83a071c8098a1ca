-- What the book holds for a pair, and the sums in which its booking stands. Assumes nothing.
use Rattle.std.specs.Prelude.{ℕ}
use Rattle.wsgs.specs.declared.Clock.{Clock}
use Rattle.wsgs.specs.Words.{word}
use Rattle.wsgs.specs.Bookings.{Book, bookings, row_sum, column_sum}
use Rattle.book.specs.declared.pair_sums.PairSums.{PairSums}

-- its words, its booking, and the sums of bookings of its row and its column
abbrev pub present_sums : Clock → Book → ℕ → ℕ → PairSums
present_sums c m i j =
    let n = c.ports in
    let a = bookings n c.frame c.line m in
    record {
      slots = word n m.slots i j;
      rate = word n m.rates i j;
      booking = a i j;
      row = row_sum n a i;
      column = column_sum n a j;
    }
