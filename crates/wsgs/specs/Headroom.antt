-- Headroom: how far a pair is from inequality (2) of the paper. It has a sign, and so is one of the library's integers: `pos n` is n, and
-- `negsuc n` is -(n + 1). Assumes nothing.
use Rattle.std.specs.Prelude.{[], ℕ, ℤ, pos, ◌+ℤ◌, ◌-ℤ◌}
use Rattle.wsgs.specs.declared.Clock.{Clock}
use Rattle.wsgs.specs.Bookings.{Book, bookings, row_sum, column_sum}
use Rattle.wsgs.specs.Questions.{first_no, holds_book, on_pair, accepted}

-- of the pair (i, j), with a for the pairs' bookings: F - (row i + column j - a), where the pair's own booking, which stands in both sums, is
-- counted once. Inequality (2) holds of the pair exactly where it is at least 0.
unfoldable pub headroom_over : (ports frame : ℕ) → (ℕ → ℕ → ℕ) → ℕ → ℕ → ℤ
unfolding row_sum column_sum
headroom_over n f a i j = pos f -ℤ (pos (row_sum n a i) +ℤ pos (column_sum n a j) -ℤ pos (a i j))

-- of a pair of the book
unfoldable pub pair_headroom : Clock → Book → ℕ → ℕ → ℤ
unfolding headroom_over bookings
pair_headroom c m i j = headroom_over c.ports c.frame (bookings c.ports c.frame c.line m) i j

-- the call asks questions 1, 2, 4 and 5; beside a refusal the number is 0
unfoldable pub headroom_refusal : Clock → Book → ℕ → ℕ → ℕ
unfolding first_no
headroom_refusal c m i j = first_no (on_pair c (holds_book c.ports m) i j [])

-- what the call tells: the refusal, 0 for none, and the number
pub record HeadroomResult : Type 0 where
  pub refusal : ℕ
  pub headroom : ℤ

unfoldable pub headroom_result : Clock → Book → ℕ → ℕ → HeadroomResult
unfolding headroom_refusal pair_headroom
headroom_result c m i j =
    let r = headroom_refusal c m i j in
    record { refusal = r; headroom = accepted r (pair_headroom c m i j) (pos 0) }
