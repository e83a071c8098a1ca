-- Preview: what an operation on the book would give, and the two sums of bookings that would follow, those of the pair's row and of its column. It
-- is said once for the four operations. Assumes nothing.
use Rattle.std.specs.Prelude.{Bool, ◌||◌, ℕ, ◌+◌, eqb}
use Rattle.wsgs.specs.declared.Clock.{Clock}
use Rattle.wsgs.specs.Basics.{pick, between}
use Rattle.wsgs.specs.Bookings.{Book, bookings, row_sum, column_sum}
use Rattle.wsgs.specs.Questions.{Effect}
use Rattle.wsgs.specs.Book.{book_effect, rise, rate_effect, release_effect, release_rate_effect}

-- the operations on the book
pub data BookOperation : Type 0 where
  slots_booking rate_booking slots_release rate_release : BookOperation

-- what each does for a pair with an amount, of slots or of a rate
unfoldable pub operation_effect : BookOperation → Clock → Book → (input output amount : ℕ) → Effect ℕ Book
operation_effect slots_booking c m i j d = book_effect c m i j d
operation_effect rate_booking c m i j r = rate_effect c m i j r
operation_effect slots_release c m i j d = release_effect c m i j d
operation_effect rate_release c m i j r = release_rate_effect c m i j r

-- what it counts as in the book's rule, which no release is asked
unfoldable pub counts_as : BookOperation → Clock → Book → (input output amount : ℕ) → ℕ
unfolding rise
counts_as slots_booking c m i j d = d
counts_as rate_booking c m i j r = rise c m i j r
counts_as slots_release c m i j d = 0
counts_as rate_release c m i j r = 0

-- the book's rule refuses: question 8 or 9, or 15 on a fine book, was the first no
abbrev pub refused_by_rule : (refusal : ℕ) → Bool
refused_by_rule r = between 8 9 r || eqb r 15

-- the sum that is shown: the one afterwards where the operation is accepted; where the rule refuses, the present one with what the operation counts as; else 0
unfoldable pub shown : (refusal afterwards asked_about : ℕ) → ℕ
shown r afterwards asked_about = pick (eqb r 0) afterwards (pick (refused_by_rule r) asked_about 0)

-- what the call tells: the refusal that the operation would get, 0 for none, and the two sums
pub record PreviewResult : Type 0 where
  pub refusal : ℕ
  pub row : ℕ
  pub column : ℕ

abbrev pub preview_of : (refusal row column : ℕ) → PreviewResult
preview_of r row column = record { refusal = r; row = row; column = column }

-- the operation is done on a copy of the book: its number, and the sums of what the copy then holds
unfoldable pub preview : BookOperation → Clock → Book → (input output amount : ℕ) → PreviewResult
unfolding operation_effect counts_as shown
preview o c m i j d =
    let n = c.ports in
    let copy = operation_effect o c m i j d in
    let present = bookings n c.frame c.line m in
    let afterwards = bookings n c.frame c.line copy.words in
    let more = counts_as o c m i j d in
    preview_of copy.answer (shown copy.answer (row_sum n afterwards i) (row_sum n present i + more))
    (shown copy.answer (column_sum n afterwards j) (column_sum n present j + more))
