-- The book's rule: what a booking that counts as d more for the pair (i, j) is asked, with a for the pairs' bookings. Each kind of book has its own.
-- Assumes nothing.
use Rattle.std.specs.Prelude.{Bool, true, false, ◌&&◌, ◌||◌, List, [], ◌∷◌, ℕ, ◌+◌, ◌-◌, ◌*◌, eqb, leb}
use Rattle.wsgs.specs.Basics.{all_of, updated₂}
use Rattle.wsgs.specs.Bookings.{row_sum, column_sum}
use Rattle.wsgs.specs.Questions.{Question}

-- 8 and 9, on a plain book: is twice the sum of row i, and of column j, with d more at most F + 1 (inequality (5) of the paper)?
abbrev pub row_admits : (ports frame : ℕ) (bookings : ℕ → ℕ → ℕ) (input more : ℕ) → Question
row_admits n f a i d = record { yes = leb (2 * (row_sum n a i + d)) (f + 1); number = 8 }

abbrev pub column_admits : (ports frame : ℕ) (bookings : ℕ → ℕ → ℕ) (output more : ℕ) → Question
column_admits n f a j d = record { yes = leb (2 * (column_sum n a j + d)) (f + 1); number = 9 }

-- the bookings afterwards: d more for the pair (i, j)
abbrev pub with_more : (bookings : ℕ → ℕ → ℕ) (input output more : ℕ) → ℕ → ℕ → ℕ
with_more a i j d = updated₂ a i j (a i j + d)

-- inequality (2) of the paper, for a pair with a booking: its row and its column, in which its own booking is counted once, fit the frame
abbrev pub pair_fits : (frame own row column : ℕ) → Bool
pair_fits f own row column = eqb own 0 || leb (row + column - own) f

-- so it is with the pair (x, y) of the bookings
unfoldable pub booked_fits : (ports frame : ℕ) (bookings : ℕ → ℕ → ℕ) → ℕ → ℕ → Bool
unfolding row_sum column_sum
booked_fits n f a x y = pair_fits f (a x y) (row_sum n a x) (column_sum n a y)

-- with each pair that shares the input i, and with each that shares the output j
abbrev pub input_fits : (ports frame : ℕ) (bookings : ℕ → ℕ → ℕ) (input : ℕ) → Bool
input_fits n f a i = all_of (λ y. booked_fits n f a i y) n

abbrev pub output_fits : (ports frame : ℕ) (bookings : ℕ → ℕ → ℕ) (output : ℕ) → Bool
output_fits n f a j = all_of (λ x. booked_fits n f a x j) n

-- with all of them
unfoldable pub sharing_fit : (ports frame : ℕ) (bookings : ℕ → ℕ → ℕ) (input output : ℕ) → Bool
unfolding all_of booked_fits
sharing_fit n f a i j = input_fits n f a i && output_fits n f a j

-- 15, on a fine book: afterwards, does inequality (2) hold of each booked pair that shares the input or the output?
abbrev pub pairs_admit : (ports frame : ℕ) (bookings : ℕ → ℕ → ℕ) (input output more : ℕ) → Question
pairs_admit n f a i j d = record { yes = sharing_fit n f (with_more a i j d) i j; number = 15 }

-- THE RULE, of a plain book and of a fine one
abbrev pub rule : (fine : Bool) (ports frame : ℕ) (bookings : ℕ → ℕ → ℕ) (input output more : ℕ) → List Question
rule false n f a i j d = row_admits n f a i d ∷ column_admits n f a j d ∷ []
rule true n f a i j d = pairs_admit n f a i j d ∷ []
