-- What a pair has booked. The book keeps two words for each pair, its slots and the sum of its rates, and the pair's booking is what the two come
-- to. Sums, admission, the credits of a frame, the frame copy and the ledger read bookings, and nothing else in their place. Assumes nothing.
use Rattle.std.specs.Prelude.{List, [], ◌∷◌, ℕ, ◌+◌, ◌-◌, ◌*◌, ◌/◌, min, eqb}
use Rattle.wsgs.specs.Basics.{pick, sum}
use Rattle.wsgs.specs.Words.{word}

-- the two runs of a book
pub record Book : Type 0 where
  pub slots : List ℕ
  pub rates : List ℕ

abbrev pub book_of : (slots rates : List ℕ) → Book
book_of s r = record { slots = s; rates = r }

-- the slots of a frame that a rate takes on a line: rate × F / B, rounded up; none where B is 0
unfoldable pub rate_slots : (frame line rate : ℕ) → ℕ
rate_slots f b r = pick (eqb b 0) 0 ((r * f + (b - 1)) / b)

-- a pair's booking: its slots, and the slots of its summed rate, rounded up once; above 4,294,967,295 it counts as that number
unfoldable pub booking : (frame line slots rate : ℕ) → ℕ
unfolding rate_slots
booking f b s r = min (s + rate_slots f b r) 4294967295

-- the bookings of a book, as a function of the pair (i, j)
unfoldable pub bookings : (ports frame line : ℕ) → Book → ℕ → ℕ → ℕ
unfolding booking word
bookings n f b m i j = booking f b (word n m.slots i j) (word n m.rates i j)

-- and as words, in the order of its runs
unfoldable pub booking_words : (frame line : ℕ) (slots rates : List ℕ) → List ℕ
unfolding booking
booking_words f b [] rs = []
booking_words f b (s ∷ ss) [] = []
booking_words f b (s ∷ ss) (r ∷ rs) = booking f b s r ∷ booking_words f b ss rs

-- of numbers a for the pairs of n ports, the sum of row i, and of column j
unfoldable pub row_sum : ℕ → (ℕ → ℕ → ℕ) → ℕ → ℕ
unfolding sum
row_sum n a i = sum (λ j. a i j) n

unfoldable pub column_sum : ℕ → (ℕ → ℕ → ℕ) → ℕ → ℕ
unfolding sum
column_sum n a j = sum (λ i. a i j) n
