-- Laws of the rows in flight: where a row stands, and how a word is read. Assumes nothing.
use Rattle.std.proofs.Common.{◌≡◌, ℕ, ◌+◌, ◌-◌, ◌*◌, ◌%◌, ◌^◌, ◌<◌, ◌≤◌, true, false, ltb, mul-le-mul_right, suc-mul, arith, le-ltb, lt-ltb, le-leb}
use native.Mathlib.Decide.{dec_lt, dec_le}
use borrow.Author.Tests.{lt-leb}
use Rattle.wsgs.specs.Pipelined.{by_first, output_in}
use Rattle.wsgs.proofs.Laws.Tests.{in_range, range_in}

-- each of the 2n rows in flight lies within them
pub row_within : (n r : ℕ) → r < 2 * n → r * n + n ≤ 2 * n * n
row_within n r h = rw (← suc-mul r n) (mul-le-mul_right n h)

module _ (n v : ℕ) where
  -- a word by pass one: less 101 in 32 bits, where what is below wraps, it is below the ports
  pub first_wrapped : (less : ℕ) → n ≤ 32 → less < 2 ^ 32 → (less + 101) % 2 ^ 32 ≡ v → ltb less n ≡ by_first n v
  first_wrapped less few fits e = go (dec_lt less n) (dec_le 101 v)
    where
      go : Dec (less < n) → Dec (101 ≤ v) → ltb less n ≡ by_first n v
      go (yes h) d = rw (lt-ltb less n h, range_in 101 (100 + n) v (omega arith) (omega arith))
      go (no h) (yes l) = rw (le-ltb less n (omega arith), le-leb 101 v l, lt-leb v (100 + n) (omega arith))
      go (no h) (no l) = rw (le-ltb less n (omega arith), lt-leb 101 v (omega arith))

  pub first_low : by_first n v ≡ true → 101 ≤ v
  first_low e = (in_range 101 (100 + n) v (rw e tt)).0

  first_high : by_first n v ≡ true → v ≤ 100 + n
  first_high e = (in_range 101 (100 + n) v (rw e tt)).1

  -- its column
  pub first_column : by_first n v ≡ true → (v - 101 < n → output_in n v ≡ v - 101 + 1) × (n ≤ v - 101 → output_in n v ≡ 0)
  first_column e = (λ h. rw e (omega (arith, first_low e)), λ h. absurd (omega (arith, first_low e, first_high e)))

  -- the column of any other word: it is one by pass two where it is below the ports
  pub second_column : (less : ℕ) → by_first n v ≡ false → n ≤ 32 → less < 2 ^ 32 → (less + 1) % 2 ^ 32 ≡ v
      → (less < n → output_in n v ≡ less + 1) × (n ≤ less → output_in n v ≡ 0)
  second_column less e few fits w = (
    λ h. rw (e, range_in 1 n v (omega arith) (omega arith)) (omega arith),
    λ h. go (dec_le 1 v) h,
  )
    where
      go : Dec (1 ≤ v) → n ≤ less → output_in n v ≡ 0
      go (yes l) h = rw (e, le-leb 1 v l, lt-leb v n (omega arith))
      go (no l) h = rw (e, lt-leb 1 v (omega arith))
