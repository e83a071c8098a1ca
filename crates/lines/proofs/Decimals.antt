-- A number in decimal is that of its tenth, and a last digit. Assumes nothing.
use mathlib.Core.Path.{◌≡◌, sym, ap, ◌∙◌}
use mathlib.Core.List.{[], ◌∷◌, ◌++◌}
use Prim.Native.Nat.{ℕ, zero, suc, ◌+◌, ◌/◌, ◌%◌, ◌^◌, ◌≤◌, ◌<◌}
use native.Mathlib.Decide.{dec_lt}
use native.Mathlib.Nat.{pow-suc, mod-eq_of_lt}
use native.Mathlib.Omega.{arith}
use borrow.Author.Tests.{lt-ltb, le-ltb}
use lib.ListN.{length, length-append}
use Rattle.wsgs.specs.Text.{decimal_from, decimal}

module _ (k n : ℕ) where
  one_digit : n < 10 → decimal_from (suc k) n ≡ (48 + n) ∷ []
  unfolding decimal_from
  one_digit h = rw (lt-ltb n 10 h, decimal_from)

  more_digits : 10 ≤ n → decimal_from (suc k) n ≡ decimal_from k (n / 10) ++ ((48 + n % 10) ∷ [])
  unfolding decimal_from
  more_digits h = rw (le-ltb n 10 h, decimal_from)

-- more digits allowed than a number has
spare_digits : (k n : ℕ) → n < 10 ^ suc k → decimal_from k n ≡ decimal_from (suc k) n
unfolding decimal_from
spare_digits zero n h = rw (one_digit zero n (omega arith), mod-eq_of_lt {n = n} {m = 10} (omega arith))
spare_digits (suc k) n h = go (dec_lt n 10) (spare_digits k (n / 10))
  where
    go : Dec (n < 10) → (n / 10 < 10 ^ suc k → decimal_from k (n / 10) ≡ decimal_from (suc k) (n / 10))
        → decimal_from (suc k) n ≡ decimal_from (suc (suc k)) n
    go (yes l) rest = rw (one_digit k n l, one_digit (suc k) n l)
    go (no l) rest = rw (more_digits k n (omega arith), more_digits (suc k) n (omega arith), rest (omega (arith, pow-suc 10 (suc k))))

-- a number of a machine word
module _ (n : ℕ) where
  pub decimal_one : n < 10 → (48 + n) ∷ [] ≡ decimal n
  unfolding decimal
  decimal_one h = sym (one_digit 18 n h)

  pub decimal_more : 10 ≤ n → n < 2 ^ 64 → decimal (n / 10) ++ ((48 + n % 10) ∷ []) ≡ decimal n
  unfolding decimal
  decimal_more l h = rw (← spare_digits 18 (n / 10) (omega arith)) (sym (more_digits 18 n l))

  -- a digit and more
  pub decimal_some : 1 ≤ length (decimal n)
  unfolding decimal
  decimal_some = go (dec_lt n 10)
    where
      go : Dec (n < 10) → 1 ≤ length (decimal_from 19 n)
      go (yes l) = rw (one_digit 18 n l) (omega arith)
      go (no l) = rw (more_digits 18 n (omega arith)) (omega (arith, length-append (decimal_from 18 (n / 10)) ((48 + n % 10) ∷ [])))

  -- one more than its tenth has
  pub decimal_long : 10 ≤ n → n < 2 ^ 64 → length (decimal (n / 10)) + 1 ≡ length (decimal n)
  decimal_long l h = sym (length-append (decimal (n / 10)) ((48 + n % 10) ∷ [])) ∙ ap length (decimal_more l h)

-- it has at most 20 digits
length_digits : (k n : ℕ) → length (decimal_from k n) ≤ suc k
unfolding decimal_from
length_digits zero n = omega arith
length_digits (suc k) n = go (dec_lt n 10) (length_digits k (n / 10))
  where
    go : Dec (n < 10) → length (decimal_from k (n / 10)) ≤ suc k → length (decimal_from (suc k) n) ≤ suc (suc k)
    go (yes l) rest = rw (one_digit k n l) (omega arith)
    go (no l) rest = rw (more_digits k n (omega arith)) (omega (arith, length-append (decimal_from k (n / 10)) ((48 + n % 10) ∷ [])))

pub decimal_short : (n : ℕ) → length (decimal n) ≤ 20
unfolding decimal
decimal_short n = length_digits 19 n
