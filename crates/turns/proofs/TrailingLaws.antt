-- The lowest set bit of a word. They hold by halving the word. Assumes nothing.
use mathlib.Core.Path.{◌≡◌, refl}
use mathlib.Core.Bool.{true, false}
use Prim.Native.Nat.{ℕ, zero, suc, ◌/◌, ◌%◌, ◌^◌, ◌≤◌, ◌<◌}
use native.Mathlib.Nat.{pow-suc, div-one, le_of_suc-le-suc, not-suc-le-zero}
use native.Mathlib.Numerals.{one-add}
use native.Mathlib.Omega.{arith}
use borrow.Author.Tests.{eq-eqb}
use lib.Count.{count_trailing_zeros, under}
use lib.Dec.{eqb}
use lib.Pow.{shr-shr}
use Rattle.turns.proofs.BitLaws.{bits}

-- the lowest bit
pub bits_zero : (w : ℕ) → bits w zero ≡ eqb (w % 2) 1
unfolding bits
bits_zero w = rw (div-one w)

-- and the others, those of the half
pub bits_suc : (w k : ℕ) → bits w (suc k) ≡ bits (w / 2) k
unfolding bits
bits_suc w k = rw (shr-shr w 1 k, one-add k)

-- below the lowest set bit no bit is set
pub below_unset : (d w k : ℕ) → k < count_trailing_zeros d w → bits w k ≡ false
unfolding count_trailing_zeros
below_unset zero w k h = absurd (not-suc-le-zero h)
below_unset (suc d) w k h = go (w % 2) k refl h (below_unset d (w / 2))
  where
    go : (b k : ℕ) → w % 2 ≡ b → k < under b (count_trailing_zeros d (w / 2)) → ((m : ℕ) → m < count_trailing_zeros d (w / 2) → bits (w / 2) m ≡ false)
        → bits w k ≡ false
    go zero zero e l ih = rw (bits_zero w, e)
    go zero (suc k) e l ih = rw (bits_suc w k) (ih k (le_of_suc-le-suc l))
    go (suc b) k e l ih = absurd (not-suc-le-zero l)

-- and it is set
pub lowest_set : (d w : ℕ) → count_trailing_zeros d w < d → bits w (count_trailing_zeros d w) ≡ true
unfolding count_trailing_zeros
lowest_set zero w h = absurd (not-suc-le-zero h)
lowest_set (suc d) w h = go (w % 2) refl h (lowest_set d (w / 2))
  where
    go : (b : ℕ) → w % 2 ≡ b → under b (count_trailing_zeros d (w / 2)) < suc d
        → (count_trailing_zeros d (w / 2) < d → bits (w / 2) (count_trailing_zeros d (w / 2)) ≡ true)
        → bits w (under b (count_trailing_zeros d (w / 2))) ≡ true
    go zero e l ih = rw (bits_suc w (count_trailing_zeros d (w / 2))) (ih (le_of_suc-le-suc l))
    go (suc b) e l ih = rw (bits_zero w) (eq-eqb (w % 2) 1 (omega arith))

-- a word that is not 0 has one
pub lowest_within : (d w : ℕ) → w < 2 ^ d → 1 ≤ w → count_trailing_zeros d w < d
unfolding count_trailing_zeros
lowest_within zero w l h = absurd (omega arith)
lowest_within (suc d) w l h = go (w % 2) refl (lowest_within d (w / 2))
  where
    go : (b : ℕ) → w % 2 ≡ b → (w / 2 < 2 ^ d → 1 ≤ w / 2 → count_trailing_zeros d (w / 2) < d) → under b (count_trailing_zeros d (w / 2)) < suc d
    go zero e ih = let s = ih (omega (arith, pow-suc 2 d)) (omega arith) in omega arith
    go (suc b) e ih = omega arith
