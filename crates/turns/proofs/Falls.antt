-- How the word of a pair falls by 1. Assumes nothing.
use mathlib.Core.Path.{◌≡◌, refl, ◌∙◌, ap}
use mathlib.Core.List.{List}
use Prim.Native.Nat.{ℕ, zero, suc, ◌-◌, ◌≤◌}
use native.Mathlib.Omega.{arith}
use borrow.Author.Tests.{lt-ltb}
use lib.Dec.{ltb}
use lib.ListN.{get_or, set}
use mir.Val.{bool_byte}
use Rattle.wsgs.specs.Words.{place, word, put, less_one}

-- what is taken from a word: 1, where there is 1
pub taken_fits : (v : ℕ) → bool_byte (ltb 0 v) ≤ v
taken_fits zero = omega arith
taken_fits (suc v) = rw (lt-ltb 0 (suc v) (omega arith)) (omega arith)

-- so it falls by 1
pub falls : (v : ℕ) → v - bool_byte (ltb 0 v) ≡ v - 1
falls zero = refl
falls (suc v) = rw (lt-ltb 0 (suc v) (omega arith))

-- and so the word of the pair (i, j) at its place
pub at_less : (n i j at : ℕ) → at ≡ place n i j → (m : List ℕ) (v : ℕ) → v ≡ get_or m at 0 - 1 → set m at v ≡ less_one n m i j
unfolding less_one put word
at_less n i j at e m v d = ap (set m at) d ∙ ap (λ p. set m p (get_or m p 0 - 1)) e
