-- Laws of `some_of`: what it finds of 1..n, and that tests which agree find the same. They hold by induction on n. Assumes nothing.
use mathlib.Core.Path.{◌≡◌, refl, sym, ◌∙◌, ap, ap₂}
use mathlib.Core.Bool.{Bool, true, false, ◌||◌}
use mathlib.Core.Logic.{◌≢◌}
use Prim.Native.Nat.{ℕ, zero, suc, ◌≤◌, ◌<◌}
use native.Mathlib.Omega.{arith}
use native.Mathlib.Decide.{ℕ_discrete}
use lib.Dec.{T}
use Rattle.wsgs.specs.Basics.{Port, some_of}

-- something passes the test
pub some_found : (p : ℕ → Bool) (n : ℕ) → T (some_of p n) → (x : ℕ) × Port n x × T (p x)
unfolding some_of
some_found p zero t = absurd t
some_found p (suc n) t = go (p (suc n)) refl t (λ u. some_found p n u)
  where
    go : (b : Bool) → p (suc n) ≡ b → T (b || some_of p n) → (T (some_of p n) → (x : ℕ) × Port n x × T (p x))
        → (x : ℕ) × Port (suc n) x × T (p x)
    go true e t h = (suc n, omega arith, rw e tt)
    go false e t h = let r = h t in (r.0, omega arith, r.2)

-- what passes the test is there
pub some_there : (p : ℕ → Bool) (n x : ℕ) → Port n x → T (p x) → T (some_of p n)
unfolding some_of
some_there p zero x h t = absurd (omega arith)
some_there p (suc n) x h t = go (ℕ_discrete x (suc n)) (p (suc n)) refl (λ q. some_there p n x q t)
  where
    go : Dec (x ≡ suc n) → (b : Bool) → p (suc n) ≡ b → (Port n x → T (some_of p n)) → T (b || some_of p n)
    go _ true e k = tt
    go (yes d) false e k = absurd (rw (d, e) at t)
    go (no d) false e k = k (omega arith)

-- tests that agree on 1..x, where nothing past x passes the second
pub some_short : (p q : ℕ → Bool) (x n : ℕ) → x ≤ n → ((z : ℕ) → Port x z → p z ≡ q z) → ((z : ℕ) → Port n z → x < z → q z ≡ false)
    → some_of p x ≡ some_of q n
unfolding some_of
some_short p q zero zero l h g = refl
some_short p q (suc x) zero l h g = absurd (omega arith)
some_short p q zero (suc n) l h g =
    some_short p q zero n (omega arith) h (λ z v w. g z (omega arith) w) ∙ sym (ap (λ b. b || some_of q n) (g (suc n) (omega arith) (omega arith)))
some_short p q (suc x) (suc n) l h g =
    go (ℕ_discrete x n) (λ e. some_short p q x n (omega arith) (λ z v. h z (omega arith)) (λ z v w. absurd (omega arith)))
    (λ d. some_short p q (suc x) n (omega arith) h (λ z v w. g z (omega arith) w))
  where
    go : Dec (x ≡ n) → (x ≡ n → some_of p x ≡ some_of q n) → (x ≢ n → some_of p (suc x) ≡ some_of q n)
        → some_of p (suc x) ≡ some_of q (suc n)
    go (yes e) r s = ap₂ ◌||◌ (h (suc x) (omega arith) ∙ ap (λ z. q (suc z)) e) (r e)
    go (no d) r s = s d ∙ sym (ap (λ b. b || some_of q n) (g (suc n) (omega arith) (omega arith)))

-- tests that agree on 1..n
pub some_ext : (p q : ℕ → Bool) (n : ℕ) → ((x : ℕ) → Port n x → p x ≡ q x) → some_of p n ≡ some_of q n
some_ext p q n h = some_short p q n n (omega arith) h (λ z v w. absurd (omega arith))
