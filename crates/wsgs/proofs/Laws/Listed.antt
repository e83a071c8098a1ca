-- A list that is given by a function of 1, 2, ..: its length, its elements, and one element set. They hold by induction on the length, or
-- element by element. Assumes nothing.
use mathlib.Core.Path.{◌≡◌, refl, sym, ◌∙◌, ap}
use mathlib.Core.List.{[], ◌∷◌, ◌++◌}
use Prim.Native.Nat.{ℕ, zero, suc, ◌+◌, ◌<◌}
use native.Mathlib.Decide.{ℕ_discrete}
use native.Mathlib.Omega.{arith}
use lib.ListN.{length, get_or, set, replicate, length-append, length-set, length-replicate, get_or-replicate, get_or-append}
use lib.Seq.{ext_get_or, get_or-set_same, get_or-set_other, get_or-append-add}
use Rattle.wsgs.specs.Basics.{Port, updated}
use Rattle.wsgs.specs.Steps.{listed}
use Rattle.wsgs.proofs.Laws.Tests.{updated_at, updated_other}

-- its length
pub listed_length : (n : ℕ) (f : ℕ → ℕ) → length (listed n f) ≡ n
unfolding listed
listed_length zero f = refl
listed_length (suc n) f = length-append (listed n f) (f (suc n) ∷ []) ∙ omega (arith, listed_length n f)

-- its elements
pub listed_at : (n : ℕ) (f : ℕ → ℕ) (x : ℕ) → x < n → get_or (listed n f) x 0 ≡ f (suc x)
unfolding listed
listed_at zero f x h = absurd (omega arith)
listed_at (suc n) f x h = go (ℕ_discrete x n) (λ l. listed_at n f x l)
  where
    go : Dec (x ≡ n) → (x < n → get_or (listed n f) x 0 ≡ f (suc x)) → get_or (listed n f ++ (f (suc n) ∷ [])) x 0 ≡ f (suc x)
    go (yes e) r =
        let last : x ≡ length (listed n f) + 0 = omega (arith, listed_length n f) in
        ap (λ y. get_or (listed n f ++ (f (suc n) ∷ [])) y 0) last ∙ get_or-append-add (listed n f) (f (suc n) ∷ []) 0 0 ∙ ap (λ y. f (suc y)) (sym e)
    go (no d) r = get_or-append (listed n f) (f (suc n) ∷ []) 0 x (omega (arith, listed_length n f)) ∙ r (omega arith)

-- functions that agree on 1..n give the same list
pub listed_ext : (n : ℕ) (f g : ℕ → ℕ) → ((i : ℕ) → Port n i → f i ≡ g i) → listed n f ≡ listed n g
unfolding listed
listed_ext zero f g h = refl
listed_ext (suc n) f g h = rw (listed_ext n f g (λ i p. h i (omega arith)), h (suc n) (omega arith))

-- one element set
pub listed_set : (n : ℕ) (f : ℕ → ℕ) (x v : ℕ) → x < n → set (listed n f) x v ≡ listed n (updated f (suc x) v)
listed_set n f x v h =
    let size = listed_length n f in
    ext_get_or 0 _ _ (length-set (listed n f) x v ∙ size ∙ sym (listed_length n (updated f (suc x) v)))
    (λ i l. go i (omega (arith, size, length-set (listed n f) x v)) (ℕ_discrete i x))
  where
    go : (i : ℕ) → i < n → Dec (i ≡ x) → get_or (set (listed n f) x v) i 0 ≡ get_or (listed n (updated f (suc x) v)) i 0
    go i l (yes e) =
        ap (λ y. get_or (set (listed n f) x v) y 0) e
        ∙ get_or-set_same (listed n f) x v 0 (omega (arith, listed_length n f))
        ∙ sym (listed_at n (updated f (suc x) v) i l ∙ updated_at f (suc x) (suc i) v (ap suc e))
    go i l (no d) =
        get_or-set_other (listed n f) x i v 0 d
        ∙ listed_at n f i l
        ∙ sym (listed_at n (updated f (suc x) v) i l ∙ updated_other f (suc x) (suc i) v (λ e. d (omega arith)))

-- all elements 0
pub listed_none : (n : ℕ) → listed n (λ i. 0) ≡ replicate n 0
listed_none n =
    let size = listed_length n (λ i. 0) in
    ext_get_or 0 _ _ (size ∙ sym (length-replicate n 0))
    (λ i l. listed_at n (λ i. 0) i (omega (arith, size)) ∙ sym (get_or-replicate n i 0 0 (omega (arith, size))))
