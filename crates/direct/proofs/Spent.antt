-- A matrix from which the inputs have spent one word each at their outputs, as one more input gets an output. It holds because words fall in
-- any order. Assumes nothing.
use mathlib.Core.Path.{◌≡◌, refl, sym, ◌∙◌, ap, ap₂}
use mathlib.Core.Bool.{Bool, true, false}
use mathlib.Core.List.{List}
use mathlib.Core.Logic.{◌≢◌}
use Prim.Native.Nat.{ℕ, zero, suc, ◌-◌, ◌*◌, ◌≤◌}
use native.Mathlib.Decide.{ℕ_discrete}
use native.Mathlib.Omega.{arith}
use borrow.Author.Tests.{lt-ltb}
use lib.Dec.{ltb}
use lib.ListN.{length, get_or, set}
use lib.Seq.{set_comm, get_or-set_other}
use Rattle.wsgs.specs.Basics.{pick, Port, updated}
use Rattle.wsgs.specs.Words.{place, word, put, less_one}
use Rattle.wsgs.specs.Direct.{spent}
use Rattle.wsgs.proofs.Laws.Tests.{bit_ne, updated_at, updated_other}
use Rattle.wsgs.proofs.Laws.Words.{less_length}
use Rattle.wsgs.proofs.Direct.Tick.{all_spent}

-- a word that falls by 1
abbrev fall : List ℕ → ℕ → List ℕ
fall m p = set m p (get_or m p 0 - 1)

-- two words fall in either order
fall_comm : (m : List ℕ) (p q : ℕ) → fall (fall m p) q ≡ fall (fall m q) p
fall_comm m p q = go (ℕ_discrete p q)
  where
    go : Dec (p ≡ q) → fall (fall m p) q ≡ fall (fall m q) p
    go (yes e) = rw e
    go (no d) =
        ap (λ v. set (fall m p) q (v - 1)) (get_or-set_other m p q (get_or m p 0 - 1) 0 (λ e. d (sym e)))
        ∙ set_comm m p q (get_or m p 0 - 1) (get_or m q 0 - 1) d
        ∙ ap (λ v. set (fall m q) p (v - 1)) (sym (get_or-set_other m q p (get_or m q 0 - 1) 0 d))

-- so at two pairs
less_comm : (n : ℕ) (m : List ℕ) (i j k v : ℕ) → less_one n (less_one n m i j) k v ≡ less_one n (less_one n m k v) i j
unfolding less_one put word
less_comm n m i j k v = fall_comm m (place n i j) (place n k v)

module _ (n : ℕ) (m : List ℕ) where
  -- outputs that agree on the inputs 1..x cost the same
  pub spent_ext : (f g : ℕ → ℕ) (x : ℕ) → ((i : ℕ) → Port x i → f i ≡ g i) → spent n m f x ≡ spent n m g x
  unfolding spent
  spent_ext f g zero h = refl
  spent_ext f g (suc x) h =
      ap₂ (λ o b. pick (ltb 0 o) (less_one n b (suc x) o) b) (h (suc x) (omega arith)) (spent_ext f g x (λ i p. h i (omega arith)))

  -- its length
  pub spent_length : (f : ℕ → ℕ) (x : ℕ) → length (spent n m f x) ≡ length m
  unfolding spent
  spent_length f zero = refl
  spent_length f (suc x) = go (ltb 0 (f (suc x))) ∙ spent_length f x
    where
      go : (b : Bool) → length (pick b (less_one n (spent n m f x) (suc x) (f (suc x))) (spent n m f x)) ≡ length (spent n m f x)
      go true = less_length n (spent n m f x) (suc x) (f (suc x))
      go false = refl

  -- no outputs cost nothing
  pub spent_none : (x : ℕ) → spent n m (λ i. 0) x ≡ m
  unfolding spent
  spent_none zero = refl
  spent_none (suc x) = spent_none x

  -- an input that gets an output spends one word more
  pub spent_more : (f : ℕ → ℕ) (k v x : ℕ) → Port x k → f k ≡ 0 → 1 ≤ v → spent n m (updated f k v) x ≡ less_one n (spent n m f x) k v
  unfolding spent
  spent_more f k v zero p e h = absurd (omega arith)
  spent_more f k v (suc x) p e h = go (ℕ_discrete (suc x) k) (λ d. spent_more f k v x (omega arith) e h)
    where
      -- the cost of input x + 1, after that of k or before it
      later : (b : Bool) (s : List ℕ) (o : ℕ)
          → pick b (less_one n (less_one n s k v) (suc x) o) (less_one n s k v) ≡ less_one n (pick b (less_one n s (suc x) o) s) k v
      later true s o = less_comm n s k v (suc x) o
      later false s o = refl

      step : List ℕ → ℕ → List ℕ
      step s o = pick (ltb 0 o) (less_one n s (suc x) o) s

      go : Dec (suc x ≡ k) → (suc x ≢ k → spent n m (updated f k v) x ≡ less_one n (spent n m f x) k v)
          → step (spent n m (updated f k v) x) (updated f k v (suc x)) ≡ less_one n (step (spent n m f x) (f (suc x))) k v
      go (yes d) r =
          ap₂ step (spent_ext (updated f k v) f x (λ i q. updated_other f k i v (omega arith))) (updated_at f k (suc x) v d)
          ∙ rw (lt-ltb 0 v h, d, e)
      go (no d) r =
          ap₂ step (r d) (updated_other f k (suc x) v d) ∙ later (ltb 0 (f (suc x))) (spent n m f x) (f (suc x))

  -- the row of an input without output is as it was
  pub spent_row : n * n ≤ length m → (f : ℕ → ℕ) → ((i : ℕ) → f i ≤ n) → (k j : ℕ) → Port n k → Port n j → f k ≡ 0
      → word n (spent n m f n) k j ≡ word n m k j
  spent_row long f bound k j pk pj e =
      all_spent n m long f (λ i p. bound i) k j pk pj ∙ rw (e, bit_ne 0 j (omega arith)) (omega arith)
