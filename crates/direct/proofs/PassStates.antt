-- The outputs that the inputs hold, as one more input gets one: which are taken, and what the mask, the listed outputs and the words then are.
-- Both passes go by these steps. Assumes nothing.
use mathlib.Core.Path.{◌≡◌, refl, sym, ◌∙◌, ap}
use mathlib.Core.Bool.{Bool, true, false, not, ◌&&◌, ◌||◌, or_comm, or_assoc}
use mathlib.Core.List.{List}
use mathlib.Core.Logic.{◌≢◌}
use Prim.Native.Nat.{ℕ, zero, suc, ◌≤◌, ◌<◌}
use native.Mathlib.Decide.{ℕ_discrete}
use native.Mathlib.Omega.{arith}
use borrow.Author.Tests.{ne_eqb}
use lib.Dec.{eqb}
use lib.ListN.{set, replicate}
use Rattle.wsgs.specs.Basics.{pick, Port, some_of, updated}
use Rattle.wsgs.specs.Words.{less_one, put_port}
use Rattle.wsgs.specs.Steps.{taken}
use Rattle.wsgs.proofs.Laws.Tests.{updated_at, updated_other, eqb_sym}
use Rattle.wsgs.proofs.Laws.Some.{some_ext, some_short}
use Rattle.wsgs.proofs.Laws.Listed.{listed_set, listed_none}
use Rattle.turns.specs.Masks.{in_mask, without}
use Rattle.turns.proofs.MaskLaws.{in_without}
use Rattle.direct.specs.Passes.{PassState}
use Rattle.direct.proofs.Spent.{spent_none, spent_more}
use Rattle.direct.proofs.Regiven.{regiven_none, regiven_more}

-- a test changed at one number, which did not pass it
some_changed : (p q : ℕ → Bool) (n k : ℕ) → Port n k → p k ≡ false → ((i : ℕ) → i ≢ k → q i ≡ p i) → some_of q n ≡ (some_of p n || q k)
unfolding some_of
some_changed p q zero k r e h = absurd (omega arith)
some_changed p q (suc n) k r e h = go (ℕ_discrete k (suc n)) (λ d. some_changed p q n k (omega arith) e h)
  where
    go : Dec (k ≡ suc n) → (k ≢ suc n → some_of q n ≡ (some_of p n || q k)) → (q (suc n) || some_of q n) ≡ ((p (suc n) || some_of p n) || q k)
    go (yes d) s =
        let none : p (suc n) ≡ false = rw d at e in
        let same : some_of q n ≡ some_of p n = some_ext q p n (λ i t. h i (omega arith)) in
        rw (same, none, d) (or_comm (q (suc n)) (some_of p n))
    go (no d) s = rw (h (suc n) (λ t. d (sym t)), s d) (sym (or_assoc (p (suc n)) (some_of p n) (q k)))

-- output j is taken, after input k gets output v
taken_more : (f : ℕ → ℕ) (n k v j : ℕ) → Port n k → f k ≡ 0 → 1 ≤ j → taken (updated f k v) n j ≡ (taken f n j || eqb v j)
taken_more f n k v j p e h =
    some_changed (λ i. eqb (f i) j) (λ i. eqb (updated f k v i) j) n k p (rw e (ne_eqb 0 j (omega arith)))
    (λ i d. ap (λ o. eqb o j) (updated_other f k i v d))
    ∙ ap (λ o. taken f n j || eqb o j) (updated_at f k k v refl)

-- where the inputs past x hold none, those up to x hold all that are taken
pub taken_short : (f : ℕ → ℕ) (x n j : ℕ) → x ≤ n → 1 ≤ j → ((i : ℕ) → x < i → f i ≡ 0) → taken f x j ≡ taken f n j
taken_short f x n j l h z =
    some_short (λ i. eqb (f i) j) (λ i. eqb (f i) j) x n l (λ i p. refl) (λ i p u. rw (z i u) (ne_eqb 0 j (omega arith)))

-- at first none
pub held_none : (n free : ℕ) (queues given : List ℕ) → ((j : ℕ) → Port n j → in_mask free j ≡ true)
    → PassState n queues given (λ i. 0) free (replicate 32 0) queues given
unfolding some_of
held_none n free queues given h =
    record {
      bound = λ i. omega arith;
      mask = λ j p. h j p ∙ ap not (taken_short (λ i. 0) 0 n j (omega arith) p.low (λ i u. refl));
      list = sym (listed_none 32);
      cost = sym (spent_none n queues n);
      gifts = sym (regiven_none given n);
    }

module _ (n : ℕ) (few : n ≤ 32) (start before : List ℕ) (f : ℕ → ℕ) (free : ℕ) (outputs queues given : List ℕ)
    (h : PassState n start before f free outputs queues given) where
  -- input x + 1 gets output v
  pub held_more : (x v : ℕ) → x < n → f (suc x) ≡ 0 → Port n v
      → PassState n start before (updated f (suc x) v) (without free v) (set outputs x v) (less_one n queues (suc x) v) (put_port given (suc x) v)
  held_more x v l e p =
      record {
        bound = λ i. at i (eqb i (suc x));
        mask = λ j q. in_without free v j (omega arith) ∙ rw (h.mask j q, taken_more f n (suc x) v j (omega arith) e q.low) (go (taken f n j) j (eqb_sym j v));
        list = rw h.list (listed_set 32 f x v (omega arith));
        cost = rw h.cost (sym (spent_more n start f (suc x) v n (omega arith) e p.low));
        gifts = rw h.gifts (sym (regiven_more before f (suc x) v n (omega arith) e p.low));
      }
    where
      at : (i : ℕ) (b : Bool) → pick b v (f i) ≤ n
      at i true = p.high
      at i false = h.bound i

      go : (b : Bool) (j : ℕ) → eqb j v ≡ eqb v j → (not b && not (eqb j v)) ≡ not (b || eqb v j)
      go true j s = refl
      go false j s = ap not s
