-- The words of the outputs last given, as one more input gets an output: each input has a word of its own. Assumes nothing.
use mathlib.Core.Path.{◌≡◌, refl, ◌∙◌, ap₂}
use mathlib.Core.Bool.{Bool, true, false}
use mathlib.Core.List.{List}
use mathlib.Core.Logic.{◌≢◌}
use Prim.Native.Nat.{ℕ, zero, suc, ◌-◌, ◌≤◌}
use native.Mathlib.Decide.{ℕ_discrete}
use native.Mathlib.Omega.{arith}
use borrow.Author.Tests.{lt-ltb}
use lib.Dec.{ltb}
use lib.Seq.{set_comm, get_or-set_other}
use Rattle.wsgs.specs.Basics.{pick, Port, updated}
use Rattle.wsgs.specs.Words.{port_word, put_port}
use Rattle.wsgs.specs.Direct.{regiven}
use Rattle.wsgs.proofs.Laws.Tests.{updated_at, updated_other}

module _ (g : List ℕ) where
  -- the step of input x + 1, with its output
  abbrev step : ℕ → List ℕ → ℕ → List ℕ
  step x s o = pick (ltb 0 o) (put_port s (suc x) o) s

  -- outputs that agree on the inputs 1..x leave the same
  regiven_ext : (f h : ℕ → ℕ) (x : ℕ) → ((i : ℕ) → Port x i → f i ≡ h i) → regiven g f x ≡ regiven g h x
  unfolding regiven
  regiven_ext f h zero e = refl
  regiven_ext f h (suc x) e = ap₂ (step x) (regiven_ext f h x (λ i p. e i (omega arith))) (e (suc x) (omega arith))

  -- no outputs leave all words
  pub regiven_none : (x : ℕ) → regiven g (λ i. 0) x ≡ g
  unfolding regiven
  regiven_none zero = refl
  regiven_none (suc x) = regiven_none x

  -- an input that gets an output has one more word changed
  pub regiven_more : (f : ℕ → ℕ) (k v x : ℕ) → Port x k → f k ≡ 0 → 1 ≤ v → regiven g (updated f k v) x ≡ put_port (regiven g f x) k v
  unfolding regiven
  regiven_more f k v zero p e h = absurd (omega arith)
  regiven_more f k v (suc x) p e h = go (ℕ_discrete (suc x) k) (λ d. regiven_more f k v x (omega arith) e h)
    where
      -- the word of input x + 1, after that of k or before it
      other : (b : Bool) (s : List ℕ) (o : ℕ) → suc x ≢ k
          → pick b (put_port (put_port s k v) (suc x) o) (put_port s k v) ≡ put_port (pick b (put_port s (suc x) o) s) k v
      other true s o d = unfold put_port in set_comm s (k - 1) (suc x - 1) v o (λ z. d (omega arith))
      other false s o d = refl

      go : Dec (suc x ≡ k) → (suc x ≢ k → regiven g (updated f k v) x ≡ put_port (regiven g f x) k v)
          → step x (regiven g (updated f k v) x) (updated f k v (suc x)) ≡ put_port (step x (regiven g f x) (f (suc x))) k v
      go (yes d) r =
          ap₂ (step x) (regiven_ext (updated f k v) f x (λ i q. updated_other f k i v (omega arith))) (updated_at f k (suc x) v d)
          ∙ rw (lt-ltb 0 v h, d, e)
      go (no d) r = ap₂ (step x) (r d) (updated_other f k (suc x) v d) ∙ other (ltb 0 (f (suc x))) (regiven g f x) (f (suc x)) d

  -- the word of an input without output is as it was
  pub regiven_own : (f : ℕ → ℕ) (k x : ℕ) → 1 ≤ k → f k ≡ 0 → port_word (regiven g f x) k ≡ port_word g k
  unfolding regiven
  regiven_own f k zero h e = refl
  regiven_own f k (suc x) h e = go (ℕ_discrete k (suc x)) (regiven_own f k x h e)
    where
      other : (b : Bool) (s : List ℕ) (o : ℕ) → k ≢ suc x → port_word (pick b (put_port s (suc x) o) s) k ≡ port_word s k
      other true s o d = unfold port_word put_port in get_or-set_other s (suc x - 1) (k - 1) o 0 (λ z. d (omega arith))
      other false s o d = refl

      go : Dec (k ≡ suc x) → port_word (regiven g f x) k ≡ port_word g k → port_word (step x (regiven g f x) (f (suc x))) k ≡ port_word g k
      go (yes d) r = let z : f (suc x) ≡ 0 = rw d at e in rw z r
      go (no d) r = other (ltb 0 (f (suc x))) (regiven g f x) (f (suc x)) d ∙ r
