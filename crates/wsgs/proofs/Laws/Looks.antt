-- Laws of `looks`: a search looks at the free ones of the numbers up to the one that it gives, so that its looks are a sum over 1..n. Assumes nothing.
use mathlib.Core.Path.{◌≡◌, refl, sym, ◌∙◌, ap}
use mathlib.Core.Bool.{Bool, true, false, ◌&&◌, ◌||◌, and-true, and-false}
use mathlib.Core.Logic.{◌⊎◌, inl, inr}
use Prim.Native.Nat.{ℕ, zero, suc, ◌+◌, min, ◌≤◌, ◌<◌}
use native.Mathlib.Omega.{arith}
use native.Mathlib.Decide.{ℕ_discrete}
use lib.Dec.{eqb, leb, ltb, leb-suc-suc}
use borrow.Author.Tests.{lt-ltb, le-ltb, ne_eqb}
use Rattle.std.proofs.lemmas.Bool.Decides.{nat_tests}
use Rattle.wsgs.specs.Basics.{pick, bit, Port, sum, next, first_from, in_turn, looks_from, looks, updated}
use Rattle.wsgs.proofs.Laws.Tests.{updated_at, updated_other}
use Rattle.wsgs.proofs.Laws.Sums.{sum_ext, sum_zero, sum_changed}
use Rattle.wsgs.proofs.Laws.InTurn.{ahead, ahead_from, ahead_below, ahead_next, ahead_own, ahead_within, next_below, next_wraps, next_port, Found, first_is}

-- the numbers at which a search looks that begins one past the last one and comes to v: all where it comes to none (v is 0), else those past the last one
-- up to v, or, where v comes only after the order has wrapped, those past the last one and those up to v
abbrev pub looked : (last v y : ℕ) → Bool
looked last v y = pick (eqb v 0) true (pick (ltb last v) (ltb last y && leb y v) (ltb last y || leb y v))

-- THE COUNT. Told from the next one on, k itself comes last
ahead_last : (n k : ℕ) → Port n k → suc (ahead n (next n k) k) ≡ n
unfolding ahead
ahead_last n k pk = grind (arith, nat_tests)

-- how many of m numbers from k on come up to v: all of them where v is 0, for none
abbrev span : (n k m v : ℕ) → ℕ
span n k m v = pick (eqb v 0) m (suc (ahead n k v))

module _ (free permitted : ℕ → Bool) (n : ℕ) where
  -- what the search may give
  abbrev fits : ℕ → Bool
  fits j = free j && permitted j

  -- how many of the first c from k on are free
  abbrev first_free : (k c : ℕ) → ℕ
  first_free k c = sum (λ y. bit (free y && ltb (ahead n k y) c)) n

  -- of the first 0, none
  none_free : (k : ℕ) → first_free k 0 ≡ 0
  none_free k = sum_zero _ n (λ y q. rw (le-ltb (ahead n k y) 0 (omega arith), and-false (free y)))

  -- of one more, k itself and those of the first c from the next one on
  next_free : (k c : ℕ) → Port n k → c < n → first_free k (suc c) ≡ bit (free k) + first_free (next n k) c
  next_free k c pk h =
      let own : after k ≡ 0 = rw (le-ltb (ahead n (next n k) k) c (omega (arith, ahead_last n k pk)), and-false (free k)) in
      omega (arith, own, sum_ext _ (updated after k (bit (free k))) n (λ y q. go y q (ℕ_discrete y k)), sum_changed after n k (bit (free k)) pk)
    where
      after : ℕ → ℕ
      after y = bit (free y && ltb (ahead n (next n k) y) c)

      go : (y : ℕ) → Port n y → Dec (y ≡ k) → bit (free y && ltb (ahead n k y) (suc c)) ≡ updated after k (bit (free k)) y
      go y q (yes e) = rw (updated_at after k y (bit (free k)) e, e, ahead_own n k, lt-ltb 0 (suc c) (omega arith), and-true (free k))
      go y q (no d) = rw (updated_other after k y (bit (free k)) d, ahead_next n k y pk q d, leb-suc-suc (suc (ahead n (next n k) y)) c)

  -- the looks are the free ones up to the one that is given
  looks_free : (k m : ℕ) → Port n k → m ≤ n → looks_from free permitted n k m ≡ first_free k (span n k m (first_from fits n k m))
  unfolding looks_from first_from
  looks_free k zero pk h = sym (none_free k)
  looks_free k (suc m) pk h = go (fits k) refl (first_is fits n (next n k) m pn) (looks_free (next n k) m pn (omega arith))
    where
      pn : Port n (next n k)
      pn = next_port n k (omega arith)

      v : ℕ
      v = first_from fits n (next n k) m

      c : ℕ
      c = span n (next n k) m v

      one_more : fits k ≡ false → Found fits n (next n k) m v → (span n k (suc m) v ≡ suc c) × (c ≤ m)
      one_more e (inl r) = rw r.0 (refl, omega arith)
      one_more e (inr r) =
          rw (ne_eqb v 0 (omega (arith, r.0.low)), ahead_next n k v pk r.0 (λ d. rw (d, e) at r.2)) (refl, omega (arith, r.1))

      go : (b : Bool) → fits k ≡ b → Found fits n (next n k) m v → looks_from free permitted n (next n k) m ≡ first_free (next n k) c
          → bit (free k) + elim b [ true ↦ 0 | false ↦ looks_from free permitted n (next n k) m ]
          ≡ first_free k (span n k (suc m) (elim b [ true ↦ k | false ↦ v ]))
      go true e r s = rw (ne_eqb k 0 (omega arith), ahead_own n k) (omega (arith, next_free k 0 pk (omega arith), none_free (next n k)))
      go false e r s = let o = one_more e r in rw (s, o.0) (sym (next_free k c pk (omega (arith, o.1))))

-- THE ORDER. Two numbers that are moved alike keep their order
moved : (a b x y o d : ℕ) → a + o ≡ x + d → b + o ≡ y + d → ltb a (suc b) ≡ leb x y
moved a b x y o d e f = grind (arith, nat_tests)

module _ (n last : ℕ) where
  -- the place of y in the order: those past the last one come first, the others after them
  abbrev Place : ℕ → Type 0
  Place y = ((last < y) × (ahead n (next n last) y + suc last ≡ y)) ⊎ ((y ≤ last) × (ahead n (next n last) y + suc (min last n) ≡ y + n))

  place : (y : ℕ) → Port n y → Place y
  place y q = grind (arith, nat_tests, next_below, ahead_from, ahead_below, next_wraps)

  -- up to the given one in the order is what `looked` says
  in_turn_looked : (p : ℕ → Bool) (y : ℕ) → Port n y
      → ltb (ahead n (next n last) y) (span n (next n last) n (in_turn p n last)) ≡ looked last (in_turn p n last) y
  in_turn_looked p y q = grind (arith, nat_tests, first_is, next_port, moved, ahead_within, place)

-- so the looks are a sum
pub looks_counted : (free permitted : ℕ → Bool) (n last : ℕ)
    → looks free permitted n last ≡ sum (λ y. bit (free y && looked last (in_turn (λ j. free j && permitted j) n last) y)) n
unfolding looks_from sum
looks_counted free permitted zero last = refl
looks_counted free permitted (suc n) last =
    looks_free free permitted (suc n) (next (suc n) last) (suc n) (next_port (suc n) last (omega arith)) (omega arith)
    ∙ sum_ext _ _ (suc n) (λ y q. ap (λ b. bit (free y && b)) (in_turn_looked (suc n) last (λ j. free j && permitted j) y q))
