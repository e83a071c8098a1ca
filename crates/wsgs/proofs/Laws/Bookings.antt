-- Laws of bookings: as words; that they rise and fall with slots and rates; what a few slots hold; and a book of which one word changes. Assumes
-- nothing.
use mathlib.Core.Path.{◌≡◌, refl}
use mathlib.Core.List.{List, [], ◌∷◌}
use Prim.Native.Nat.{ℕ, zero, suc, ◌+◌, ◌-◌, ◌*◌, ◌/◌, min, ◌≤◌, ◌<◌}
use native.Mathlib.Nat.{mul-le-mul_right, le_of_mul-le-mul_right, div-eq_of_lt, le-div_iff_mul-le, div-mul-le_self, mul_comm}
use native.Mathlib.Omega.{arith}
use native.Mathlib.Decide.{ℕ_discrete}
use lib.Dec.{eqb}
use lib.ListN.{length, get_or}
use borrow.Author.Tests.{eq-eqb, ne_eqb}
use Rattle.std.proofs.lemmas.Bool.Decides.{nat_tests}
use Rattle.wsgs.specs.Basics.{pick, Port, updated₂}
use Rattle.wsgs.specs.Words.{word}
use Rattle.wsgs.specs.Bookings.{Book, rate_slots, booking, bookings, booking_words}
use Rattle.wsgs.specs.Book.{with_slots, with_rate}
use Rattle.wsgs.proofs.Laws.Tests.{at_pair}
use Rattle.wsgs.proofs.Laws.Words.{place_inside, word_put}

-- AS WORDS
module _ (f b : ℕ) where
  -- as many as both runs have
  pub booking_words_length : (ss rs : List ℕ) → length (booking_words f b ss rs) ≡ min (length ss) (length rs)
  unfolding booking_words
  booking_words_length [] rs = omega arith
  booking_words_length (s ∷ ss) [] = omega arith
  booking_words_length (s ∷ ss) (r ∷ rs) = omega (arith, booking_words_length ss rs)

  -- each of its place's words
  pub booking_at : (ss rs : List ℕ) (k : ℕ) → k < length ss → k < length rs
      → get_or (booking_words f b ss rs) k 0 ≡ booking f b (get_or ss k 0) (get_or rs k 0)
  unfolding booking_words
  booking_at [] rs k h g = absurd (omega arith)
  booking_at (s ∷ ss) [] k h g = absurd (omega arith)
  booking_at (s ∷ ss) (r ∷ rs) zero h g = refl
  booking_at (s ∷ ss) (r ∷ rs) (suc k) h g = booking_at ss rs k (omega arith) (omega arith)

  -- so the word of a pair is its booking
  pub word_bookings : (n : ℕ) (m : Book) → n * n ≤ length m.slots → n * n ≤ length m.rates → (i j : ℕ) → Port n i → Port n j
      → word n (booking_words f b m.slots m.rates) i j ≡ bookings n f b m i j
  unfolding word bookings
  word_bookings n m h g i j pi pj = grind (arith, nat_tests, place_inside, booking_at)

  -- RATES
  -- nothing takes nothing
  pub rate_slots_none : rate_slots f b 0 ≡ 0
  unfolding rate_slots
  rate_slots_none = go (ℕ_discrete b 0)
    where
      go : Dec (b ≡ 0) → pick (eqb b 0) 0 ((0 * f + (b - 1)) / b) ≡ 0
      go (yes e) = rw (eq-eqb b 0 e)
      go (no d) = rw (ne_eqb b 0 d) (div-eq_of_lt {n = 0 * f + (b - 1)} {m = b} (omega (arith, mul_comm 0 f)))

  -- a higher rate takes no less
  rate_slots_mono : (r t : ℕ) → r ≤ t → rate_slots f b r ≤ rate_slots f b t
  unfolding rate_slots
  rate_slots_mono r t h = go (ℕ_discrete b 0)
    where
      go : Dec (b ≡ 0) → pick (eqb b 0) 0 ((r * f + (b - 1)) / b) ≤ pick (eqb b 0) 0 ((t * f + (b - 1)) / b)
      go (yes e) = rw (eq-eqb b 0 e) (omega arith)
      go (no d) =
          let x = r * f + (b - 1) in
          rw (ne_eqb b 0 d)
          ((le-div_iff_mul-le {k = b} {x = x / b} {y = t * f + (b - 1)} (omega arith)).1 (omega (arith, div-mul-le_self x b, mul-le-mul_right f h)))

  -- one that takes at most k slots is at most what k slots carry
  rate_carried : (r k : ℕ) → 1 ≤ b → rate_slots f b r ≤ k → r * f ≤ k * b
  unfolding rate_slots
  rate_carried r k p h = grind (arith, nat_tests)

  -- one of at most a frame is at most the line's
  pub rate_small : (r k : ℕ) → 1 ≤ b → 1 ≤ f → k ≤ f → rate_slots f b r ≤ k → r ≤ b
  rate_small r k p q h g =
      le_of_mul-le-mul_right {k = f} (omega (arith, rate_carried r k p g, mul-le-mul_right {m = k} {n = f} b (omega arith), mul_comm f b)) q

  -- BOOKINGS
  pub booking_none : booking f b 0 0 ≡ 0
  unfolding booking
  booking_none = omega (arith, rate_slots_none)

  -- more slots or a higher rate book no less; and d more slots at most d more
  pub booking_mono : (s t r u : ℕ) → s ≤ t → r ≤ u → booking f b s r ≤ booking f b t u
  unfolding booking
  booking_mono s t r u h g = omega (arith, rate_slots_mono r u g)

  pub booking_more : (s r d : ℕ) → booking f b (s + d) r ≤ booking f b s r + d
  unfolding booking
  booking_more s r d = omega arith

  -- one below the bound is slots and rate whole
  pub booking_whole : (s r : ℕ) → booking f b s r < 4294967295 → booking f b s r ≡ s + rate_slots f b r
  unfolding booking
  booking_whole s r h = omega arith

-- ANOTHER NUMBER OF SLOTS, or another rate, for a pair changes its booking alone
module _ (f b : ℕ) (s r : ℕ → ℕ → ℕ) (i j v x y : ℕ) where
  abbrev told : ℕ → ℕ → ℕ
  told p q = booking f b (s p q) (r p q)

  pub slots_changed : booking f b (updated₂ s i j v x y) (r x y) ≡ updated₂ told i j (booking f b v (r i j)) x y
  slots_changed =
      at_pair (λ z. booking f b (pick z v (s x y)) (r x y) ≡ pick z (booking f b v (r i j)) (told x y)) i j x y (λ e d. rw (e, d)) (λ d. refl)

  pub rates_changed : booking f b (s x y) (updated₂ r i j v x y) ≡ updated₂ told i j (booking f b (s i j) v) x y
  rates_changed =
      at_pair (λ z. booking f b (s x y) (pick z v (r x y)) ≡ pick z (booking f b (s i j) v) (told x y)) i j x y (λ e d. rw (e, d)) (λ d. refl)

-- so it is with a word of the book
module _ (n f b : ℕ) (m : Book) (i j : ℕ) (pi : Port n i) (pj : Port n j) where
  pub slots_moved : n * n ≤ length m.slots → (v x y : ℕ) → Port n x → Port n y
      → bookings n f b (with_slots n m i j v) x y ≡ updated₂ (bookings n f b m) i j (booking f b v (word n m.rates i j)) x y
  unfolding bookings
  slots_moved long v x y px py =
      rw (word_put n m.slots long i j pi pj v x y px py) (slots_changed f b (word n m.slots) (word n m.rates) i j v x y)

  pub rates_moved : n * n ≤ length m.rates → (v x y : ℕ) → Port n x → Port n y
      → bookings n f b (with_rate n m i j v) x y ≡ updated₂ (bookings n f b m) i j (booking f b (word n m.slots i j) v) x y
  unfolding bookings
  rates_moved long v x y px py =
      rw (word_put n m.rates long i j pi pj v x y px py) (rates_changed f b (word n m.slots) (word n m.rates) i j v x y)
