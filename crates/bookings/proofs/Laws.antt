-- Laws of the amounts behind a booking: where nothing is divided, how few slots a rate takes, and that no product wraps. Assumes nothing.
use mathlib.Core.Path.{◌≡◌, refl, sym, ◌∙◌, ap, ap₂}
use mathlib.Core.Bool.{Bool, true, false, ◌||◌, true≢false}
use mathlib.Core.List.{List, [], ◌∷◌, ◌++◌}
use mathlib.Core.Logic.{◌⊎◌, inl, inr}
use Prim.Native.Nat.{ℕ, zero, suc, ◌+◌, ◌-◌, ◌*◌, ◌/◌, min, ◌≤◌, ◌<◌}
use native.Mathlib.Nat.{mul-le-mul_left, mul-le-mul_right, suc-mul, div-lt_iff_lt-mul}
use native.Mathlib.Omega.{arith}
use native.Mathlib.Decide.{ℕ_discrete, dec_le}
use lib.Dec.{ltb}
use lib.Bits.{bit_or}
use lib.ListN.{length, get_or, set, take, drop}
use borrow.Author.Tests.{eq-eqb, ne_eqb, le-leb, lt-leb, lt-ltb, le-ltb, ltb-false}
use Rattle.std.specs.List.{fold, zip, enumerate_from, slice_range}
use Rattle.std.proofs.lemmas.List.{get_or_default, get_or-take, length-take}
use Rattle.std.proofs.lemmas.List.FromFn.{length-enumerate_from, get_or-enumerate_from}
use Rattle.std.proofs.lemmas.Slice.Zip.{length-zip, get_or-zip}
use Rattle.std.proofs.lemmas.List.Sums.{fold_more}
use Rattle.wsgs.specs.Basics.{Port, some_of}
use Rattle.wsgs.specs.Words.{copied}
use Rattle.wsgs.specs.Bookings.{rate_slots, booking, booking_words}
use Rattle.wsgs.proofs.Laws.Bookings.{rate_slots_none, booking_words_length, booking_at}
use Rattle.words.specs.Runs.{copy_words}
use Rattle.words.proofs.Laws.{or_none, copy_more, copy_fits, copy_short}
use Rattle.bookings.specs.Rises.{rise_of, has_rate}

module _ (f b r : ℕ) where
  -- no rate, and no line, take no slots
  pub no_rate : r ≡ 0 → rate_slots f b r ≡ 0
  no_rate e = ap (rate_slots f b) e ∙ rate_slots_none f b

  pub no_line : b ≡ 0 → rate_slots f b r ≡ 0
  unfolding rate_slots
  no_line e = rw (eq-eqb b 0 e)

  pub nothing_divided : (r ≡ 0) ⊎ ((r ≡ 0 → ⊥) × (b ≡ 0)) → rate_slots f b r ≡ 0
  nothing_divided (inl e) = no_rate e
  nothing_divided (inr e) = no_line e.1

  -- any other takes its quotient, which is at most the product
  pub divided : 1 ≤ b → rate_slots f b r ≡ (r * f + (b - 1)) / b
  unfolding rate_slots
  divided h = rw (ne_eqb b 0 (λ e. omega arith))

  pub quotient_few : 1 ≤ b → (r * f + (b - 1)) / b ≤ r * f
  quotient_few h =
      let x = r * f in
      omega (
        arith,
        (div-lt_iff_lt-mul {k = b} {x = x + (b - 1)} {y = suc x} h).1 (omega (arith, suc-mul x b, mul-le-mul_left {m = 1} {n = b} x h)),
      )

  -- products of words, and of a summed rate with a frame in range
  pub words_product : r ≤ 4294967295 → f ≤ 4294967295 → r * f ≤ 18446744065119617025
  words_product h g = omega (arith, mul-le-mul_right f h, mul-le-mul_left {n = 4294967295} 4294967295 g)

  pub sum_product : r ≤ 8589934590 → f ≤ 10000 → r * f ≤ 85899345900000
  sum_product h g = omega (arith, mul-le-mul_right f h, mul-le-mul_left {n = 10000} 8589934590 g)

-- the rise of a booking
module _ (f b s r more : ℕ) where
  pub long_frame : 10000 < f → rise_of f b s r more ≡ 0
  unfolding rise_of
  long_frame h = rw (lt-leb f 10000 h)

  pub rise_is : f ≤ 10000 → rise_of f b s r more ≡ booking f b s (r + more) - booking f b s r
  unfolding rise_of
  rise_is h = rw (le-leb f 10000 h)

-- one word more
pub union_more : (m : List ℕ) (k u : ℕ) → ltb 0 u ≡ some_of (λ x. ltb 0 (get_or m (x - 1) 0)) k
    → ltb 0 (bit_or u (get_or m k 0)) ≡ some_of (λ x. ltb 0 (get_or m (x - 1) 0)) (suc k)
unfolding some_of
union_more m k u e =
    let same : k ≡ suc k - 1 = omega arith in
    or_none u (get_or m k 0) ∙ ap₂ ◌||◌ (ap (λ (x : ℕ). ltb 0 (get_or m x 0)) same) e

-- the union of the first words
pub union_of_first : (m : List ℕ) (count : ℕ) → count ≤ length m
    → ltb 0 (fold bit_or 0 (take count m)) ≡ some_of (λ k. ltb 0 (get_or m (k - 1) 0)) count
unfolding some_of
union_of_first m zero h = refl
union_of_first m (suc k) h =
    let same : suc k ≡ k + 1 = omega arith in
    ap (λ (x : ℕ). ltb 0 (fold bit_or 0 (take x m))) same
    ∙ ap (ltb 0) (fold_more bit_or 0 m k 0 (omega arith))
    ∙ union_more m k (fold bit_or 0 (take k m)) (union_of_first m k (omega arith))

-- a word among those that no test passes
unrated_at : (p : ℕ → Bool) (n x : ℕ) → some_of p n ≡ false → Port n x → p x ≡ false
unfolding some_of
unrated_at p zero x e h = absurd (omega arith)
unrated_at p (suc n) x e h = go (ℕ_discrete x (suc n)) (none (p (suc n)) (some_of p n) e) (unrated_at p n x)
  where
    none : (a b : Bool) → (a || b) ≡ false → (a ≡ false) × (b ≡ false)
    none true b q = absurd (true≢false q)
    none false b q = (refl, q)

    go : Dec (x ≡ suc n) → (p (suc n) ≡ false) × (some_of p n ≡ false) → (some_of p n ≡ false → Port n x → p x ≡ false) → p x ≡ false
    go (yes q) r again = rw q r.0
    go (no d) r again = again r.1 (omega arith)

-- there is a rate or the run is too short, and there is none
module _ (m : List ℕ) (count : ℕ) where
  pub rate_short : length m < count → true ≡ has_rate count m
  unfolding has_rate
  rate_short h = rw (lt-ltb (length m) count h)

  pub rate_found : count ≤ length m → ltb 0 (fold bit_or 0 (slice_range m 0 count)) ≡ has_rate count m
  unfolding has_rate
  rate_found h =
      rw (le-ltb (length m) count h)
      (ap (λ (x : ℕ). ltb 0 (fold bit_or 0 (take x m))) (omega arith) ∙ union_of_first m count h)

-- bookings copied over the words of a run
module _ (f b : ℕ) (slots rates to : List ℕ) where
  abbrev all : List ℕ
  all = booking_words f b slots rates

  -- one more: v is that of the words at place k
  pub booking_more_copied : (k v : ℕ) → k < length slots → k < length rates → k < length to → v ≡ booking f b (get_or slots k 0) (get_or rates k 0)
      → set (copied k all to) k v ≡ copied (suc k) all to
  booking_more_copied k v p q r e =
      ap (set (copied k all to) k) (e ∙ sym (booking_at f b slots rates k p q))
      ∙ copy_more all to k (omega (arith, booking_words_length f b slots rates)) r

  -- the turn of a loop over the first count slots and their rates, at place k
  pub booking_turn : (count k v : ℕ) (at : ℕ × (ℕ × ℕ)) → let pairs = enumerate_from 0 (zip (take count slots) rates) in
      count ≤ length slots → count ≤ length rates → count ≤ length to → (k < length pairs) × (at ≡ get_or pairs k at) → v ≡ booking f b at.1.0 at.1.1
      → set (copied k all to) at.0 v ≡ copied (suc k) all to
  booking_turn count k v at p q r t e =
      let pairs = zip (take count slots) rates in
      let size = length-zip (take count slots) rates in
      let few = length-take count slots in
      let inside : k < length pairs = omega (arith, length-enumerate_from 0 pairs) in
      let found = t.1 ∙ get_or-enumerate_from 0 pairs k at inside in
      let pair = get_or-zip (take count slots) rates k at.1 (omega arith) (omega arith) in
      let held : at.1.0 ≡ get_or slots k 0 =
      ap (λ (x : ℕ × (ℕ × ℕ)). x.1.0) found ∙ ap (λ (x : ℕ × ℕ). x.0) pair ∙ get_or-take count slots k at.1.0 (omega arith) ∙ get_or_default slots k at.1.0 0 (omega arith) in
      let rate : at.1.1 ≡ get_or rates k 0 =
      ap (λ (x : ℕ × (ℕ × ℕ)). x.1.1) found ∙ ap (λ (x : ℕ × ℕ). x.1) pair ∙ get_or_default rates k at.1.1 0 (omega arith) in
      let place : at.0 ≡ 0 + k = ap (λ (x : ℕ × (ℕ × ℕ)). x.0) found in
      ap (λ (x : ℕ). set (copied k all to) x v) (omega arith)
      ∙ booking_more_copied k v (omega arith) (omega arith) (omega arith) (e ∙ ap₂ (booking f b) held rate)

  -- where all runs are long enough, and where one is too short
  pub bookings_fit : (count : ℕ) → count ≤ length slots → count ≤ length rates → count ≤ length to → copied count all to ≡ copy_words count all to
  bookings_fit count p q r = sym (copy_fits count all to (omega (arith, booking_words_length f b slots rates)) r)

  pub bookings_short : (count : ℕ) → (count ≤ length slots → count ≤ length rates → count ≤ length to → ⊥) → to ≡ copy_words count all to
  bookings_short count h = sym (copy_short count all to (go (dec_le count (length slots)) (dec_le count (length rates)) (dec_le count (length to))))
    where
      size : length all ≡ min (length slots) (length rates)
      size = booking_words_length f b slots rates

      go : Dec (count ≤ length slots) → Dec (count ≤ length rates) → Dec (count ≤ length to) → (length all < count) ⊎ (length to < count)
      go (no p) q r = inl (omega (arith, size))
      go (yes p) (no q) r = inl (omega (arith, size))
      go (yes p) (yes q) (no r) = inr (omega arith)
      go (yes p) (yes q) (yes r) = absurd (h p q r)

-- WITHOUT A RATE the bookings are the slots, where these are words
module _ (f b : ℕ) where
  unrated : (s r : ℕ) → s ≤ 4294967295 → r ≡ 0 → booking f b s r ≡ s
  unfolding booking
  unrated s r h e = omega (arith, no_rate f b r e)

  taken_unrated : (slots rates : List ℕ) (count : ℕ) → count ≤ length slots → count ≤ length rates → ((k : ℕ) → get_or slots k 0 ≤ 4294967295)
      → ((k : ℕ) → k < count → get_or rates k 0 ≡ 0) → take count slots ≡ take count (booking_words f b slots rates)
  unfolding booking_words
  taken_unrated slots rates zero p q h z = refl
  taken_unrated [] rates (suc count) p q h z = absurd (omega arith)
  taken_unrated (s ∷ ss) [] (suc count) p q h z = absurd (omega arith)
  taken_unrated (s ∷ ss) (r ∷ rs) (suc count) p q h z =
      ap₂ ◌∷◌ (sym (unrated s r (h 0) (z 0 (omega arith))))
      (taken_unrated ss rs count (omega arith) (omega arith) (λ k. h (suc k)) (λ k g. z (suc k) (omega arith)))

  -- so they are copied as they are
  pub unrated_copy : (slots rates to : List ℕ) (count : ℕ) → has_rate count rates ≡ false → ((k : ℕ) → get_or slots k 0 ≤ 4294967295)
      → copy_words count slots to ≡ copy_words count (booking_words f b slots rates) to
  unfolding has_rate
  unrated_copy slots rates to count e h = go (dec_le count (length slots)) (dec_le count (length rates))
    where
      p : ℕ → Bool
      p k = ltb 0 (get_or rates (k - 1) 0)

      size : length (booking_words f b slots rates) ≡ min (length slots) (length rates)
      size = booking_words_length f b slots rates

      none : (a c : Bool) → (a || c) ≡ false → c ≡ false
      none true c q = absurd (true≢false q)
      none false c q = q

      zeros : (k : ℕ) → k < count → get_or rates k 0 ≡ 0
      zeros k g =
          let same : suc k - 1 ≡ k = omega arith in
          let z = unrated_at p count (suc k) (none (ltb (length rates) count) (some_of p count) e) (omega arith) in
          omega (arith, ltb-false 0 (get_or rates k 0) (ap (λ (x : ℕ). ltb 0 (get_or rates x 0)) (sym same) ∙ z))

      go : Dec (count ≤ length slots) → Dec (count ≤ length rates) → copy_words count slots to ≡ copy_words count (booking_words f b slots rates) to
      go (no d) _ = copy_short count slots to (inl (omega arith)) ∙ sym (copy_short count (booking_words f b slots rates) to (inl (omega (arith, size))))
      go (yes d) (no g) = absurd (true≢false (rw (lt-ltb (length rates) count (omega arith)) at e))
      go (yes d) (yes g) = again (dec_le count (length to))
        where
          again : Dec (count ≤ length to) → copy_words count slots to ≡ copy_words count (booking_words f b slots rates) to
          again (yes l) =
              copy_fits count slots to d l
              ∙ ap (λ m. m ++ drop count to) (taken_unrated slots rates count d g h zeros)
              ∙ sym (copy_fits count (booking_words f b slots rates) to (omega (arith, size)) l)
          again (no l) = copy_short count slots to (inr (omega arith)) ∙ sym (copy_short count (booking_words f b slots rates) to (inr (omega arith)))
