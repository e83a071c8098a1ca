-- The set of free outputs as a word: that of all outputs, which has each of them; an output that is tested; one that is taken, which clears
-- its bit and leaves the others; and the outputs above a number. They hold bit by bit. Assumes nothing.
use mathlib.Core.Path.{◌≡◌, refl, sym, ◌∙◌, ap}
use mathlib.Core.Bool.{Bool, true, false, not, ◌&&◌, and-true, and-false}
use mathlib.Core.Logic.{◌⊎◌, inl, inr, ◌≢◌}
use Prim.Native.Nat.{ℕ, zero, suc, ◌-◌, ◌*◌, ◌/◌, ◌%◌, ◌^◌, ◌≤◌, ◌<◌, min}
use native.Mathlib.Nat.{min-eq_left, min-eq_right, div-eq_of_lt, div-add-mod, lt_of_lt_of_le}
use native.Mathlib.Decide.{ℕ_discrete, dec_le}
use native.Mathlib.Omega.{arith}
use borrow.Author.Tests.{ne_eqb, eqb-true, lt-leb}
use lib.Bits.{bit_and, bit_xor, and_mask, xor_add_and}
use lib.Dec.{eqb, leb, ltb, eqb-suc-suc}
use lib.Pow.{pow-lt, pow_mono, ones_lt}
use Rattle.wsgs.specs.Basics.{pick, between, Port}
use Rattle.wsgs.proofs.Laws.Tests.{range_in}
use Rattle.turns.specs.Masks.{in_mask, all_free, is_free, without}
use Rattle.turns.proofs.BitLaws.{bits, mask_bit, low_set, outputs_above, one_shl, alone, and_others, bit_cleared}

-- all bits of a word
pub all_set : (n : ℕ) → 32 ≤ n → 4294967295 ≡ all_free n
unfolding all_free
all_set n h = rw (min-eq_right h)

-- the n lowest of them
pub lowest_set : (n : ℕ) → n < 32 → (1 * 2 ^ n) % 2 ^ 32 - 1 ≡ all_free n
unfolding all_free
lowest_set n h = let few : n ≤ 32 = omega arith in rw (min-eq_left few, one_shl 32 n h)

-- which are set
mask_full : (n k : ℕ) → Port n k → in_mask (2 ^ n - 1) k ≡ true
mask_full n zero p = absurd (omega arith)
mask_full n (suc k) p = mask_bit (2 ^ n - 1) k ∙ low_set n k (omega arith)

-- at first no output past the ports is free
pub past_unset : (n w : ℕ) → n ≤ 32 → w ≡ all_free n → (k : ℕ) → n < k → in_mask w k ≡ false
unfolding all_free in_mask
past_unset n w few e k h =
    let low : n ≤ k - 1 = omega arith in
    ap (λ v. in_mask v k) e ∙ rw (min-eq_left few, div-eq_of_lt (lt_of_lt_of_le (ones_lt n) (pow_mono low)))

-- and each of the ports' is, of at most 32
pub free_first : (n w : ℕ) → n ≤ 32 → w ≡ all_free n → (k : ℕ) → Port n k → in_mask w k ≡ true
unfolding all_free
free_first n w few e k p = ap (λ v. in_mask v k) e ∙ rw (min-eq_left few) (mask_full n k p)

-- an output past 32 has no bit, nor has output 0
no_bit : (j : ℕ) → (j < 1) ⊎ (32 < j) → between 1 32 j ≡ false
no_bit j (inl h) = rw (lt-leb 1 j h)
no_bit j (inr h) = rw (lt-leb j 32 h, and-false (leb 1 j))

-- AN OUTPUT j of the set w
module _ (w j : ℕ) where
  -- it has no bit
  pub not_free : (j < 1) ⊎ (32 < j) → false ≡ is_free w j
  unfolding is_free
  not_free h = rw (no_bit j h)

  pub stays : (j < 1) ⊎ (32 < j) → w ≡ without w j
  unfolding without
  stays h = rw (← not_free h)

-- it has one, bit k
module _ (w k : ℕ) (small : k < 32) where
  has_bit : between 1 32 (suc k) ≡ true
  has_bit = range_in 1 32 (suc k) (omega arith) (omega arith)

  bit_set : bits w k ≡ true → eqb (w / 2 ^ k % 2) 1 ≡ true
  unfolding bits
  bit_set h = h

  -- so its bit tells whether it is free
  tests : is_free w (suc k) ≡ bits w k
  unfolding is_free
  tests = rw (has_bit, mask_bit w k)

  -- it is tested by a shift and a mask
  pub tested : (j : ℕ) → j ≡ suc k → eqb (bit_and (w / 2 ^ k) 1) 1 ≡ is_free w j
  unfolding bits
  tested j e = ap (λ x. eqb x 1) (and_mask (w / 2 ^ k) 1) ∙ sym tests ∙ ap (is_free w) (sym e)

  -- and it is cleared by an and with all other bits
  pub cleared : (j : ℕ) → j ≡ suc k → w < 2 ^ 32 → bit_and w (2 ^ 32 - 1 - (1 * 2 ^ k) % 2 ^ 32) ≡ without w j
  unfolding without bits
  cleared j e fits =
      rw (e, one_shl 32 k small, tests, suc_less)
      (go (w / 2 ^ k % 2) refl (omega arith))
    where
      suc_less : suc k - 1 ≡ k
      suc_less = omega arith

      go : (d : ℕ) → w / 2 ^ k % 2 ≡ d → d < 2 → bit_and w (2 ^ 32 - 1 - 2 ^ k) ≡ pick (eqb d 1) (w - 2 ^ k) w
      go zero h l =
          let a : bit_and w (2 ^ k) ≡ 0 = alone w k ∙ rw h (omega arith) in
          omega (arith, and_others 32 w (2 ^ k) fits (pow-lt small))
      go (suc zero) h l =
          let a : bit_and w (2 ^ k) ≡ 2 ^ k = alone w k ∙ rw h (omega arith) in
          omega (arith, and_others 32 w (2 ^ k) fits (pow-lt small))
      go (suc (suc d)) h l = absurd (omega arith)

  -- then its bit is off, and the others are as they were
  taken_bit : (x : ℕ) → bits (without w (suc k)) x ≡ (bits w x && not (eqb x k))
  unfolding without
  taken_bit x = rw (tests, suc_less) (go (bits w k) refl)
    where
      suc_less : suc k - 1 ≡ k
      suc_less = omega arith

      less : bits w k ≡ true → w - 2 ^ k ≡ bit_xor w (2 ^ k)
      less h =
          let set : w / 2 ^ k % 2 ≡ 1 = eqb-true (w / 2 ^ k % 2) 1 (bit_set h) in
          let a : bit_and w (2 ^ k) ≡ 2 ^ k = alone w k ∙ rw set (omega arith) in
          omega (arith, xor_add_and w (2 ^ k))

      other : bits w k ≡ false → Dec (x ≡ k) → bits w x ≡ (bits w x && not (eqb x k))
      other h (yes e) = rw (e, h)
      other h (no d) = rw (ne_eqb x k d) (sym (and-true (bits w x)))

      go : (b : Bool) → bits w k ≡ b → bits (pick b (w - 2 ^ k) w) x ≡ (bits w x && not (eqb x k))
      go true h = ap (λ v. bits v x) (less h) ∙ bit_cleared w k h x
      go false h = other h (ℕ_discrete x k)

-- so of the outputs 1..32 all but the one that is taken are free that were
pub in_without : (w j k : ℕ) → Port 32 k → in_mask (without w j) k ≡ (in_mask w k && not (eqb k j))
in_without w j zero p = absurd (omega arith)
in_without w j (suc k) p = go j (dec_le 1 j) (dec_le j 32)
  where
    -- an output without a bit is none of them
    none : (j : ℕ) → (j < 1) ⊎ (32 < j) → suc k ≢ j → in_mask (without w j) (suc k) ≡ (in_mask w (suc k) && not (eqb (suc k) j))
    none j h d = rw (← stays w j h, ne_eqb (suc k) j d) (sym (and-true (in_mask w (suc k))))

    go : (j : ℕ) → Dec (1 ≤ j) → Dec (j ≤ 32) → in_mask (without w j) (suc k) ≡ (in_mask w (suc k) && not (eqb (suc k) j))
    go j (no l) d = none j (inl (omega arith)) (λ e. omega arith)
    go j (yes l) (no h) = none j (inr (omega arith)) (λ e. omega arith)
    go zero (yes l) (yes h) = absurd (omega arith)
    go (suc j) (yes l) (yes h) =
        rw (mask_bit (without w (suc j)) k, mask_bit w k, eqb-suc-suc k j) (taken_bit w j (omega arith) k)

-- THE OUTPUTS of the set w above m: an and with all bits but the m lowest leaves what shifting these out and back leaves
module _ (w m low : ℕ) (fits : w < 2 ^ 32) (e : low ≡ all_free m) where
  low_cleared : bit_and w (2 ^ 32 - 1 - low) ≡ w / 2 ^ min m 32 * 2 ^ min m 32
  unfolding all_free
  low_cleared =
      let k = min m 32 in
      let few : k ≤ 32 = omega arith in
      rw e (omega (arith, and_others 32 w (2 ^ k - 1) fits (lt_of_lt_of_le (ones_lt k) (pow_mono few)), and_mask w k, div-add-mod w (2 ^ k)))

  pub left_above : (j : ℕ) → Port 32 j → in_mask (bit_and w (2 ^ 32 - 1 - low)) j ≡ (ltb m j && in_mask w j)
  left_above j p = ap (λ v. in_mask v j) low_cleared ∙ outputs_above w m j p
