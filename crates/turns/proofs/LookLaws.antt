-- The looks of a search, counted as the bits of a word: the free outputs up to the one that it gives. Assumes nothing.
use mathlib.Core.Path.{◌≡◌, refl, sym, ◌∙◌, ap}
use mathlib.Core.Bool.{Bool, true, false, ◌&&◌, ◌||◌, and-true}
use Prim.Native.Nat.{ℕ, zero, suc, ◌+◌, ◌-◌, ◌/◌, ◌%◌, ◌^◌, ◌≤◌, ◌<◌, min}
use native.Mathlib.Nat.{pow-suc}
use native.Mathlib.Decide.{dec_le}
use native.Mathlib.Omega.{arith}
use borrow.Author.Tests.{le-leb, lt-leb, lt-ltb, le-ltb, ne_eqb}
use lib.Bits.{bit_and, bit_or}
use lib.Count.{ones, ones_step}
use lib.Dec.{eqb, leb, ltb}
use Rattle.wsgs.specs.Basics.{bit, Port, sum, in_turn, looks}
use Rattle.wsgs.proofs.Laws.Sums.{sum_ext, sum_zero, sum_split}
use Rattle.wsgs.proofs.Laws.Looks.{looked, looks_counted}
use Rattle.turns.specs.Masks.{in_mask, all_free}
use Rattle.turns.proofs.BitLaws.{mask_bit}
use Rattle.turns.proofs.MaskLaws.{free_first, past_unset}
use Rattle.turns.proofs.TrailingLaws.{bits_zero, bits_suc}
use Rattle.turns.proofs.Ready.{common_outputs, either_output, outputs, free_inside, none_past, open_turn}

-- AS A WORD. The set of all outputs of v ports has those up to v
up_to : (v j : ℕ) → Port 32 j → in_mask (all_free v) j ≡ leb j v
unfolding all_free
up_to v j p = go (dec_le j v)
  where
    few : min v 32 ≤ 32
    few = omega arith

    same : all_free v ≡ all_free (min v 32)
    same = ap (λ z. 2 ^ z - 1) (omega arith)

    go : Dec (j ≤ v) → in_mask (all_free v) j ≡ leb j v
    go (yes h) = free_first (min v 32) (all_free v) few same j (omega arith) ∙ sym (le-leb j v h)
    go (no h) = past_unset (min v 32) (all_free v) few same j (omega arith) ∙ sym (lt-leb j v (omega arith))

-- the free outputs at which a search has looked that comes to v: all of them where v is 0, for none;
module _ (free last v : ℕ) where
  pub all_looked : v ≡ 0 → (j : ℕ) → Port 32 j → in_mask free j ≡ (in_mask free j && looked last v j)
  all_looked z j p = rw z (sym (and-true (in_mask free j)))

  -- those past the last given one up to v; and, where v is not past it, those past it and those up to v
  module _ (some : 1 ≤ v) (all : ℕ) (full : all ≡ all_free v) where
    free_up_to : (j : ℕ) → Port 32 j → in_mask (bit_and free all) j ≡ (in_mask free j && leb j v)
    free_up_to j p = common_outputs free all j p.low ∙ ap (λ b. in_mask free j && b) (ap (λ w. in_mask w j) full ∙ up_to v j p)

    pub looked_above : last < v → (r : ℕ) → ((j : ℕ) → Port 32 j → in_mask r j ≡ (ltb last j && in_mask (bit_and free all) j))
        → (j : ℕ) → Port 32 j → in_mask r j ≡ (in_mask free j && looked last v j)
    looked_above h r is j p = is j p ∙ rw (free_up_to j p, ne_eqb v 0 (λ z. absurd (omega arith)), lt-ltb last v h) (go (in_mask free j) (ltb last j))
      where
        go : (a b : Bool) → (b && (a && leb j v)) ≡ (a && (b && leb j v))
        go true b = refl
        go false true = refl
        go false false = refl

    pub looked_wrapped : v ≤ last → (r : ℕ) → ((j : ℕ) → Port 32 j → in_mask r j ≡ (ltb last j && in_mask free j))
        → (j : ℕ) → Port 32 j → in_mask (bit_or r (bit_and free all)) j ≡ (in_mask free j && looked last v j)
    looked_wrapped h r is j p =
        either_output r (bit_and free all) j p.low
        ∙ rw (is j p, free_up_to j p, ne_eqb v 0 (λ z. absurd (omega arith)), le-ltb last v h) (go (in_mask free j) (ltb last j))
      where
        go : (a b : Bool) → ((b && a) || (a && leb j v)) ≡ (a && (b || leb j v))
        go true true = refl
        go true false = refl
        go false true = refl
        go false false = refl

-- COUNTED. The lowest output of a word, and those of its half
lowest_bit : (w : ℕ) → bit (in_mask w 1) ≡ w % 2
lowest_bit w = rw (mask_bit w 0, bits_zero w) (go (w % 2) (omega arith))
  where
    go : (d : ℕ) → d < 2 → bit (eqb d 1) ≡ d
    go zero h = refl
    go (suc zero) h = refl
    go (suc (suc d)) h = absurd (omega arith)

half_bit : (w j : ℕ) → 1 ≤ j → in_mask (w / 2) j ≡ in_mask w (1 + j)
half_bit w zero h = absurd (omega arith)
half_bit w (suc k) h =
    let e : suc (suc k) ≡ 1 + suc k = omega arith in
    mask_bit (w / 2) k ∙ sym (bits_suc w k) ∙ sym (mask_bit w (suc k)) ∙ ap (in_mask w) e

-- the set bits of a word of k bits are its outputs
bits_counted : (k w : ℕ) → w < 2 ^ k → ones w ≡ sum (λ j. bit (in_mask w j)) k
unfolding sum ones
bits_counted zero w h = let e : w ≡ 0 = omega arith in rw e
bits_counted (suc k) w h =
    let f : ℕ → ℕ = λ j. bit (in_mask w j) in
    let fits : w / 2 < 2 ^ k = omega (arith, pow-suc 2 k) in
    let e : 1 + k ≡ suc k = omega arith in
    let halves = sum_ext (λ j. bit (in_mask (w / 2) j)) (λ j. f (1 + j)) k (λ j p. ap bit (half_bit w j p.low)) in
    let rest : w % 2 + ones (w / 2) ≡ sum f 1 + sum (λ j. f (1 + j)) k = omega (arith, bits_counted k (w / 2) fits, lowest_bit w, halves) in
    ones_step w ∙ rest ∙ sym (sum_split f 1 k) ∙ ap (sum f) e

-- what is 0 past n adds nothing to a sum
sum_short : (f : ℕ → ℕ) (n m : ℕ) → n ≤ m → ((j : ℕ) → Port m j → n < j → f j ≡ 0) → sum f m ≡ sum f n
sum_short f n m l z =
    let e : m ≡ n + (m - n) = omega arith in
    ap (sum f) e ∙ sum_split f n (m - n) ∙ omega (arith, sum_zero (λ x. f (n + x)) (m - n) (λ x p. z (n + x) (omega arith) (omega arith)))

-- so the count of the free outputs of n ports at which a search looks is that of the definition
module _ (n : ℕ) (few : n ≤ 32) (free all : ℕ) (full : all ≡ all_free n) where
  pub looks_are : (asked last v seen : ℕ) → v ≡ in_turn (in_mask (bit_and (outputs n few free all full) asked)) 32 last
      → ((j : ℕ) → Port 32 j → in_mask seen j ≡ (in_mask (bit_and free all) j && looked last v j)) → seen < 2 ^ 32
      → ones seen ≡ looks (in_mask free) (in_mask asked) n last
  looks_are asked last v seen e is fits =
      bits_counted 32 seen fits
      ∙ sum_short (λ j. bit (in_mask seen j)) n 32 few (λ j p l. ap bit (past j p l))
      ∙ sum_ext _ _ n (λ j p. ap bit (inside j p))
      ∙ sym (looks_counted (in_mask free) (in_mask asked) n last)
    where
      past : (j : ℕ) → Port 32 j → n < j → in_mask seen j ≡ false
      past j p l = is j p ∙ rw (none_past n few free all full j p l)

      inside : (j : ℕ) → Port n j
          → in_mask seen j ≡ (in_mask free j && looked last (in_turn (λ j. in_mask free j && in_mask asked j) n last) j)
      inside j p = is j (omega arith) ∙ rw (free_inside n few free all full j p, e ∙ open_turn n few free all full asked last)
