-- What an input asks for, one column after the other: the word of its ready columns. And the search by bits: the lowest bit that such a word has in common
-- with the free outputs, above the last given one or else of all, is the first open output in turn. Assumes nothing.
use mathlib.Core.Path.{◌≡◌, refl, sym, ◌∙◌, ap}
use mathlib.Core.Bool.{Bool, true, false, not, ◌&&◌, ◌||◌, and-true, and-false}
use mathlib.Core.List.{List}
use Prim.Native.Nat.{ℕ, zero, suc, ◌+◌, ◌-◌, ◌*◌, ◌/◌, ◌%◌, ◌^◌, ◌≤◌, ◌<◌}
use native.Mathlib.Decide.{dec_lt, dec_le}
use borrow.Author.Tests.{ne_eqb, lt-ltb}
use native.Mathlib.Nat.{zero-div}
use native.Mathlib.Numerals.{add-one}
use native.Mathlib.Omega.{arith}
use lib.Bits.{bit_and, bit_or, and_shr, and_mod, and_self, and_zero_l, and_zero_r, or_shr, or_mod, or_shifted_r}
use lib.Count.{count_trailing_zeros}
use lib.Dec.{T, eqb, ltb}
use lib.ListN.{get_or}
use Rattle.std.proofs.Math.Facts.{and_yes}
use Rattle.wsgs.specs.Basics.{pick, bit, Port, some_of, in_turn, later}
use Rattle.wsgs.specs.Words.{place, word}
use Rattle.wsgs.specs.Steps.{marked}
use Rattle.wsgs.proofs.Laws.Some.{some_there}
use Rattle.wsgs.proofs.Laws.InTurn.{in_turn_ext, in_turn_lowest, in_turn_nobody, in_turn_above, in_turn_wide}
use Rattle.wsgs.proofs.Laws.Marked.{marked_suc, marked_lt, marked_bit, marked_ext, marked_none}
use Rattle.words.proofs.Laws.{or_none}
use Rattle.turns.specs.Masks.{in_mask, all_free, ready_mask}
use Rattle.turns.specs.Requests.{common_in_turn}
use Rattle.turns.proofs.BitLaws.{bits, mask_bit}
use Rattle.turns.proofs.MaskLaws.{free_first, past_unset}
use Rattle.turns.proofs.TrailingLaws.{below_unset, lowest_set, lowest_within}

-- THE SWEEP of a row. The words of two runs in column k, from 0, of the row that begins at a place are both above 0
abbrev both_above : (one two : List ℕ) (row k : ℕ) → Bool
both_above one two row k = ltb 0 (get_or one (row + k) 0) && ltb 0 (get_or two (row + k) 0)

-- the bit of a column, by two tests: an and of what each leaves
pub column_two : (v : ℕ) (a b : Bool) (x y : ℕ) → x ≡ pick b v 0 → y ≡ pick a v 0 → bit_and x y ≡ pick (a && b) v 0
column_two v true true x y d e = rw (d, e) (and_self v)
column_two v true false x y d e = rw (d, and_zero_l)
column_two v false true x y d e = rw (e, and_zero_r)
column_two v false false x y d e = rw (d, and_zero_l)

-- and by one test, which is also the test twice
pub column_one : (v : ℕ) (a : Bool) (x : ℕ) → x ≡ pick a v 0 → x ≡ pick (a && a) v 0
column_one v true x e = e
column_one v false x e = e

module _ (one two : List ℕ) (row : ℕ) where
  -- no column has been swept
  pub ready_start : 0 ≡ ready_mask one two row 0
  unfolding ready_mask marked
  ready_start = refl

  -- one column more, by an or with its bit
  pub ready_next : (n w b : ℕ) → w ≡ ready_mask one two row n → b ≡ pick (both_above one two row n) (2 ^ n) 0 → bit_or w b ≡ ready_mask one two row (n + 1)
  unfolding ready_mask
  ready_next n w b e f =
      let p : ℕ → Bool = λ j. both_above one two row (j - 1) in
      let d : suc n - 1 ≡ n = omega arith in
      rw (e, f, add-one n)
      (ap (bit_or (marked n p)) (chosen (both_above one two row n) ∙ ap (λ z. bit (both_above one two row z) * 2 ^ n) (sym d))
      ∙ or_shifted_r (bit (p (suc n))) n (marked n p) (marked_lt n p) ∙ sym (marked_suc n p))
    where
      chosen : (a : Bool) → pick a (2 ^ n) 0 ≡ bit a * 2 ^ n
      chosen true = omega arith
      chosen false = omega arith

  -- by where the row begins
  pub ready_at : (n place : ℕ) {r : ℕ} → row ≡ place → r ≡ ready_mask one two row n → r ≡ ready_mask one two place n
  ready_at n place e h = h ∙ ap (λ z. ready_mask one two z n) e

  -- a row of which the first run has nothing is not ready anywhere
  pub nothing_ready : (n : ℕ) → some_of (λ j. ltb 0 (get_or one (row + (j - 1)) 0)) n ≡ false → 0 ≡ ready_mask one two row n
  unfolding ready_mask
  nothing_ready n h = sym (marked_ext n _ (λ j. false) (λ j p. none j (ltb 0 (get_or one (row + (j - 1)) 0)) (some_there _ n j p)) ∙ marked_none n)
    where
      none : (j : ℕ) (b : Bool) → (T b → T (some_of (λ j. ltb 0 (get_or one (row + (j - 1)) 0)) n))
          → (b && ltb 0 (get_or two (row + (j - 1)) 0)) ≡ false
      none j true f = absurd (rw h at (f tt))
      none j false f = refl

-- the ready columns of the row of input i, by its pairs
pub ready_pairs : (n i : ℕ) (one two : List ℕ) → ready_mask one two ((i - 1) * n) n ≡ marked n (λ j. ltb 0 (word n one i j) && ltb 0 (word n two i j))
unfolding ready_mask word place
ready_pairs n i one two = refl

-- whether a row has something, one column after the other: the or of its words so far is above 0
module _ (run : List ℕ) (row : ℕ) where
  abbrev above_zero : ℕ → Bool
  above_zero j = ltb 0 (get_or run (row + (j - 1)) 0)

  pub none_yet : ltb 0 0 ≡ some_of above_zero 0
  unfolding some_of
  none_yet = refl

  pub some_next : (n found word : ℕ) → ltb 0 found ≡ some_of above_zero n → word ≡ get_or run (row + n) 0
      → ltb 0 (bit_or found word) ≡ some_of above_zero (n + 1)
  unfolding some_of
  some_next n found word e f =
      let d : suc n - 1 ≡ n = omega arith in
      rw (add-one n, d) (or_none found word ∙ rw (e, f))

-- THE BITS of what an input asks for
ready_bit : (one two : List ℕ) (row n k : ℕ) → k < n → bits (ready_mask one two row n) k ≡ both_above one two row k
unfolding ready_mask bits
ready_bit one two row n k h =
    let d : suc k - 1 ≡ k = omega arith in
    ap (λ v. eqb v 1) (marked_bit n (λ j. both_above one two row (j - 1)) k h) ∙ rw d (go (both_above one two row k))
  where
    go : (b : Bool) → eqb (bit b) 1 ≡ b
    go true = refl
    go false = refl

-- 0 has none
no_bits : (k : ℕ) → bits 0 k ≡ false
unfolding bits
no_bits k = rw (zero-div (2 ^ k))

-- the bits that two words have in common
common_bit : (a b k : ℕ) → bits (bit_and a b) k ≡ (bits a k && bits b k)
unfolding bits
common_bit a b k =
    ap (λ v. eqb v 1) (ap (λ x. x % 2) (and_shr a b k) ∙ and_mod (a / 2 ^ k) (b / 2 ^ k) 1)
    ∙ go (a / 2 ^ k % 2) (b / 2 ^ k % 2) (omega arith) (omega arith)
  where
    go : (x y : ℕ) → x < 2 → y < 2 → eqb (bit_and x y) 1 ≡ (eqb x 1 && eqb y 1)
    go zero zero h l = refl
    go zero (suc zero) h l = refl
    go (suc zero) zero h l = refl
    go (suc zero) (suc zero) h l = refl
    go (suc (suc x)) y h l = absurd (omega arith)
    go zero (suc (suc y)) h l = absurd (omega arith)
    go (suc zero) (suc (suc y)) h l = absurd (omega arith)

-- the outputs of a word that are common to two
pub common_outputs : (free asked j : ℕ) → 1 ≤ j → in_mask (bit_and free asked) j ≡ (in_mask free j && in_mask asked j)
common_outputs free asked zero h = absurd (omega arith)
common_outputs free asked (suc k) h = rw (mask_bit free k, mask_bit asked k, mask_bit (bit_and free asked) k) (common_bit free asked k)

-- and those of either
either_bit : (a b k : ℕ) → bits (bit_or a b) k ≡ (bits a k || bits b k)
unfolding bits
either_bit a b k =
    ap (λ v. eqb v 1) (ap (λ x. x % 2) (or_shr a b k) ∙ or_mod (a / 2 ^ k) (b / 2 ^ k) 1)
    ∙ go (a / 2 ^ k % 2) (b / 2 ^ k % 2) (omega arith) (omega arith)
  where
    go : (x y : ℕ) → x < 2 → y < 2 → eqb (bit_or x y) 1 ≡ (eqb x 1 || eqb y 1)
    go zero zero h l = refl
    go zero (suc zero) h l = refl
    go (suc zero) zero h l = refl
    go (suc zero) (suc zero) h l = refl
    go (suc (suc x)) y h l = absurd (omega arith)
    go zero (suc (suc y)) h l = absurd (omega arith)
    go (suc zero) (suc (suc y)) h l = absurd (omega arith)

pub either_output : (a b j : ℕ) → 1 ≤ j → in_mask (bit_or a b) j ≡ (in_mask a j || in_mask b j)
either_output a b zero h = absurd (omega arith)
either_output a b (suc k) h = rw (mask_bit a k, mask_bit b k, mask_bit (bit_or a b) k) (either_bit a b k)

-- THE SEARCH. The lowest output of a word that is not 0 is that of its lowest bit
pub lowest_is : (w : ℕ) → 1 ≤ w → w < 2 ^ 32 → in_turn (in_mask w) 32 0 ≡ suc (count_trailing_zeros 32 w)
lowest_is w h fits =
    let low = lowest_within 32 w fits h in
    in_turn_lowest (in_mask w) 32 (suc (count_trailing_zeros 32 w)) (omega (arith, low)) (rw (mask_bit w (count_trailing_zeros 32 w), lowest_set 32 w low) tt) below
  where
    below : (y : ℕ) → Port 32 y → y < suc (count_trailing_zeros 32 w) → T (not (in_mask w y))
    below zero p l = absurd (omega arith)
    below (suc k) p l = rw (mask_bit w k, below_unset 32 w k (omega arith)) tt

-- 0 has no output
unset_in_0 : (y : ℕ) → 1 ≤ y → T (not (in_mask 0 y))
unset_in_0 zero h = absurd (omega arith)
unset_in_0 (suc k) h = rw (mask_bit 0 k, no_bits k) tt

-- an empty word has none in turn
pub none_in_turn : (w last : ℕ) → w ≡ 0 → 0 ≡ in_turn (in_mask w) 32 last
none_in_turn w last e = sym (in_turn_nobody (in_mask w) 32 last (λ y p. rw e (unset_in_0 y p.low)))

-- of the outputs of a word that is not 0, the lowest above the last one, else the lowest, is the first in turn
pub first_of_pool : (w last higher pool : ℕ) → 1 ≤ w → w < 2 ^ 32 → ((j : ℕ) → Port 32 j → in_mask higher j ≡ (ltb last j && in_mask w j)) → higher ≤ w
    → pool ≡ pick (eqb higher 0) w higher → suc (count_trailing_zeros 32 pool) ≡ in_turn (in_mask w) 32 last
first_of_pool w last higher pool h fits above within e = ap (λ v. suc (count_trailing_zeros 32 v)) e ∙ go (dec_lt 0 higher) ∙ sym in_order
  where
    in_order : in_turn (in_mask w) 32 last ≡ later (in_turn (in_mask higher) 32 0) (in_turn (in_mask w) 32 0)
    in_order =
        in_turn_above (in_mask w) 32 last
        ∙ ap (λ v. later v (in_turn (in_mask w) 32 0)) (in_turn_ext _ _ 32 0 0 (λ y p. sym (above y p)) refl)

    go : Dec (0 < higher)
        → suc (count_trailing_zeros 32 (pick (eqb higher 0) w higher)) ≡ later (in_turn (in_mask higher) 32 0) (in_turn (in_mask w) 32 0)
    go (yes s) = rw (ne_eqb higher 0 (λ z. absurd (omega arith)), lowest_is higher s (omega arith), lt-ltb 0 (suc (count_trailing_zeros 32 higher)) (omega arith))
    go (no s) =
        let z : higher ≡ 0 = omega arith in
        rw (z, in_turn_nobody (in_mask 0) 32 0 (λ y p. unset_in_0 y p.low), lowest_is w h fits)

-- the free outputs of n ports, and those of them that are asked for
module _ (n : ℕ) (few : n ≤ 32) (free all : ℕ) (full : all ≡ all_free n) where
  abbrev pub outputs : ℕ
  outputs = bit_and free all

  pub free_inside : (j : ℕ) → Port n j → in_mask outputs j ≡ in_mask free j
  free_inside j p = common_outputs free all j p.low ∙ rw (free_first n all few full j p, and-true (in_mask free j))

  pub none_past : (j : ℕ) → Port 32 j → n < j → in_mask outputs j ≡ false
  none_past j p h = common_outputs free all j p.low ∙ rw (past_unset n all few full j h, and-false (in_mask free j))

  pub open_turn : (asked last : ℕ) → in_turn (in_mask (bit_and outputs asked)) 32 last ≡ common_in_turn free asked n last
  open_turn asked last =
      in_turn_wide n 32 few (in_mask (bit_and outputs asked)) last
      (λ y p t. inside y p (and_yes (in_mask outputs y) (in_mask asked y) (rw (common_outputs outputs asked y p.low) at t)).0)
      ∙ in_turn_ext _ _ n last last (λ y p. common_outputs outputs asked y p.low ∙ ap (λ b. b && in_mask asked y) (free_inside y p)) refl
    where
      inside : (y : ℕ) → Port 32 y → T (in_mask outputs y) → y ≤ n
      inside y p t = go (dec_le y n)
        where
          go : Dec (y ≤ n) → y ≤ n
          go (yes h) = h
          go (no h) = absurd (rw (none_past y p (omega arith)) at t)

-- WHAT IS OPEN to input i: output j is free, and the words of the pair (i, j) in two runs are above 0
unfoldable pub is_open : ℕ → ℕ → List ℕ → List ℕ → ℕ → ℕ → Bool
is_open n free one two i j = in_mask free j && (ltb 0 (word n one i j) && ltb 0 (word n two i j))

-- where the second word has the ready columns of input i, what they have in common is open to it
module _ (n free : ℕ) (one two : List ℕ) (i w : ℕ) (is : w ≡ ready_mask one two ((i - 1) * n) n) where
  open_is_common : (j : ℕ) → Port n j → (in_mask free j && in_mask w j) ≡ is_open n free one two i j
  unfolding is_open word place
  open_is_common zero p = absurd (omega arith)
  open_is_common (suc k) p =
      let e : suc k - 1 ≡ k = omega arith in
      rw (mask_bit w k, is, ready_bit one two ((i - 1) * n) n k (omega arith), e)

  -- and where it has no bit, the input asks for nothing
  pub nothing_asked : w ≡ 0 → (j : ℕ) → Port n j → (ltb 0 (word n one i j) && ltb 0 (word n two i j)) ≡ false
  unfolding word place
  nothing_asked z zero p = absurd (omega arith)
  nothing_asked z (suc k) p =
      let e : suc k - 1 ≡ k = omega arith in
      rw e (sym (ready_bit one two ((i - 1) * n) n k (omega arith)) ∙ rw (← is, z, no_bits k))

  pub requested_in_turn : (v last : ℕ) → v ≡ common_in_turn free w n last → v ≡ in_turn (is_open n free one two i) n last
  requested_in_turn v last e = e ∙ in_turn_ext _ _ n last last open_is_common refl
