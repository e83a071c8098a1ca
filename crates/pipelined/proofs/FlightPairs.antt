-- The pairs that a row hands out, input by input: the outputs and the pass-one word of the inputs 1..x. Assumes nothing.
use Rattle.std.proofs.Common.{◌≡◌, ℕ, suc, ◌+◌, ◌*◌, ◌%◌, ◌^◌, ◌<◌, ◌≤◌, Bool, true, false, ◌&&◌, leb, ◌≢◌, List, get_or, set, replicate, sym, ap, ◌∙◌, add-one, arith, le-leb}
use mathlib.Core.Bool.{and-false}
use native.Mathlib.Decide.{ℕ_discrete, dec_le}
use borrow.Author.Tests.{lt-leb}
use lib.Bits.{bit_or}
use Rattle.wsgs.specs.Basics.{pick, between, updated}
use Rattle.wsgs.specs.Steps.{listed, marked, outputs_of, pass_word_of}
use Rattle.wsgs.specs.Pipelined.{by_first, output_in, flight_place, in_flight, reserved, handed_out}
use Rattle.wsgs.proofs.Laws.Tests.{range_in, updated_at, updated_other}
use Rattle.wsgs.proofs.Laws.Listed.{listed_ext, listed_set, listed_none}
use Rattle.wsgs.proofs.Laws.Marked.{marked_ext, marked_set, marked_none}
use Rattle.turns.proofs.BitLaws.{one_shl}

-- none of 1..0, and of 1..suc x those of 1..x beside suc x
none_between : (i : ℕ) → 1 ≤ i → between 1 0 i ≡ false
none_between i h = rw (le-leb 1 i h, lt-leb i 0 h)

between_next : (x i : ℕ) → i ≢ suc x → between 1 (suc x) i ≡ between 1 x i
between_next x i d = ap (λ b. leb 1 i && b) (go (dec_le i x))
  where
    go : Dec (i ≤ x) → leb i (suc x) ≡ leb i x
    go (yes h) = rw (le-leb i x h, le-leb i (suc x) (omega arith))
    go (no h) = rw (lt-leb i x (omega arith), lt-leb i (suc x) (omega arith))

-- what is said of 1..x, with one value more
grown : {X : Type 0} (g : Bool → ℕ → X) (x : ℕ) (v : X) → v ≡ g true (suc x) → (i : ℕ)
    → updated (λ i. g (between 1 x i) i) (suc x) v i ≡ g (between 1 (suc x) i) i
grown g x v e i = go (ℕ_discrete i (suc x))
  where
    go : Dec (i ≡ suc x) → updated (λ i. g (between 1 x i) i) (suc x) v i ≡ g (between 1 (suc x) i) i
    go (yes d) = updated_at (λ i. g (between 1 x i) i) (suc x) i v d ∙ rw (d, range_in 1 (suc x) (suc x) (omega arith) (omega arith)) e
    go (no d) = updated_other (λ i. g (between 1 x i) i) (suc x) i v d ∙ ap (λ b. g b i) (sym (between_next x i d))

-- and where that value is what was said before of suc x
kept : {X : Type 0} (g : Bool → ℕ → X) (x i : ℕ) → g true (suc x) ≡ g false (suc x) → g (between 1 x i) i ≡ g (between 1 (suc x) i) i
kept g x i e = go (ℕ_discrete i (suc x))
  where
    go : Dec (i ≡ suc x) → g (between 1 x i) i ≡ g (between 1 (suc x) i) i
    go (yes d) = rw (d, range_in 1 (suc x) (suc x) (omega arith) (omega arith), lt-leb (suc x) x (omega arith), and-false (leb 1 (suc x))) (sym e)
    go (no d) = ap (λ b. g b i) (sym (between_next x i d))

module _ (n s : ℕ) (flight : List ℕ) where
  abbrev output_of : Bool → ℕ → ℕ
  output_of b i = pick b (reserved n flight s i) 0

  abbrev first_of : Bool → ℕ → Bool
  first_of b i = b && by_first n (in_flight n flight s i)

  -- the outputs of the inputs 1..x, and the word of those by pass one
  pub record PairsSoFar (x : ℕ) (outputs : List ℕ) (word : ℕ) : Type 0 where
    pub output : outputs ≡ listed 32 (λ i. output_of (between 1 x i) i)
    pub first : word ≡ marked 32 (λ i. first_of (between 1 x i) i)

  -- of no input
  pub handed_none : PairsSoFar 0 (replicate 32 0) 0
  handed_none =
      record {
        output = sym (listed_ext 32 _ _ (λ i p. ap (λ b. output_of b i) (none_between i p.low)) ∙ listed_none 32);
        first = sym (marked_ext 32 _ _ (λ i p. ap (λ b. first_of b i) (none_between i p.low)) ∙ marked_none 32);
      }

  -- of one input more, whose word in flight stands in the row and is read as output o
  module _ (x row o : ℕ) (outputs : List ℕ) (word : ℕ) (small : x < 32) (place : row ≡ s % (2 * n) * n) (h : PairsSoFar x outputs word) where
    cell : get_or flight (row + x) 0 ≡ in_flight n flight s (suc x)
    unfolding in_flight flight_place
    cell = ap (λ p. get_or flight p 0) (omega arith)

    output_more : o ≡ output_in n (get_or flight (row + x) 0) → set outputs x o ≡ listed 32 (λ i. output_of (between 1 (x + 1) i) i)
    output_more read =
        rw (h.output, add-one x)
        (listed_set 32 _ x o small ∙ listed_ext 32 _ _ (λ i p. grown output_of x o (read ∙ ap (output_in n) cell) i))

    -- by pass one
    pub handed_first : o ≡ output_in n (get_or flight (row + x) 0) → by_first n (get_or flight (row + x) 0) ≡ true
        → PairsSoFar (x + 1) (set outputs x o) (bit_or word ((1 * 2 ^ x) % 2 ^ 32))
    handed_first read first =
        record {
          output = output_more read;
          first =
              rw (one_shl 32 x small, h.first, add-one x)
              (marked_set 32 _ x small ∙ marked_ext 32 _ _ (λ i p. grown first_of x true (sym first ∙ ap (by_first n) cell) i));
        }

    -- and otherwise
    pub handed_other : o ≡ output_in n (get_or flight (row + x) 0) → by_first n (get_or flight (row + x) 0) ≡ false → PairsSoFar (x + 1) (set outputs x o) word
    handed_other read first =
        record {
          output = output_more read;
          first = h.first ∙ rw (add-one x) (marked_ext 32 _ _ (λ i p. kept first_of x i (sym (ap (by_first n) cell) ∙ first)));
        }

  -- those of all inputs are the answer
  pub handed_all : (x word : ℕ) (outputs : List ℕ) → x ≡ n → PairsSoFar x outputs word
      → (outputs ≡ outputs_of (handed_out n flight s)) × (word ≡ pass_word_of (handed_out n flight s))
  unfolding handed_out outputs_of pass_word_of
  handed_all x word outputs e h = (rw (h.output, e), rw (h.first, e))
