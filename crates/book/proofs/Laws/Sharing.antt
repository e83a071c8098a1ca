-- Laws of the book's rule: the test of a pair, the tests of a row or a column, what question 15 makes of them, and which questions the clock picks.
-- Assumes nothing.
use mathlib.Core.Path.{◌≡◌, refl, sym, ◌∙◌}
use mathlib.Core.Bool.{Bool, true, false, ◌&&◌}
use mathlib.Core.List.{[], ◌∷◌}
use mathlib.Core.Path.{ap}
use Prim.Native.Nat.{ℕ, zero, suc, ◌+◌, ◌-◌, ◌≤◌}
use native.Mathlib.Numerals.{add-one}
use native.Mathlib.Omega.{arith}
use native.Mathlib.Decide.{dec_le}
use lib.Dec.{T, leb}
use borrow.Author.Tests.{eq-eqb, ne_eqb, le-leb, lt-leb}
use Rattle.wsgs.specs.declared.Clock.{Clock}
use Rattle.wsgs.specs.Basics.{Port, pick, all_of}
use Rattle.wsgs.specs.Bookings.{Book, row_sum, column_sum}
use Rattle.wsgs.specs.Rule.{pair_fits, booked_fits, sharing_fit}
use Rattle.wsgs.proofs.Laws.Rule.{every_at}
use Rattle.std.specs.List.{list_all, range_with_len}
use Rattle.std.proofs.Common.{map}
use Rattle.std.proofs.lemmas.List.Folds.{list_all-map, list_all-append}
use Rattle.std.proofs.lemmas.List.FromFn.{map-range_with_len_more}
use Rattle.wsgs.specs.Told.{book_lent}
use Rattle.book.specs.declared.sums.Line.{Line}
use Rattle.book.specs.declared.sums.Line.TheVariants.{Row, Column}
use Rattle.book.specs.declared.asked.AskedPair.{AskedPair}
use Rattle.book.specs.Afterwards.{afterwards, fits_along}
use Rattle.book.specs.Refusals.{sums_refusal, pairs_refusal, rule_refusal}

-- a pair without a booking
pub unbooked_fits : (f own row column : ℕ) → own ≡ 0 → true ≡ pair_fits f own row column
unbooked_fits f own row column e = rw (eq-eqb own 0 e)

-- one with a booking, tested without a difference
pub booked_is : (f own row column : ℕ) → (own ≡ 0 → ⊥) → leb (row + column) (f + own) ≡ pair_fits f own row column
booked_is f own row column h = rw (ne_eqb own 0 h) (go (dec_le (row + column) (f + own)))
  where
    go : Dec (row + column ≤ f + own) → leb (row + column) (f + own) ≡ leb (row + column - own) f
    go (yes l) = le-leb _ _ l ∙ sym (le-leb (row + column - own) f (omega arith))
    go (no l) = lt-leb (row + column) (f + own) (omega arith) ∙ sym (lt-leb (row + column - own) f (omega arith))

-- the test of a pair, from its booking and its sums
pub fits_from : (n f : ℕ) (a : ℕ → ℕ → ℕ) (x y own row column : ℕ) → own ≡ a x y → row ≡ row_sum n a x → column ≡ column_sum n a y
    → pair_fits f own row column ≡ booked_fits n f a x y
unfolding booked_fits
fits_from n f a x y own row column e₁ e₂ e₃ = rw (e₁, e₂, e₃)

-- ALL OF A ROW, or of a column
module _ (p : ℕ → Bool) where
  pub all_none : true ≡ all_of p 0
  unfolding all_of
  all_none = refl

  pub all_more : (k : ℕ) → true ≡ all_of p k → p (k + 1) ≡ true → true ≡ all_of p (k + 1)
  unfolding all_of
  all_more k e h = let u : p (suc k) ≡ true = rw (add-one k) at h in rw (add-one k) (rw u e)

  pub one_not : (n x : ℕ) → Port n x → p x ≡ false → false ≡ all_of p n
  one_not n x q h = go (all_of p n) (λ t. every_at p n x t q)
    where
      go : (b : Bool) → (T b → T (p x)) → false ≡ b
      go true k = absurd (rw h at (k tt))
      go false k = refl

-- ALL OF A LINE, by the port
pub all_by_ports : (p : ℕ → Bool) (n : ℕ) → list_all p (range_with_len 1 n) ≡ all_of p n
unfolding all_of
all_by_ports p zero = refl
all_by_ports p (suc n) =
    let more : suc n ≡ n + 1 = omega arith in
    sym (list_all-map p (λ x. x) (range_with_len 1 (suc n)))
    ∙ ap (λ (k : ℕ). list_all p (map (λ x. x) (range_with_len 1 k))) more
    ∙ ap (list_all p) (map-range_with_len_more (λ x. x) 1 n (suc n) (omega arith))
    ∙ list_all-append p (map (λ x. x) (range_with_len 1 n)) (suc n ∷ [])
    ∙ turned (list_all p (map (λ x. x) (range_with_len 1 n))) (p (suc n))
    ∙ ap (λ b. p (suc n) && b) (list_all-map p (λ x. x) (range_with_len 1 n) ∙ all_by_ports p n)
  where
    turned : (a b : Bool) → (a && (b && true)) ≡ (b && a)
    turned true true = refl
    turned true false = refl
    turned false true = refl
    turned false false = refl

-- QUESTION 15
module _ (p : AskedPair) (more : ℕ) where
  abbrev fit : Line → Bool
  fit l = list_all (fits_along l p more) (range_with_len 1 p.clock.ports)

  abbrev refusal : ℕ
  refusal = pairs_refusal p.clock (book_lent p.runs) p.pair.input.0 p.pair.output.0 more

  both_asked : pick (fit Row && fit Column) 0 15 ≡ refusal
  unfolding pairs_refusal sharing_fit afterwards fits_along
  both_asked = rw (all_by_ports (fits_along Row p more) p.clock.ports, all_by_ports (fits_along Column p more) p.clock.ports) refl

  pub row_unfit : fit Row ≡ false → 15 ≡ refusal
  row_unfit e = rw e at both_asked

  pub column_unfit : fit Row ≡ true → fit Column ≡ false → 15 ≡ refusal
  column_unfit e d = rw (e, d) at both_asked

  pub both_fit : fit Row ≡ true → fit Column ≡ true → 0 ≡ refusal
  both_fit e d = rw (e, d) at both_asked

-- THE RULE as the clock tells the kind of the book
module _ (c : Clock) (m : Book) (i j d : ℕ) where
  pub plain_rule : c.fine ≡ 0 → sums_refusal c m i j d ≡ rule_refusal c m i j d
  unfolding sums_refusal rule_refusal
  plain_rule e = rw (eq-eqb c.fine 0 e)

  pub fine_rule : (c.fine ≡ 0 → ⊥) → pairs_refusal c m i j d ≡ rule_refusal c m i j d
  unfolding pairs_refusal rule_refusal
  fine_rule h = rw (ne_eqb c.fine 0 h)
