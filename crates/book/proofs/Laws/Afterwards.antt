-- Laws of the bookings that would follow: one pair's, that no sum of at most 32 of them can wrap, and lists of the sums of rows and columns as a sweep over the
-- pairs fills them. Assumes nothing.
use mathlib.Core.Path.{◌≡◌, ◌∙◌, ap, ap₂}
use mathlib.Core.Bool.{Bool, true, false, ◌&&◌}
use mathlib.Core.List.{List, ◌++◌}
use Prim.Native.Nat.{ℕ, zero, suc, ◌+◌, ◌-◌, ◌*◌, ◌^◌, ◌≤◌, ◌<◌}
use native.Mathlib.Omega.{arith}
use native.Mathlib.Decide.{ℕ_discrete}
use lib.Dec.{eqb, eqb→eq}
use Rattle.std.proofs.lemmas.Bool.{and_parts}
use lib.ListN.{length, get_or, set, take, replicate, length-set, get_or-replicate}
use Rattle.std.proofs.lemmas.List.{get_or-take, length-take, length-append}
use Rattle.std.proofs.Math.ListN.{get_or-append}
use lib.Seq.{get_or-set_same, get_or-set_other}
use Rattle.wsgs.specs.declared.Pair.{Pair}
use Rattle.wsgs.specs.Basics.{pick, Port, sum}
use Rattle.wsgs.specs.Bookings.{booking, bookings, row_sum, column_sum}
use Rattle.wsgs.proofs.Laws.Sums.{sum_last}
use Rattle.book.specs.declared.afterwards.BookingRequest.{BookingRequest}
use Rattle.book.specs.Asked.{present}
use Rattle.book.specs.declared.all_sums.AllSums.{AllSums}
use Rattle.book.specs.Afterwards.{afterwards, RowSums, ColumnSums, Totals}

module _ (q : BookingRequest) where
  abbrev now : ℕ → ℕ → ℕ
  now = present q.asked

  abbrev a : ℕ → ℕ → ℕ
  a = afterwards q.asked q.more.0

  abbrev own : Pair
  own = q.asked.pair

  -- the pair of the request has more; any other has what it has
  pub asked_pair : (x y : ℕ) → (eqb x own.input.0 && eqb y own.output.0) ≡ true → now x y + q.more.0 ≡ a x y
  unfolding afterwards
  asked_pair x y e =
      let p = and_parts (eqb x own.input.0) (eqb y own.output.0) e in
      rw e (ap₂ (λ u w. now u w + q.more.0) (eqb→eq x own.input.0 (rw p.0 tt)) (eqb→eq y own.output.0 (rw p.1 tt)))

  pub other_pair : (x y : ℕ) → (eqb x own.input.0 && eqb y own.output.0) ≡ false → now x y ≡ a x y
  unfolding afterwards
  other_pair x y e = rw e

  -- each is below 2 ^ 33
  now_few : (x y : ℕ) → now x y ≤ 4294967295
  unfolding bookings booking
  now_few x y = omega arith

  pub after_few : (x y : ℕ) → a x y ≤ 8589934590
  unfolding afterwards
  after_few x y = go (eqb x own.input.0 && eqb y own.output.0) (now_few own.input.0 own.output.0) (now_few x y)
    where
      few : q.more.0 < 2 ^ 32
      few = q.more_fits

      go : (b : Bool) → now own.input.0 own.output.0 ≤ 4294967295 → now x y ≤ 4294967295
          → pick b (now own.input.0 own.output.0 + q.more.0) (now x y) ≤ 8589934590
      go true h k = omega arith
      go false h k = omega arith

  -- so a sum of n of them
  sum_few : (f : ℕ → ℕ) → ((x : ℕ) → f x ≤ 8589934590) → (n : ℕ) → sum f n ≤ 8589934590 * n
  unfolding sum
  sum_few f h zero = omega arith
  sum_few f h (suc n) = omega (arith, sum_few f h n, h (suc n))

  pub row_few : (n x : ℕ) → row_sum n a x ≤ 8589934590 * n
  unfolding row_sum
  row_few n x = sum_few (λ y. a x y) (λ y. after_few x y) n

  pub column_few : (n y : ℕ) → column_sum n a y ≤ 8589934590 * n
  unfolding column_sum
  column_few n y = sum_few (λ x. a x y) (λ x. after_few x y) n

-- the first n words of 32 zeros
pub none_long : (n : ℕ) → n ≤ 32 → length {A = ℕ} (take n (replicate 32 0)) ≡ n
none_long n h = omega (arith, length-take {A = ℕ} n (replicate 32 0))

-- A SWEEP over the bookings a of n ports
module _ (n : ℕ) (a : ℕ → ℕ → ℕ) where
  -- at its start no row's sum is known, and those of the columns are 0
  pub rows_begin : n ≤ 32 → RowSums n 0 a (take n (replicate 32 0))
  rows_begin h = record { long = omega (arith, none_long n h); at = λ k l. absurd (omega arith) }

  pub columns_begin : n ≤ 32 → ColumnSums n 0 a (replicate 32 0)
  unfolding column_sum sum
  columns_begin h = record { long = h; at = λ k l. get_or-replicate 32 k 0 0 (omega arith) }

  -- a row's sum is written down
  pub row_added : (i : ℕ) (sums : List ℕ) (v : ℕ) → i < n → RowSums n i a sums → v ≡ row_sum n a (i + 1) → RowSums n (i + 1) a (set sums i v)
  row_added i sums v l h e = record { long = simp length-set h.long; at = λ k p. go k p (ℕ_discrete k i) }
    where
      go : (k : ℕ) → k < i + 1 → Dec (k ≡ i) → get_or (set sums i v) k 0 ≡ row_sum n a (k + 1)
      go k p (yes z) = rw z (get_or-set_same sums i v 0 (omega (arith, h.long)) ∙ e)
      go k p (no z) = get_or-set_other sums i k v 0 z ∙ h.at k (omega arith)

  -- within row i: the columns before j have its booking, the others have not
  pub record InRow (i j : ℕ) (sums : List ℕ) : Type 0 where
    pub long : n ≤ length sums
    pub done : (k : ℕ) → k < j → get_or sums k 0 ≡ column_sum i a (k + 1)
    pub left : (k : ℕ) → j ≤ k → k < n → get_or sums k 0 ≡ column_sum (i - 1) a (k + 1)

  pub row_begins : (i : ℕ) (sums : List ℕ) → ColumnSums n (i - 1) a sums → InRow i 0 (take n sums)
  row_begins i sums h =
      record {
        long = omega (arith, length-take n sums, h.long);
        done = λ k l. absurd (omega arith);
        left = λ k l p. get_or-take n sums k 0 p ∙ h.at k p;
      }

  -- what stands past the n words of a sweep is no matter
  pub row_ends : (i : ℕ) (sums rest : List ℕ) → InRow i n sums → ColumnSums n i a (sums ++ rest)
  row_ends i sums rest h =
      record {
        long = omega (arith, length-append sums rest, h.long);
        at = λ k l. get_or-append sums rest 0 k (omega (arith, h.long)) ∙ h.done k l;
      }

  -- one more row in a column's sum
  column_more : (i y : ℕ) → 1 ≤ i → column_sum i a y ≡ column_sum (i - 1) a y + a i y
  unfolding column_sum
  column_more i y p = sum_last (λ x. a x y) (i - 1) i (omega arith)

  -- a booking is added to its column
  pub column_added : (i j : ℕ) (sums : List ℕ) (v : ℕ) → 1 ≤ i → j < n → InRow i j sums → v ≡ a i (j + 1)
      → InRow i (j + 1) (set sums j (get_or sums j 0 + v))
  column_added i j sums v p b h e =
      record {
        long = simp length-set h.long;
        done = λ k q. done k q (ℕ_discrete k j);
        left = λ k q r. get_or-set_other sums j k _ 0 (omega arith) ∙ h.left k (omega arith) r;
      }
    where
      done : (k : ℕ) → k < j + 1 → Dec (k ≡ j) → get_or (set sums j (get_or sums j 0 + v)) k 0 ≡ column_sum i a (k + 1)
      done k q (yes z) =
          rw z
          (get_or-set_same sums j _ 0 (omega (arith, h.long)) ∙ omega (arith, e, h.left j (omega arith) b, column_more i (j + 1) p))
      done k q (no z) = get_or-set_other sums j k _ 0 z ∙ h.done k (omega arith)

  -- at its end: the sums of a port's row, and of its column
  pub row_at : (x : ℕ) (sums : List ℕ) → Port n x → RowSums n n a sums → get_or sums (x - 1) 0 ≡ row_sum n a x
  row_at x sums p h =
      let e : x - 1 + 1 ≡ x = omega arith in
      h.at (x - 1) (omega arith) ∙ ap (row_sum n a) e

  pub column_at : (y : ℕ) (sums : List ℕ) → Port n y → ColumnSums n n a sums → get_or sums (y - 1) 0 ≡ column_sum n a y
  column_at y sums p h =
      let e : y - 1 + 1 ≡ y = omega arith in
      h.at (y - 1) (omega arith) ∙ ap (column_sum n a) e

-- the sums of a port's row and column as the sweep has them are small
module _ (q : BookingRequest) (t : AllSums) (h : Totals q.asked q.more.0 t) where
  pub row_small : (x : ℕ) → Port q.asked.clock.ports x → get_or t.rows (x - 1) 0 < 2 ^ 38
  row_small x p = omega (arith, row_at q.asked.clock.ports (afterwards q.asked q.more.0) x t.rows p h.rows, row_few q q.asked.clock.ports x, q.asked.reached.ports)

  pub column_small : (y : ℕ) → Port q.asked.clock.ports y → get_or t.columns (y - 1) 0 < 2 ^ 38
  column_small y p = omega (arith, column_at q.asked.clock.ports (afterwards q.asked q.more.0) y t.columns p h.columns, column_few q q.asked.clock.ports y, q.asked.reached.ports)
