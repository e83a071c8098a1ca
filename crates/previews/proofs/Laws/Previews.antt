-- Laws of previews: under which numbers the sums are shown, what has been asked there, and the sums with another booking of the pair. Assumes nothing.
use mathlib.Core.Path.{◌≡◌, refl, sym, ◌∙◌, ap, ap₂, subst}
use mathlib.Core.Bool.{true, false, false≢true}
use mathlib.Core.Logic.{◌≢◌, ◌⊎◌, inl, inr, ⊎_elim}
use Prim.Native.Nat.{ℕ, ◌+◌, ◌-◌, ◌≤◌, ◌<◌}
use native.Mathlib.Omega.{arith}
use borrow.Author.Rules.{rules}
use native.Mathlib.Decide.{ℕ_discrete}
use borrow.Author.Tests.{ne_eqb}
use Rattle.std.proofs.Math.Facts.{and_yes}
use Rattle.wsgs.specs.declared.Clock.{Clock}
use Rattle.wsgs.specs.Basics.{between, Port, updated₂}
use Rattle.wsgs.specs.Words.{word}
use Rattle.wsgs.specs.Bookings.{Book, booking, bookings, row_sum, column_sum}
use Rattle.wsgs.specs.Questions.{slots_in_range, rate_in_range, holds_book}
use Rattle.wsgs.specs.Book.{on_rule, book_refusal, rise, rate_refusal, release_refusal, release_rate_refusal}
use Rattle.wsgs.specs.Preview.{refused_by_rule, preview_of, preview, operation_effect}
use Rattle.wsgs.specs.Claims.{Reached, RefusedByRule}
use Rattle.wsgs.proofs.Laws.Tests.{in_range}
use Rattle.wsgs.proofs.Laws.Sums.{row_changed, column_changed}
use Rattle.wsgs.proofs.Refusals.{amount_passed, release_asked, release_never, release_rate_asked, release_rate_never}
use Rattle.wsgs.proofs.Headroom.{own_in_row, own_in_column}
use Rattle.wsgs.proofs.Preview.{not_by_rule, with_booking, book_shows, rate_shows, release_shows, release_rate_shows}
use Rattle.book.specs.declared.pair_sums.PairSums.{PairSums}
use Rattle.book.specs.declared.operations.BookOperation.{BookOperation}
use Rattle.book.specs.declared.operations.BookOperation.TheVariants as Asked
use Rattle.book.specs.PairSums.{present_sums}
use Rattle.book.specs.Operations.{operation_told, amount_told, operation_refusal}
use Rattle.book.proofs.Laws.Amounts.{rises_by}
use Rattle.std.specs.Prelude.{Result, Ok, Err, IsOk, IfOk}
use Rattle.wsgs.specs.declared.Refused.{Refused}
use Rattle.wsgs.specs.Told.{refusal_number}
use Rattle.wsgs.specs.Headroom.{headroom_refusal}
use Rattle.wsgs.proofs.Refusals.{headroom_asks}
use Rattle.questions.specs.Refusals.{pair_refusal}
use Rattle.questions.proofs.Laws.Answers.{number_some}
use Rattle.previews.specs.Shown.{shows_sums, booking_after, AmountFits}

-- under which they are
abbrev pub Shown : ℕ → Type 0
Shown r = (r ≡ 0) ⊎ RefusedByRule r

pub sums_shown : (r : ℕ) → shows_sums r ≡ true → Shown r
unfolding shows_sums
sums_shown r e = go (ℕ_discrete r 0) (ℕ_discrete r 8) (ℕ_discrete r 9) (ℕ_discrete r 15)
  where
    -- any other number
    other : r ≢ 0 → r ≢ 8 → r ≢ 9 → r ≢ 15 → ⊥
    other h₀ h₈ h₉ h₁₅ =
        let u : refused_by_rule r ≡ true = rw (ne_eqb r 0 h₀) at e in
        false≢true (sym (not_by_rule r (λ k. ⊎_elim h₈ (⊎_elim h₉ h₁₅) k)) ∙ u)

    go : Dec (r ≡ 0) → Dec (r ≡ 8) → Dec (r ≡ 9) → Dec (r ≡ 15) → Shown r
    go (yes z) _ _ _ = inl z
    go (no h₀) (yes z) _ _ = inr (inl z)
    go (no h₀) (no h₈) (yes z) _ = inr (inr (inl z))
    go (no h₀) (no h₈) (no h₉) (yes z) = inr (inr (inr z))
    go (no h₀) (no h₈) (no h₉) (no h₁₅) = absurd (other h₀ h₈ h₉ h₁₅)

-- and under which they are not
pub sums_hidden : (r : ℕ) → shows_sums r ≡ false → (r ≢ 0) × (RefusedByRule r → ⊥)
unfolding shows_sums
sums_hidden r e = (λ z. absurd (false≢true (sym (rw z at e))), by_rule)
  where
    by_rule : RefusedByRule r → ⊥
    by_rule (inl z) = false≢true (sym (rw z at e))
    by_rule (inr (inl z)) = false≢true (sym (rw z at e))
    by_rule (inr (inr z)) = false≢true (sym (rw z at e))

-- a number that is not the rule's shows them where it is 0 alone
pub shown_none : (r : ℕ) → (RefusedByRule r → ⊥) → Shown r → r ≡ 0
shown_none r h (inl e) = e
shown_none r h (inr k) = absurd (h k)

-- these numbers are 0, or come after those of the questions on pair and amount
after_amount : (r : ℕ) → Shown r → (r ≡ 0) ⊎ (6 < r)
after_amount r (inl e) = inl e
after_amount r (inr (inl e)) = inr (omega arith)
after_amount r (inr (inr (inl e))) = inr (omega arith)
after_amount r (inr (inr (inr e))) = inr (omega arith)

module _ (c : Clock) (m : Book) (i j d r : ℕ) where
  -- so a booking that they are shown of has passed these, by slots
  pub book_reached : r ≡ book_refusal c m i j d → Shown r → Reached c (holds_book c.ports m) i j × (d ≤ c.frame)
  unfolding book_refusal
  book_reached e h =
      let y = amount_passed c (holds_book c.ports m) i j (slots_in_range c.frame d) (on_rule c m i j d) r (omega arith) e (after_amount r h) in
      (y.0, (in_range 1 c.frame d y.1).1)

  -- and by rate
  pub rate_reached : r ≡ rate_refusal c m i j d → Shown r → Reached c (holds_book c.ports m) i j × (d ≤ 100000000)
  unfolding rate_refusal
  rate_reached e h =
      let y = amount_passed c (holds_book c.ports m) i j (rate_in_range c.line d) (on_rule c m i j (rise c m i j d)) r (omega arith) e (after_amount r h) in
      let p = and_yes (between 1 100000000 c.line) (between 1 c.line d) y.1 in
      (y.0, omega (arith, in_range 1 100000000 c.line p.0, in_range 1 c.line d p.1))

-- the sums in which the pair has v in place of its own
module _ (n : ℕ) (a : ℕ → ℕ → ℕ) (i j v own : ℕ) (e : own ≡ a i j) where
  row_with : (row : ℕ) → Port n j → row ≡ row_sum n a i → row - own + v ≡ row_sum n (updated₂ a i j v) i
  unfolding row_sum
  row_with row p h = omega (arith, e, h, own_in_row n a i j p, row_changed n a i j v p)

  column_with : (column : ℕ) → Port n i → column ≡ column_sum n a j → column - own + v ≡ column_sum n (updated₂ a i j v) j
  unfolding column_sum
  column_with column p h = omega (arith, e, h, own_in_column n a i j p, column_changed n a i j v p)

-- so it is with what the book holds for a pair in reach
module _ (c : Clock) (m : Book) (i j : ℕ) (r : Reached c (holds_book c.ports m) i j) (p : PairSums) (e : p ≡ present_sums c m i j) where
  abbrev a : ℕ → ℕ → ℕ
  a = bookings c.ports c.frame c.line m

  -- the pair's own booking is a term of both sums
  pub own_in_both : (p.booking ≤ p.row) × (p.booking ≤ p.column)
  own_in_both = rw e (own_in_row c.ports a i j r.output, own_in_column c.ports a i j r.input)

  pub sums_with : (q v : ℕ) → preview_of q (p.row - p.booking + v) (p.column - p.booking + v) ≡ with_booking c m i j q v
  sums_with q v =
      ap₂ (preview_of q)
      (row_with c.ports a i j v _ (ap (λ x. x.booking) e) _ r.output (ap (λ x. x.row) e))
      (column_with c.ports a i j v _ (ap (λ x. x.booking) e) _ r.input (ap (λ x. x.column) e))

-- AN OPERATION whose sums are shown
module _ (c : Clock) (m : Book) (i j r : ℕ) (h : Shown r) where
  -- a release is accepted then
  released : (d : ℕ) → r ≡ release_refusal c m i j d → r ≡ 0
  released d e = shown_none r (λ k. release_never c m i j d (subst RefusedByRule e k)) h

  rate_released : (d : ℕ) → r ≡ release_rate_refusal c m i j d → r ≡ 0
  rate_released d e = shown_none r (λ k. release_rate_never c m i j d (subst RefusedByRule e k)) h

  -- the pair has passed, and its amount
  pub operation_reached : (o : BookOperation) → r ≡ operation_refusal o c m i j → Reached c (holds_book c.ports m) i j × AmountFits o (present_sums c m i j)
  operation_reached (Asked.Book d) e = let y = book_reached c m i j d.0 r e h in (y.0, omega (arith, y.1, y.0.frame))
  operation_reached (Asked.BookRate v) e = rate_reached c m i j v r e h
  operation_reached (Asked.Release d) e = release_asked c m i j d.0 (sym e ∙ released d.0 e)
  operation_reached (Asked.ReleaseRate v) e = release_rate_asked c m i j v (sym e ∙ rate_released v e)

  -- and the sums are those with the booking that follows
  pub operation_shows : (o : BookOperation) → r ≡ operation_refusal o c m i j
      → with_booking c m i j r (booking_after o c (present_sums c m i j)) ≡ preview (operation_told o) c m i j (amount_told o)
  operation_shows o e = shows o e (operation_reached o e).0
    where
      shows : (o : BookOperation) → r ≡ operation_refusal o c m i j → Reached c (holds_book c.ports m) i j
          → with_booking c m i j r (booking_after o c (present_sums c m i j)) ≡ preview (operation_told o) c m i j (amount_told o)
      shows (Asked.Book d) e q = book_shows c m i j q.input q.output d.0 r e h
      shows (Asked.BookRate v) e q =
          ap (λ s. with_booking c m i j r (bookings c.ports c.frame c.line m i j + s)) (rises_by c m i j v _ _ _ q.frame.1 refl refl refl)
          ∙ rate_shows c m i j q.input q.output v r e h
      shows (Asked.Release d) e q = ap (λ n. with_booking c m i j n (booking c.frame c.line (word c.ports m.slots i j - d.0) (word c.ports m.rates i j))) (released d.0 e)
          ∙ release_shows c m i j q.input q.output d.0 (sym (released d.0 e) ∙ e)
      shows (Asked.ReleaseRate v) e q = ap (λ n. with_booking c m i j n (booking c.frame c.line (word c.ports m.slots i j) (word c.ports m.rates i j - v))) (rate_released v e)
          ∙ release_rate_shows c m i j q.input q.output v (sym (rate_released v e) ∙ e)

-- its answer is the definitions'
pub operation_answers : (o : BookOperation) (c : Clock) (m : Book) (i j : ℕ)
    → operation_refusal o c m i j ≡ (operation_effect (operation_told o) c m i j (amount_told o)).answer
unfolding operation_effect
operation_answers (Asked.Book d) c m i j = refl
operation_answers (Asked.BookRate r) c m i j = refl
operation_answers (Asked.Release d) c m i j = refl
operation_answers (Asked.ReleaseRate r) c m i j = refl

-- a pair in reach is given its sums
pub pair_given : (c : Clock) (m : Book) (i j : ℕ) (r : Result PairSums Refused) → refusal_number r ≡ pair_refusal c (holds_book c.ports m) i j
    → Reached c (holds_book c.ports m) i j → IsOk r
unfolding pair_refusal headroom_refusal
pair_given c m i j (Ok p) e h = search rules
pair_given c m i j (Err d) e h = absurd (number_some d (e ∙ (headroom_asks c m i j).1 h))

-- they are those of the book
pub pair_sums_are : (r : Result PairSums Refused) (p s : PairSums) → r ≡ Ok p → IfOk r (λ x. x ≡ s) → p ≡ s
pair_sums_are r p s e h = rw e at h

-- an amount fits what is held
pub amount_fits_held : (o : BookOperation) (p s : PairSums) → p ≡ s → AmountFits o s → AmountFits o p
amount_fits_held o p s e h = rw e h
