-- Preview. It is the operation done on a copy, so with no call between, the operation gets the number that its preview has told. The sums that it
-- shows are those of the present bookings with another one for the pair: raised by what a booking counts as, or that of what a release leaves.
-- Assumes nothing.
use mathlib.Core.Path.{◌≡◌, refl, sym, ◌∙◌, ap, ap₂}
use mathlib.Core.Bool.{false}
use mathlib.Core.Logic.{◌≢◌, ◌⊎◌, inl, inr}
use Prim.Native.Nat.{ℕ, ◌+◌, ◌-◌}
use native.Mathlib.Omega.{arith}
use borrow.Author.Tests.{ne_eqb}
use Rattle.std.proofs.lemmas.Bool.Decides.{nat_tests}
use Rattle.wsgs.specs.declared.Clock.{Clock}
use Rattle.wsgs.specs.Basics.{pick, Port, updated₂}
use Rattle.wsgs.specs.Words.{word}
use Rattle.wsgs.specs.Bookings.{Book, booking, bookings, row_sum, column_sum}
use Rattle.wsgs.specs.Questions.{Effect}
use Rattle.wsgs.specs.Book.{book_refusal, rise, rate_refusal, release_refusal, release_rate_refusal}
use Rattle.wsgs.specs.Preview.{BookOperation, PreviewResult, slots_booking, rate_booking, slots_release, rate_release, operation_effect, counts_as, refused_by_rule, shown, preview_of}
use Rattle.wsgs.specs.Preview as Previews
use Rattle.wsgs.specs.Switch.{Switch, call_of, apply, of_book}
use Rattle.wsgs.specs.Claims.{RefusedByRule, PreviewIsOnCopy, PreviewHolds}
use Rattle.wsgs.proofs.Laws.Sums.{sum_ext, row_changed, column_changed}
use Rattle.wsgs.proofs.Rises.{slots_raise, rate_raises, slots_lower, rate_lowers}

-- the call of an operation does it on the switch's book
operated : (o : BookOperation) (s : Switch) (i j d : ℕ) → apply (call_of o i j d) s ≡ of_book s (operation_effect o s.clock s.book i j d)
unfolding apply operation_effect
operated slots_booking s i j d = refl
operated rate_booking s i j r = refl
operated slots_release s i j d = refl
operated rate_release s i j r = refl

-- which sum is shown
shows_asked : (r x y : ℕ) → RefusedByRule r → shown r x y ≡ y
unfolding shown
shows_asked r x y (inl e) = rw e
shows_asked r x y (inr (inl e)) = rw e
shows_asked r x y (inr (inr e)) = rw e

-- the test of the numbers fails for any other
pub not_by_rule : (r : ℕ) → (RefusedByRule r → ⊥) → refused_by_rule r ≡ false
not_by_rule r h = grind (arith, nat_tests)

hides : (r x y : ℕ) → r ≢ 0 → (RefusedByRule r → ⊥) → shown r x y ≡ 0
unfolding shown
hides r x y e₀ e = rw (ne_eqb r 0 e₀) (ap (λ b. pick b y 0) (not_by_rule r e))

-- ON A COPY
pub on_copy : PreviewIsOnCopy
unfolding Previews.preview shown
on_copy o s i j d =
    rw (operated o s i j d)
    (record {
      refusal = refl;
      accepted = λ e. (rw e, rw e);
      asked_about = λ e. (shows_asked _ _ _ e, shows_asked _ _ _ e);
      hidden = λ e₀ e. (hides _ _ _ e₀ e, hides _ _ _ e₀ e);
    })

-- A YES HOLDS, and so does any other number
pub told_holds : PreviewHolds
unfolding apply Previews.preview
told_holds o s i j d = rw (operated o s i j d)

-- and no sum under any number but 0 and those of the book's rule
pub none_shown : (o : BookOperation) (c : Clock) (m : Book) (i j d r : ℕ) → r ≡ (operation_effect o c m i j d).answer → r ≢ 0 → (RefusedByRule r → ⊥)
    → preview_of r 0 0 ≡ Previews.preview o c m i j d
unfolding Previews.preview
none_shown o c m i j d r e e₀ e₁ = rw (sym e) (ap₂ (preview_of r) (sym (hides r _ _ e₀ e₁)) (sym (hides r _ _ e₀ e₁)))

-- THE SUMS SHOWN are those of the present bookings with another one, v, for the pair
module _ (c : Clock) (m : Book) (i j : ℕ) where
  abbrev n : ℕ
  n = c.ports

  abbrev pub present : ℕ → ℕ → ℕ
  present = bookings n c.frame c.line m

  abbrev pub with_booking : (r v : ℕ) → PreviewResult
  with_booking r v = preview_of r (row_sum n (updated₂ present i j v) i) (column_sum n (updated₂ present i j v) j)

  module _ (pi : Port n i) (pj : Port n j) where
    -- a pair's booking raised by d raises both sums by d
    row_raised : (d : ℕ) → row_sum n (updated₂ present i j (present i j + d)) i ≡ row_sum n present i + d
    unfolding row_sum
    row_raised d = omega (arith, row_changed n present i j (present i j + d) pj)

    column_raised : (d : ℕ) → column_sum n (updated₂ present i j (present i j + d)) j ≡ column_sum n present j + d
    unfolding column_sum
    column_raised d = omega (arith, column_changed n present i j (present i j + d) pi)

    module _ (o : BookOperation) (d : ℕ) where
      abbrev copy : Effect ℕ Book
      copy = operation_effect o c m i j d

      -- an accepted operation, which leaves the pair v
      shows_left : (v : ℕ) → 0 ≡ copy.answer
          → ((x y : ℕ) → Port n x → Port n y → bookings n c.frame c.line copy.words x y ≡ updated₂ present i j v x y)
          → with_booking 0 v ≡ Previews.preview o c m i j d
      unfolding Previews.preview row_sum column_sum
      shows_left v e h =
          rw (sym e)
          (ap₂ (preview_of 0) (sum_ext _ _ n (λ y p. sym (h i y pi p))) (sum_ext _ _ n (λ x p. sym (h x j p pj))))

      -- one that the book's rule refuses
      shows_sought : (r : ℕ) → r ≡ copy.answer → RefusedByRule r
          → with_booking r (present i j + counts_as o c m i j d) ≡ Previews.preview o c m i j d
      unfolding Previews.preview
      shows_sought r e h = grind (arith, nat_tests, row_raised, shows_asked, column_raised)

    -- so it is with a booking by slots
    pub book_shows : (d r : ℕ) → r ≡ book_refusal c m i j d → (r ≡ 0) ⊎ RefusedByRule r
        → with_booking r (present i j + d) ≡ Previews.preview slots_booking c m i j d
    unfolding operation_effect counts_as
    book_shows d r e (inl z) = rw z (shows_left slots_booking d _ (sym z ∙ e) (slots_raise c m i j d (sym e ∙ z)))
    book_shows d r e (inr h) = shows_sought slots_booking d r e h

    -- by rate
    pub rate_shows : (v r : ℕ) → r ≡ rate_refusal c m i j v → (r ≡ 0) ⊎ RefusedByRule r
        → with_booking r (present i j + rise c m i j v) ≡ Previews.preview rate_booking c m i j v
    unfolding operation_effect counts_as
    rate_shows v r e (inl z) = rw z (shows_left rate_booking v _ (sym z ∙ e) (rate_raises c m i j v (sym e ∙ z)))
    rate_shows v r e (inr h) = shows_sought rate_booking v r e h

    -- an accepted booking too shows the present sums with what it counts as
    pub book_adds : (d : ℕ) → book_refusal c m i j d ≡ 0
        → let p = Previews.preview slots_booking c m i j d in (p.row ≡ row_sum n present i + d) × (p.column ≡ column_sum n present j + d)
    book_adds d e =
        let p = sym (book_shows d 0 (sym e) (inl refl)) in
        (ap (λ q. q.row) p ∙ row_raised d, ap (λ q. q.column) p ∙ column_raised d)

    pub rate_adds : (v : ℕ) → rate_refusal c m i j v ≡ 0
        → let p = Previews.preview rate_booking c m i j v in
        (p.row ≡ row_sum n present i + rise c m i j v) × (p.column ≡ column_sum n present j + rise c m i j v)
    rate_adds v e =
        let p = sym (rate_shows v 0 (sym e) (inl refl)) in
        (ap (λ q. q.row) p ∙ row_raised (rise c m i j v), ap (λ q. q.column) p ∙ column_raised (rise c m i j v))

    -- with a release of slots
    pub release_shows : (d : ℕ) → 0 ≡ release_refusal c m i j d
        → with_booking 0 (booking c.frame c.line (word n m.slots i j - d) (word n m.rates i j)) ≡ Previews.preview slots_release c m i j d
    unfolding operation_effect
    release_shows d e = shows_left slots_release d _ e (slots_lower c m i j d (sym e))

    -- and of a rate
    pub release_rate_shows : (v : ℕ) → 0 ≡ release_rate_refusal c m i j v
        → with_booking 0 (booking c.frame c.line (word n m.slots i j) (word n m.rates i j - v)) ≡ Previews.preview rate_release c m i j v
    unfolding operation_effect
    release_rate_shows v e = shows_left rate_release v _ e (rate_lowers c m i j v (sym e))
