-- Laws of headroom: what the frame has to hold, and what the call gives back, by where it ends. Assumes nothing.
use mathlib.Core.Path.{◌≡◌, sym, ap}
use mathlib.Core.Logic.{◌≢◌}
use Prim.Native.Nat.{ℕ, ◌+◌, ◌-◌}
use lib.IntN.{ℤ, pos, ◌-ℤ◌}
use borrow.Author.Tests.{ne_eqb}
use Rattle.wsgs.specs.declared.Clock.{Clock}
use Rattle.wsgs.specs.Basics.{Port}
use Rattle.wsgs.specs.Bookings.{Book, bookings, row_sum, column_sum}
use Rattle.wsgs.specs.Questions.{holds_book}
use Rattle.wsgs.specs.Headroom.{HeadroomResult, pair_headroom, headroom_refusal, headroom_result}
use Rattle.wsgs.proofs.Headroom.{one_difference}
use Rattle.questions.specs.Refusals.{pair_refusal}
use Rattle.std.specs.Prelude.{Result, Ok, Err}
use Rattle.std.specs.Result.{IsErrAnd}
use Rattle.wsgs.specs.declared.Refused.{Refused}
use Rattle.wsgs.specs.Told.{number, headroom_told}

module _ (c : Clock) (m : Book) (i j : ℕ) where
  abbrev n : ℕ
  n = c.ports

  abbrev a : ℕ → ℕ → ℕ
  a = bookings n c.frame c.line m

  -- from the row's sum, the column's, and the pair's own booking
  pub headroom_left : (row column own : ℕ) → Port n j → row ≡ row_sum n a i → column ≡ column_sum n a j → own ≡ a i j
      → pos c.frame -ℤ pos (row + column - own) ≡ pair_headroom c m i j
  unfolding pair_headroom
  headroom_left row column own p e₁ e₂ e₃ = rw (e₁, e₂, e₃) (sym (one_difference n c.frame a i j p))

  -- what the call gives back
  abbrev result : ℕ → ℤ → HeadroomResult
  result r z = record { refusal = r; headroom = z }

  -- beside a refusal
  pub headroom_refused : (r : ℕ) → r ≡ pair_refusal c (holds_book n m) i j → r ≢ 0 → result r (pos 0) ≡ headroom_result c m i j
  unfolding headroom_result headroom_refusal pair_refusal
  headroom_refused r e h = rw (sym e, ne_eqb r 0 h)

  -- and where there is none
  pub headroom_given : (z : ℤ) → 0 ≡ pair_refusal c (holds_book n m) i j → z ≡ pair_headroom c m i j → result 0 z ≡ headroom_result c m i j
  unfolding headroom_result headroom_refusal pair_refusal
  headroom_given z e h = rw (sym e) (ap (result 0) h)

-- a refusal that `?` hands on
pub headroom_handed_on : (r : Result ℤ Refused) (e : Refused) → IsErrAnd r (λ d. d ≡ e) → headroom_told r ≡ record { refusal = number e; headroom = pos 0 }
headroom_handed_on (Ok z) e h = absurd h
headroom_handed_on (Err d) e h = ap (λ x. record { refusal = number x; headroom = pos 0 }) h
