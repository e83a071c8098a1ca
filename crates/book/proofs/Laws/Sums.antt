-- Laws of the sums of bookings over a line: as a sum over a range, and that none can wrap. Assumes nothing.
use mathlib.Core.Path.{◌≡◌, refl, sym, ◌∙◌, ap₂}
use Prim.Native.Nat.{ℕ, zero, suc, ◌+◌, ◌*◌, ◌^◌, ◌≤◌, ◌<◌}
use native.Mathlib.Omega.{arith}
use Rattle.wsgs.specs.declared.Clock.{Clock}
use Rattle.wsgs.specs.declared.Pair.{Pair}
use Rattle.wsgs.specs.Basics.{Port, sum}
use Rattle.wsgs.specs.Bookings.{Book, booking, bookings, row_sum, column_sum}
use Rattle.wsgs.proofs.Laws.Sums.{sum_last}
use Rattle.book.specs.declared.sums.Line.{Line}
use Rattle.book.specs.declared.sums.Line.TheVariants.{Row, Column}
use Rattle.book.specs.Lines.{pair_at, along, line_sum}

-- a sum with its next term
pub sum_more : (f : ℕ → ℕ) (k s v : ℕ) → s ≡ sum f k → v ≡ f (k + 1) → s + v ≡ sum f (k + 1)
sum_more f k s v e d = ap₂ ◌+◌ e d ∙ sym (sum_last f k (k + 1) (omega arith))

-- so a line's
module _ (n : ℕ) (a : ℕ → ℕ → ℕ) (p : Pair) where
  pub line_by_ports : (l : Line) → sum (along l a p) n ≡ line_sum l n a p
  unfolding row_sum column_sum
  line_by_ports Row = refl
  line_by_ports Column = refl

  -- a port's pair lies in the matrix
  pub ports_at : (l : Line) (k : ℕ) → Port n p.input.0 → Port n p.output.0 → Port n k → Port n (pair_at l p k).input.0 × Port n (pair_at l p k).output.0
  ports_at Row k i j h = (i, h)
  ports_at Column k i j h = (h, j)

-- none of them wraps
module _ (c : Clock) (m : Book) (few : c.ports ≤ 32) where
  abbrev present : ℕ → ℕ → ℕ
  present = bookings c.ports c.frame c.line m

  present_few : (x y : ℕ) → present x y ≤ 4294967295
  unfolding bookings booking
  present_few x y = omega arith

  sum_few : (f : ℕ → ℕ) → ((x : ℕ) → f x ≤ 4294967295) → (n : ℕ) → sum f n ≤ 4294967295 * n
  unfolding sum
  sum_few f h zero = omega arith
  sum_few f h (suc n) = omega (arith, sum_few f h n, h (suc n))

  pub line_small : (l : Line) (p : Pair) → line_sum l c.ports present p < 2 ^ 38
  unfolding row_sum column_sum
  line_small Row p = omega (arith, sum_few (λ y. present p.input.0 y) (λ y. present_few p.input.0 y) c.ports)
  line_small Column p = omega (arith, sum_few (λ x. present x p.output.0) (λ x. present_few x p.output.0) c.ports)
