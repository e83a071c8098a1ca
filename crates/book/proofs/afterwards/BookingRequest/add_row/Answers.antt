-- `BookingRequest::add_row` meets its contract. Assumes nothing.
use mathlib.Core.Path.{◌≡◌, refl, ◌∙◌, ap}
use Prim.Native.Nat.{◌+◌, ◌-◌, ◌^◌, ◌<◌}
use native.Mathlib.Omega.{arith}
use lib.ListN.{get_or, length-set}
use Rattle.wsgs.specs.Basics.{sum}
use Rattle.wsgs.specs.Bookings.{row_sum}
use Rattle.book.specs.Afterwards.{afterwards}
use Rattle.book.proofs.Laws.Sums.{sum_more}
use Rattle.book.proofs.Laws.Afterwards.{row_begins, row_ends, column_added, column_few}
use Rattle.book.proofs.afterwards.BookingRequest.add_row.Goals as goal

pub loop-at-init : goal.loop-at-init
unfolding sum
loop-at-init c =
    (omega arith, omega (arith, c.requires.columns_before.long), refl, omega arith, row_begins _ _ _ _ c.requires.columns_before)

pub overflow_add-column : goal.overflow_add-column
overflow_add-column c =
    let e = c.loop-at.invariant.4.left c.loop-at.at (omega arith) (omega arith) in
    let f = column_few c.args.self (c.args.input.0 - 1) (c.loop-at.at + 1) in
    let h : get_or c.loop-at.column-items c.loop-at.at 0 + c.booked-own.result.0 < 2 ^ 64 =
    omega (arith, e, f, c.booked-own.ensures.fits, c.requires.input_in_range, c.args.self.asked.reached.ports.1) in
    record { fits = h }

pub loop-at-preserved : goal.loop-at-preserved
loop-at-preserved c = (
  omega arith,
  simp length-set c.loop-at.invariant.1,
  sum_more (λ y. afterwards c.args.self.asked c.args.self.more.0 c.args.input.0 y) _ _ _ c.loop-at.invariant.2 c.booked-own.ensures.result,
  omega (arith, c.booked-own.ensures.fits),
  column_added _ _ _ _ _ _ c.requires.input_in_range.low (omega (arith, c.loop-at-test.true)) c.loop-at.invariant.4 c.booked-own.ensures.result,
)

pub returns : goal.returns
unfolding row_sum
returns c =
    let e : c.loop-at.at ≡ c.args.self.asked.clock.ports = omega (arith, c.loop-at.invariant.1) in record {
      row = c.loop-at.invariant.2 ∙ ap (sum (λ y. afterwards c.args.self.asked c.args.self.more.0 c.args.input.0 y)) e;
      columns_exit = row_ends _ _ _ _ _ (rw e at c.loop-at.invariant.4);
    }
