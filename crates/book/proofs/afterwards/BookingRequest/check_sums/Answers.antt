-- `BookingRequest::check_sums` meets its contract. Assumes nothing.
use native.Mathlib.Omega.{arith}
use Rattle.book.specs.declared.sums.Line.TheVariants.{Row, Column}
use Rattle.book.specs.declared.asked.AskedPair.{AskedPair}
use Rattle.book.specs.declared.sums.Line.{Line}
use Rattle.wsgs.specs.Told.{book_lent}
use Rattle.book.specs.Asked.{present}
use Rattle.book.specs.Lines.{line_sum}
use Prim.Native.Nat.{◌^◌, ◌<◌}
use Rattle.book.proofs.Laws.Sums.{line_small}
use Rattle.book.proofs.Laws.Amounts.{row_full, column_full, both_admit}
use Rattle.book.proofs.afterwards.BookingRequest.check_sums.Goals as goal

small : (p : AskedPair) (l : Line) → line_sum l p.clock.ports (present p) p.pair < 2 ^ 38
small p l = line_small p.clock (book_lent p.runs) p.reached.ports.1 l p.pair

pub overflow_add-row_sum : goal.overflow_add-row_sum
overflow_add-row_sum c = omega (arith, c.row_sum.ensures.result, small c.args.self.asked Row)

pub overflow_mul-row_sum : goal.overflow_mul-row_sum
overflow_mul-row_sum c = omega (arith, c.row_sum.ensures.result, small c.args.self.asked Row)

pub overflow_add-column_sum : goal.overflow_add-column_sum
overflow_add-column_sum c = omega (arith, c.column_sum.ensures.result, small c.args.self.asked Column)

pub overflow_mul-column_sum : goal.overflow_mul-column_sum
overflow_mul-column_sum c = omega (arith, c.column_sum.ensures.result, small c.args.self.asked Column)

pub returns-then-row_sum-self : goal.returns-then-row_sum-self
returns-then-row_sum-self c =
    record { refusal = row_full _ _ _ _ _ (omega (arith, c.row_sum.ensures.result)) }

pub returns-then-column_sum-self : goal.returns-then-column_sum-self
returns-then-column_sum-self c =
    record { refusal = column_full _ _ _ _ _ (omega (arith, c.row_sum.ensures.result)) (omega (arith, c.column_sum.ensures.result)) }

pub returns : goal.returns
returns c =
    record { refusal = both_admit _ _ _ _ _ (omega (arith, c.row_sum.ensures.result)) (omega (arith, c.column_sum.ensures.result)) }
