-- `BookingRequest::all_sums` meets its contract. Assumes nothing.
use native.Mathlib.Omega.{arith}
use Rattle.book.proofs.Laws.Afterwards.{none_long, rows_begin, columns_begin}
use Rattle.book.proofs.afterwards.BookingRequest.all_sums.Goals as goal

pub loop-at-init : goal.loop-at-init
loop-at-init c =
    let n = c.args.self.asked.reached.ports.1 in
    (omega arith, none_long _ n, rows_begin _ _ n, columns_begin _ _ n)
