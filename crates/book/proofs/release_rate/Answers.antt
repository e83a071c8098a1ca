-- `book::release_rate` meets its contract: the call is refused, or one word changes. Assumes nothing.
use mathlib.Core.Path.{sym}
use native.Mathlib.Omega.{arith}
use Rattle.wsgs.specs.Bookings.{book_of}
use Rattle.wsgs.specs.Book.{release_rate_words}
use Rattle.wsgs.proofs.Refusals.{release_rate_asked}
use Rattle.book.proofs.Laws.Reach.{rates_pair}
use Rattle.book.proofs.Laws.Calls.{kept, done}
use Rattle.book.proofs.release_rate.Goals as goal

pub returns-in_err-check_operation : goal.returns-in_err-check_operation
unfolding release_rate_words
returns-in_err-check_operation c =
    record { outcome = kept _ _ _ _ _ c.from_residual.ensures.1 c.in_err-check_operation.ensures.refusal }

pub take_off_word-requires : goal.take_off_word-requires
take_off_word-requires c =
    let m = book_of c.args.slots.now c.args.rates.now in
    let i = c.args.pair.input.0 in
    let j = c.args.pair.output.0 in
    let asked = release_rate_asked c.args.clock m i j c.args.rate (sym c.in_ok-check_operation.ensures.refusal) in
    record {
      pair_fits = rates_pair c.args.clock m i j asked.0;
      held = omega (arith, asked.1);
    }

pub returns : goal.returns
unfolding release_rate_words
returns c =
    record { outcome = rw c.take_off_word.ensures.run_exit (done _ _ _ c.in_ok-check_operation.ensures.refusal) }
