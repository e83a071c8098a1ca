-- `book::book_rate` meets its contract: the call is refused, or one word changes. Assumes nothing.
use mathlib.Core.Path.{sym}
use native.Mathlib.Omega.{arith}
use Rattle.wsgs.specs.Bookings.{book_of}
use Rattle.wsgs.specs.Book.{rate_words}
use Rattle.wsgs.proofs.Refusals.{rate_asks}
use Rattle.wsgs.proofs.Rises.{rate_word_fits}
use Rattle.book.proofs.Laws.Reach.{rates_pair}
use Rattle.book.proofs.Laws.Calls.{kept, done}
use Rattle.book.proofs.book_rate.Goals as goal

pub returns-in_err-check_operation : goal.returns-in_err-check_operation
unfolding rate_words
returns-in_err-check_operation c =
    record { outcome = kept _ _ _ _ _ c.from_residual.ensures.1 c.in_err-check_operation.ensures.refusal }

pub add_to_word-requires : goal.add_to_word-requires
add_to_word-requires c =
    let m = book_of c.args.slots.now c.args.rates.now in
    let i = c.args.pair.input.0 in
    let j = c.args.pair.output.0 in
    let accepted = sym c.in_ok-check_operation.ensures.refusal in
    record {
      pair_fits = rates_pair c.args.clock m i j ((rate_asks c.args.clock m i j c.args.rate).0 accepted).1.reach;
      sum_fits = omega (arith, rate_word_fits c.args.clock m i j c.args.rate accepted);
    }

pub returns : goal.returns
unfolding rate_words
returns c =
    record { outcome = rw c.add_to_word.ensures.run_exit (done _ _ _ c.in_ok-check_operation.ensures.refusal) }
