-- `book::arrive` meets its contract: the call is refused, or one word changes. Assumes nothing.
use mathlib.Core.Path.{sym}
use native.Mathlib.Omega.{arith}
use Rattle.wsgs.specs.Book.{arrive_words}
use Rattle.wsgs.proofs.Refusals.{arrive_asked}
use Rattle.book.proofs.Laws.Reach.{queues_pair}
use Rattle.book.proofs.Laws.Calls.{kept, done}
use Rattle.book.proofs.arrive.Goals as goal

pub returns-in_err-check_arrival : goal.returns-in_err-check_arrival
unfolding arrive_words
returns-in_err-check_arrival c =
    record { outcome = kept _ _ _ _ _ c.from_residual.ensures.1 c.in_err-check_arrival.ensures.refusal }

pub add_to_word-requires : goal.add_to_word-requires
add_to_word-requires c =
    let i = c.args.pair.input.0 in
    let j = c.args.pair.output.0 in
    let asked = arrive_asked c.args.clock c.args.queues.now i j c.args.packets (sym c.in_ok-check_arrival.ensures.refusal) in
    record {
      pair_fits = queues_pair c.args.clock c.args.queues.now i j asked.0;
      sum_fits = omega (arith, asked.1);
    }

pub returns : goal.returns
unfolding arrive_words
returns c =
    record { outcome = rw c.add_to_word.ensures.run_exit (done _ _ _ c.in_ok-check_arrival.ensures.refusal) }
