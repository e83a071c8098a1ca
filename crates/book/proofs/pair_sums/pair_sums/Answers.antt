-- `pair_sums::pair_sums` meets its contract: the pair refuses, or its five numbers are given. Assumes nothing.
use native.Mathlib.Omega.{arith}
use Rattle.wsgs.specs.Told.{book_lent}
use Rattle.questions.proofs.Laws.Pairs.{pair_asked}
use Rattle.book.specs.declared.sums.Line.TheVariants.{Row, Column}
use Rattle.book.proofs.Laws.Reach.{slots_pair, rates_pair}
use Rattle.book.proofs.Laws.Sums.{line_small}
use Rattle.book.proofs.pair_sums.pair_sums.Goals as goal

pub word_of-requires : goal.word_of-requires
word_of-requires c =
    record { pair_fits = slots_pair c.args.clock (book_lent c.args.book) _ _ (pair_asked _ _ _ _ c.in_ok-check_book_pair.ensures.refusal) }

pub word_of-requires-2 : goal.word_of-requires-2
word_of-requires-2 c =
    record { pair_fits = rates_pair c.args.clock (book_lent c.args.book) _ _ (pair_asked _ _ _ _ c.in_ok-check_book_pair.ensures.refusal) }

pub invariant_of-asked : goal.invariant_of-asked
invariant_of-asked c =
    record { reached = pair_asked _ _ _ _ c.in_ok-check_book_pair.ensures.refusal }

pub returns-clause-row_fits : goal.returns-clause-row_fits
returns-clause-row_fits c =
    let r = pair_asked _ _ _ _ c.in_ok-check_book_pair.ensures.refusal in
    omega (arith, c.row_sum.ensures.result, line_small c.args.clock (book_lent c.args.book) r.ports.1 Row c.args.pair)

pub returns-clause-column_fits : goal.returns-clause-column_fits
returns-clause-column_fits c =
    let r = pair_asked _ _ _ _ c.in_ok-check_book_pair.ensures.refusal in
    omega (arith, c.column_sum.ensures.result, line_small c.args.clock (book_lent c.args.book) r.ports.1 Column c.args.pair)
