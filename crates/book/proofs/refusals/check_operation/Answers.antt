-- `refusals::check_operation` meets its contract: the pair refuses, or the amount is out of range, or what is asked last decides. Assumes nothing.
use mathlib.Core.Path.{sym, ◌∙◌}
use Rattle.book.proofs.Laws.Calls.{operation_decides, amount_number}
use Rattle.questions.proofs.Laws.Answers.{number_some, handed_on}
use Rattle.questions.proofs.Laws.Pairs.{pair_asked}
use Rattle.book.proofs.refusals.check_operation.Goals as goal

pub returns-in_err-check_book_pair : goal.returns-in_err-check_book_pair
returns-in_err-check_book_pair c =
    record {
      refusal = handed_on _ _ c.from_residual.ensures.1
          ((operation_decides c.args.operation _ _ _ _).at_pair _ c.in_err-check_book_pair.ensures.refusal (number_some _));
    }

pub returns-then-not-amount_in_range : goal.returns-then-not-amount_in_range
returns-then-not-amount_in_range c =
    record {
      refusal = amount_number c.args.operation c.args.clock
          ∙ (operation_decides c.args.operation _ _ _ _).at_amount c.in_ok-check_book_pair.ensures.refusal (sym c.if-not-amount_in_range.ensures.result);
    }

pub invariant_of-asked : goal.invariant_of-asked
invariant_of-asked c =
    record { reached = pair_asked _ _ _ _ c.in_ok-check_book_pair.ensures.refusal }

pub returns : goal.returns
returns c =
    record {
      refusal = c.check_last.ensures.refusal
          ∙ (operation_decides c.args.operation _ _ _ _).at_rest c.in_ok-check_book_pair.ensures.refusal (sym c.if-not-amount_in_range.ensures.result);
    }
