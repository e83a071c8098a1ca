-- `refusals::check_arrival` meets its contract: the pair refuses, or the packets are out of range, or the rest decides. Assumes nothing.
use mathlib.Core.Path.{◌≡◌, sym, ◌∙◌, ap}
use Rattle.book.proofs.Laws.Amounts.{amount_few}
use Rattle.book.proofs.Laws.Reach.{queues_pair}
use Rattle.book.proofs.Laws.Calls.{arrive_decides}
use Rattle.wsgs.specs.Questions.{holds_pairs}
use Rattle.questions.specs.Refusals.{pair_refusal}
use Rattle.questions.proofs.Laws.Answers.{number_some, handed_on}
use Rattle.questions.proofs.Laws.Pairs.{pair_asked}
use Rattle.book.proofs.refusals.check_arrival.Goals as goal
use Rattle.book.proofs.refusals.check_arrival.Goals.{In_ok-check_pair}

-- the pair has passed
passed : (c : In_ok-check_pair) → 0 ≡ pair_refusal c.args.clock (holds_pairs c.args.clock.ports c.args.queues.now) c.args.pair.input.0 c.args.pair.output.0
passed c =
    c.in_ok-check_pair.ensures.result ∙ ap (λ b. pair_refusal c.args.clock b c.args.pair.input.0 c.args.pair.output.0) c.holds_pairs.ensures.result

pub returns-in_err-check_pair : goal.returns-in_err-check_pair
returns-in_err-check_pair c =
    let e = c.in_err-check_pair.ensures.result ∙ ap (λ b. pair_refusal c.args.clock b c.args.pair.input.0 c.args.pair.output.0) c.holds_pairs.ensures.result in
    record { refusal = handed_on _ _ c.from_residual.ensures.1 ((arrive_decides _ _ _ _ _).at_pair _ e (number_some _)) }

pub returns-then-not-is_between : goal.returns-then-not-is_between
returns-then-not-is_between c =
    let passed = passed (goal.at.returns-then-not-is_between c).In_ok-check_pair in
    record { refusal = (arrive_decides _ _ _ _ _).at_amount passed (sym c.if-not-is_between.ensures.result) }

pub check_queue-requires : goal.check_queue-requires
check_queue-requires c =
    let passed = passed (goal.at.check_queue-requires c).In_ok-check_pair in
    record {
      pair_fits = queues_pair c.args.clock c.args.queues.now c.args.pair.input.0 c.args.pair.output.0 (pair_asked _ _ _ _ passed);
      packets_in_range = amount_few 65535 c.args.packets (sym c.if-not-is_between.ensures.result);
    }

pub returns : goal.returns
returns c =
    let passed = passed (goal.at.returns c).In_ok-check_pair in
    record { refusal = c.check_queue.ensures.refusal ∙ (arrive_decides _ _ _ _ _).at_rest passed (sym c.if-not-is_between.ensures.result) }
