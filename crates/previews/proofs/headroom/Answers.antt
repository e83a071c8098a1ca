-- `previews::headroom` meets its contract: the pair refuses, or its number is given. Assumes nothing.
use mathlib.Core.Path.{◌∙◌, ap}
use native.Mathlib.Omega.{arith}
use mir.Syntax.{w64}
use mir.ValLaws.{to_z-of_z}
use Rattle.wsgs.specs.Told.{book_lent}
use Rattle.questions.proofs.Laws.Answers.{number_some}
use Rattle.questions.proofs.Laws.Pairs.{pair_asked}
use Rattle.previews.proofs.Laws.Headrooms.{headroom_left, headroom_refused, headroom_given, headroom_handed_on}
use Rattle.previews.proofs.Laws.Previews.{own_in_both}
use Rattle.previews.proofs.headroom.Goals as goal

pub returns-in_err-present : goal.returns-in_err-present
returns-in_err-present c =
    record {
      result = headroom_handed_on _ _ c.from_residual.ensures.1
          ∙ headroom_refused c.args.clock (book_lent c.args.book) _ _ _ c.in_err-present.ensures.refusal (number_some _);
    }

pub overflow_sub-taken : goal.overflow_sub-taken
overflow_sub-taken c =
    let e = c.in_ok-present.ensures in
    omega (arith, (own_in_both c.args.clock (book_lent c.args.book) _ _ (pair_asked _ _ _ _ e.refusal) _ e.sums).0)

pub returns : goal.returns
returns c =
    let m = book_lent c.args.book in
    let i = c.args.pair.input.0 in
    let j = c.args.pair.output.0 in
    let e = c.in_ok-present.ensures in
    let r = pair_asked c.args.clock _ i j e.refusal in
    record {
      result = headroom_given c.args.clock m i j _ e.refusal
          (to_z-of_z w64 _ c.difference.ensures.fits
          ∙ c.difference.ensures.result
          ∙ headroom_left c.args.clock m i j _ _ _ r.output (ap (λ x. x.row) e.sums) (ap (λ x. x.column) e.sums) (ap (λ x. x.booking) e.sums));
    }
