-- Feeding a block.
use mathlib.Core.Path.{sym, ◌∙◌}
use Rattle.std.proofs.Common.{rules}
use Rattle.events.proofs.Rounds.{so_far_none, so_far_less, so_far_more, so_far_all}
use Rattle.events.proofs.feed.Goals as goal

pub loop-lent-init : goal.loop-lent-init
loop-lent-init c = (so_far_none _ _ _, search rules)

pub loop-lent-smaller : goal.loop-lent-smaller
loop-lent-smaller c =
    so_far_less _ _ _ c.loop-lent.invariant.0 (sym c.has_work.ensures.answer ∙ c.loop-lent-test.true) c.step-next.ensures.outcome c.step-next.ensures.taken

pub loop-lent-preserved : goal.loop-lent-preserved
loop-lent-preserved c = (
  so_far_more _ _ _ c.loop-lent.invariant.0 (sym c.has_work.ensures.answer ∙ c.loop-lent-test.true) c.step-next.ensures.outcome c.step-next.ensures.taken,
  search rules,
)

pub returns-clause-outcome : goal.returns-clause-outcome
returns-clause-outcome c =
    so_far_all _ _ _ c.loop-lent.invariant.0 (sym c.has_work.ensures.answer ∙ c.loop-lent-test.false)
