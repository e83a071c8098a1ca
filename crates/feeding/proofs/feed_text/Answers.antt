-- Some calls have been made, each of which leaves fewer slots to run and bytes to take.
use mathlib.Core.Path.{refl, sym, ◌∙◌}
use Rattle.std.proofs.Common.{rules}
use Rattle.feeding.proofs.TextLaws.{so_far_none, so_far_more, so_far_less}
use Rattle.feeding.proofs.feed_text.Goals as goal

pub loop-fed-init : goal.loop-fed-init
loop-fed-init g c = (so_far_none _ _ refl, search rules)

pub loop-fed-smaller : goal.loop-fed-smaller
loop-fed-smaller g c =
    so_far_less _ _ c.loop-fed.invariant.0 c.feed_rest-fed.ensures.outcome (sym c.has_work.ensures.answer ∙ c.if-has_work.true)

pub loop-fed-preserved : goal.loop-fed-preserved
loop-fed-preserved g c = (so_far_more _ _ c.loop-fed.invariant.0 _ c.feed_rest-fed.ensures.outcome, search rules)
