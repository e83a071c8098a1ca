-- `search::looked_at` meets its contract: none is come to, one above the last given one, or one that is not. Assumes nothing.
use Rattle.turns.proofs.LookLaws.{looked_above, looked_wrapped}
use Rattle.turns.proofs.search.looked_at.Goals as goal

pub returns-then-output-last : goal.returns-then-output-last
returns-then-output-last c =
    record { members = rw c.in-Some.is (looked_above _ _ _ (rw c.in-Some.is at c.requires.some) _ c.all_free.ensures.mask c.if-output-last.true _ c.above.ensures.higher) }

pub returns : goal.returns
returns c =
    record { members = rw c.in-Some.is (looked_wrapped _ _ _ (rw c.in-Some.is at c.requires.some) _ c.all_free.ensures.mask c.if-output-last.false _ c.above-2.ensures.higher) }
