-- `search::first_in_turn` meets its contract: an empty set has none, and else the lowest bit of the pool is the first. Assumes nothing.
use mathlib.Core.Path.{◌∙◌}
use native.Mathlib.Numerals.{add-one}
use native.Mathlib.Omega.{arith}
use Rattle.turns.proofs.Ready.{first_of_pool, none_in_turn}
use Rattle.turns.proofs.search.first_in_turn.Goals as goal

pub returns-then-set-eq0-clause-first : goal.returns-then-set-eq0-clause-first
returns-then-set-eq0-clause-first c =
    none_in_turn _ c.args.last c.if-set-eq0.true

pub returns-clause-first : goal.returns-clause-first
returns-clause-first c =
    add-one _
    ∙ first_of_pool c.args.set c.args.last _ _ (omega (arith, c.if-set-eq0.false)) c.ranges.set.fits c.above.ensures.higher c.above.ensures.within c.or_else-pool.ensures.set
