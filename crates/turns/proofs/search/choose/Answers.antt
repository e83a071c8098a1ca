-- `search::choose` meets its contract: what the search by bits finds, and the free outputs at which it has looked, counted. Assumes nothing.
use mathlib.Core.Path.{◌∙◌}
use borrow.Author.Rules.{rules}
use Rattle.turns.proofs.Ready.{open_turn}
use Rattle.turns.proofs.LookLaws.{looks_are}
use Rattle.turns.proofs.search.choose.Goals as goal

pub returns-clause-output : goal.returns-clause-output
returns-clause-output c =
    c.first_in_turn-output.ensures.first ∙ open_turn c.args.ports c.requires.ports c.args.free _ c.all_free.ensures.mask c.args.asked c.args.last

pub returns-clause-looks : goal.returns-clause-looks
returns-clause-looks c =
    looks_are c.args.ports c.requires.ports c.args.free _ c.all_free.ensures.mask c.args.asked c.args.last _ _ c.first_in_turn-output.ensures.first c.looked_at-seen.ensures.members (search rules)
