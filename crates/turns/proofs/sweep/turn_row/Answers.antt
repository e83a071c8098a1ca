-- `sweep::turn_row` meets its contract: the row is the input's. Assumes nothing.
use mathlib.Core.Path.{◌∙◌}
use Rattle.words.proofs.PlaceLaws.{row_is}
use Rattle.turns.proofs.sweep.turn_row.Goals as goal

pub returns-clause-there : goal.returns-clause-there
returns-clause-there c =
    let t = c.has_turn.ensures.turn c.if-not-has_turn.false in
    record { turn = t; begin = c.row_of.ensures.row ∙ row_is _ _ t.few t.port; within = c.row_of.ensures.within }
