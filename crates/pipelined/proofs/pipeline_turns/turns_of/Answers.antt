-- `pipeline_turns::turns_of` meets its contract: the input's turns are due or not, and its rows are those of its slots. Assumes nothing.
use Rattle.std.proofs.Common.{arith}
use Rattle.pipelined.proofs.PipelinedTurns.{turns_due, turns_early}
use Rattle.pipelined.proofs.pipeline_turns.turns_of.Goals as goal

pub returns-then-input-ahead-clause-turns : goal.returns-then-input-ahead-clause-turns
returns-then-input-ahead-clause-turns c =
    let a = c.args.ahead in
    turns_due _ a.frame _ _ _ _ _ _ _ c.if-input-ahead.true (c.reload_row.ensures.reload a.frame _ a.known.covers a.known.place _ _ _)
    (c.turn_one.ensures.turn _ (c.row_before-one.ensures.is _ a.known.row_one (omega (arith, c.if-input-ahead.true))))
    (c.turn_two.ensures.turn _ (c.row_before-two.ensures.is _ a.known.row_two (omega (arith, c.if-input-ahead.true))) _)

pub returns-else-input-ahead-clause-turns : goal.returns-else-input-ahead-clause-turns
returns-else-input-ahead-clause-turns c =
    turns_early _ c.args.ahead.frame _ _ _ _ c.if-input-ahead.false
