-- `pipelined::tick` meets its contract: a refusal is answered alone, and where there is none the work's requirements hold. Assumes nothing.
use Rattle.std.proofs.Common.{sym, ◌∙◌}
use Rattle.wsgs.specs.Told.{pipelined_lent}
use Rattle.pipelined.proofs.PipelinedTick.{accepted_found, tick_ran, tick_refused}
use Rattle.pipelined.proofs.tick.Goals as goal

pub returns-in_err-check_pipelined_tick-clause-outcome : goal.returns-in_err-check_pipelined_tick-clause-outcome
returns-in_err-check_pipelined_tick-clause-outcome c =
    tick_refused _ (pipelined_lent c.args.book c.args.runs.now c.args.pipeline.now) _ _ c.from_residual.ensures.1 c.in_err-check_pipelined_tick.ensures.result

pub run_tick-requires : goal.run_tick-requires
run_tick-requires c =
    record { running = accepted_found _ _ (sym c.in_ok-check_pipelined_tick.ensures.result) }

pub returns-clause-outcome : goal.returns-clause-outcome
returns-clause-outcome c =
    c.run_tick.ensures.outcome ∙ tick_ran _ (pipelined_lent c.args.book c.args.runs.now c.args.pipeline.now) (sym c.in_ok-check_pipelined_tick.ensures.result)
