-- `clock::step_pipelined` meets its contract: a refused tick has left the clock. Assumes nothing.
use Rattle.wsgs.specs.Told.{pipelined_lent}
use Rattle.clock.proofs.Laws.{refused_by_value}
use Rattle.clock.proofs.step_pipelined.Goals as goal

pub returns-in_err-served-clause-outcome : goal.returns-in_err-served-clause-outcome
returns-in_err-served-clause-outcome c =
    refused_by_value _ _ (pipelined_lent c.args.book c.tick_pipelined.new.runs c.tick_pipelined.new.pipeline) _ _ _ c.from_residual.ensures.1 c.in_err-served.ensures.stays c.in_err-served.ensures.outcome
