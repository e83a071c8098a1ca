-- `starts::start_pipelined` meets its contract: the start is refused and all stays, or every used word is set to 0. Assumes nothing.
use Rattle.wsgs.specs.Answers.{pipelined_runs_of}
use Rattle.questions.proofs.Laws.Runs.{pipelined_asked}
use Rattle.starts.proofs.Laws.{pipelined_stays, pipelined_clears}
use Rattle.starts.proofs.start_pipelined.Goals as goal

pub returns-in_err-check_pipelined_start-clause-outcome : goal.returns-in_err-check_pipelined_start-clause-outcome
returns-in_err-check_pipelined_start-clause-outcome c k =
    pipelined_stays _ _ _ _ (pipelined_runs_of c.args.slots.now c.args.rates.now c.args.runs.now.credits.now c.args.runs.now.queues.now c.args.runs.now.given.now c.args.pipeline.now.copy.now c.args.pipeline.now.flight.now) k _ _ c.from_residual.ensures.1 c.in_err-check_pipelined_start.ensures.result

pub clear_runs-requires : goal.clear_runs-requires
clear_runs-requires c =
    record { ports_in_range = (pipelined_asked _ _ _ _ c.in_ok-check_pipelined_start.ensures.result).0.sizes.ports.1 }

pub clear_pipeline-requires : goal.clear_pipeline-requires
clear_pipeline-requires c =
    record { ports_in_range = (pipelined_asked _ _ _ _ c.in_ok-check_pipelined_start.ensures.result).0.sizes.ports.1 }

pub first_clock-requires : goal.first_clock-requires
first_clock-requires c =
    record { start_in_range = (pipelined_asked _ _ _ _ c.in_ok-check_pipelined_start.ensures.result).0 }

pub returns-clause-outcome : goal.returns-clause-outcome
returns-clause-outcome c k =
    pipelined_clears _ _ _ _ (pipelined_runs_of c.args.slots.now c.args.rates.now c.args.runs.now.credits.now c.args.runs.now.queues.now c.args.runs.now.given.now c.args.pipeline.now.copy.now c.args.pipeline.now.flight.now) k c.in_ok-check_pipelined_start.ensures.result _ c.first_clock.ensures.result
    _ _ _ _ _ _ _ (c.clear_runs.ensures.slots_exit, (c.clear_runs.ensures.rates_exit, (c.clear_runs.ensures.credits_exit, (c.clear_runs.ensures.queues_exit, c.clear_runs.ensures.given_exit)))) (c.clear_pipeline.ensures.copy_exit, c.clear_pipeline.ensures.flight_exit)
