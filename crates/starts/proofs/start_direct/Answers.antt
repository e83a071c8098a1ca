-- `starts::start_direct` meets its contract: the start is refused and all stays, or every used word is set to 0. Assumes nothing.
use Rattle.wsgs.specs.Answers.{direct_runs_of}
use Rattle.questions.proofs.Laws.Runs.{direct_asked}
use Rattle.starts.proofs.Laws.{direct_stays, direct_clears}
use Rattle.starts.proofs.start_direct.Goals as goal

pub returns-in_err-check_direct_start-clause-outcome : goal.returns-in_err-check_direct_start-clause-outcome
returns-in_err-check_direct_start-clause-outcome c k =
    direct_stays _ _ _ _ (direct_runs_of c.args.slots.now c.args.rates.now c.args.runs.now.credits.now c.args.runs.now.queues.now c.args.runs.now.given.now) k _ _ c.from_residual.ensures.1 c.in_err-check_direct_start.ensures.result

pub clear_runs-requires : goal.clear_runs-requires
clear_runs-requires c =
    record { ports_in_range = (direct_asked _ _ _ _ c.in_ok-check_direct_start.ensures.result).0.sizes.ports.1 }

pub first_clock-requires : goal.first_clock-requires
first_clock-requires c =
    record { start_in_range = (direct_asked _ _ _ _ c.in_ok-check_direct_start.ensures.result).0 }

pub returns-clause-outcome : goal.returns-clause-outcome
returns-clause-outcome c k =
    direct_clears _ _ _ _ (direct_runs_of c.args.slots.now c.args.rates.now c.args.runs.now.credits.now c.args.runs.now.queues.now c.args.runs.now.given.now) k c.in_ok-check_direct_start.ensures.result _ c.first_clock.ensures.result
    _ _ _ _ _ (c.clear_runs.ensures.slots_exit, (c.clear_runs.ensures.rates_exit, (c.clear_runs.ensures.credits_exit, (c.clear_runs.ensures.queues_exit, c.clear_runs.ensures.given_exit))))
