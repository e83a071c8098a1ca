-- `questions::check_direct_tick` meets its contract: sizes and runs refuse, or else the clock decides. Assumes nothing.
use mathlib.Core.Path.{◌∙◌}
use Rattle.questions.proofs.Laws.Answers.{handed_on}
use Rattle.questions.proofs.Laws.Runs.{direct_tick_sized, direct_tick_clock}
use Rattle.questions.proofs.check_direct_tick.Goals as goal

pub returns-in_err-check_direct_runs : goal.returns-in_err-check_direct_runs
returns-in_err-check_direct_runs c =
    record { result = handed_on _ _ c.from_residual.ensures.1 (direct_tick_sized _ _ _ c.in_err-check_direct_runs.ensures.result) }

pub returns : goal.returns
returns c =
    record { result = c.check_clock.ensures.result ∙ direct_tick_clock _ _ c.in_ok-check_direct_runs.ensures.result }
