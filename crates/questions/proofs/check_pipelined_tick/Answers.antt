-- `questions::check_pipelined_tick` meets its contract: sizes and runs refuse, or else the clock decides. Assumes nothing.
use mathlib.Core.Path.{◌∙◌}
use Rattle.questions.proofs.Laws.Answers.{handed_on}
use Rattle.questions.proofs.Laws.Runs.{pipelined_tick_sized, pipelined_tick_clock}
use Rattle.questions.proofs.check_pipelined_tick.Goals as goal

pub returns-in_err-check_pipelined_runs : goal.returns-in_err-check_pipelined_runs
returns-in_err-check_pipelined_runs c =
    record { result = handed_on _ _ c.from_residual.ensures.1 (pipelined_tick_sized _ _ _ c.in_err-check_pipelined_runs.ensures.result) }

pub returns : goal.returns
returns c =
    record { result = c.check_clock.ensures.result ∙ pipelined_tick_clock _ _ c.in_ok-check_pipelined_runs.ensures.result }
