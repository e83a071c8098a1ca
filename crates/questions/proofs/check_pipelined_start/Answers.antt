-- `questions::check_pipelined_start` meets its contract: sizes and runs refuse, or else the line rate decides. Assumes nothing.
use mathlib.Core.Path.{◌∙◌}
use Rattle.questions.proofs.Laws.Answers.{handed_on}
use Rattle.questions.proofs.Laws.Runs.{pipelined_start_sized, pipelined_start_line}
use Rattle.questions.proofs.check_pipelined_start.Goals as goal

pub returns-in_err-check_pipelined_runs : goal.returns-in_err-check_pipelined_runs
returns-in_err-check_pipelined_runs c =
    record { result = handed_on _ _ c.from_residual.ensures.1 (pipelined_start_sized _ _ _ _ _ c.in_err-check_pipelined_runs.ensures.result) }

pub returns : goal.returns
returns c =
    record { result = c.check_line.ensures.result ∙ pipelined_start_line _ _ _ _ c.in_ok-check_pipelined_runs.ensures.result }
