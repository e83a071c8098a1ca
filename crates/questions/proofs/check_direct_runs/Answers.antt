-- `questions::check_direct_runs` meets its contract: the sizes refuse, or else the runs decide. Assumes nothing.
use Rattle.questions.proofs.Laws.Answers.{handed_on}
use Rattle.questions.proofs.Laws.Runs.{direct_sized, direct_short, direct_long}
use Rattle.questions.proofs.check_direct_runs.Goals as goal

pub returns-in_err-check_sizes : goal.returns-in_err-check_sizes
returns-in_err-check_sizes c =
    record { result = handed_on _ _ c.from_residual.ensures.1 (direct_sized _ _ _ _ c.in_err-check_sizes.ensures.result) }

pub returns-then-not-direct_runs_suffice : goal.returns-then-not-direct_runs_suffice
returns-then-not-direct_runs_suffice c =
    record { result = direct_short _ _ _ c.in_ok-check_sizes.ensures.result c.if-not-direct_runs_suffice.ensures.result }

pub returns : goal.returns
returns c =
    record { result = direct_long _ _ _ c.in_ok-check_sizes.ensures.result c.if-not-direct_runs_suffice.ensures.result }
