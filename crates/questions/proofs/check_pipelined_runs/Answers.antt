-- `questions::check_pipelined_runs` meets its contract: the sizes refuse, or the frame is too short, or else the runs decide. Assumes nothing.
use Rattle.questions.proofs.Laws.Answers.{handed_on}
use Rattle.questions.proofs.Laws.Pairs.{sizes_asked}
use Rattle.questions.proofs.Laws.Runs.{pipelined_sized, pipelined_uncovered, pipelined_short, pipelined_long}
use Rattle.questions.proofs.check_pipelined_runs.Goals as goal

pub returns-in_err-check_sizes : goal.returns-in_err-check_sizes
returns-in_err-check_sizes c =
    record { result = handed_on _ _ c.from_residual.ensures.1 (pipelined_sized _ _ _ _ c.in_err-check_sizes.ensures.result) }

pub returns-then-frame-ports : goal.returns-then-frame-ports
returns-then-frame-ports c =
    record { result = pipelined_uncovered _ _ _ c.in_ok-check_sizes.ensures.result c.if-frame-ports.true }

pub pipelined_runs_suffice-requires : goal.pipelined_runs_suffice-requires
pipelined_runs_suffice-requires c =
    record { ports_in_range = (sizes_asked _ _ c.in_ok-check_sizes.ensures.result).ports.1 }

pub returns-then-not-pipelined_runs_suffice : goal.returns-then-not-pipelined_runs_suffice
returns-then-not-pipelined_runs_suffice c =
    record { result = pipelined_short _ _ _ c.in_ok-check_sizes.ensures.result c.if-frame-ports.false c.if-not-pipelined_runs_suffice.ensures.result }

pub returns : goal.returns
returns c =
    record { result = pipelined_long _ _ _ c.in_ok-check_sizes.ensures.result c.if-frame-ports.false c.if-not-pipelined_runs_suffice.ensures.result }
