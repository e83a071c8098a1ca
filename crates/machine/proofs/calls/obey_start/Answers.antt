-- A start of a direct switch.
use mathlib.Core.Path.{refl}
use Rattle.wsgs.specs.Switch.{direct}
use Rattle.wsgs.proofs.Calls.{start_direct}
use Rattle.questions.proofs.Laws.Answers.{number_some}
use Rattle.machine.specs.View.{machine_of}
use Rattle.machine.proofs.RecordLaws.{handed, started, not_started}
use Rattle.machine.proofs.calls.obey_start.Goals as goal

pub returns-clause-outcome : goal.returns-clause-outcome
returns-clause-outcome c =
    let q = c.args.request in
    let m = machine_of c.args.machine c.args.runs.now in
    started m q.input q.output direct (start_direct m.switch _ _ _ _ _ (c.in_ok-clock.ensures.outcome c.args.machine.clock)) refl

pub returns-in_err-clock-clause-outcome : goal.returns-in_err-clock-clause-outcome
returns-in_err-clock-clause-outcome c =
    let q = c.args.request in
    let m = machine_of c.args.machine c.args.runs.now in
    handed c.args.machine q _ _ _ c.from_residual.ensures.1
    (not_started m q.input q.output direct (start_direct m.switch _ _ _ _ _ (c.in_err-clock.ensures.outcome c.args.machine.clock)) (number_some _))
