-- A record, by what it reads as.
use mathlib.Core.Path.{◌≡◌, ap, ◌∙◌}
use native.Mathlib.Omega.{arith}
use Rattle.wsgs.specs.Program.{obey}
use Rattle.machine.specs.View.{book_in, machine_of}
use Rattle.machine.proofs.obey.Goals as goal

pub returns-in-Err-clause-outcome : goal.returns-in-Err-clause-outcome
unfolding obey
returns-in-Err-clause-outcome c =
    rw c.in-Err.is (ap (λ r. record { machine = machine_of c.args.machine c.args.runs.now; slots = 0; refusal = r }) c.number_alone.ensures.line)

pub returns-in-Err-obey_request-clause-outcome : goal.returns-in-Err-obey_request-clause-outcome
returns-in-Err-obey_request-clause-outcome c =
    let runs = c.obey_request.new.runs in
    rw c.in-Ok.is
    (ap (λ r. record { machine = machine_of c.args.machine runs; slots = 0; refusal = r }) (c.refusal_line.ensures.line (book_in runs) runs.turns runs.pipeline)
    ∙ c.in-Err-obey_request.ensures.outcome)

pub returns-in-Err-eq0-clause-outcome : goal.returns-in-Err-eq0-clause-outcome
unfolding obey
returns-in-Err-eq0-clause-outcome c =
    let zero : c.in-Err-eq0.field-0 ≡ 0 = omega arith in
    rw (c.in-Err-eq0.is, zero)
