-- A request, by its operation.
use mathlib.Core.Path.{◌≡◌, refl, sym, ap, ◌∙◌}
use mathlib.Core.Bool.{true, false}
use Rattle.wsgs.specs.Basics.{between}
use Rattle.wsgs.specs.Program.{obey}
use Rattle.wsgs.specs.Switch.{book, release, arrive}
use Rattle.wsgs.proofs.Calls.{books, releases, arrives}
use Rattle.machine.specs.View.{machine_of}
use Rattle.machine.proofs.RecordLaws.{handed, accepted, called, not_called}
use Rattle.machine.proofs.calls.obey_request.Goals as goal

pub returns-in_ok-book-in-Book-clause-outcome : goal.returns-in_ok-book-in-Book-clause-outcome
unfolding obey
returns-in_ok-book-in-Book-clause-outcome c =
    let q = c.args.request in
    let m = machine_of c.args.machine c.args.runs.now in
    rw c.in-Book.is (called m q.input q.output (book q.input q.output q.amount) (books m.switch _ _ _ _ c.in_ok-book-in-Book.ensures.outcome) refl)

pub returns-in_err-book-in-Book-clause-outcome : goal.returns-in_err-book-in-Book-clause-outcome
unfolding obey
returns-in_err-book-in-Book-clause-outcome c =
    let q = c.args.request in
    let m = machine_of c.args.machine c.args.runs.now in
    handed c.args.machine q _ _ _ c.from_residual.ensures.1
    (rw c.in-Book.is
    (not_called m q.input q.output (book q.input q.output q.amount) (books m.switch _ _ _ _ c.in_err-book-in-Book.ensures.outcome)))

pub returns-in_ok-release-in-Release-clause-outcome : goal.returns-in_ok-release-in-Release-clause-outcome
unfolding obey
returns-in_ok-release-in-Release-clause-outcome c =
    let q = c.args.request in
    let m = machine_of c.args.machine c.args.runs.now in
    rw c.in-Release.is (called m q.input q.output (release q.input q.output q.amount) (releases m.switch _ _ _ _ c.in_ok-release-in-Release.ensures.outcome) refl)

pub returns-in_err-release-in-Release-clause-outcome : goal.returns-in_err-release-in-Release-clause-outcome
unfolding obey
returns-in_err-release-in-Release-clause-outcome c =
    let q = c.args.request in
    let m = machine_of c.args.machine c.args.runs.now in
    handed c.args.machine q _ _ _ c.from_residual-in_err-release-in-Release.ensures.1
    (rw c.in-Release.is
    (not_called m q.input q.output (release q.input q.output q.amount) (releases m.switch _ _ _ _ c.in_err-release-in-Release.ensures.outcome)))

pub returns-in_ok-arrive-in-Arrive-clause-outcome : goal.returns-in_ok-arrive-in-Arrive-clause-outcome
unfolding obey
returns-in_ok-arrive-in-Arrive-clause-outcome c =
    let q = c.args.request in
    let m = machine_of c.args.machine c.args.runs.now in
    rw c.in-Arrive.is (called m q.input q.output (arrive q.input q.output q.amount) (arrives m.switch _ _ _ _ c.in_ok-arrive-in-Arrive.ensures.outcome) refl)

pub returns-in_err-arrive-in-Arrive-clause-outcome : goal.returns-in_err-arrive-in-Arrive-clause-outcome
unfolding obey
returns-in_err-arrive-in-Arrive-clause-outcome c =
    let q = c.args.request in
    let m = machine_of c.args.machine c.args.runs.now in
    handed c.args.machine q _ _ _ c.from_residual-in_err-arrive-in-Arrive.ensures.1
    (rw c.in-Arrive.is
    (not_called m q.input q.output (arrive q.input q.output q.amount) (arrives m.switch _ _ _ _ c.in_err-arrive-in-Arrive.ensures.outcome)))

pub returns-in-Start-clause-outcome : goal.returns-in-Start-clause-outcome
unfolding obey
returns-in-Start-clause-outcome c = rw c.in-Start.is c.obey_start.ensures.outcome

pub returns-in-Pipe-clause-outcome : goal.returns-in-Pipe-clause-outcome
unfolding obey
returns-in-Pipe-clause-outcome c = rw c.in-Pipe.is c.obey_pipe.ensures.outcome

pub returns-then-is_between-clause-outcome : goal.returns-then-is_between-clause-outcome
unfolding obey
returns-then-is_between-clause-outcome c =
    let q = c.args.request in
    let m = machine_of c.args.machine c.args.runs.now in
    let in_range : between 1 10000 q.amount ≡ true = sym c.is_between.ensures.result ∙ c.if-is_between.true in
    rw (c.in-Tick.is, in_range) (ap (λ r. record { machine = m; slots = q.amount; refusal = r }) (accepted m q.input q.output))

pub returns-else-is_between-clause-outcome : goal.returns-else-is_between-clause-outcome
unfolding obey
returns-else-is_between-clause-outcome c =
    let q = c.args.request in
    let in_range : between 1 10000 q.amount ≡ false = sym c.is_between.ensures.result ∙ c.if-is_between.false in
    rw (c.in-Tick.is, in_range)
