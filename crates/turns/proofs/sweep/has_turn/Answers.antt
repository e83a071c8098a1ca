-- `sweep::has_turn` meets its contract: an input that is no port has no turn, and else the run's length decides. Assumes nothing.
use native.Mathlib.Omega.{arith}
use borrow.Author.Tests.{leb-true}
use Rattle.words.proofs.PlaceLaws.{IsPort, known, unknown, product_fits}
use Rattle.turns.proofs.TurnLaws.{no_turn, run_decides}
use mathlib.Core.Path.{ap}
use mathlib.Core.Bool.{not}
use Rattle.turns.proofs.sweep.has_turn.Goals as goal
use Rattle.turns.proofs.sweep.has_turn.Goals.{Else-not-is_port}

-- what is known where the input is a port
port : (c : Else-not-is_port) → IsPort c.args.ports c.args.input.0
port c =
    known _ _ c.is_port.ensures.tested (ap not c.if-not-is_port.false)

pub returns-then-not-is_port-clause-tested : goal.returns-then-not-is_port-clause-tested
returns-then-not-is_port-clause-tested c =
    no_turn _ _ _ (unknown _ _ c.is_port.ensures.tested (ap not c.if-not-is_port.true))

pub overflow_mul-result : goal.overflow_mul-result
overflow_mul-result c =
    let port = port (goal.at.overflow_mul-result c).Else-not-is_port in
    let p = port in record { fits = product_fits _ _ (omega arith) (omega arith) }

pub returns-clause-tested : goal.returns-clause-tested
returns-clause-tested c =
    run_decides _ _ _ (port (goal.at.returns-clause-tested c).Else-not-is_port).yes

pub returns-clause-turn : goal.returns-clause-turn
returns-clause-turn c =
    let p = port (goal.at.returns-clause-turn c).Else-not-is_port in
    λ h. record { few = p.few; port = p.port; long = leb-true _ _ h }
