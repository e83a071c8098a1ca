-- `places::row_of` meets its contract: the row lies within the matrix, which is few words. Assumes nothing.
use native.Mathlib.Omega.{arith}
use Rattle.words.proofs.PlaceLaws.{IsPort, known, unknown, no_row, row_there, row_inside, product_fits}
use mathlib.Core.Path.{ap}
use mathlib.Core.Bool.{not}
use Rattle.words.proofs.places.row_of.Goals as goal
use Rattle.words.proofs.places.row_of.Goals.{Else-not-is_port}

-- what is known where the input is a port
port : (c : Else-not-is_port) → IsPort c.args.ports c.args.input.0
port c =
    known _ _ c.is_port.ensures.tested (ap not c.if-not-is_port.false)

pub returns-then-not-is_port : goal.returns-then-not-is_port
returns-then-not-is_port c =
    let e = no_row _ _ (unknown _ _ c.is_port.ensures.tested (ap not c.if-not-is_port.true)) in record {
      row = e;
      within = rw e (row_inside _ _);
    }

pub overflow_sub-result : goal.overflow_sub-result
overflow_sub-result c =
    let port = port (goal.at.overflow_sub-result c).Else-not-is_port in
    omega (arith, port.port)

pub overflow_mul-result : goal.overflow_mul-result
overflow_mul-result c =
    let port = port (goal.at.overflow_mul-result c).Else-not-is_port in
    let p = port in record { fits = product_fits _ _ (omega arith) (omega arith) }

pub returns : goal.returns
returns c =
    let port = port (goal.at.returns c).Else-not-is_port in
    let e = row_there _ _ port.yes in record {
      row = e;
      within = rw e (row_inside _ _);
    }
