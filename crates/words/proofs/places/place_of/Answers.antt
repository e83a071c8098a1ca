-- `places::place_of` meets its contract: the place lies within the matrix, which is few words. Assumes nothing.
use mathlib.Core.Path.{◌∙◌, ap}
use Prim.Native.Nat.{◌+◌, ◌-◌}
use native.Mathlib.Omega.{arith}
use Rattle.wsgs.proofs.Laws.Words.{square_small}
use Rattle.words.proofs.PlaceLaws.{IsPort, known, unknown, row_is, no_input, no_output, place_there}
use mathlib.Core.Bool.{not}
use Rattle.words.proofs.places.place_of.Goals as goal
use Rattle.words.proofs.places.place_of.Goals.{Else-not-is_port-2}

output : (c : Else-not-is_port-2) → IsPort c.args.ports c.args.pair.output.0
output c =
    known _ _ c.is_port-2.ensures.tested (ap not c.if-not-is_port-2.false)

pub returns-then-not-is_port : goal.returns-then-not-is_port
returns-then-not-is_port c =
    record { place = no_input _ _ _ (unknown _ _ c.is_port.ensures.tested (ap not c.if-not-is_port.true)) }

pub returns-then-not-is_port-2 : goal.returns-then-not-is_port-2
returns-then-not-is_port-2 c =
    record { place = no_output _ _ _ (unknown _ _ c.is_port-2.ensures.tested (ap not c.if-not-is_port-2.true)) }

pub overflow_sub-result : goal.overflow_sub-result
overflow_sub-result c =
    let output = output (goal.at.overflow_sub-result c).Else-not-is_port-2 in
    omega (arith, output.port)

pub overflow_add-result : goal.overflow_add-result
overflow_add-result c =
    let output = output (goal.at.overflow_add-result c).Else-not-is_port-2 in
    let o = output in
    omega (arith, c.row_of.ensures.within, square_small c.args.ports o.few, o.port)

pub returns : goal.returns
returns c =
    let input : IsPort c.args.ports c.args.pair.input.0 = known _ _ c.is_port.ensures.tested (ap not c.if-not-is_port.false) in
    let output = output (goal.at.returns c).Else-not-is_port-2 in
    let p = input in record {
      place = ap (λ row. row + (c.args.pair.output.0 - 1)) (c.row_of.ensures.row ∙ row_is _ _ p.few p.port)
          ∙ place_there _ _ _ p.yes output.yes;
    }
