-- The loop's invariant: the kind and the numbers passed are put.
use mathlib.Core.List.{◌++◌}
use lib.ListN.{take}
use Rattle.lines.specs.Lines.{Printed}
use Rattle.lines.proofs.Printing.{number_fields}
use Rattle.lines.proofs.printer.Printer.put_line.Given as goal

abbrev pub invariant-loop-number : goal.invariant-loop-number
invariant-loop-number l = Printed l.fn.self (l.kind ++ number_fields (take l.number-index l.number-items)) l.self
