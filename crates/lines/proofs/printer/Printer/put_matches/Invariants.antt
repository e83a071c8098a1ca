-- The loop's invariant: the lines of the inputs passed are put.
use Rattle.wsgs.specs.Answers.{matching_of}
use Rattle.wsgs.specs.Program.{match_lines}
use Rattle.lines.specs.Lines.{Printed}
use Rattle.lines.proofs.printer.Printer.put_matches.Given as goal

abbrev pub invariant-loop-i : goal.invariant-loop-i
invariant-loop-i l = Printed l.fn.self (match_lines l.slot (matching_of l.fn.served.outputs l.fn.served.first_pass) l.i) l.self
