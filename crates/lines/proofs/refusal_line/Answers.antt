-- A refusal's line, where there is a refusal and room for its line.
use native.Mathlib.Omega.{arith}
use Rattle.std.proofs.Common.{rules}
use Rattle.wsgs.specs.Text.{bytes}
use Rattle.lines.specs.Lines.{refusal_room}
use Rattle.lines.proofs.Printing.{the_refusal}
use Rattle.lines.proofs.Writing.{room, printed_is}
use Rattle.lines.proofs.refusal_line.Goals as goal

pub returns : goal.returns
unfolding bytes
returns c =
    let line = c.in-Some.line in
    record {
      outcome = rw c.in-Some.is
          (room refusal_room _ _ c.new-printer.result c.put_line.new.self (omega arith) c.new-printer.ensures.buffer c.new-printer.ensures.count
          (printed_is (rw c.from-number.ensures at c.put_line.ensures.text) (the_refusal _ c.if-line-eq0.false)) (search rules));
    }
