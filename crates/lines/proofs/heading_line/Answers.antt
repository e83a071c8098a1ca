-- The heading, where there is room for it.
use native.Mathlib.Omega.{arith}
use Rattle.std.proofs.Common.{rules}
use Rattle.wsgs.specs.Text.{bytes, lines, heading}
use Rattle.lines.specs.Lines.{heading_room}
use Rattle.lines.proofs.Writing.{room}
use Rattle.lines.proofs.heading_line.Goals as goal

pub returns : goal.returns
unfolding bytes heading lines
returns c =
    record {
      outcome = room heading_room _ _ c.new-printer.result c.put.new.self (omega arith) c.new-printer.ensures.buffer c.new-printer.ensures.count c.put.ensures.text (search rules);
    }
