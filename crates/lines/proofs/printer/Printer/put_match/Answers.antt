-- The line of an input that has an output.
use native.Mathlib.Omega.{arith}
use Rattle.std.proofs.Common.{◌≡◌, ◌∙◌}
use Rattle.wsgs.specs.Basics.{pick}
use Rattle.wsgs.specs.Text.{bytes}
use Rattle.lines.proofs.Printing.{no_line, the_line}
use Rattle.lines.proofs.Writing.{printed_none, printed_is}
use Rattle.lines.proofs.printer.Printer.put_match.Goals as goal
use Rattle.lines.proofs.printer.Printer.put_match.Goals.{then-is_first, else-is_first}

pub returns-then-output-eq0 : goal.returns-then-output-eq0
returns-then-output-eq0 c =
    record { text = printed_is (printed_none _ (omega arith)) (no_line _ _ _ _ c.if-output-eq0.true) }

pub returns : goal.returns
unfolding bytes
returns c =
    let pass : c.if-is_first.pass ≡ pick c.args.is_first 1 2 =
    elim c.if-is_first.branch [ then-is_first w ↦ w.pass-is ∙ rw w.if-is_first.true | else-is_first w ↦ w.pass-is ∙ rw w.if-is_first.false ] in
    record { text = printed_is (rw (pass, c.from.ensures) at c.put_line.ensures.text) (the_line _ _ _ c.args.is_first c.if-output-eq0.false) }
