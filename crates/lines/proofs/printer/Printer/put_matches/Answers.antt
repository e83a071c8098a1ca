-- The lines of a slot, input by input.
use native.Mathlib.Omega.{arith}
use lib.Seq.{length-take-le}
use Rattle.std.proofs.Common.{◌≡◌}
use Rattle.lines.proofs.Printing.{matches_none, matches_next, matches_short, matches_all}
use Rattle.lines.proofs.Writing.{printed_none, printed_is, printed_then, printed_room}
use Rattle.lines.proofs.printer.Printer.put_matches.Goals as goal

pub loop-i-init : goal.loop-i-init
loop-i-init c = printed_is (printed_none _ (omega arith)) (matches_none _ _ _)

pub put_match-requires : goal.put_match-requires
put_match-requires c =
    let served = c.args.served in
    let inputs = c.min-inputs.result in
    record {
      room = printed_room c.loop-i.invariant _
          (omega (arith, c.min-inputs.ensures, matches_short c.args.slot served.outputs served.first_pass c.loop-i.i, length-take-le inputs served.outputs (omega (arith, c.min-inputs.ensures))));
    }

pub loop-i-preserved : goal.loop-i-preserved
loop-i-preserved c =
    let served = c.args.served in
    let inputs = c.min-inputs.result in
    printed_is (printed_then c.loop-i.invariant c.put_match.ensures.text)
    (matches_next c.args.slot served.outputs served.first_pass inputs c.loop-i.i (omega (arith, length-take-le inputs served.outputs (omega (arith, c.min-inputs.ensures)))))

pub returns : goal.returns
returns c =
    let served = c.args.served in
    let inputs = c.min-inputs.result in
    let all : c.loop-i.i ≡ inputs = omega (arith, length-take-le inputs served.outputs (omega (arith, c.min-inputs.ensures))) in
    record {
      text = printed_is (rw all at c.loop-i.invariant)
          (matches_all c.args.slot served.outputs served.first_pass (omega arith) c.args.ports inputs (omega (arith, c.min-inputs.ensures)));
    }
