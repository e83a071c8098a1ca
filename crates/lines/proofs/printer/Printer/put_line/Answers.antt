-- A line's kind, then its numbers, then its end.
use mathlib.Core.Path.{◌≡◌, sym, ap, ◌∙◌}
use mathlib.Core.List.{◌∷◌, ◌++◌, append-nil, append_assoc}
use Prim.Native.Nat.{◌+◌}
use native.Mathlib.Numerals.{add-one}
use native.Mathlib.Omega.{arith}
use lib.ListN.{length, take, get_or}
use lib.Seq.{take_all}
use Rattle.wsgs.specs.Text.{comma, decimal}
use Rattle.lines.proofs.Decimals.{decimal_short}
use Rattle.lines.proofs.Printing.{number_fields, no_fields, fields_more, room_left, line_of}
use Rattle.lines.proofs.Writing.{printed_is, printed_then, printed_room}
use Rattle.lines.proofs.printer.Printer.put_line.Goals as goal

pub loop-number-init : goal.loop-number-init
loop-number-init c =
    printed_is c.put.ensures.text (sym (append-nil c.args.kind.now) ∙ ap (λ fs. c.args.kind.now ++ fs) (no_fields c.args.numbers))

pub put_byte-requires : goal.put_byte-requires
put_byte-requires c =
    record { room = printed_room c.loop-number.invariant 1 (room_left c.args.self.now _ _ _ 1 c.requires.room (omega arith) (omega arith) (omega arith)) }

pub put_number-requires : goal.put_number-requires
put_number-requires c =
    let digits = length (decimal (get_or c.args.numbers c.loop-number.number-index 0)) in
    record {
      room = printed_room c.put_byte.ensures.text digits
          (printed_room c.loop-number.invariant (1 + digits)
          (room_left c.args.self.now _ _ _ (1 + digits) c.requires.room (omega arith) (omega arith) (omega (arith, decimal_short (get_or c.args.numbers c.loop-number.number-index 0)))));
    }

pub loop-number-preserved : goal.loop-number-preserved
loop-number-preserved c =
    let ns = c.args.numbers in
    let i = c.loop-number.number-index in
    printed_is (printed_then c.loop-number.invariant (printed_then c.put_byte.ensures.text c.put_number.ensures.text))
    (append_assoc c.args.kind.now (number_fields (take i ns)) (comma ∷ decimal (get_or ns i 0))
    ∙ ap (λ fs. c.args.kind.now ++ fs) (rw (add-one i) (fields_more ns i (omega arith))))

pub put-requires-2 : goal.put-requires-2
put-requires-2 c =
    record { room = printed_room c.loop-number.invariant 2 (room_left c.args.self.now _ _ _ 2 c.requires.room (omega arith) (omega arith) (omega arith)) }

pub returns : goal.returns
returns c =
    let all : take c.loop-number.number-index c.args.numbers ≡ c.args.numbers = take_all _ _ (omega arith) in
    record { text = printed_is (printed_then (rw all at c.loop-number.invariant) c.put-2.ensures.text) (line_of c.args.kind.now c.args.numbers) }
