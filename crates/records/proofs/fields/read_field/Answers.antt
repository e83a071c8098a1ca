-- A field's digits are read one by one.
use native.Mathlib.Omega.{arith}
use Rattle.records.proofs.Digits.{next_digit}
use Rattle.records.proofs.fields.read_field.Goals as goal

pub loop-byte-preserved : goal.loop-byte-preserved
loop-byte-preserved c =
    let digit = c.if-not-is_ascii_digit.ensures.cases in
    next_digit _ _ _ c.loop-byte.invariant (omega arith) _ (omega (arith, c.from.ensures)) digit.0 digit.1
