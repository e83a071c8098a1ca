-- The loop's invariant: the bytes passed are digits, and `value` is their value.
use Rattle.records.proofs.Digits.{Digits}
use Rattle.records.proofs.fields.read_field.Given as goal

abbrev pub invariant-loop-byte : goal.invariant-loop-byte
invariant-loop-byte l = Digits l.text l.value l.byte-index
