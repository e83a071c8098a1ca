-- `masks::is_free` meets its contract: an output without a bit is not free, and the bit of any other tells. Assumes nothing.
use mathlib.Core.Logic.{inl, inr}
use Prim.Native.Nat.{◌-◌}
use native.Mathlib.Omega.{arith}
use Rattle.turns.proofs.MaskLaws.{not_free, tested}
use Rattle.turns.proofs.masks.is_free.Goals as goal

pub returns-then-output-lt1 : goal.returns-then-output-lt1
returns-then-output-lt1 c =
    record { tested = not_free _ _ (inl (omega arith)) }

pub returns-then-output-gt-MAX_PORTS : goal.returns-then-output-gt-MAX_PORTS
returns-then-output-gt-MAX_PORTS c =
    record { tested = not_free _ _ (inr (omega arith)) }

pub returns : goal.returns
returns c =
    record { tested = tested c.args.free (c.args.output.0 - 1) (omega arith) c.args.output.0 (omega arith) }
