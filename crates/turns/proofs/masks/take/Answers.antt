-- `masks::take` meets its contract: an output without a bit changes nothing, and of any other the bit is cleared. Assumes nothing.
use mathlib.Core.Logic.{inl, inr}
use Prim.Native.Nat.{◌-◌}
use native.Mathlib.Omega.{arith}
use Rattle.turns.proofs.MaskLaws.{stays, cleared}
use Rattle.turns.proofs.masks.take.Goals as goal

pub returns-then-output-lt1 : goal.returns-then-output-lt1
returns-then-output-lt1 c =
    record { cleared = stays _ _ (inl (omega arith)) }

pub returns-then-output-gt-MAX_PORTS : goal.returns-then-output-gt-MAX_PORTS
returns-then-output-gt-MAX_PORTS c =
    record { cleared = stays _ _ (inr (omega arith)) }

pub returns : goal.returns
returns c =
    record { cleared = cleared c.args.free (c.args.output.0 - 1) (omega arith) c.args.output.0 (omega arith) (omega arith) }
