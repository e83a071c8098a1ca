-- `masks::all_free` meets its contract: from 32 ports on all bits are set, and below them one bit for each. Assumes nothing.
use native.Mathlib.Omega.{arith}
use lib.Pow.{pow_pos}
use Rattle.turns.proofs.BitLaws.{one_shl}
use Rattle.turns.proofs.MaskLaws.{all_set, lowest_set}
use Rattle.turns.proofs.masks.all_free.Goals as goal

pub returns-then-ports : goal.returns-then-ports
returns-then-ports c =
    record { mask = all_set _ c.if-ports.true }

pub overflow_sub-result : goal.overflow_sub-result
overflow_sub-result c =
    rw (one_shl 32 c.args.ports (omega arith)) (pow_pos c.args.ports)

pub returns : goal.returns
returns c =
    record { mask = lowest_set _ c.if-ports.false }
