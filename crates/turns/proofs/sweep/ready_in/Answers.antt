-- `sweep::ready_in` meets its contract. Assumes nothing.
use Prim.Native.Nat.{◌+◌, ◌^◌}
use mathlib.Core.Path.{◌≡◌, ap, ◌∙◌}
use borrow.Author.Rules.{rules}
use native.Mathlib.Omega.{arith}
use lib.Dec.{ltb}
use lib.ListN.{get_or}
use Rattle.turns.specs.Masks.{ready_mask}
use Rattle.turns.proofs.Ready.{column_two, ready_start, ready_next}
use Rattle.turns.proofs.sweep.ready_in.Goals as goal

pub loop-column-init : goal.loop-column-init
loop-column-init c =
    (search rules, ready_start _ _ _)

pub loop-column-preserved : goal.loop-column-preserved
loop-column-preserved c =
    let credit = ltb 0 (get_or c.args.credits.now (c.args.row + c.loop-column.column) 0) in
    let packet = ltb 0 (get_or c.args.queues.now (c.args.row + c.loop-column.column) 0) in
    (omega arith, ready_next _ _ _ c.loop-column.column _ _ c.loop-column.invariant.1 (column_two (2 ^ c.loop-column.column) credit packet _ _ c.bit_if-packet.ensures.bit c.bit_if-credit.ensures.bit))

pub returns : goal.returns
returns c =
    let e : c.loop-column.column ≡ c.args.ports = omega arith in record { ready = c.loop-column.invariant.1 ∙ ap (ready_mask _ _ _) e }
