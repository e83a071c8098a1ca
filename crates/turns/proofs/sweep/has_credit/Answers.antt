-- `sweep::has_credit` meets its contract. Assumes nothing.
use Prim.Native.Nat.{◌+◌, ◌-◌}
use mathlib.Core.Path.{◌≡◌, refl, ap, ◌∙◌}
use borrow.Author.Rules.{rules}
use native.Mathlib.Omega.{arith}
use lib.Dec.{ltb}
use lib.ListN.{get_or}
use Rattle.wsgs.specs.Basics.{some_of}
use Rattle.turns.proofs.Ready.{none_yet, some_next}
use Rattle.turns.proofs.sweep.has_credit.Goals as goal

pub loop-column-init : goal.loop-column-init
loop-column-init c =
    (search rules, none_yet c.args.credits.now c.args.row)

pub loop-column-preserved : goal.loop-column-preserved
loop-column-preserved c =
    (omega arith, some_next c.args.credits.now c.args.row c.loop-column.column c.loop-column.found _ c.loop-column.invariant.1 refl)

pub returns : goal.returns
returns c =
    let e : c.loop-column.column ≡ c.args.ports = omega arith in
    record { tested = c.loop-column.invariant.1 ∙ ap (some_of (λ j. ltb 0 (get_or c.args.credits.now (c.args.row + (j - 1)) 0))) e }
