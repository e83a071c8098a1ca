-- The loop's invariant: the or of the credits so far is above 0 where one of them is.
use Prim.Native.Nat.{◌+◌, ◌-◌, ◌≤◌}
use mathlib.Core.Path.{◌≡◌}
use lib.Dec.{ltb}
use lib.ListN.{get_or}
use Rattle.wsgs.specs.Basics.{some_of}
use Rattle.turns.proofs.sweep.has_credit.Given as goal

abbrev pub invariant-loop-column : goal.invariant-loop-column
invariant-loop-column l = (l.column ≤ l.ports) × (ltb 0 l.found ≡ some_of (λ j. ltb 0 (get_or l.credits (l.row + (j - 1)) 0)) l.column)
