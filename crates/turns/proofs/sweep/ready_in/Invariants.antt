-- The loop's invariant: the ready columns so far are marked.
use Prim.Native.Nat.{◌≤◌}
use mathlib.Core.Path.{◌≡◌}
use Rattle.turns.specs.Masks.{ready_mask}
use Rattle.turns.proofs.sweep.ready_in.Given as goal

abbrev pub invariant-loop-column : goal.invariant-loop-column
invariant-loop-column l = (l.column ≤ l.ports) × (l.ready ≡ ready_mask l.credits l.queues l.row l.column)
