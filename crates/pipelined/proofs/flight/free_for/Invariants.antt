-- The loop's invariant: the outputs that the inputs so far have by the row are taken. The measure is the words left.
use Rattle.std.proofs.Common.{◌-◌, ◌≤◌}
use Rattle.pipelined.proofs.FlightMasks.{FreeIn}
use Rattle.pipelined.proofs.flight.free_for.Given as goal

abbrev pub invariant-loop-column : goal.invariant-loop-column
invariant-loop-column l = (l.column ≤ l.ports) × FreeIn l.ports l.flight l.row l.column l.free

abbrev pub decreases-loop-column : goal.decreases-loop-column
decreases-loop-column l = l.ports - l.column
