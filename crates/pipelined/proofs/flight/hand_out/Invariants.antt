-- The loop's invariant: the outputs and the pass-one word are those of the inputs so far, and their words in flight are 0.
use Rattle.std.proofs.Common.{◌≡◌, ◌+◌, ◌-◌, ◌≤◌, length}
use Rattle.pipelined.proofs.FlightPairs.{PairsSoFar}
use Rattle.pipelined.proofs.PipelinedRows.{ClearedSoFar}
use Rattle.pipelined.proofs.flight.hand_out.Given as goal

abbrev pub invariant-loop-column : goal.invariant-loop-column
invariant-loop-column l = (l.column ≤ l.ports) × PairsSoFar l.ports (l.fn.clock.slot + 1) l.initial.flight l.column l.outputs l.first_pass × ClearedSoFar l.row l.initial.flight l.column l.flight × (length l.flight ≡ length l.initial.flight)

abbrev pub decreases-loop-column : goal.decreases-loop-column
decreases-loop-column l = l.ports - l.column
