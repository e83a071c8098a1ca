-- The input is fed piece by piece: fewer bytes are left.
use Rattle.std.proofs.Common.{◌≤◌, length}
use Rattle.trace_test.proofs.feed_pieces.Given as goal

abbrev pub invariant-loop-rest : goal.invariant-loop-rest
invariant-loop-rest g l = length l.rest ≤ length l.input

abbrev pub decreases-loop-rest : goal.decreases-loop-rest
decreases-loop-rest g l = length l.rest
