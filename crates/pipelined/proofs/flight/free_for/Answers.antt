-- `flight::free_for` meets its contract. Assumes nothing.
use Rattle.std.proofs.Common.{arith, rules}
use Rattle.pipelined.proofs.FlightMasks.{free_start, free_more, free_all}
use Rattle.pipelined.proofs.flight.free_for.Goals as goal

pub loop-column-init : goal.loop-column-init
loop-column-init c =
    (search rules, free_start _ (omega arith) _ _ _ c.all_free-free.ensures.mask)

pub loop-column-preserved : goal.loop-column-preserved
loop-column-preserved c =
    (omega arith, free_more _ (omega arith) _ _ _ _ _ _ c.column_in-standing.ensures.some c.column_in-standing.ensures.none c.take-free.ensures.cleared c.loop-column.invariant.1)

pub returns : goal.returns
returns c =
    record { free = λ s e j p. free_all _ (omega arith) _ _ _ _ c.loop-column.invariant.1 (omega arith) s e j p }
