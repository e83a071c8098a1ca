-- `flight::output_of` meets its contract: by its test the word has a column below the ports or none. Assumes nothing.
use Rattle.std.proofs.Common.{sym}
use Rattle.pipelined.proofs.flight.output_of.Goals as goal

pub returns-then-column-highest-clause-read : goal.returns-then-column-highest-clause-read
returns-then-column-highest-clause-read c =
    sym (c.column_in-column.ensures.some c.if-column-highest.true)

pub returns-clause-read : goal.returns-clause-read
returns-clause-read c =
    sym (c.column_in-column.ensures.none c.if-column-highest.false)
