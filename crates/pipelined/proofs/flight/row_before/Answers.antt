-- `flight::row_before` meets its contract: the row stands before the other, or past the last row around. Assumes nothing.
use Rattle.std.proofs.Common.{◌+◌, ◌-◌, ◌*◌, arith}
use Rattle.wsgs.proofs.Laws.Words.{rows_small}
use Rattle.pipelined.proofs.FlightLaws.{row_within}
use Rattle.pipelined.proofs.Remainders.{row_less, row_around}
use Rattle.pipelined.proofs.flight.row_before.Goals as goal

pub overflow_mul-result : goal.overflow_mul-result
overflow_mul-result c =
    omega (arith, rows_small c.args.ports (omega arith), row_within c.args.ports (c.args.row - c.args.input.0) (omega arith))

pub returns-then-back-row : goal.returns-then-back-row
returns-then-back-row c =
    record {
      is = λ s e low. row_less c.args.ports c.args.input.0 c.args.row (omega arith) s e (omega arith);
      within = row_within c.args.ports (c.args.row - c.args.input.0) (omega arith);
    }

pub overflow_mul-result-3 : goal.overflow_mul-result-3
overflow_mul-result-3 c =
    omega (arith, rows_small c.args.ports (omega arith), row_within c.args.ports (c.args.row + 2 * c.args.ports - c.args.input.0) (omega arith))

pub returns : goal.returns
returns c =
    record {
      is = λ s e low. row_around c.args.ports c.args.input.0 c.args.row (omega arith) s e (omega arith) (omega arith) low;
      within = row_within c.args.ports (c.args.row + 2 * c.args.ports - c.args.input.0) (omega arith);
    }
