-- `flight::row_of` meets its contract: the row lies within the 2n rows, which are few words. Assumes nothing.
use Rattle.std.proofs.Common.{◌*◌, ◌%◌, refl, mod-lt, arith}
use Rattle.wsgs.proofs.Laws.Words.{rows_small}
use Rattle.pipelined.proofs.FlightLaws.{row_within}
use Rattle.pipelined.proofs.flight.row_of.Goals as goal

pub overflow_mul-result-2 : goal.overflow_mul-result-2
overflow_mul-result-2 c =
    omega (arith, rows_small c.args.ports (omega arith), row_within c.args.ports (c.args.slot % (2 * c.args.ports)) (mod-lt c.args.slot (omega arith)))

pub returns : goal.returns
returns c =
    record {
      is = refl;
      within = row_within _ _ (mod-lt c.args.slot (omega arith));
    }
