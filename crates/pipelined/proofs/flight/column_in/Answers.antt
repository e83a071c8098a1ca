-- `flight::column_in` meets its contract, by the laws of a word's column. Assumes nothing.
use Rattle.std.proofs.Common.{sym, ◌∙◌, arith}
use Rattle.pipelined.proofs.FlightLaws.{first_low, first_column, second_column}
use Rattle.pipelined.proofs.flight.column_in.Goals as goal

pub overflow_sub-result : goal.overflow_sub-result
overflow_sub-result c =
    omega (arith, first_low c.args.ports c.args.word (sym c.is_by_first.ensures.tested ∙ c.if-is_by_first.true))

pub returns-then-is_by_first : goal.returns-then-is_by_first
returns-then-is_by_first c =
    let h = first_column c.args.ports c.args.word (sym c.is_by_first.ensures.tested ∙ c.if-is_by_first.true) in record {
      some = h.0;
      none = h.1;
    }

pub returns : goal.returns
returns c =
    let h = second_column c.args.ports c.args.word c.wrapping_sub_u32.result (sym c.is_by_first.ensures.tested ∙ c.if-is_by_first.false) c.requires.few_ports (omega arith)
    (omega (arith, c.wrapping_sub_u32.ensures.value)) in record {
      some = h.0;
      none = h.1;
    }
