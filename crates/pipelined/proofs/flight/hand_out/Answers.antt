-- `flight::hand_out` meets its contract. Assumes nothing.
use Rattle.std.proofs.Common.{sym, refl, ap, ◌∙◌, arith, length-set, rules}
use Rattle.wsgs.specs.Pipelined.{by_first, output_in}
use Rattle.pipelined.proofs.FlightPairs.{handed_none, handed_first, handed_other, handed_all}
use Rattle.pipelined.proofs.PipelinedRows.{cleared_none, next_stands, cleared_more, cleared_all}
use Rattle.pipelined.proofs.flight.hand_out.Goals as goal

pub loop-column-init : goal.loop-column-init
loop-column-init c =
    (search rules, handed_none _ _ _, cleared_none _ _, refl)

pub loop-column-preserved : goal.loop-column-preserved
loop-column-preserved c =
    let e = next_stands _ _ _ _ (omega arith) c.loop-column.invariant.2 in (
      omega arith,
      elim c.if-is_by_first.branch [
        | goal.then-is_by_first w ↦
            rw w.first_pass-is
            (handed_first _ _ _ _ _ _ _ _ (omega arith) c.row_of-row.ensures.is c.loop-column.invariant.1 (c.byte_of.ensures.told ∙ c.output_of.ensures.read ∙ ap (output_in _) e)
            (sym (ap (by_first _) e) ∙ sym c.is_by_first.ensures.tested ∙ w.if-is_by_first.true))
        | goal.else-is_by_first w ↦
            rw w.first_pass-is
            (handed_other _ _ _ _ _ _ _ _ (omega arith) c.row_of-row.ensures.is c.loop-column.invariant.1 (c.byte_of.ensures.told ∙ c.output_of.ensures.read ∙ ap (output_in _) e)
            (sym (ap (by_first _) e) ∙ sym c.is_by_first.ensures.tested ∙ w.if-is_by_first.false))
      ],
      cleared_more _ _ _ _ (omega arith) c.loop-column.invariant.2,
      simp length-set c.loop-column.invariant.3,
    )

pub returns : goal.returns
returns c =
    let h = handed_all _ _ _ _ _ _ (omega arith) c.loop-column.invariant.1 in
    record {
      outputs = h.0;
      first_pass = h.1;
      flight_exit = cleared_all _ _ _ _ _ _ c.row_of-row.ensures.is (omega arith) c.loop-column.invariant.2;
    }
