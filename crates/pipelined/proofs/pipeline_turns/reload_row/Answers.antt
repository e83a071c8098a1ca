-- `pipeline_turns::reload_row` meets its contract: the row is the front of the part that is copied over. Assumes nothing.
use Rattle.std.proofs.Common.{◌∙◌, arith}
use Rattle.words.proofs.PlaceLaws.{row_is}
use Rattle.pipelined.proofs.PipelinedRows.{row_loaded}
use Rattle.pipelined.proofs.PipelinedTurns.{reloads, keeps}
use Rattle.pipelined.proofs.Remainders.{slot_first, slot_later}
use Rattle.pipelined.proofs.pipeline_turns.reload_row.Goals as goal

pub returns-then-into-input : goal.returns-then-into-input
returns-then-into-input c =
    let i = c.requires.input in
    record {
      reload = λ frame time covers place q g f.
          reloads _ _ _ _ q g f _ _ _ (slot_first _ _ time _ _ i.port covers place c.if-into-input.true)
          (row_loaded _ _ _ _ (omega (arith, c.row_of-row.ensures.within, c.requires.credits_fit)) _ c.args.pipeline.now.copy.now (c.row_of-row.ensures.row ∙ row_is _ _ i.few i.port)
          (omega (arith, c.row_of-row.ensures.within, c.requires.copy_fits)) c.copy_slots.ensures.to_exit);
    }

pub returns-else-into-input : goal.returns-else-into-input
returns-else-into-input c =
    record {
      reload = λ frame time covers place q g f.
          keeps _ _ _ _ q g f _ _ (slot_later _ _ time _ _ c.requires.input.port covers place c.if-into-input.false);
    }
