-- `pipeline_turns::all_turns` meets its contract. Assumes nothing.
use Rattle.std.proofs.Common.{refl, ap, ◌∙◌, arith}
use Rattle.wsgs.specs.Pipelined.{turns}
use Rattle.pipelined.proofs.PipelinedTurns.{turns_more, same_on, same_pipeline_on}
use Rattle.pipelined.proofs.pipeline_turns.all_turns.Goals as goal

pub loop-done-init : goal.loop-done-init
unfolding turns
loop-done-init c =
    record {
      within = omega arith;
      loans = record { credits = refl; queues = refl; given = refl };
      pipeline_loans = record { copy = refl; flight = refl };
      copy = refl;
      fit = c.requires.fits;
      turns = refl;
    }

pub loop-done-preserved : goal.loop-done-preserved
loop-done-preserved c =
    let i = c.loop-done.invariant in
    let e = c.turns_of.ensures in
    record {
      within = omega arith;
      loans = same_on i.loans e.loans;
      pipeline_loans = same_pipeline_on i.pipeline_loans e.pipeline_loans;
      copy = e.copy_stays ∙ i.copy;
      fit = e.fit;
      turns = turns_more _ _ _ _ _ _ _ _ i.turns (rw i.copy at e.turns);
    }

pub returns : goal.returns
returns c =
    let i = c.loop-done.invariant in
    record {
      loans = i.loans;
      pipeline_loans = i.pipeline_loans;
      copy_stays = i.copy;
      fit = i.fit;
      turns = i.turns ∙ ap (turns _ _ _ _ _) (omega arith);
    }
