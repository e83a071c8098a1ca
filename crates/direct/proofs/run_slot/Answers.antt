-- `direct::run_slot` meets its contract: step 1 and the two passes together are the nine steps. Assumes nothing.
use mathlib.Core.Path.{◌∙◌}
use Rattle.wsgs.specs.Told.{direct_lent}
use Rattle.direct.proofs.SlotLaws.{slot_run}
use Rattle.direct.proofs.run_slot.Goals as goal

pub returns-clause-slot_run : goal.returns-clause-slot_run
returns-clause-slot_run c =
    slot_run _ _ _ _ (direct_lent c.args.book c.args.runs.now) _ c.reload.ensures.credits_exit _ _ _ _ _ _
    (c.pass_two.ensures.pass_two _ _ _ c.pass_one-passed.ensures.state) (c.pass_two.ensures.first_pass ∙ c.pass_one-passed.ensures.first_pass) c.pass_one-passed.ensures.credits_exit
