-- A slot of a tick record.
use mathlib.Core.Path.{refl}
use Rattle.events.proofs.StepLaws.{pairs_written, slot_refused}
use Rattle.events.proofs.steps.step_slot.Goals as goal

pub returns-in-Ok-clause-outcome : goal.returns-in-Ok-clause-outcome
returns-in-Ok-clause-outcome c b =
    pairs_written c.args.progress b c.args.runs.now
    (record c.args.runs.now { turns = c.run_slot-slot.new.turns; pipeline = c.run_slot-slot.new.pipeline }) c.run_slot-slot.result _ _ _ c.run_slot-slot.ensures.outcome c.in-Ok.pairs c.in-Ok.is c.slot_lines.ensures.short c.requires.room
    c.slot_lines.ensures.outcome refl refl

pub returns-in-Err-clause-outcome : goal.returns-in-Err-clause-outcome
returns-in-Err-clause-outcome c b =
    slot_refused c.args.progress b c.args.runs.now
    (record c.args.runs.now { turns = c.run_slot-slot.new.turns; pipeline = c.run_slot-slot.new.pipeline }) c.run_slot-slot.result _ _ _ c.run_slot-slot.ensures.outcome c.in-Err.line c.in-Err.is c.run_slot-slot.ensures.refused c.requires.room
    c.refusal_line.ensures.outcome refl refl
