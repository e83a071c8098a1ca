-- A step: a slot where one is to run, else a byte.
use Rattle.events.proofs.StepLaws.{step_slot_written, step_byte_written}
use Rattle.events.proofs.steps.step.Goals as goal

pub returns-then-progress-gt0-clause-outcome : goal.returns-then-progress-gt0-clause-outcome
returns-then-progress-gt0-clause-outcome c =
    step_slot_written c.args.progress c.args.buffer.now c.args.runs.now c.args.block.now c.if-progress-gt0.true (c.step_slot.ensures.outcome c.args.buffer.now)

pub returns-clause-outcome : goal.returns-clause-outcome
returns-clause-outcome c =
    step_byte_written c.args.progress c.args.buffer.now c.args.runs.now c.args.block.now c.if-progress-gt0.false c.take_byte.ensures.outcome
