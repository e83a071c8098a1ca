-- The end of the heading, or of another record.
use mathlib.Core.Path.{◌∙◌}
use native.Mathlib.Omega.{arith}
use borrow.Author.Tests.{not-true, not-false}
use Rattle.lines.specs.Lines.{refusal_room}
use Rattle.lines.proofs.Printing.{refusal_short}
use Rattle.lines.proofs.Writing.{wrote_front}
use Rattle.machine.specs.View.{refusal_in}
use Rattle.events.proofs.StepLaws.{heading_written, read_by_number, record_written}
use Rattle.events.proofs.bytes.end_record.Goals as goal

pub returns-then-not-progress-clause-outcome : goal.returns-then-not-progress-clause-outcome
returns-then-not-progress-clause-outcome c =
    heading_written c.args.progress c.args.buffer.now c.args.runs.now _ (not-true _ c.if-not-progress.true) c.ended.ensures.progress

pub returns-clause-outcome : goal.returns-clause-outcome
returns-clause-outcome c =
    let refusal = refusal_in c.obey-obeyed.result.outcome in
    record_written c.args.progress c.args.buffer.now c.args.runs.now c.obey-obeyed.new.runs c.obey-obeyed.result _ _ c.min-kept.result _ (not-false _ c.if-not-progress.false)
    (omega (arith, c.min-kept.ensures, c.saturating_sub.ensures)) (read_by_number _ _ c.map_err.ensures.cases ∙ c.read_record-reading.ensures.reading) c.obey-obeyed.ensures.outcome
    (wrote_front refusal_room c.args.out.now _ c.requires.room (refusal_short refusal) (rw c.err.ensures.value at c.refusal_line.ensures.outcome))
    (rw c.unwrap_or.ensures at c.ended-2.ensures.progress)
