-- A byte ends the record, or goes on with it.
use mathlib.Core.Path.{◌≡◌}
use mathlib.Core.Bool.{false, ◌&&◌}
use borrow.Author.Tests.{eq-eqb, ne_eqb}
use lib.Dec.{eqb}
use Rattle.wsgs.specs.Text.{LF}
use Rattle.events.proofs.StepLaws.{byte_ended, byte_kept}
use Rattle.events.proofs.bytes.take_byte.Goals as goal
use Rattle.events.proofs.bytes.take_byte.Goals.{else-progress-via-then-progress+else-byte-eq10, else-progress-via-else-progress}

pub returns-then-byte-eq10-clause-outcome : goal.returns-then-byte-eq10-clause-outcome
returns-then-byte-eq10-clause-outcome c =
    byte_ended c.args.progress c.args.buffer.now c.args.runs.now c.args.byte (rw (c.if-progress.true, eq-eqb c.args.byte LF c.if-byte-eq10.true)) c.end_record.ensures.outcome

pub returns-clause-outcome : goal.returns-clause-outcome
returns-clause-outcome c =
    let more : (c.args.progress.after_cr && eqb c.args.byte LF) ≡ false =
    elim c.else-progress.branch [
      | else-progress-via-then-progress+else-byte-eq10 w ↦ rw (w.if-progress.true, ne_eqb c.args.byte LF w.if-byte-eq10.false)
      | else-progress-via-else-progress w ↦ rw w.if-progress.false
    ] in
    byte_kept c.args.progress c.args.buffer.now c.args.runs.now c.args.byte more (c.append.ensures.state c.args.runs.now)
