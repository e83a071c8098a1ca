-- The loop's invariant: the runs are the same loans, as long as they were, and `PassOneState`: the outputs that the inputs hold are the definition's for the
-- inputs so far, and mask, list, words and mark are as these say.
use Prim.Native.Nat.{◌≤◌}
use mathlib.Core.Path.{◌≡◌}
use lib.ListN.{length}
use Rattle.wsgs.specs.Words.{word, port_word}
use Rattle.wsgs.specs.Steps.{pass_one}
use Rattle.wsgs.specs.Told.{SameTurnRuns}
use Rattle.direct.proofs.PassLaws.{PassOneState}
use Rattle.direct.proofs.passes.pass_one.Given as goal

abbrev pub invariant-loop-row : goal.invariant-loop-row
invariant-loop-row l = record {
  within : l.row ≤ l.ports;
  loans : SameTurnRuns l.initial.runs l.runs;
  credits : length l.runs.credits.now ≡ length l.initial.runs.credits.now;
  queues : length l.runs.queues.now ≡ length l.initial.runs.queues.now;
  given : length l.runs.given.now ≡ length l.initial.runs.given.now;
  state : PassOneState l.ports l.initial.runs.credits.now l.initial.runs.queues.now l.initial.runs.given.now
      (pass_one l.ports (word l.ports l.initial.runs.credits.now) (word l.ports l.initial.runs.queues.now) (port_word l.initial.runs.given.now) l.row)
      l.free l.first_pass l.outputs l.runs.credits.now l.runs.queues.now l.runs.given.now;
}
