-- The loop's invariant: the runs are the same loans, and those that the turns of the inputs so far leave.
use Rattle.std.proofs.Common.{◌≡◌, ◌≤◌}
use Rattle.wsgs.specs.Told.{SameTurnRuns, SamePipelineRuns}
use Rattle.wsgs.specs.Pipelined.{turns}
use Rattle.pipelined.specs.Turnings.{turning_lent, RunsFit}
use Rattle.pipelined.proofs.pipeline_turns.all_turns.Given as goal

abbrev pub invariant-loop-done : goal.invariant-loop-done
invariant-loop-done l = record {
  within : l.done ≤ l.ahead.ports;
  loans : SameTurnRuns l.initial.runs l.runs;
  pipeline_loans : SamePipelineRuns l.initial.pipeline l.pipeline;
  copy : l.pipeline.copy.now ≡ l.initial.pipeline.copy.now;
  fit : RunsFit l.ahead.ports l.pipeline.copy.now (turning_lent l.runs l.pipeline);
  turns : turning_lent l.runs l.pipeline ≡ turns l.ahead.ports l.ahead.frame l.initial.pipeline.copy.now l.ahead.time (turning_lent l.initial.runs l.initial.pipeline) l.done;
}
