-- `pipelined::run_tick` meets its contract: what its calls ensure are the definition's steps. Assumes nothing.
use Rattle.wsgs.specs.Told.{pipelined_lent}
use Rattle.pipelined.proofs.PipelinedTick.{ticked_left}
use Rattle.pipelined.proofs.run_tick.Goals as goal

pub returns-clause-outcome : goal.returns-clause-outcome
returns-clause-outcome c =
    let a = c.look_ahead-ahead in
    let place = rw (a.ensures.ports, a.ensures.frame, a.ensures.time) at a.result.known.place in
    let turned = rw (a.ensures.ports, a.ensures.frame, a.ensures.time) at c.all_turns.ensures.turns in
    rw c.all_turns.ensures.copy_stays
    (ticked_left c.args.clock (pipelined_lent c.args.book c.args.runs.now c.args.pipeline.now) _ _ _ _ _ _ _ _ (c.renew_copy.ensures.copy_exit _ place _ _ _ _) turned
    c.hand_out-served.ensures.outputs c.hand_out-served.ensures.first_pass c.hand_out-served.ensures.flight_exit)
