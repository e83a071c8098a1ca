-- `direct::tick` meets its contract: a refusal is answered alone, and where there is none the slot's requirements hold. Assumes nothing.
use mathlib.Core.Path.{sym}
use native.Mathlib.Omega.{arith}
use Rattle.wsgs.specs.Told.{direct_lent}
use Rattle.direct.proofs.Asked.{TickConditions, accepted_found}
use Rattle.direct.proofs.SlotLaws.{tick_refused, tick_ran}
use Rattle.direct.proofs.tick.Goals as goal
use Rattle.direct.proofs.tick.Goals.{In_ok-check_direct_tick}

found : (c : In_ok-check_direct_tick) → TickConditions c.args.clock (direct_lent c.args.book c.args.runs.now)
found c =
    accepted_found _ _ (sym c.in_ok-check_direct_tick.ensures.result)

pub returns-in_err-check_direct_tick-clause-outcome : goal.returns-in_err-check_direct_tick-clause-outcome
returns-in_err-check_direct_tick-clause-outcome c =
    tick_refused _ (direct_lent c.args.book c.args.runs.now) _ _ c.from_residual.ensures.1 c.in_err-check_direct_tick.ensures.result

pub overflow_add-next : goal.overflow_add-next
overflow_add-next c =
    omega (arith, (found (goal.at.overflow_add-next c).In_ok-check_direct_tick).slots_left)

pub run_slot-served-requires-clause-loading : goal.run_slot-served-requires-clause-loading
run_slot-served-requires-clause-loading c =
    (found (goal.at.run_slot-served-requires-clause-loading c).In_ok-check_direct_tick).loading

pub run_slot-served-requires-clause-queues_fit : goal.run_slot-served-requires-clause-queues_fit
run_slot-served-requires-clause-queues_fit c =
    (found (goal.at.run_slot-served-requires-clause-queues_fit c).In_ok-check_direct_tick).queues_fit

pub returns-clause-outcome : goal.returns-clause-outcome
returns-clause-outcome c =
    tick_ran c.args.clock (direct_lent c.args.book c.args.runs.now) (sym c.in_ok-check_direct_tick.ensures.result) _ _ _ _ _ c.run_slot-served.ensures.slot_run
