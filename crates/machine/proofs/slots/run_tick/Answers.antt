-- The tick of a form, by what it gives back.
use mathlib.Core.Path.{sym, ap, ◌∙◌}
use Rattle.wsgs.specs.Switch.{tick, apply}
use Rattle.wsgs.proofs.Calls.{tick_direct, tick_pipelined}
use Rattle.wsgs.specs.Told.{form_told, book_lent}
use Rattle.machine.specs.View.{switch_lent}
use Rattle.machine.proofs.slots.run_tick.Goals as goal

pub returns-in-Pipelined-clause-outcome : goal.returns-in-Pipelined-clause-outcome
returns-in-Pipelined-clause-outcome c =
    let s = switch_lent c.args.machine.clock (book_lent c.args.book) c.args.turns.now c.args.pipeline.now in
    tick_pipelined s _ c.step_pipelined.ensures.outcome ∙ ap (λ f. apply (tick f) s) (sym (ap form_told c.in-Pipelined.is))

pub returns-in-Direct-clause-outcome : goal.returns-in-Direct-clause-outcome
returns-in-Direct-clause-outcome c =
    let s = switch_lent c.args.machine.clock (book_lent c.args.book) c.args.turns.now c.args.pipeline.now in
    tick_direct s _ c.step_direct.ensures.outcome ∙ ap (λ f. apply (tick f) s) (sym (ap form_told c.in-Direct.is))
