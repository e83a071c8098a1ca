-- A slot, by its tick.
use mathlib.Core.Path.{refl}
use Rattle.wsgs.specs.Told.{book_lent}
use Rattle.machine.proofs.SlotLaws.{slot_ran, slot_refused}
use Rattle.machine.proofs.run_slot.Goals as goal

pub returns-in-Ok-clause-outcome : goal.returns-in-Ok-clause-outcome
returns-in-Ok-clause-outcome c =
    slot_ran c.args.machine (book_lent c.args.book) (book_lent c.args.book) c.args.turns.now c.run_tick.new.turns c.args.pipeline.now c.run_tick.new.pipeline _ c.in-Ok.ensures.outcome _ c.shown_slot-slot.ensures.slot refl

pub returns-in-Err-clause-outcome : goal.returns-in-Err-clause-outcome
returns-in-Err-clause-outcome c =
    slot_refused c.args.machine (book_lent c.args.book) (book_lent c.args.book) c.args.turns.now c.run_tick.new.turns c.args.pipeline.now c.run_tick.new.pipeline _ c.in-Err.ensures.outcome _
    (c.refusal_line.ensures.line (book_lent c.args.book) c.args.turns.now c.args.pipeline.now)
