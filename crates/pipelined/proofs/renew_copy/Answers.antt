-- `pipelined::renew_copy` meets its contract: all runs are long enough, so the copy is whole. Assumes nothing.
use Rattle.std.proofs.Common.{sym, ◌∙◌, arith}
use Rattle.bookings.proofs.Laws.{bookings_fit}
use Rattle.pipelined.proofs.PipelinedTick.{copies, stands}
use Rattle.pipelined.proofs.renew_copy.Goals as goal

pub returns-then-into-eq0 : goal.returns-then-into-eq0
returns-then-into-eq0 c =
    let l = c.requires.copying in
    record {
      copy_exit = λ time place cr q g f.
          copies _ _ c.args.clock.line time _ _ place _ (omega (arith, c.if-into-eq0.true))
          (c.copy_bookings.ensures.to_exit ∙ sym (bookings_fit _ _ _ _ _ _ l.slots l.rates l.copy));
    }

pub returns-else-into-eq0 : goal.returns-else-into-eq0
returns-else-into-eq0 c =
    record { copy_exit = λ time place cr q g f. stands _ _ _ time _ _ place c.if-into-eq0.false }
