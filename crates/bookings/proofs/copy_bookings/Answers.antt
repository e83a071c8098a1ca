-- `bookings::copy_bookings` meets its contract: without a rate the bookings are the slots. Assumes nothing.
use mathlib.Core.Path.{sym, ◌∙◌}
use Rattle.std.proofs.Common.{arith}
use Rattle.bookings.proofs.Laws.{unrated_copy}
use Rattle.bookings.proofs.copy_bookings.Goals as goal

pub returns-else-has_rate : goal.returns-else-has_rate
returns-else-has_rate g c =
    let a = c.args in
    record {
      to_exit = c.copy_slots.ensures.to_exit
          ∙ unrated_copy a.clock.frame a.clock.line a.book.slots.now a.book.rates.now a.to.now a.count (sym c.has_rate.ensures.result ∙ c.if-has_rate.false)
          (λ k. omega (arith, c.copy_slots.ensures.words k));
    }
