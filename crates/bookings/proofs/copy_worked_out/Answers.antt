-- `bookings::copy_worked_out` meets its contract: all runs are long enough and the bookings copied, or nothing changes. Assumes nothing.
use mathlib.Core.Path.{◌∙◌}
use native.Mathlib.Omega.{arith}
use Rattle.bookings.proofs.Laws.{bookings_fit, bookings_short}
use Rattle.bookings.proofs.copy_worked_out.Goals as goal

pub returns-then-count-to : goal.returns-then-count-to
returns-then-count-to g c =
    record { to_exit = c.copy_first.ensures.to_exit ∙ bookings_fit _ _ _ _ _ _ (omega arith) (omega arith) (omega arith) }

pub returns-else-count-slots : goal.returns-else-count-slots
returns-else-count-slots g c =
    record { to_exit = bookings_short _ _ _ _ _ _ (λ p q r. grind (arith, c.else-count-slots.either)) }
