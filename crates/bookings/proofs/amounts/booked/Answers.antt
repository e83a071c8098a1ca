-- `amounts::booked` meets its contract. Assumes nothing.
use Rattle.std.proofs.Common.{arith}
use Rattle.wsgs.specs.Bookings.{booking}
use Rattle.bookings.proofs.amounts.booked.Goals as goal

pub returns-then-slots-gt-MAX_BOOKING-clause-result :
    goal.returns-then-slots-gt-MAX_BOOKING-clause-result
unfolding booking
returns-then-slots-gt-MAX_BOOKING-clause-result c = omega arith

pub returns-clause-result : goal.returns-clause-result
unfolding booking
returns-clause-result c = omega (arith, c.min.ensures, c.rate_slots.ensures.result)
