-- `amounts::rate_slots` meets its contract: without a rate or a line it is 0, else the quotient. Assumes nothing.
use mathlib.Core.Path.{sym}
use native.Mathlib.Omega.{arith}
use Rattle.bookings.proofs.Laws.{nothing_divided, divided, quotient_few}
use Rattle.bookings.proofs.amounts.rate_slots.Goals as goal

pub returns-then-rate-eq0-clause-result : goal.returns-then-rate-eq0-clause-result
returns-then-rate-eq0-clause-result c = sym (nothing_divided _ _ _ c.then-rate-eq0.either)

pub returns : goal.returns
returns c =
    record {
      result = sym (divided _ _ _ (omega arith));
      few = quotient_few _ _ _ (omega arith);
    }
