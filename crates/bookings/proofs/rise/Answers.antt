-- `bookings::rise` meets its contract: no product wraps, since the frame is in range. Assumes nothing.
use mathlib.Core.Path.{sym, ap₂, ◌∙◌}
use Prim.Native.Nat.{◌-◌}
use native.Mathlib.Omega.{arith}
use Rattle.wsgs.proofs.Laws.Bookings.{booking_mono}
use Rattle.bookings.proofs.Laws.{long_frame, rise_is}
use Rattle.bookings.proofs.rise.Goals as goal

pub returns-then-clock-gt-MAX_FRAME : goal.returns-then-clock-gt-MAX_FRAME
returns-then-clock-gt-MAX_FRAME c =
    record {
      result = sym (long_frame _ _ _ _ _ (omega arith));
      fits = omega arith;
    }

pub overflow_sub-result : goal.overflow_sub-result
overflow_sub-result c =
    rw (c.booking-present.ensures.result, c.booked-raised.ensures.result) (booking_mono _ _ _ _ _ _ (omega arith) (omega arith))

pub returns : goal.returns
returns c =
    record {
      result = ap₂ ◌-◌ c.booked-raised.ensures.result c.booking-present.ensures.result ∙ sym (rise_is c.args.clock.frame c.args.clock.line c.args.slots.0 c.args.rate c.args.more (omega arith));
      fits = omega (arith, c.booked-raised.ensures.fits);
    }
