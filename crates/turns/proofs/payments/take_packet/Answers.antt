-- `payments::take_packet` meets its contract: the pair's place is inside the run, and its word falls by 1. Assumes nothing.
use Rattle.turns.proofs.Falls.{at_less}
use Rattle.turns.proofs.payments.take_packet.Goals as goal

pub returns : goal.returns
returns c =
    record { less = at_less _ _ _ _ c.place-at.ensures.place _ _ c.saturating_sub.ensures }
