-- `payments::spend_credit` meets its contract: the pair's place is inside the run, and its credits fall by 1. Assumes nothing.
use Rattle.turns.proofs.Falls.{at_less}
use Rattle.turns.proofs.payments.spend_credit.Goals as goal

pub returns : goal.returns
returns c =
    record { less = at_less _ _ _ _ c.place-at.ensures.place _ _ c.spend.ensures.less }
