-- `BookingRequest::check_rule` meets its contract: the clock tells which rule is asked. Assumes nothing.
use mathlib.Core.Path.{◌∙◌}
use Rattle.book.proofs.Laws.Sharing.{plain_rule, fine_rule}
use Rattle.book.proofs.afterwards.BookingRequest.check_rule.Goals as goal

pub returns-then-self-eq0 : goal.returns-then-self-eq0
returns-then-self-eq0 c =
    record { refusal = c.check_sums.ensures.refusal ∙ plain_rule _ _ _ _ _ c.if-self-eq0.true }

pub returns-else-self-eq0 : goal.returns-else-self-eq0
returns-else-self-eq0 c =
    record { refusal = c.check_sharing.ensures.refusal ∙ fine_rule _ _ _ _ _ c.if-self-eq0.false }
