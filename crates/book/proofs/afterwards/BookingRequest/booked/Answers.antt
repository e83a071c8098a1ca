-- `BookingRequest::booked` meets its contract: the pair of the request has more, any other what it has. Assumes nothing.
use mathlib.Core.Path.{refl, sym, ◌∙◌, ap}
use Prim.Native.Nat.{◌+◌}
use Rattle.questions.proofs.Laws.Answers.{said_no, said_yes}
use Rattle.book.proofs.Laws.Afterwards.{asked_pair, other_pair}
use Rattle.book.proofs.afterwards.BookingRequest.booked.Goals as goal

pub returns-then-ne-clause-result : goal.returns-then-ne-clause-result
returns-then-ne-clause-result c =
    c.booked-present.ensures.result ∙ other_pair c.args.self _ _ (said_no refl (sym c.if-ne.ensures))

pub returns-clause-result : goal.returns-clause-result
returns-clause-result c =
    ap (λ s. s + c.args.self.more.0) c.booked-present.ensures.result ∙ asked_pair c.args.self _ _ (said_yes refl (sym c.if-ne.ensures))
