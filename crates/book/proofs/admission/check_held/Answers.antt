-- `admission::check_held` meets its contract. Assumes nothing.
use native.Mathlib.Omega.{arith}
use Rattle.book.proofs.Laws.Amounts.{too_little_held, enough_is_held}
use Rattle.book.proofs.admission.check_held.Goals as goal

pub returns-then-held-amount : goal.returns-then-held-amount
returns-then-held-amount c =
    record { refusal = too_little_held _ _ _ _ _ (omega (arith, c.word_of-held.ensures.result)) }

pub returns : goal.returns
returns c =
    record { refusal = enough_is_held _ _ _ _ _ (omega (arith, c.word_of-held.ensures.result)) }
