-- `words::copy_words` meets its contract: both runs are long enough and the words copied, or nothing changes. Assumes nothing.
use mathlib.Core.Path.{sym, ◌∙◌}
use mathlib.Core.Logic.{inl, inr}
use native.Mathlib.Omega.{arith}
use Rattle.words.proofs.Laws.{copy_fits, copy_short}
use Rattle.words.proofs.copy_words.Goals as goal

pub returns-then-count-to : goal.returns-then-count-to
returns-then-count-to c =
    record { to_exit = c.copy_first.ensures.to_exit ∙ sym (copy_fits _ _ _ (omega arith) (omega arith)) }

pub returns-else-count-to : goal.returns-else-count-to
returns-else-count-to c =
    record { to_exit = sym (copy_short _ _ _ (inr (omega arith))) }

pub returns-else-count-from : goal.returns-else-count-from
returns-else-count-from c =
    record { to_exit = sym (copy_short _ _ _ (inl (omega arith))) }
