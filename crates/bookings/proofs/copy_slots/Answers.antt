-- `bookings::copy_slots` meets its contract: both runs are long enough and the slots copied, or nothing changes. Assumes nothing.
use mathlib.Core.Path.{sym, ◌∙◌}
use mathlib.Core.Logic.{inl, inr}
use native.Mathlib.Omega.{arith}
use Rattle.words.proofs.Laws.{copy_fits, copy_short}
use Rattle.bookings.proofs.copy_slots.Goals.{else-count-slots-via-then-count-slots+else-count-to, else-count-slots-via-else-count-slots}
use Rattle.bookings.proofs.copy_slots.Goals as goal

pub returns-then-count-to-clause-to_exit : goal.returns-then-count-to-clause-to_exit
returns-then-count-to-clause-to_exit g c = c.copy_first_slots.ensures.to_exit ∙ sym (copy_fits _ _ _ (omega arith) (omega arith))

pub returns-else-count-slots-clause-to_exit : goal.returns-else-count-slots-clause-to_exit
returns-else-count-slots-clause-to_exit g c =
    sym (copy_short _ _ _ (elim c.else-count-slots.branch
    [ else-count-slots-via-then-count-slots+else-count-to w ↦ inr (omega arith) | else-count-slots-via-else-count-slots w ↦ inl (omega arith) ]))
