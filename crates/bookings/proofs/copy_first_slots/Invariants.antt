-- The loop's invariant: the words so far are the slots.
use Rattle.std.proofs.Common.{◌≡◌}
use Rattle.wsgs.specs.Words.{copied}
use Rattle.bookings.proofs.copy_first_slots.Given as goal

abbrev pub invariant-loop-at : goal.invariant-loop-at
invariant-loop-at g l = l.to ≡ copied l.at l.slots l.initial.to
