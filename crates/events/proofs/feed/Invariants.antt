-- The loop's invariant: what is written so far, and the rest of the steps from here, are those of the definition.
use Prim.Native.Nat.{◌-◌}
use lib.ListN.{length}
use Rattle.events.specs.Feeding.{most_steps}
use Rattle.events.specs.View.{lent_state, SameLent}
use Rattle.events.proofs.Rounds.{SoFar}
use Rattle.events.proofs.feed.Given as goal

abbrev pub invariant-loop-lent : goal.invariant-loop-lent
invariant-loop-lent l =
    SoFar l.block (lent_state l.initial.fed.progress l.initial.lent) l.initial.lent.out.now
    (lent_state l.fed.progress l.lent) l.fed.taken l.fed.written l.lent.out.now
    × SameLent l.initial.lent l.lent

abbrev pub decreases-loop-lent : goal.decreases-loop-lent
decreases-loop-lent l = most_steps l.fed.progress.slots_left (length l.block - l.fed.taken)
