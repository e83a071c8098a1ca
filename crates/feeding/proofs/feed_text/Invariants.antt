-- The loop's invariant: some calls have been made. The measure: the slots to run and the bytes to take.
use Rattle.std.proofs.Common.{◌-◌, length}
use Rattle.events.specs.Feeding.{most_steps}
use Rattle.events.specs.View.{SameLent}
use Rattle.feeding.specs.Texts.{text_begun, text_state_of}
use Rattle.feeding.proofs.TextLaws.{SoFar}
use Rattle.feeding.proofs.feed_text.Given as goal

abbrev pub invariant-loop-fed : goal.invariant-loop-fed
invariant-loop-fed g l =
    SoFar l.text (text_begun l.fn.progress l.fn.lent) (text_state_of l.fed l.lent) l.fed.is_written
    × SameLent l.fn.lent l.lent

abbrev pub decreases-loop-fed : goal.decreases-loop-fed
decreases-loop-fed g l = most_steps l.fed.progress.slots_left (length l.text - l.fed.taken)
