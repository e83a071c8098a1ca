-- `bookings::copy_first_slots` meets its contract. Assumes nothing.
use Rattle.std.proofs.Common.{◌<◌, ap, ◌∙◌, add-one, arith, set, length-take}
use Rattle.std.proofs.lemmas.List.{get_or-take}
use Rattle.words.proofs.Laws.{copy_more}
use Rattle.bookings.proofs.copy_first_slots.Goals as goal

pub loop-at-preserved : goal.loop-at-preserved
loop-at-preserved g c =
    let l = c.loop-at in
    let before : l.at < c.args.count = omega (arith, length-take c.args.count c.args.slots.now) in
    ap (set l.to l.at) (c.word.ensures.word ∙ c.from.ensures ∙ get_or-take c.args.count c.args.slots.now l.at 0 before)
    ∙ rw (l.invariant, add-one l.at) (copy_more c.args.slots.now c.args.to.now l.at (omega arith) (omega arith))
