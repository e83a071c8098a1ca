-- `bookings::copy_first` meets its contract. Assumes nothing.
use Rattle.std.proofs.Common.{◌≡◌, ◌∙◌, suc, ◌++◌, ◌∷◌, [], arith, length, take, rules}
use Rattle.std.proofs.lemmas.List.{length_push}
use Rattle.std.proofs.lemmas.Iterator.{YieldsList-from_slice, YieldsList-from_zip}
use Rattle.std.proofs.lemmas.Iterator.Consumers.{YieldsList-from_enumerate, YieldsList-turn}
use Rattle.bookings.proofs.Laws.{booking_turn}
use Rattle.bookings.proofs.copy_first.Goals as goal

pub loop-at-preserved : goal.loop-at-preserved
loop-at-preserved g c =
    let a = c.args in
    let t = YieldsList-turn (YieldsList-from_enumerate (YieldsList-from_zip (YieldsList-from_slice (take a.count a.book.slots.now) (cc)) (YieldsList-from_slice a.book.rates.now (cc))) (cc)) c.loop-at.yielded _ c.loop-at.yielded_by _ c.next.new.self _ c.in-Some.is c.next.ensures.steps in
    let held : c.from.result.0 ≡ c.in-Some.held.now = search rules in
    let e = booking_turn a.clock.frame a.clock.line a.book.slots.now a.book.rates.now a.to.now a.count _ c.word.result _ (omega (arith, c.requires)) (omega (arith, c.requires)) (omega (arith, c.requires)) t (c.word.ensures.word ∙ rw held at c.booking.ensures.result) in
    let more : length (c.loop-at.yielded ++ ((c.in-Some.at, (c.in-Some.held, c.in-Some.rate)) ∷ [])) ≡ suc (length c.loop-at.yielded) = omega (arith, length_push c.loop-at.yielded (c.in-Some.at, (c.in-Some.held, c.in-Some.rate))) in
    rw (c.loop-at.invariant, more) e
