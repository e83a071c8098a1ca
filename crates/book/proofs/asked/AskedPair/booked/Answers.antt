-- `AskedPair::booked` meets its contract. Assumes nothing.
use mathlib.Core.Path.{◌∙◌, ap₂}
use Rattle.wsgs.specs.Bookings.{booking, bookings}
use Rattle.std.proofs.Common.{rules, ◌≡◌}
use Rattle.book.proofs.asked.AskedPair.booked.Goals as goal

pub returns-clause-result : goal.returns-clause-result
unfolding bookings
returns-clause-result c =
    let held : c.from-held.result.0 ≡ c.word_of.result = search rules in
    c.booking.ensures.result ∙ ap₂ (booking c.args.self.clock.frame c.args.self.clock.line) (held ∙ c.word_of.ensures.result) c.word_of-rate.ensures.result
