-- `AskedPair::rise` meets its contract. Assumes nothing.
use mathlib.Core.Path.{◌∙◌}
use Rattle.wsgs.specs.Told.{book_lent}
use Rattle.book.proofs.Laws.Amounts.{rises_by}
use Rattle.std.proofs.Common.{rules, ◌≡◌}
use Rattle.book.proofs.asked.AskedPair.rise.Goals as goal

pub returns-clause-result : goal.returns-clause-result
returns-clause-result c =
    let a = c.args.self in
    let held : c.from-booked.result.0 ≡ c.word_of.result = search rules in
    rises_by a.clock (book_lent a.runs) a.pair.input.0 a.pair.output.0 c.args.rate _ _ _ a.reached.frame.1
    (held ∙ c.word_of.ensures.result) c.word_of-held.ensures.result c.rise.ensures.result
