-- One call of the library on the rest of a text.
use mathlib.Core.Path.{ap}
use native.Mathlib.Omega.{arith}
use Rattle.feeding.specs.Texts.{TextState, text_state_of}
use Rattle.feeding.proofs.TextLaws.{next_within, call_is}
use Rattle.feeding.proofs.feed_rest.Goals as goal

pub overflow_add-result : goal.overflow_add-result
overflow_add-result g c =
    let t = text_state_of c.args.fed c.args.lent.now in
    omega (
      arith,
      next_within c.args.text.now t c.requires.taken,
      ap (λ (t : TextState). t.taken) (call_is c.args.text.now t c.requires.taken c.feed-result.result c.feed-result.new.lent c.feed-result.ensures.outcome),
    )

pub returns-clause-outcome : goal.returns-clause-outcome
returns-clause-outcome g c =
    call_is c.args.text.now (text_state_of c.args.fed c.args.lent.now) c.requires.taken c.feed-result.result c.feed-result.new.lent c.feed-result.ensures.outcome
