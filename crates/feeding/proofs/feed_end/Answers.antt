-- The end of the input is fed as a text.
use Rattle.feeding.proofs.feed_end.Goals as goal

pub returns-clause-outcome : goal.returns-clause-outcome
returns-clause-outcome g c =
    rw (c.input_end-end.ensures.end c.args.lent.now.buffer.now c.args.lent.now.runs) at c.feed_text.ensures.outcome
