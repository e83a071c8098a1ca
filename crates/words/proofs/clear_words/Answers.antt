-- `words::clear_words` meets its contract: the run is long enough and its first words filled, or it stays. Assumes nothing.
use mathlib.Core.Path.{sym}
use native.Mathlib.Omega.{arith}
use Rattle.words.proofs.Laws.{clear_filled, clear_short}
use Rattle.words.proofs.clear_words.Goals as goal

pub returns-then-count-run : goal.returns-then-count-run
returns-then-count-run c =
    record { run_exit = clear_filled _ _ (omega arith) (c.fill.ensures.after (λ y e. e)) }

pub returns-else-count-run : goal.returns-else-count-run
returns-else-count-run c =
    record { run_exit = sym (clear_short _ _ (omega arith)) }
