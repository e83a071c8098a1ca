-- `kivdrag_c::results::put_tick` meets its contract: a refused tick has no pairs. Assumes nothing.
use mathlib.Core.Path.{sym}
use Rattle.wsgs.specs.Steps.{outputs_of, pass_word_of}
use Rattle.wsgs.proofs.Laws.Listed.{listed_none}
use Rattle.wsgs.proofs.Laws.Marked.{marked_none}
use Rattle.kivdrag_c.proofs.results.put_tick.Goals as goal

pub returns-in-Err-clause-outputs_exit : goal.returns-in-Err-clause-outputs_exit
unfolding outputs_of
returns-in-Err-clause-outputs_exit c =
    rw c.in-Err.is (sym (listed_none 32))

pub returns-in-Err-clause-first_pass_exit : goal.returns-in-Err-clause-first_pass_exit
unfolding pass_word_of
returns-in-Err-clause-first_pass_exit c =
    rw c.in-Err.is (sym (marked_none 32))
