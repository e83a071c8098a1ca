-- `sums::shows_sums` meets its contract. Assumes nothing.
use mathlib.Core.Path.{refl}
use borrow.Author.Tests.{ne_eqb}
use Rattle.wsgs.specs.Told.{number}
use Rattle.questions.proofs.Laws.Answers.{number_some}
use Rattle.previews.specs.Shown.{shows_sums}
use Rattle.previews.proofs.sums.shows_sums.Goals as goal

pub returns-in-Ok : goal.returns-in-Ok
unfolding shows_sums
returns-in-Ok c = record { result = rw c.in-Ok.is refl }

pub returns-in-Err : goal.returns-in-Err
unfolding shows_sums
returns-in-Err c =
    record { result = rw (c.in-Err.is, ne_eqb (number c.in-Err.refused) 0 (number_some c.in-Err.refused)) c.is_of_rule.ensures.result }
