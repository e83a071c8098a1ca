-- `book::pairs::word_of` meets its contract: the place lies inside the run. Assumes nothing.
use mathlib.Core.Path.{ap}
use native.Mathlib.Omega.{arith}
use lib.ListN.{get_or}
use Rattle.wsgs.specs.Words.{word}
use Rattle.book.proofs.Laws.Places.{at_place, at_inside}
use Rattle.book.proofs.pairs.word_of.Goals as goal

pub offset_bounds-run-place_of : goal.offset_bounds-run-place_of
offset_bounds-run-place_of c =
    omega (arith, at_inside _ _ _ _ _ c.requires.pair_fits c.place_of.ensures.place)

pub bounds-run-place_of : goal.bounds-run-place_of
bounds-run-place_of c =
    omega (arith, at_inside _ _ _ _ _ c.requires.pair_fits c.place_of.ensures.place)

pub returns : goal.returns
unfolding word
returns c =
    record { result = ap (λ k. get_or c.args.run.now k 0) (at_place _ _ _ _ _ c.requires.pair_fits c.place_of.ensures.place) }
