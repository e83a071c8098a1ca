-- `book::pairs::put_word` meets its contract: the place lies inside the run. Assumes nothing.
use mathlib.Core.Path.{ap}
use native.Mathlib.Omega.{arith}
use lib.ListN.{set}
use Rattle.wsgs.specs.Words.{put}
use Rattle.book.proofs.Laws.Places.{at_place, at_inside}
use Rattle.book.proofs.pairs.put_word.Goals as goal

pub offset_bounds-run-place_of : goal.offset_bounds-run-place_of
offset_bounds-run-place_of c =
    omega (arith, at_inside _ _ _ _ _ c.requires.pair_fits c.place_of.ensures.place)

pub bounds-run-place_of : goal.bounds-run-place_of
bounds-run-place_of c =
    omega (arith, at_inside _ _ _ _ _ c.requires.pair_fits c.place_of.ensures.place)

pub returns : goal.returns
unfolding put
returns c =
    record { run_exit = ap (λ k. set c.args.run.now k c.args.new) (at_place _ _ _ _ _ c.requires.pair_fits c.place_of.ensures.place) }
