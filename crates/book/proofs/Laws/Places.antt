-- The place of a pair in a run that holds its matrix. Assumes nothing.
use mathlib.Core.Path.{◌≡◌}
use mathlib.Core.List.{List}
use Prim.Native.Nat.{ℕ, ◌<◌}
use native.Mathlib.Omega.{arith}
use lib.ListN.{length}
use Rattle.wsgs.specs.Words.{place}
use Rattle.wsgs.proofs.Laws.Words.{square_small}
use Rattle.words.specs.Places.{place_of}
use Rattle.words.proofs.PlaceLaws as PlaceLaws
use Rattle.book.specs.Refusals.{PairFits}

module _ (n : ℕ) (m : List ℕ) (i j at : ℕ) (p : PairFits n m i j) (e : at ≡ place_of n i j) where
  pub at_place : at ≡ place n i j
  at_place = PlaceLaws.at_place n i j at e p.matrix.ports p.input p.output

  -- it is inside the run, among its first words
  pub at_inside : (at < length m) × (at < 1024)
  at_inside = omega (arith, PlaceLaws.at_inside n i j at e p.matrix.ports p.input p.output, square_small n p.matrix.ports, p.matrix.long)
