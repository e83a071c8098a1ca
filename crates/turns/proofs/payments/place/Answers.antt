-- `payments::place` meets its contract: the pair's place is in the input's row, which lies within the matrix. Assumes nothing.
use mathlib.Core.Path.{◌∙◌, ap}
use Prim.Native.Nat.{◌+◌, ◌-◌}
use native.Mathlib.Omega.{arith}
use Rattle.wsgs.specs.Words.{place}
use Rattle.wsgs.proofs.Laws.Words.{square_small}
use Rattle.words.proofs.PlaceLaws.{row_is}
use Rattle.turns.proofs.payments.place.Goals as goal

pub overflow_add-result : goal.overflow_add-result
overflow_add-result c =
    omega (arith, square_small c.args.ports c.requires.pair.few)

pub returns : goal.returns
unfolding place
returns c =
    record {
      place = ap (λ row. row + (c.args.output.0 - 1)) (c.row_of.ensures.row ∙ row_is _ _ c.requires.pair.few c.requires.pair.input);
      within = omega arith;
    }
