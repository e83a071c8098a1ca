-- `search::above` meets its contract: the bits of the outputs up to the number are cleared. Assumes nothing.
use lib.Bits.{and_le_l}
use Rattle.turns.proofs.MaskLaws.{left_above}
use Rattle.turns.proofs.search.above.Goals as goal

pub returns : goal.returns
returns c =
    record {
      higher = left_above c.args.set _ _ c.ranges.set.fits c.all_free.ensures.mask;
      within = and_le_l _ _;
    }
