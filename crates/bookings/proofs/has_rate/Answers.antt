-- `bookings::has_rate` meets its contract. Assumes nothing.
use Rattle.std.proofs.Common.{ap, ◌∙◌, arith, ltb}
use Rattle.std.specs.List.{fold}
use lib.Bits.{bit_or}
use Rattle.bookings.proofs.Laws.{rate_short, rate_found}
use Rattle.bookings.proofs.has_rate.Goals as goal

pub returns-in_default : goal.returns-in_default
returns-in_default c =
    record { result = rate_short _ _ (grind (arith, c.in_default.ensures.lookup)) }

pub returns : goal.returns
returns c =
    let h = c.in-Some.ensures.lookup.0 in
    record {
      result = ap (ltb 0) (c.union_of.ensures.union ∙ ap (fold bit_or 0) h.2)
          ∙ rate_found c.args.rates.now c.args.count (omega arith);
    }
