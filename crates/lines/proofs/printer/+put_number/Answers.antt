-- A number in decimal: that of its tenth, which is below it, and a last digit.
use native.Mathlib.Omega.{arith}
use Rattle.lines.proofs.Decimals.{decimal_one, decimal_more, decimal_some, decimal_long}
use Rattle.lines.proofs.Writing.{wrote_byte, wrote_then, wrote_long, wrote_is}
use Rattle.lines.proofs.printer.+put_number.Goals as goal

pub bounds-out-at : goal.bounds-out-at
bounds-out-at t c = omega (arith, decimal_some c.args.number)

pub returns-then-number-lt10 : goal.returns-then-number-lt10
returns-then-number-lt10 t c =
    record { text = wrote_is (wrote_byte _ _ _ (omega (arith, decimal_some c.args.number))) (decimal_one _ (omega arith)) }

pub put_number-last-requires : goal.put_number-last-requires
put_number-last-requires t c = (omega arith, omega (arith, decimal_long c.args.number (omega arith) (omega arith)))

pub bounds-out-last : goal.bounds-out-last
bounds-out-last t c =
    omega (arith, wrote_long c.put_number-last.ensures.text, c.put_number-last.ensures.text.next_place, decimal_long c.args.number (omega arith) (omega arith))

pub returns : goal.returns
returns t c =
    record {
      text = wrote_is
          (wrote_then c.put_number-last.ensures.text
          (wrote_byte _ _ _ (omega (arith, wrote_long c.put_number-last.ensures.text, c.put_number-last.ensures.text.next_place, decimal_long c.args.number (omega arith) (omega arith)))))
          (decimal_more _ (omega arith) (omega arith));
    }
