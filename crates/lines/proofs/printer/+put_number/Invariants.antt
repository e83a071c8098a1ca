-- A number in decimal: that of its tenth, which is below it, and a last digit.
use Rattle.lines.proofs.printer.+put_number.Given as goal

abbrev pub decreases-put_number : goal.decreases-put_number
decreases-put_number l = l.number
