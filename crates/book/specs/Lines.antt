-- The two lines of a pair, and sums and tests over one. Assumes nothing.
use Rattle.std.specs.Prelude.{ℕ}
use Rattle.wsgs.specs.declared.Pair.{Pair}
use Rattle.wsgs.specs.Bookings.{row_sum, column_sum}
use Rattle.book.specs.declared.sums.Line.{Line}
use Rattle.book.specs.declared.sums.Line.TheVariants.{Row, Column}

-- the pair of a pair's line at port k: of its input's row that of output k, of its output's column that of input k
abbrev pub pair_at : Line → Pair → ℕ → Pair
pair_at Row p k = record { input = p.input; output = record { 0 = k } }
pair_at Column p k = record { input = record { 0 = k }; output = p.output }

-- of numbers a for the pairs, those of the line, by the port
abbrev pub along : Line → (ℕ → ℕ → ℕ) → Pair → ℕ → ℕ
along l a p k = a (pair_at l p k).input.0 (pair_at l p k).output.0

-- of numbers a for the pairs of n ports, the sum of the line
abbrev pub line_sum : Line → (ports : ℕ) → (ℕ → ℕ → ℕ) → Pair → ℕ
line_sum Row n a p = row_sum n a p.input.0
line_sum Column n a p = column_sum n a p.output.0
