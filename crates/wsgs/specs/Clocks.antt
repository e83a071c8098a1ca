-- The clock of a switch: from its numbers, as a start sets it, and with another last slot run. Definitions make a clock only by these. And which kind of
-- book its word tells. Assumes nothing.
use Rattle.std.specs.Prelude.{Bool, not, ℕ, eqb}
use Rattle.wsgs.specs.declared.Clock.{Clock}
use Rattle.wsgs.specs.Basics.{bit}

-- the clock that holds these numbers
abbrev pub clock_of : (ports frame slot line fine : ℕ) → Clock
clock_of n f k b word = record { ports = n; frame = f; slot = k; line = b; fine = word }

-- no slot has been run yet, and the word for the kind of the book is 0 or 1
abbrev pub first_clock : (ports frame line : ℕ) → (fine : Bool) → Clock
first_clock n f b kind = clock_of n f 0 b (bit kind)

-- slot k is the last slot run
abbrev pub at_slot : Clock → ℕ → Clock
at_slot c k = clock_of c.ports c.frame k c.line c.fine

-- the word for the kind of the book: 0 is the plain book, anything else the fine one
abbrev pub is_fine : ℕ → Bool
is_fine word = not (eqb word 0)
