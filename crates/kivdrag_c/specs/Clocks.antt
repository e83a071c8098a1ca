-- A clock as C lends it: five words for the number of ports, the length of a frame, the last slot run, the rate of a line and the kind of the
-- book. Assumes nothing.
use Rattle.std.specs.Prelude.{List, [], ◌∷◌, ℕ, get_or}
use Rattle.wsgs.specs.declared.Clock.{Clock}
use Rattle.wsgs.specs.Clocks.{clock_of}

-- the clock that words hold
abbrev pub clock_in_words : List ℕ → Clock
clock_in_words w = clock_of (get_or w 0 0) (get_or w 1 0) (get_or w 2 0) (get_or w 3 0) (get_or w 4 0)

-- the words of a clock
abbrev pub clock_words : Clock → List ℕ
clock_words c = c.ports ∷ c.frame ∷ c.slot ∷ c.line ∷ c.fine ∷ []
