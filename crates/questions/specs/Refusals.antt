-- The refusals that calls share: of sizes, of a line rate, of a clock, of a pair, and of the sizes and runs of a form. Assumes nothing.
use Rattle.std.specs.Prelude.{Bool, List, [], ◌∷◌, ℕ, ◌≤◌}
use Rattle.wsgs.specs.declared.Clock.{Clock}
use Rattle.wsgs.specs.Questions.{Question, first_no, ports_in_range, frame_in_range, line_in_range, clock_can_advance, on_pair}
use Rattle.wsgs.specs.Direct
use Rattle.wsgs.specs.Pipelined

-- the first two questions of every call
abbrev pub on_sizes : ℕ → ℕ → List Question
on_sizes n f = ports_in_range n ∷ frame_in_range f ∷ []

-- the refusal of sizes, of a line rate, of a clock that is to advance, and of a pair
unfoldable pub sizes_refusal : ℕ → ℕ → ℕ
unfolding first_no
sizes_refusal n f = first_no (on_sizes n f)

unfoldable pub line_refusal : ℕ → ℕ
unfolding first_no
line_refusal b = first_no (line_in_range b ∷ [])

unfoldable pub clock_refusal : Clock → ℕ
unfolding first_no
clock_refusal c = first_no (clock_can_advance c.slot ∷ [])

unfoldable pub pair_refusal : Clock → (enough : Bool) → ℕ → ℕ → ℕ
unfolding first_no
pair_refusal c enough i j = first_no (on_pair c enough i j [])

-- what a start and a tick of a form share
unfoldable pub direct_runs_refusal : ℕ → ℕ → Direct.Runs → ℕ
unfolding first_no
direct_runs_refusal n f w = first_no (Direct.questions n f w [])

unfoldable pub pipelined_runs_refusal : ℕ → ℕ → Pipelined.Runs → ℕ
unfolding first_no
pipelined_runs_refusal n f w = first_no (Pipelined.questions n f w [])

-- the number of ports and the length of a frame are in range
pub record SizesInRange (n f : ℕ) : Type 0 where
  pub ports : (1 ≤ n) × (n ≤ 32)
  pub frame : (1 ≤ f) × (f ≤ 10000)

-- and the rate of a line, as at an accepted start
pub record StartInRange (n f b : ℕ) : Type 0 where
  pub sizes : SizesInRange n f
  pub line : b ≤ 100000000
