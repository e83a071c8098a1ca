-- The runs that the turns of a pipelined tick change, put together from lists and from the lent runs; that those are long enough; and what the tick knows of
-- the slots ahead. Assumes nothing.
use Rattle.std.specs.Prelude.{◌≡◌, ℕ, ◌+◌, ◌*◌, ◌%◌, ◌<◌, ◌≤◌, List, length}
use Rattle.wsgs.specs.declared.Clock.{Clock}
use Rattle.wsgs.specs.declared.TurnRuns as Lent
use Rattle.wsgs.specs.declared.PipelineRuns.{PipelineRuns}
use Rattle.wsgs.specs.Basics.{Port}
use Rattle.wsgs.specs.Frames.{into_frame}
use Rattle.wsgs.specs.Pipelined.{Runs, TurnRuns, turn_runs}

-- the credits, the queues, the outputs last given and the rows in flight
abbrev pub turn_runs_of : (credits queues given flight : List ℕ) → TurnRuns
turn_runs_of c q g f = record { credits = c; queues = q; given = g; flight = f }

abbrev pub turning_lent : Lent.TurnRuns → PipelineRuns → TurnRuns
turning_lent t p = turn_runs_of t.credits.now t.queues.now t.given.now p.flight.now

-- the runs that all turns go by are as long as they were
pub record SameLengths (before after : Lent.TurnRuns) : Type 0 where
  pub credits : length after.credits.now ≡ length before.credits.now
  pub queues : length after.queues.now ≡ length before.queues.now
  pub given : length after.given.now ≡ length before.given.now

-- input i is a port, of at most 32
pub record InputOf (n i : ℕ) : Type 0 where
  pub few : n ≤ 32
  pub port : Port n i

-- and the queues, the outputs last given and the row in flight that begins at a place hold their words
pub record TurnFits (n i row : ℕ) (q g f : List ℕ) : Type 0 where
  pub input : InputOf n i
  pub queues : n * n ≤ length q
  pub given : n ≤ length g
  pub flight : row + n ≤ length f

-- the ports are few, and the frame copy and what the turns change hold their words
pub record RunsFit (n : ℕ) (a : List ℕ) (w : TurnRuns) : Type 0 where
  pub ports : n ≤ 32
  pub copy : n * n ≤ length a
  pub credits : n * n ≤ length w.credits
  pub queues : n * n ≤ length w.queues
  pub given : n ≤ length w.given
  pub flight : 2 * n * n ≤ length w.flight

-- a book and its frame copy do
pub record Copying (n : ℕ) (s r a : List ℕ) : Type 0 where
  pub few : n ≤ 32
  pub slots : n * n ≤ length s
  pub rates : n * n ≤ length r
  pub copy : n * n ≤ length a

-- what an accepted tick has found
pub record Running (c : Clock) (w : Runs) : Type 0 where
  pub ports : Port 32 c.ports
  pub covers : c.ports ≤ c.frame
  pub slots_left : c.slot < 4000000000
  pub copying : Copying c.ports w.book.slots w.book.rates w.copy
  pub turning : RunsFit c.ports w.copy (turn_runs w)

-- what a tick at time k knows of the slots ahead: the rows of slots k + 2n + 1 and k + n + 1, and how many slots of its frame come before slot
-- k + 2n. The frames have a slot for each port.
pub record Lookahead (n f k one two into : ℕ) : Type 0 where
  pub covers : n ≤ f
  pub row_one : one ≡ (k + 2 * n + 1) % (2 * n)
  pub row_two : two ≡ (k + n + 1) % (2 * n)
  pub place : into ≡ into_frame f (k + 2 * n)
  pub one_within : one < 2 * n
  pub two_within : two < 2 * n
