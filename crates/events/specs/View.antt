-- The declared types beside the lent slices, as the definitions have them. Assumes nothing.
use Rattle.std.specs.Prelude.{◌≡◌, true, false, List, ℕ, length}
use Rattle.wsgs.specs.declared.Form.TheVariants as Forms
use Rattle.wsgs.specs.Clocks.{first_clock}
use Rattle.wsgs.specs.Switch.{plain}
use Rattle.lines.specs.Lines.{with_text, TextWritten}
use Rattle.machine.specs.declared.Machine.{Machine}
use Rattle.machine.specs.declared.SwitchRuns.{SwitchRuns}
use Rattle.machine.specs.View.{machine_of, SameSwitchRuns}
use Rattle.events.specs.declared.Lent.{Lent}
use Rattle.events.specs.declared.Progress.{Progress}
use Rattle.events.specs.declared.FeedResult.{FeedResult}
use Rattle.events.specs.Feeding.{State, StepOutcome, FeedOutcome}

-- what is kept, with the buffer of the record so far and the runs
abbrev pub state_of : Progress → (buffer : List ℕ) → SwitchRuns → State
state_of k b r =
    record {
      machine = machine_of k.machine r;
      past_heading = k.past_heading;
      after_CR = k.after_cr;
      count = k.count;
      buffer = b;
      slots_left = k.slots_left;
    }

abbrev pub lent_state : Progress → Lent → State
lent_state k l = state_of k l.buffer.now l.runs

-- after a call these are still the same loans
pub record SameLent (before after : Lent) : Type 0 where
  pub buffer : after.buffer.ghost_name ≡ before.buffer.ghost_name
  pub out : after.out.ghost_name ≡ before.out.ghost_name
  pub runs : SameSwitchRuns before.runs after.runs

-- A CALL OF `feed` leaves a state, has taken and written so many bytes, and leaves an output
pub record FeedEffect : Type 0 where
  pub state : State
  pub taken : ℕ
  pub written : ℕ
  pub out : List ℕ

-- as the code has it, and as the definition's outcome has it on an output
abbrev pub feed_effect_of : FeedResult → Lent → FeedEffect
feed_effect_of o l = record { state = lent_state o.progress l; taken = o.taken; written = o.written; out = l.out.now }

abbrev pub feed_effect : FeedOutcome → List ℕ → FeedEffect
feed_effect o out =
    record { state = o.state; taken = o.taken; written = length o.text; out = with_text 0 o.text out }

-- what is kept after a record has ended, and with another machine and other slots to run
abbrev pub ended_progress : Machine → ℕ → Progress
ended_progress m left = record { machine = m; past_heading = true; after_cr = false; count = 0; slots_left = left }

abbrev pub moved_progress : Progress → Machine → ℕ → Progress
moved_progress k m left =
    record { machine = m; past_heading = k.past_heading; after_cr = k.after_cr; count = k.count; slots_left = left }

-- what the program keeps at its beginning: a machine that does not run, and a clock of zeros
abbrev pub first_progress : Progress
first_progress =
    record {
      machine = record { running = false; form = Forms.Direct; clock = first_clock 0 0 0 plain };
      past_heading = false;
      after_cr = false;
      count = 0;
      slots_left = 0;
    }

-- the state is the one that a step leaves, and what the step prints is written
pub record StepWritten (o : StepOutcome) (s : State) (out : List ℕ) (at next : ℕ) (out' : List ℕ) : Type 0 where
  pub state : s ≡ o.state
  pub text : TextWritten out at o.printed next out'
