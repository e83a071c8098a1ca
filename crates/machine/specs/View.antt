-- The declared types beside the lent runs, as the definitions have them. Assumes nothing.
use Rattle.std.specs.Prelude.{◌≡◌, ℕ, Result, Ok, Err}
use Rattle.std.specs.Result.{result_err, result_unwrap_or}
use Rattle.wsgs.specs.declared.Clock.{Clock}
use Rattle.wsgs.specs.declared.Refused.{Refused}
use Rattle.wsgs.specs.declared.Refused.TheVariants.{Sharing}
use Rattle.wsgs.specs.declared.RefusalLine.{RefusalLine}
use Rattle.wsgs.specs.declared.Request.{Request}
use Rattle.wsgs.specs.declared.Ticked.{Ticked}
use Rattle.wsgs.specs.declared.TurnRuns.{TurnRuns}
use Rattle.wsgs.specs.declared.PipelineRuns.{PipelineRuns}
use Rattle.wsgs.specs.Answers.{TickResult, matching_of}
use Rattle.wsgs.specs.Bookings.{Book, book_of}
use Rattle.wsgs.specs.Ledger.{slot_of_tick}
use Rattle.wsgs.specs.Steps.{Matching, empty_matching}
use Rattle.wsgs.specs.Switch.{Switch, Outcome}
use Rattle.wsgs.specs.Told.{number, form_told, tick_told, refusal_told, SameTurnRuns, SamePipelineRuns}
use Rattle.wsgs.specs.Program.{number_alone, refusal_of, Refusal, RecordOutcome, SlotOutcome}
use Rattle.wsgs.specs.Program
use Rattle.machine.specs.declared.Machine.{Machine}
use Rattle.machine.specs.declared.SwitchRuns.{SwitchRuns}
use Rattle.machine.specs.declared.RecordResult.{RecordResult}
use Rattle.machine.specs.declared.SlotPairs.{SlotPairs}
use Rattle.machine.specs.declared.SlotResult.{SlotResult}

-- a machine with its book and the other runs that it is lent
abbrev pub switch_lent : Clock → Book → TurnRuns → PipelineRuns → Switch
switch_lent k b t p =
    record {
      clock = k;
      book = b;
      credits = t.credits.now;
      queues = t.queues.now;
      given = t.given.now;
      copy = p.copy.now;
      flight = p.flight.now;
    }

abbrev pub machine_lent : Machine → Book → TurnRuns → PipelineRuns → Program.Machine
machine_lent m b t p = record { running = m.running; form = form_told m.form; switch = switch_lent m.clock b t p }

-- and with all its runs
abbrev pub book_in : SwitchRuns → Book
book_in r = book_of r.slots.now r.rates.now

abbrev pub machine_of : Machine → SwitchRuns → Program.Machine
machine_of m r = machine_lent m (book_in r) r.turns r.pipeline

-- the largest number that a `Refused` has
abbrev pub last_number : ℕ
last_number = number Sharing

-- after a call these are still the same loans
pub record SameSwitchRuns (before after : SwitchRuns) : Type 0 where
  pub slots : after.slots.ghost_name ≡ before.slots.ghost_name
  pub rates : after.rates.ghost_name ≡ before.rates.ghost_name
  pub turns : SameTurnRuns before.turns after.turns
  pub pipeline : SamePipelineRuns before.pipeline after.pipeline

-- the refusal that a result tells, if it is one
abbrev pub refusal_in : {A : Type 0} → Result A RefusalLine → Refusal
refusal_in r = refusal_told (result_err r)

-- what a record leaves, with the runs
abbrev pub record_outcome_of : RecordResult → SwitchRuns → RecordOutcome
record_outcome_of o r = record { machine = machine_of o.machine r; slots = result_unwrap_or o.outcome 0; refusal = refusal_in o.outcome }

-- what a request leaves: the machine and the slots to run, or a refusal with its second and third field
abbrev pub request_outcome_of : Machine → Request → Result (Machine × ℕ) Refused → SwitchRuns → RecordOutcome
request_outcome_of m q (Ok o) r = record { machine = machine_of o.0 r; slots = o.1; refusal = number_alone 0 }
request_outcome_of m q (Err refused) r =
    record { machine = machine_of m r; slots = 0; refusal = refusal_of (machine_of m r) q.input q.output (number refused) }

-- what the tick of a slot leaves
abbrev pub tick_outcome_of : Clock → Result Ticked Refused → Book → TurnRuns → PipelineRuns → Outcome
tick_outcome_of k o b t p =
    let told : TickResult = tick_told k o in
    record { refusal = told.refusal; matching = matching_of told.outputs told.first_pass; after = switch_lent told.clock b t p }

-- what a slot leaves, with the runs: a refused one has no pairs, and keeps the clock
abbrev pub slot_in : Machine → Result SlotPairs RefusalLine → ℕ
slot_in m (Ok pairs) = pairs.slot
slot_in m (Err line) = slot_of_tick (form_told m.form) m.clock.slot

abbrev pub pairs_in : Result SlotPairs RefusalLine → Matching
pairs_in (Ok pairs) = matching_of pairs.served.outputs pairs.served.first_pass
pairs_in (Err line) = empty_matching

abbrev pub slot_outcome_of : SlotResult → Book → TurnRuns → PipelineRuns → SlotOutcome
slot_outcome_of o b t p =
    record {
      machine = machine_lent o.machine b t p;
      slot = slot_in o.machine o.outcome;
      matching = pairs_in o.outcome;
      refusal = refusal_in o.outcome;
    }
