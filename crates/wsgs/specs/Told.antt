-- What the code answers and the runs that it is lent, as the definitions have them: the number of each refusal, and the values of each answer.
-- Assumes nothing.
use Rattle.std.specs.Prelude.{◌≡◌, Bool, true, false, ℕ, ℤ, pos, Option, Some, None, Result, Ok, Err}
use Rattle.wsgs.specs.declared.Clock.{Clock}
use Rattle.wsgs.specs.declared.BookedSlots.{BookedSlots}
use Rattle.wsgs.specs.declared.BookKind.{BookKind}
use Rattle.wsgs.specs.declared.BookKind.TheVariants.{Plain, Fine}
use Rattle.wsgs.specs.declared.Form.TheVariants as Forms
use Rattle.wsgs.specs.declared.Form
use Rattle.wsgs.specs.declared.Refused.{Refused}
use Rattle.wsgs.specs.declared.Refused.TheVariants as Why
use Rattle.wsgs.specs.declared.BookRuns.{BookRuns}
use Rattle.wsgs.specs.declared.TurnRuns.{TurnRuns}
use Rattle.wsgs.specs.declared.PipelineRuns.{PipelineRuns}
use Rattle.wsgs.specs.declared.Served.{Served}
use Rattle.wsgs.specs.declared.Ticked.{Ticked}
use Rattle.wsgs.specs.declared.Previewed.{Previewed}
use Rattle.wsgs.specs.declared.Request.{Request}
use Rattle.wsgs.specs.declared.RefusalLine.{RefusalLine}
use Rattle.wsgs.specs.Steps.{empty_matching, outputs_of, pass_word_of}
use Rattle.wsgs.specs.Bookings.{Book, book_of}
use Rattle.wsgs.specs.Headroom.{HeadroomResult}
use Rattle.wsgs.specs.Preview.{PreviewResult, preview_of}
use Rattle.wsgs.specs.Direct
use Rattle.wsgs.specs.Pipelined
use Rattle.wsgs.specs.Answers.{StartResult, TickResult, Answer, direct_runs_of, pipelined_runs_of}
use Rattle.wsgs.specs.Switch
use Rattle.wsgs.specs.Records
use Rattle.wsgs.specs.Program.{Refusal, number_alone}

-- THE NUMBER of each refusal, and of what a call answers: 0 where it is accepted
abbrev pub number : Refused → ℕ
number Why.Ports = 1
number Why.Frame = 2
number Why.ShortFrame = 3
number Why.Runs = 4
number Why.Pair = 5
number Why.Amount = 6
number Why.Clock = 7
number Why.Row = 8
number Why.Column = 9
number Why.Held = 10
number Why.Queue = 11
number Why.Record = 12
number Why.Fields = 13
number Why.Number = 14
number Why.Sharing = 15

abbrev pub HasNumber : Refused → ℕ → Type 0
HasNumber refused n = n ≡ number refused

abbrev pub refusal_number : {A : Type 0} → Result A Refused → ℕ
refusal_number (Ok x) = 0
refusal_number (Err refused) = number refused

-- the kind of a book by whether it is fine, and the form
abbrev pub kind_is_fine : BookKind → Bool
kind_is_fine Plain = false
kind_is_fine Fine = true

abbrev pub form_told : Form.Form → Switch.Form
form_told Forms.Direct = Switch.direct
form_told Forms.Pipelined = Switch.pipelined

-- a word of the book as slots that are booked
abbrev pub AreSlots : ℕ → BookedSlots → Type 0
AreSlots word slots = slots.0 ≡ word

-- THE RUNS that a call is lent
abbrev pub book_lent : BookRuns → Book
book_lent b = book_of b.slots.now b.rates.now

abbrev pub direct_lent : BookRuns → TurnRuns → Direct.Runs
direct_lent b t = direct_runs_of b.slots.now b.rates.now t.credits.now t.queues.now t.given.now

abbrev pub pipelined_lent : BookRuns → TurnRuns → PipelineRuns → Pipelined.Runs
pipelined_lent b t p =
    pipelined_runs_of b.slots.now b.rates.now t.credits.now t.queues.now t.given.now p.copy.now p.flight.now

-- after a call these are still the same loans, whatever words they now hold: so what is written there is written to the caller's runs
pub record SameTurnRuns (before after : TurnRuns) : Type 0 where
  pub credits : after.credits.ghost_name ≡ before.credits.ghost_name
  pub queues : after.queues.ghost_name ≡ before.queues.ghost_name
  pub given : after.given.ghost_name ≡ before.given.ghost_name

pub record SamePipelineRuns (before after : PipelineRuns) : Type 0 where
  pub copy : after.copy.ghost_name ≡ before.copy.ghost_name
  pub flight : after.flight.ghost_name ≡ before.flight.ghost_name

-- WHAT A CALL TELLS. A refused start or tick leaves the clock that it was given, and has no pairs.
abbrev pub start_told : Clock → Result Clock Refused → StartResult
start_told c (Ok k) = record { refusal = 0; clock = k }
start_told c (Err refused) = record { refusal = number refused; clock = c }

abbrev pub tick_told : Clock → Result Ticked Refused → TickResult
tick_told c (Ok t) = record { refusal = 0; clock = t.clock; outputs = t.served.outputs; first_pass = t.served.first_pass }
tick_told c (Err refused) =
    record { refusal = number refused; clock = c; outputs = outputs_of empty_matching; first_pass = pass_word_of empty_matching }

-- a tick that advances its caller's clock
abbrev pub answer_told : Result Served Refused → Answer
answer_told (Ok s) = record { refusal = 0; outputs = s.outputs; first_pass = s.first_pass }
answer_told (Err refused) =
    record { refusal = number refused; outputs = outputs_of empty_matching; first_pass = pass_word_of empty_matching }

-- headroom is 0 beside a refusal
abbrev pub headroom_told : Result ℤ Refused → HeadroomResult
headroom_told (Ok z) = record { refusal = 0; headroom = z }
headroom_told (Err refused) = record { refusal = number refused; headroom = pos 0 }

abbrev pub preview_told : Previewed → PreviewResult
preview_told p = preview_of (refusal_number p.outcome) p.row p.column

-- what a record reads as: refused by a number, whichever it is, and by a `Refused`
abbrev pub reading_of : Result Request ℕ → Records.Reading
reading_of (Ok r) = Records.Request r.operation r.input r.output r.amount
reading_of (Err n) = Records.Refused n

abbrev pub reading_told : Result Request Refused → Records.Reading
reading_told (Ok r) = Records.Request r.operation r.input r.output r.amount
reading_told (Err refused) = Records.Refused (number refused)

-- what is printed of a refusal, if there is one
abbrev pub refusal_told : Option RefusalLine → Refusal
refusal_told None = number_alone 0
refusal_told (Some l) = record { slot = l.slot; input = l.input; output = l.output; number = l.number }
