-- The outcome of a start or a tick as its caller is told it, beside the lent runs. Assumes nothing.
use Rattle.std.specs.Prelude.{◌&&◌, List, ℕ, ◌-◌, ◌/◌, ◌%◌, ◌^◌, eqb, ltb, get_or}
use Rattle.wsgs.specs.declared.Clock.{Clock}
use Rattle.wsgs.specs.Basics.{pick}
use Rattle.wsgs.specs.Steps.{Matching, empty_matching, outputs_of, pass_word_of}
use Rattle.wsgs.specs.Bookings.{book_of}
use Rattle.wsgs.specs.Questions.{Outcome, Effect, effect}
use Rattle.wsgs.specs.Direct
use Rattle.wsgs.specs.Pipelined

-- the runs that a call is lent
abbrev pub direct_runs_of : (slots rates credits queues given : List ℕ) → Direct.Runs
direct_runs_of s r c q g = record { book = book_of s r; credits = c; queues = q; given = g }

abbrev pub pipelined_runs_of : (slots rates credits queues given copy flight : List ℕ) → Pipelined.Runs
pipelined_runs_of s r c q g p f = record { book = book_of s r; credits = c; queues = q; given = g; copy = p; flight = f }

-- what a start gives back: the refusal, 0 for none, and the clock afterwards; and with it the runs
pub record StartResult : Type 0 where
  pub refusal : ℕ
  pub clock : Clock

abbrev pub start_result_of : {Runs : Type 0} → Outcome Runs → StartResult
start_result_of o = record { refusal = o.refusal; clock = o.clock }

abbrev pub start_effect : {Runs : Type 0} → Outcome Runs → Effect StartResult Runs
start_effect o = effect (start_result_of o) o.runs

-- what a tick gives back: the refusal, 0 for none; the clock afterwards; the output of each of 32 inputs, 0 for none; and the word of the inputs served by
-- pass one; and with it the runs
pub record TickResult : Type 0 where
  pub refusal : ℕ
  pub clock : Clock
  pub outputs : List ℕ
  pub first_pass : ℕ

abbrev pub tick_result_of : {Runs : Type 0} → Outcome Runs → TickResult
tick_result_of o =
    record { refusal = o.refusal; clock = o.clock; outputs = outputs_of o.matching; first_pass = pass_word_of o.matching }

abbrev pub tick_effect : {Runs : Type 0} → Outcome Runs → Effect TickResult Runs
tick_effect o = effect (tick_result_of o) o.runs

-- a tick that advances its caller's clock: its result without the clock, and with it the clock and the runs
pub record Answer : Type 0 where
  pub refusal : ℕ
  pub outputs : List ℕ
  pub first_pass : ℕ

abbrev pub answer_of : TickResult → Answer
answer_of r = record { refusal = r.refusal; outputs = r.outputs; first_pass = r.first_pass }

abbrev pub in_place : {Runs : Type 0} → Effect TickResult Runs → Effect Answer (Clock × Runs)
in_place e = effect (answer_of e.answer) (e.answer.clock, e.words)

abbrev pub answer_effect : {Runs : Type 0} → Outcome Runs → Effect Answer (Clock × Runs)
answer_effect o = in_place (tick_effect o)

-- the way back: an answer and the clock make the result
abbrev pub result_of : Clock → Answer → TickResult
result_of k r = record { refusal = r.refusal; clock = k; outputs = r.outputs; first_pass = r.first_pass }

abbrev pub by_value : {Runs : Type 0} → Effect Answer (Clock × Runs) → Effect TickResult Runs
by_value e = effect (result_of e.words.0 e.answer) e.words.1

-- the pairs that 32 output numbers and a word of the inputs served by pass one stand for
abbrev pub matching_of : (outputs : List ℕ) (pass_word : ℕ) → Matching
matching_of outputs w =
    record { output = λ i. pick (ltb 0 i) (get_or outputs (i - 1) 0) 0; first = λ i. ltb 0 i && eqb (w / 2 ^ (i - 1) % 2) 1 }

-- THE WAY BACK: the outcome that a start's result and the runs at its exit tell, and that a tick's tell
abbrev pub start_outcome : {Runs : Type 0} → Effect StartResult Runs → Outcome Runs
start_outcome e = record { refusal = e.answer.refusal; matching = empty_matching; clock = e.answer.clock; runs = e.words }

abbrev pub tick_outcome : {Runs : Type 0} → Effect TickResult Runs → Outcome Runs
tick_outcome e =
    record {
      refusal = e.answer.refusal;
      matching = matching_of e.answer.outputs e.answer.first_pass;
      clock = e.answer.clock;
      runs = e.words;
    }
