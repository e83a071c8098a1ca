-- What C has after a start, after headroom and after a tick, and what that is of an outcome. Assumes nothing.
use Rattle.std.specs.Prelude.{List, ℕ, ℤ}
use Rattle.wsgs.specs.Headroom.{HeadroomResult}
use Rattle.wsgs.specs.Steps.{outputs_of, pass_word_of}
use Rattle.wsgs.specs.Questions.{Outcome}
use Rattle.kivdrag_c.specs.Clocks.{clock_words}

-- after a start: the refusal, the words of the clock, and the runs
pub record CStart (Runs : Type 0) : Type 0 where
  pub refusal : ℕ
  pub clock : List ℕ
  pub runs : Runs

abbrev pub c_start : {Runs : Type 0} → (refusal : ℕ) (clock : List ℕ) → Runs → CStart Runs
c_start r c w = record { refusal = r; clock = c; runs = w }

abbrev pub c_start_of : {Runs : Type 0} → Outcome Runs → CStart Runs
c_start_of o = c_start o.refusal (clock_words o.clock) o.runs

-- after headroom: the refusal and the number, which together are the call's result
abbrev pub c_headroom : (refusal : ℕ) (number : ℤ) → HeadroomResult
c_headroom r z = record { refusal = r; headroom = z }

-- after a tick: also the 32 outputs and the word of the inputs served by pass one
pub record CTick (Runs : Type 0) : Type 0 where
  pub refusal : ℕ
  pub clock : List ℕ
  pub outputs : List ℕ
  pub pass_word : ℕ
  pub runs : Runs

abbrev pub c_tick : {Runs : Type 0} → (refusal : ℕ) (clock outputs : List ℕ) (pass_word : ℕ) → Runs → CTick Runs
c_tick r c y p w = record { refusal = r; clock = c; outputs = y; pass_word = p; runs = w }

abbrev pub c_tick_of : {Runs : Type 0} → Outcome Runs → CTick Runs
c_tick_of o = c_tick o.refusal (clock_words o.clock) (outputs_of o.matching) (pass_word_of o.matching) o.runs
