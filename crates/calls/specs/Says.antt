-- What a contract says of a call, as the toolchain has it from the source. Assumes nothing.
use seplogic.Ra.Ura.{Ura}
use base.Logic.{ent}
use contract.Lifetimes.{Lfts}
use contract.Monad.{fact}
use denote.Triple.Entry.{Args, Res}
use denote.Triple.Clauses.{Ended, Clauses, AtExit}
use Rattle.std.specs.Prelude.{◌≡◌, List, ℕ}
use Rattle.wsgs.specs.declared.Clock.{Clock}
use Rattle.wsgs.specs.declared.TurnRuns.{TurnRuns}
use Rattle.wsgs.specs.declared.PipelineRuns.{PipelineRuns}
use Rattle.wsgs.specs.Answers.{StartResult, TickResult}
use Rattle.wsgs.specs.Bookings.{Book, book_of}
use Rattle.wsgs.specs.Questions.{Effect, effect}
use Rattle.wsgs.specs.Preview
use Rattle.wsgs.specs.Preview.{BookOperation, PreviewResult}
use Rattle.wsgs.specs.Switch.{Switch, preview, apply, of_asking}
use Rattle.kivdrag_c.specs.Clocks.{clock_in_words}
use Rattle.kivdrag_c.specs.Results.{CStart, CTick}

-- The contract c of a function entails a fact of each call: a are its arguments, r its result, e its parameters as they are seen at exit.
abbrev pub Says : {M : Type 1} (𝓤 : Ura M) (T : Ended) (c : Clauses 𝓤 T)
    → ((κs : Lfts T.signature.lifetimes) (a : Args T.signature κs) (r : Res T.signature κs) (e : AtExit T κs) → Type 0)
    → Type 1
Says 𝓤 T c φ =
    (κs : Lfts T.signature.lifetimes) (a : Args T.signature κs) (g : (c κs a).ghost) (r : Res T.signature κs) (e : AtExit T κs)
    → ent 𝓤 ((c κs a).ensures g r e) (fact 𝓤 (φ κs a r e))

-- the switch that a clock and runs make
abbrev pub switch_of : Clock → (slots rates credits queues given copy flight : List ℕ) → Switch
switch_of k s r c q g p f = record { clock = k; book = book_of s r; credits = c; queues = q; given = g; copy = p; flight = f }

-- and that a clock, a book and the other runs make, where these are lent as structs
abbrev pub direct_switch : Clock → Book → TurnRuns → (copy flight : List ℕ) → Switch
direct_switch k b t p f = switch_of k b.slots b.rates t.credits.now t.queues.now t.given.now p f

abbrev pub pipelined_switch : Clock → Book → TurnRuns → PipelineRuns → Switch
pipelined_switch k b t p = direct_switch k b t p.copy.now p.flight.now

-- what is told of a preview of the switch: that of the call, which changes nothing, and the sums besides
abbrev pub PreviewTold : Switch → BookOperation → (input output amount : ℕ) → PreviewResult → Type 0
PreviewTold s o i j d p = (of_asking s p.refusal ≡ apply (preview o i j d) s) × (p ≡ Preview.preview o s.clock s.book i j d)

-- what C has after a start and after a tick, with the clock that its words hold
abbrev pub start_told : {Runs : Type 0} → CStart Runs → Effect StartResult Runs
start_told x = effect (record { refusal = x.refusal; clock = clock_in_words x.clock }) x.runs

abbrev pub tick_told : {Runs : Type 0} → CTick Runs → Effect TickResult Runs
tick_told x =
    effect (record { refusal = x.refusal; clock = clock_in_words x.clock; outputs = x.outputs; first_pass = x.pass_word }) x.runs
