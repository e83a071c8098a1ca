-- Laws of the words that hold a clock: a clock comes back from its words, five words come back from their clock, and a refused call leaves
-- them; and of what C has after a start and a tick. Assumes nothing.
use mathlib.Core.Path.{◌≡◌, refl, ap, ◌∙◌}
use mathlib.Core.List.{List, [], ◌∷◌}
use mathlib.Core.Logic.{◌≢◌}
use Prim.Native.Nat.{ℕ}
use native.Mathlib.Omega.{arith}
use lib.ListN.{length}
use Rattle.wsgs.specs.declared.Clock.{Clock}
use Rattle.wsgs.specs.Answers.{StartResult, TickResult}
use Rattle.wsgs.specs.Questions.{Effect, effect}
use Rattle.wsgs.specs.Switch.{Switch, Call, apply}
use Rattle.wsgs.proofs.Promises.{refused_changes_nothing}
use Rattle.kivdrag_c.specs.Clocks.{clock_in_words, clock_words}
use Rattle.kivdrag_c.specs.Results.{c_start, c_tick}

pub clock_of_words : (c : Clock) → clock_in_words (clock_words c) ≡ c
clock_of_words c = refl

pub words_of_clock : (w : List ℕ) → length w ≡ 5 → clock_words (clock_in_words w) ≡ w
words_of_clock [] h = absurd (omega arith)
words_of_clock (a ∷ []) h = absurd (omega arith)
words_of_clock (a ∷ b ∷ []) h = absurd (omega arith)
words_of_clock (a ∷ b ∷ c ∷ []) h = absurd (omega arith)
words_of_clock (a ∷ b ∷ c ∷ d ∷ []) h = absurd (omega arith)
words_of_clock (a ∷ b ∷ c ∷ d ∷ e ∷ []) h = refl
words_of_clock (a ∷ b ∷ c ∷ d ∷ e ∷ g ∷ gs) h = absurd (omega arith)

-- A refused call of a switch whose clock is in five words leaves these words.
pub words_stay : (c : Call) (s : Switch) (w : List ℕ)
    → length w ≡ 5
    → s.clock ≡ clock_in_words w
    → (apply c s).refusal ≢ 0
    → clock_words (apply c s).after.clock ≡ w
words_stay c s w five e not_0 =
    ap (λ x. clock_words x.clock) (refused_changes_nothing c s not_0).0 ∙ ap clock_words e ∙ words_of_clock w five

-- What C has after a start, of which the clock is written into its words.
pub start_written : {Runs : Type 0} {s : StartResult} {runs : Runs} {x : Effect StartResult Runs} {w : List ℕ}
    → effect s runs ≡ x
    → w ≡ clock_words s.clock
    → c_start s.refusal w runs ≡ c_start x.answer.refusal (clock_words x.answer.clock) x.words
start_written e h = rw h (ap (λ x. c_start x.answer.refusal (clock_words x.answer.clock) x.words) e)

-- What C has after a tick, of which the clock, the outputs and the passes are written.
pub tick_written : {Runs : Type 0} {t : TickResult} {runs : Runs} {x : Effect TickResult Runs} {r p : ℕ} {w y : List ℕ}
    → effect t runs ≡ x
    → (r ≡ t.refusal) × ((w ≡ clock_words t.clock) × ((y ≡ t.outputs) × (p ≡ t.first_pass)))
    → c_tick r w y p runs
    ≡ c_tick x.answer.refusal (clock_words x.answer.clock) x.answer.outputs x.answer.first_pass x.words
tick_written e h =
    rw (h.0, h.1.0, h.1.1.0, h.1.1.1)
    (ap (λ x. c_tick x.answer.refusal (clock_words x.answer.clock) x.answer.outputs x.answer.first_pass x.words) e)
