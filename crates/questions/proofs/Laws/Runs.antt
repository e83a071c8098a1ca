-- Laws of the questions on the sizes and runs of a form: which of them refuses, and what has been asked where none does. Assumes nothing.
use mathlib.Core.Path.{◌≡◌, refl, sym, ◌∙◌, ap, ap₂}
use mathlib.Core.Bool.{Bool, true, false, not, ◌&&◌}
use mathlib.Core.List.{List, [], ◌∷◌}
use Prim.Native.Nat.{ℕ, ◌*◌, ◌≤◌, ◌<◌}
use native.Mathlib.Omega.{arith}
use lib.Dec.{leb, leb→le}
use lib.ListN.{length}
use borrow.Author.Tests.{le-leb, lt-leb}
use Rattle.wsgs.specs.declared.Clock.{Clock}
use Rattle.wsgs.specs.declared.Refused.{Refused}
use Rattle.wsgs.specs.Questions.{Question, first_no, frame_covers_ports, long_enough, line_in_range, clock_can_advance, holds_pairs, holds_book, holds_ports}
use Rattle.wsgs.specs.Answers.{direct_runs_of}
use Rattle.wsgs.specs.Told.{number}
use Rattle.wsgs.specs.Direct
use Rattle.wsgs.specs.Pipelined
use Rattle.wsgs.proofs.Laws.Questions.{none_left, asked_no, asked_yes, all_yes, rest_decides, some_no, DirectLong, PipelinedLong, direct_yes, pipelined_yes}
use Rattle.questions.specs.Refusals.{StartInRange, on_sizes, sizes_refusal, line_refusal, clock_refusal, direct_runs_refusal, pipelined_runs_refusal}
use Rattle.questions.proofs.Laws.Answers.{said_no, said_yes, number_some}

-- DIRECT
module _ (n f : ℕ) (w : Direct.Runs) where
  abbrev long : Question
  long = long_enough (Direct.runs_suffice n w)

  -- sizes that are refused
  pub direct_sized : (e : Refused) → number e ≡ sizes_refusal n f → number e ≡ direct_runs_refusal n f w
  unfolding sizes_refusal direct_runs_refusal
  direct_sized e h = some_no (on_sizes n f) (long ∷ []) (number e) h (number_some e)

  module _ (sized : 0 ≡ sizes_refusal n f) where
    after_sizes : first_no (long ∷ []) ≡ direct_runs_refusal n f w
    unfolding sizes_refusal direct_runs_refusal
    after_sizes = rest_decides (on_sizes n f) (long ∷ []) (omega arith) sized

    -- a run too short
    pub direct_short : false ≡ Direct.runs_suffice n w → 4 ≡ direct_runs_refusal n f w
    direct_short e = asked_no _ _ (sym e) ∙ after_sizes

    -- none
    pub direct_long : true ≡ Direct.runs_suffice n w → 0 ≡ direct_runs_refusal n f w
    direct_long e = none_left ∙ asked_yes _ _ (sym e) ∙ after_sizes

-- A START of it: sizes or runs refuse, and else the line rate decides
module _ (n f b : ℕ) (w : Direct.Runs) where
  pub direct_start_sized : (e : Refused) → number e ≡ direct_runs_refusal n f w → number e ≡ Direct.start_refusal n f b w
  unfolding direct_runs_refusal Direct.start_refusal
  direct_start_sized e h = some_no (Direct.questions n f w []) (line_in_range b ∷ []) (number e) h (number_some e)

  pub direct_start_line : 0 ≡ direct_runs_refusal n f w → line_refusal b ≡ Direct.start_refusal n f b w
  unfolding direct_runs_refusal Direct.start_refusal line_refusal
  direct_start_line e = rest_decides (Direct.questions n f w []) (line_in_range b ∷ []) (omega arith) e

  -- what has been asked where none refuses
  pub direct_asked : 0 ≡ Direct.start_refusal n f b w → StartInRange n f b × DirectLong n w
  unfolding Direct.start_refusal
  direct_asked e =
      let qs = line_in_range b ∷ [] in
      let a = direct_yes n f w qs (all_yes (Direct.questions n f w qs) (omega arith) (sym e)) in
      (record { sizes = record { ports = a.ports; frame = a.frame }; line = leb→le b 100000000 a.later.0 }, a.long)

-- A TICK of it: sizes or runs refuse likewise, and else the clock decides
module _ (c : Clock) (w : Direct.Runs) where
  pub direct_tick_sized : (e : Refused) → number e ≡ direct_runs_refusal c.ports c.frame w → number e ≡ Direct.tick_refusal c w
  unfolding direct_runs_refusal Direct.tick_refusal
  direct_tick_sized e h = some_no (Direct.questions c.ports c.frame w []) (clock_can_advance c.slot ∷ []) (number e) h (number_some e)

  pub direct_tick_clock : 0 ≡ direct_runs_refusal c.ports c.frame w → clock_refusal c ≡ Direct.tick_refusal c w
  unfolding direct_runs_refusal Direct.tick_refusal clock_refusal
  direct_tick_clock e = rest_decides (Direct.questions c.ports c.frame w []) (clock_can_advance c.slot ∷ []) (omega arith) e

-- the runs of a pipelined switch: those of a direct one, the copy and the words in flight
module _ (n : ℕ) (w : Pipelined.Runs) where
  abbrev direct_runs : Direct.Runs
  direct_runs = direct_runs_of w.book.slots w.book.rates w.credits w.queues w.given

  abbrev last : Bool
  last = leb (2 * n * n) (length w.flight)

  split : (Direct.runs_suffice n direct_runs && (holds_pairs n w.copy && last)) ≡ Pipelined.runs_suffice n w
  split = five (holds_book n w.book) (holds_pairs n w.credits) (holds_pairs n w.queues) (holds_ports n w.given) _
    where
      five : (a b c d e : Bool) → ((a && (b && (c && d))) && e) ≡ (a && (b && (c && (d && e))))
      five true true true d e = refl
      five true true false d e = refl
      five true false c d e = refl
      five false b c d e = refl

  -- one of the first five is too short
  pub short_direct : (b : Bool) → b ≡ Direct.runs_suffice n direct_runs → not b ≡ true → false ≡ Pipelined.runs_suffice n w
  short_direct b e h = ap (λ x. x && (holds_pairs n w.copy && last)) (sym (said_no e h)) ∙ split

  module _ (b : Bool) (e : b ≡ Direct.runs_suffice n direct_runs) (h : not b ≡ false) (d : Bool) (f : d ≡ holds_pairs n w.copy) where
    -- the copy is
    pub short_copy : not d ≡ true → false ≡ Pipelined.runs_suffice n w
    short_copy g = ap₂ (λ x y. x && (y && last)) (sym (said_yes e h)) (sym (said_no f g)) ∙ split

    -- and else the words in flight decide
    pub flight_decides : not d ≡ false → last ≡ Pipelined.runs_suffice n w
    flight_decides g = ap₂ (λ x y. x && (y && last)) (sym (said_yes e h)) (sym (said_yes f g)) ∙ split

-- PIPELINED
module _ (n f : ℕ) (w : Pipelined.Runs) where
  abbrev later : List Question
  later = frame_covers_ports n f ∷ long_enough (Pipelined.runs_suffice n w) ∷ []

  -- sizes that are refused
  pub pipelined_sized : (e : Refused) → number e ≡ sizes_refusal n f → number e ≡ pipelined_runs_refusal n f w
  unfolding sizes_refusal pipelined_runs_refusal
  pipelined_sized e h = some_no (on_sizes n f) later (number e) h (number_some e)

  module _ (sized : 0 ≡ sizes_refusal n f) where
    later_decides : first_no later ≡ pipelined_runs_refusal n f w
    unfolding sizes_refusal pipelined_runs_refusal
    later_decides = rest_decides (on_sizes n f) later (omega arith) sized

    -- a frame shorter than the ports
    pub pipelined_uncovered : f < n → 3 ≡ pipelined_runs_refusal n f w
    pipelined_uncovered h = asked_no _ _ (lt-leb n f h) ∙ later_decides

    -- a run too short
    pub pipelined_short : n ≤ f → false ≡ Pipelined.runs_suffice n w → 4 ≡ pipelined_runs_refusal n f w
    pipelined_short h e = asked_no _ _ (sym e) ∙ asked_yes _ _ (le-leb n f h) ∙ later_decides

    -- none
    pub pipelined_long : n ≤ f → true ≡ Pipelined.runs_suffice n w → 0 ≡ pipelined_runs_refusal n f w
    pipelined_long h e = none_left ∙ asked_yes _ _ (sym e) ∙ asked_yes _ _ (le-leb n f h) ∙ later_decides

-- A START of it: sizes or runs refuse, and else the line rate decides
module _ (n f b : ℕ) (w : Pipelined.Runs) where
  pub pipelined_start_sized : (e : Refused) → number e ≡ pipelined_runs_refusal n f w → number e ≡ Pipelined.start_refusal n f b w
  unfolding pipelined_runs_refusal Pipelined.start_refusal
  pipelined_start_sized e h = some_no (Pipelined.questions n f w []) (line_in_range b ∷ []) (number e) h (number_some e)

  pub pipelined_start_line : 0 ≡ pipelined_runs_refusal n f w → line_refusal b ≡ Pipelined.start_refusal n f b w
  unfolding pipelined_runs_refusal Pipelined.start_refusal line_refusal
  pipelined_start_line e = rest_decides (Pipelined.questions n f w []) (line_in_range b ∷ []) (omega arith) e

  -- what has been asked where none refuses
  pub pipelined_asked : 0 ≡ Pipelined.start_refusal n f b w → StartInRange n f b × (n ≤ f) × PipelinedLong n w
  unfolding Pipelined.start_refusal
  pipelined_asked e =
      let qs = line_in_range b ∷ [] in
      let a = pipelined_yes n f w qs (all_yes (Pipelined.questions n f w qs) (omega arith) (sym e)) in
      (record { sizes = record { ports = a.1.ports; frame = a.1.frame }; line = leb→le b 100000000 a.1.later.0 }, a.0, a.1.long)

-- A TICK of it: sizes or runs refuse likewise, and else the clock decides
module _ (c : Clock) (w : Pipelined.Runs) where
  pub pipelined_tick_sized : (e : Refused) → number e ≡ pipelined_runs_refusal c.ports c.frame w → number e ≡ Pipelined.tick_refusal c w
  unfolding pipelined_runs_refusal Pipelined.tick_refusal
  pipelined_tick_sized e h = some_no (Pipelined.questions c.ports c.frame w []) (clock_can_advance c.slot ∷ []) (number e) h (number_some e)

  pub pipelined_tick_clock : 0 ≡ pipelined_runs_refusal c.ports c.frame w → clock_refusal c ≡ Pipelined.tick_refusal c w
  unfolding pipelined_runs_refusal Pipelined.tick_refusal clock_refusal
  pipelined_tick_clock e = rest_decides (Pipelined.questions c.ports c.frame w []) (clock_can_advance c.slot ∷ []) (omega arith) e
