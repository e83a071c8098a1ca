-- Laws of starts: what a refused one leaves, and what an accepted one does. Assumes nothing.
use mathlib.Core.Path.{◌≡◌, sym, ◌∙◌}
use mathlib.Core.Bool.{Bool}
use mathlib.Core.List.{List}
use Prim.Native.Nat.{ℕ, ◌*◌}
use borrow.Author.Tests.{eq-eqb, ne_eqb}
use Rattle.std.specs.Prelude.{Result, Ok, Err}
use Rattle.std.specs.Result.{IsErrAnd}
use Rattle.wsgs.specs.declared.Clock.{Clock}
use Rattle.wsgs.specs.declared.Refused.{Refused}
use Rattle.wsgs.specs.Clocks.{first_clock}
use Rattle.wsgs.specs.Questions.{accepted, effect, Outcome, refused}
use Rattle.wsgs.specs.Answers.{direct_runs_of, pipelined_runs_of, start_effect}
use Rattle.wsgs.specs.Told.{number, start_told}
use Rattle.wsgs.specs.Direct
use Rattle.wsgs.specs.Pipelined
use Rattle.words.specs.Runs.{clear_words}
use Rattle.words.proofs.Laws.{clear_fits}
use Rattle.questions.proofs.Laws.Answers.{number_some}
use Rattle.questions.proofs.Laws.Runs.{direct_asked, pipelined_asked}

-- a refused start leaves clock and runs
pub start_stays : {Runs : Type 0} (r : Result Clock Refused) (e : Refused) (refusal : ℕ) (c : Clock) (w : Runs) (done : Outcome Runs)
    → IsErrAnd r (λ d. d ≡ e) → number e ≡ refusal → effect (start_told c r) w ≡ start_effect (accepted refusal done (refused refusal c w))
start_stays (Ok k) e refusal c w done h n = absurd h
start_stays (Err d) e refusal c w done h n = rw (h, n, ne_eqb refusal 0 (λ z. number_some e (n ∙ z)))

-- DIRECT
module _ (n f b : ℕ) (g : Bool) (w : Direct.Runs) (c : Clock) where
  -- what a refused one leaves
  pub direct_stays : (r : Result Clock Refused) (e : Refused) → IsErrAnd r (λ d. d ≡ e) → number e ≡ Direct.start_refusal n f b w
      → effect (start_told c r) w ≡ start_effect (Direct.start n f b g c w)
  unfolding Direct.start
  direct_stays r e = start_stays r e _ c w (Direct.started n f b g w)

  -- and an accepted one
  pub direct_clears : 0 ≡ Direct.start_refusal n f b w
      → (clock : Clock) → clock ≡ first_clock n f b g
      → (s r k q v : List ℕ)
      → (s ≡ clear_words (n * n) w.book.slots) × ((r ≡ clear_words (n * n) w.book.rates)
      × ((k ≡ clear_words (n * n) w.credits) × ((q ≡ clear_words (n * n) w.queues) × (v ≡ clear_words n w.given))))
      → effect (record { refusal = 0; clock = clock }) (direct_runs_of s r k q v) ≡ start_effect (Direct.start n f b g c w)
  unfolding Direct.start
  direct_clears e clock h s r k q v l =
      let long = (direct_asked n f b w e).1 in
      rw (h, l.0, l.1.0, l.1.1.0, l.1.1.1.0, l.1.1.1.1, eq-eqb (Direct.start_refusal n f b w) 0 (sym e))
      (rw (clear_fits _ _ long.slots, clear_fits _ _ long.rates, clear_fits _ _ long.credits, clear_fits _ _ long.queues)
      (rw (clear_fits _ _ long.given)))

-- PIPELINED
module _ (n f b : ℕ) (g : Bool) (w : Pipelined.Runs) (c : Clock) where
  -- what a refused one leaves
  pub pipelined_stays : (r : Result Clock Refused) (e : Refused) → IsErrAnd r (λ d. d ≡ e) → number e ≡ Pipelined.start_refusal n f b w
      → effect (start_told c r) w ≡ start_effect (Pipelined.start n f b g c w)
  unfolding Pipelined.start
  pipelined_stays r e = start_stays r e _ c w (Pipelined.started n f b g w)

  -- and an accepted one
  pub pipelined_clears : 0 ≡ Pipelined.start_refusal n f b w
      → (clock : Clock) → clock ≡ first_clock n f b g
      → (s r k q v p t : List ℕ)
      → (s ≡ clear_words (n * n) w.book.slots) × ((r ≡ clear_words (n * n) w.book.rates)
      × ((k ≡ clear_words (n * n) w.credits) × ((q ≡ clear_words (n * n) w.queues) × (v ≡ clear_words n w.given))))
      → (p ≡ clear_words (n * n) w.copy) × (t ≡ clear_words (2 * n * n) w.flight)
      → effect (record { refusal = 0; clock = clock }) (pipelined_runs_of s r k q v p t) ≡ start_effect (Pipelined.start n f b g c w)
  unfolding Pipelined.start
  pipelined_clears e clock h s r k q v p t l m =
      let long = (pipelined_asked n f b w e).2 in
      rw (h, l.0, l.1.0, l.1.1.0, l.1.1.1.0, l.1.1.1.1, m.0, m.1, eq-eqb (Pipelined.start_refusal n f b w) 0 (sym e))
      (rw (clear_fits _ _ long.slots, clear_fits _ _ long.rates, clear_fits _ _ long.sized.credits)
      (rw (clear_fits _ _ long.sized.queues, clear_fits _ _ long.sized.given, clear_fits _ _ long.copy, clear_fits _ _ long.sized.flight)))
