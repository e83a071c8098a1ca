-- A slot of the direct form: its steps together are the definition's, for pass two leaves what pass one gave. Assumes nothing.
use mathlib.Core.Path.{◌≡◌, refl, sym, ◌∙◌}
use mathlib.Core.List.{List}
use Prim.Native.Nat.{ℕ, ◌+◌, ◌*◌, ◌<◌}
use native.Mathlib.Decide.{dec_lt}
use native.Mathlib.Omega.{arith}
use borrow.Author.Tests.{eq-eqb, ne_eqb, lt-ltb, le-ltb}
use lib.Dec.{ltb}
use Rattle.wsgs.specs.declared.Clock.{Clock}
use Rattle.wsgs.specs.Clocks.{at_slot}
use Rattle.wsgs.specs.Basics.{pick, Port}
use Rattle.wsgs.specs.Words.{word, port_word, copied}
use Rattle.wsgs.specs.Bookings.{booking_words}
use Rattle.wsgs.specs.Frames.{first_of_frame}
use Rattle.wsgs.specs.Steps.{Matching, pass_two, listed, marked, outputs_of, pass_word_of}
use Rattle.std.specs.Prelude.{Result, Ok, Err}
use Rattle.std.specs.Result.{IsErrAnd}
use Rattle.wsgs.specs.declared.Refused.{Refused}
use Rattle.wsgs.specs.declared.Ticked.{Ticked}
use Rattle.wsgs.specs.Told.{number, tick_told}
use Rattle.wsgs.specs.Questions.{effect}
use Rattle.questions.proofs.Laws.Answers.{number_some}
use Rattle.wsgs.specs.Answers.{direct_runs_of, tick_effect}
use Rattle.wsgs.specs.Direct.{Runs, loaded, paired, spent, tick_refusal, ticked, tick}
use Rattle.wsgs.proofs.Steps.{two_keeps}
use Rattle.direct.specs.Passes.{PassState, ones, SlotRun}
use Rattle.direct.proofs.Spent.{spent_ext}

-- a matching as it is answered
outputs_are : (m : Matching) → outputs_of m ≡ listed 32 m.output
unfolding outputs_of
outputs_are m = refl

mark_is : (m : Matching) → pass_word_of m ≡ marked 32 m.first
unfolding pass_word_of
mark_is m = refl

-- slot k on the runs w
module _ (n f b k : ℕ) (w : Runs) where
  abbrev loads : List ℕ
  loads = loaded n f b k w

  abbrev one : ℕ → ℕ
  one = ones n loads w.queues w.given

  abbrev two : ℕ → ℕ
  two = pass_two n (word n w.queues) (port_word w.given) one n

  -- the outputs that pass one gave are still those of its inputs
  ones_stay : (i : ℕ) → Port n i → one i ≡ pick (ltb 0 (one i)) (two i) 0
  ones_stay i p = go (dec_lt 0 (one i))
    where
      go : Dec (0 < one i) → one i ≡ pick (ltb 0 (one i)) (two i) 0
      go (yes h) = rw (lt-ltb 0 (one i) h) (sym (two_keeps n (word n w.queues) (port_word w.given) one i p h))
      go (no h) = rw (le-ltb 0 (one i) (omega arith)) (omega arith)

  -- step 1, and the pairs
  abbrev first_credits : List ℕ
  first_credits =
      pick (first_of_frame f k) (copied (n * n) (booking_words f b w.book.slots w.book.rates) w.credits) w.credits

  loads_are : first_credits ≡ loads
  unfolding loaded
  loads_are = refl

  pairs_are : paired n f b k w ≡ record { output = two; first = λ i. ltb 0 (one i) }
  unfolding paired
  pairs_are = refl

  -- the passes on the credits of step 1
  pub slot_run : (start : List ℕ) → start ≡ first_credits
      → (free first : ℕ) (outputs credits queues given : List ℕ)
      → PassState n w.queues w.given
      (pass_two n (word n w.queues) (port_word w.given) (ones n start w.queues w.given) n) free outputs queues given
      → first ≡ marked 32 (λ i. ltb 0 (ones n start w.queues w.given i))
      → credits ≡ spent n start (ones n start w.queues w.given) n
      → SlotRun n f b k w outputs first credits queues given
  slot_run start e free first outputs credits queues given h m c =
      let d : start ≡ loads = e ∙ loads_are in
      let held = rw d at h in
      record {
        answer = rw pairs_are (held.list ∙ sym (outputs_are _));
        mark = rw pairs_are ((rw d at m) ∙ sym (mark_is _));
        credits_left = rw pairs_are ((rw d at c) ∙ spent_ext n loads one _ n ones_stay);
        queues_left = rw pairs_are held.cost;
        given_left = rw pairs_are held.gifts;
      }

-- A tick is refused or runs the slot, as its refusal says.
module _ (k : Clock) (w : Runs) where
  -- a refused one answers zeros and the old clock
  pub tick_refused : (r : Result Ticked Refused) (e : Refused) → IsErrAnd r (λ d. d ≡ e) → number e ≡ tick_refusal k w → effect (tick_told k r) w ≡ tick_effect (tick k w)
  unfolding tick
  tick_refused (Ok t) e h n = absurd h
  tick_refused (Err d) e h n = rw (h, n, ne_eqb (tick_refusal k w) 0 (λ z. number_some e (n ∙ z)))

  -- another answers the slot
  pub tick_ran : tick_refusal k w ≡ 0 → (first : ℕ) (outputs credits queues given : List ℕ)
      → SlotRun k.ports k.frame k.line (k.slot + 1) w outputs first credits queues given
      → effect (record { refusal = 0; clock = at_slot k (k.slot + 1); outputs = outputs; first_pass = first })
      (direct_runs_of w.book.slots w.book.rates credits queues given)
      ≡ tick_effect (tick k w)
  unfolding tick ticked
  tick_ran h first outputs credits queues given d = rw (eq-eqb (tick_refusal k w) 0 h, d.answer, d.mark, d.credits_left, d.queues_left, d.given_left)
