-- A pipelined tick: what an accepted one found, and that its parts together are the definition's. Assumes nothing.
use Rattle.std.proofs.Common.{◌≡◌, ℕ, ◌+◌, ◌*◌, ◌≤◌, ◌≢◌, List, [], ◌∷◌, ap, ◌∙◌, arith, ltb→lt, eq-eqb, ne_eqb}
use Rattle.wsgs.specs.declared.Clock.{Clock}
use Rattle.wsgs.specs.declared.Refused.{Refused}
use Rattle.wsgs.specs.declared.Ticked.{Ticked}
use Rattle.std.specs.Prelude.{Result, Ok, Err}
use Rattle.std.specs.Result.{IsErrAnd}
use Rattle.wsgs.specs.Told.{number, tick_told}
use Rattle.questions.proofs.Laws.Answers.{number_some}
use Rattle.wsgs.specs.Clocks.{at_slot}
use Rattle.wsgs.specs.Words.{copied}
use Rattle.wsgs.specs.Bookings.{booking_words}
use Rattle.wsgs.specs.Frames.{into_frame}
use Rattle.wsgs.specs.Questions.{clock_can_advance, effect}
use Rattle.wsgs.specs.Steps.{outputs_of, pass_word_of}
use Rattle.wsgs.specs.Answers.{pipelined_runs_of, tick_effect}
use Rattle.wsgs.specs.Pipelined.{Runs, turn_runs, questions, tick_refusal, copied_at, turns, handed_out, row_cleared, ticked, tick}
use Rattle.wsgs.proofs.Laws.Questions.{all_yes, pipelined_yes}
use Rattle.pipelined.specs.Turnings.{turn_runs_of, Running}

-- THE FRAME COPY at time k, on lines of the rate b
module _ (n f b k : ℕ) (w : Runs) (u : ℕ) (e : u ≡ into_frame f (k + 2 * n)) where
  pub copies : (m : List ℕ) → u ≡ 0 → m ≡ copied (n * n) (booking_words f b w.book.slots w.book.rates) w.copy → m ≡ copied_at n f b k w
  unfolding copied_at
  copies m h d = d ∙ rw (← e, eq-eqb u 0 h)

  pub stands : u ≢ 0 → w.copy ≡ copied_at n f b k w
  unfolding copied_at
  stands h = rw (← e, ne_eqb u 0 h)

-- WHAT AN ACCEPTED TICK FOUND
pub accepted_found : (c : Clock) (w : Runs) → tick_refusal c w ≡ 0 → Running c w
unfolding tick_refusal
accepted_found c w e =
    let qs = clock_can_advance c.slot ∷ [] in
    let y = pipelined_yes c.ports c.frame w qs (all_yes (questions c.ports c.frame w qs) (omega arith) e) in
    let sized = y.1.long.sized in
    let few : c.ports ≤ 32 = y.1.ports.1 in
    record {
      ports = record { low = y.1.ports.0; high = few };
      covers = y.0;
      slots_left = ltb→lt c.slot 4000000000 y.1.later.0;
      copying = record { few = few; slots = y.1.long.slots; rates = y.1.long.rates; copy = y.1.long.copy };
      turning =
          record {
            ports = few;
            copy = y.1.long.copy;
            credits = sized.credits;
            queues = sized.queues;
            given = sized.given;
            flight = sized.flight;
          };
    }

-- WHAT AN ACCEPTED TICK LEAVES: the copy, the turns, the pairs and the cleared row
module _ (k : Clock) (w : Runs) where
  abbrev n : ℕ
  n = k.ports

  abbrev time : ℕ
  time = k.slot + 1

  pub ticked_left : (outputs : List ℕ) (first : ℕ) (c q g p l l' : List ℕ) → p ≡ copied_at n k.frame k.line time w
      → turn_runs_of c q g l ≡ turns n k.frame p time (turn_runs w) n
      → outputs ≡ outputs_of (handed_out n l (time + 1)) → first ≡ pass_word_of (handed_out n l (time + 1)) → l' ≡ row_cleared n l (time + 1)
      → effect (record { refusal = 0; clock = at_slot k time; outputs = outputs; first_pass = first }) (pipelined_runs_of w.book.slots w.book.rates c q g p l')
      ≡ tick_effect (ticked k w)
  unfolding ticked
  ticked_left outputs first c q g p l l' ep et eo ef el =
      let t = et ∙ ap (λ z. turns n k.frame z time (turn_runs w) n) ep in
      let rows : l ≡ (turns n k.frame (copied_at n k.frame k.line time w) time (turn_runs w) n).flight = ap (λ z. z.flight) t in
      rw (eo, ef, el, rows, ap (λ z. z.credits) t, ap (λ z. z.queues) t, ap (λ z. z.given) t, ep)

  -- A TICK is this one where nothing refuses, and else it leaves clock and runs
  pub tick_ran : tick_refusal k w ≡ 0 → tick_effect (ticked k w) ≡ tick_effect (tick k w)
  unfolding tick
  tick_ran h = rw (eq-eqb (tick_refusal k w) 0 h)

  pub tick_refused : (r : Result Ticked Refused) (e : Refused) → IsErrAnd r (λ d. d ≡ e) → number e ≡ tick_refusal k w → effect (tick_told k r) w ≡ tick_effect (tick k w)
  unfolding tick
  tick_refused (Ok t) e h n = absurd h
  tick_refused (Err d) e h n = rw (h, n, ne_eqb (tick_refusal k w) 0 (λ z. number_some e (n ∙ z)))
