-- What an input finds as the output that it was last given is what its turns before gave it, in both forms: a start leaves 0, the calls between two
-- ticks leave the words, and a turn that gives an output notes it. And so no output starves: at each turn of n in a row at which an output is open to an
-- input, it is given, or comes nearer in the input's order. Assumes nothing.
use mathlib.Core.Path.{◌≡◌, refl, sym, ◌∙◌, ap, ap₂}
use mathlib.Core.Bool.{false}
use mathlib.Core.Logic.{◌⊎◌, inl, inr}
use Prim.Native.Nat.{ℕ, zero, suc, ◌+◌, ◌-◌, ◌*◌, ◌≤◌, ◌<◌}
use native.Mathlib.Numerals.{add-one}
use native.Mathlib.Omega.{arith}
use native.Mathlib.Decide.{ℕ_discrete}
use lib.Dec.{T, ltb}
use borrow.Author.Tests.{lt-ltb}
use Rattle.std.proofs.lemmas.Bool.Decides.{nat_tests}
use Rattle.wsgs.specs.Basics.{pick, Port, next, later}
use Rattle.wsgs.specs.Words.{port_word}
use Rattle.wsgs.specs.Steps.{Matching, View}
use Rattle.wsgs.specs.Direct
use Rattle.wsgs.specs.Switch.{Switch, direct, pipelined, direct_runs}
use Rattle.wsgs.specs.Ledger.{Ledger, answered, has_turns, tick_two, slot_of_one, slot_of_two, given_one, given_two, last_given, last_before_two, credit_left}
use Rattle.wsgs.specs.Seen.{Seen, first_view, second_view, steps_answer}
use Rattle.wsgs.specs.Claims.{LastFound, Open}
use Rattle.wsgs.proofs.Laws.Words.{port_cleared}
use Rattle.wsgs.proofs.Laws.InTurn.{ahead, ahead_within, next_port}
use Rattle.wsgs.proofs.Steps.{nearer}
use Rattle.wsgs.proofs.Trace.{Trace, base, left, left_after, each_tick, by_ticks}
use Rattle.wsgs.proofs.Share.{Fair}
use Rattle.wsgs.proofs.Direct.Tick
use Rattle.wsgs.proofs.Direct.FollowsSteps as DirectForm
use Rattle.wsgs.proofs.Pipelined.FollowsSteps as PipelinedForm
use Rattle.wsgs.proofs.Pipelined.Choice.{got}
use Rattle.wsgs.proofs.Pipelined.Model.{Model, model_of}
use Rattle.wsgs.proofs.Pipelined.Slots.{choice_one, choice_two, choice_one_at, choice_two_at}
use Rattle.wsgs.proofs.Pipelined.Answers.{answered_is, exclusive}

-- one tick more
last_next : (l : Ledger) (i t : ℕ) → last_given l i (t + 1) ≡ later (given_two l (t + 1) i) (later (given_one l (t + 1) i) (last_given l i t))
unfolding last_given
last_next l i t = rw (add-one t)

-- THE DIRECT FORM
module _ (l : Ledger) (h : Seen) (now : Switch) (t : Trace direct l h now) where
  abbrev n : ℕ
  n = l.ports

  -- both turns of a tick are for its slot
  one_slot : (k i : ℕ) → slot_of_one l k i ≡ k
  unfolding slot_of_one
  one_slot k i = rw t.form

  two_slot : (k i : ℕ) → slot_of_two l k i ≡ k
  unfolding slot_of_two
  two_slot k i = rw t.form

  -- so what they give is the answer's output
  both_given : (k i x : ℕ) → later (given_two l k i) (later (given_one l k i) x) ≡ later ((l.answer k).output i) x
  unfolding given_one given_two
  both_given k i x = grind (arith, nat_tests)

  -- the words that tick k finds
  abbrev word_at : ℕ → ℕ → ℕ
  word_at k i = port_word (t.at k).given i

  abbrev Last : ℕ → Type 0
  Last k = (i : ℕ) → Port n i → word_at k i ≡ last_given l i (k - 1)

  -- those of the first
  last_first : 1 ≤ l.ticks → Last 1
  unfolding left Direct.started last_given
  last_first g i pi = ap (λ w. port_word w i) (t.past 0 g).follows.given ∙ port_cleared n t.before.given i pi

  -- what a tick leaves of them
  abbrev Next : ℕ → Type 0
  Next k = (i : ℕ) → Port n i → word_at (k + 1) i ≡ later ((l.answer k).output i) (word_at k i)

  goes_on : (k : ℕ) → 1 ≤ k → k < l.ticks → Next k
  unfolding Direct.ticked
  goes_on k a b = each_tick {m = l.ticks - 1} Next at k a (omega arith)
    where
      at : (k : ℕ) → k < l.ticks - 1 → Next (k + 1)
      at k g i pi =
          let v = rw (left_after direct (base direct l t.before) t.at k) at (t.past (k + 1) (omega arith)).follows in
          let d = DirectForm.tick_facts l h now t (k + 1) (omega arith) (omega arith) in
          ap (λ w. port_word w i) v.given
          ∙ ap (λ c. port_word (Direct.ticked c (direct_runs (t.at (k + 1)))).runs.given i) (t.past k (omega arith)).clock
          ∙ Tick.all_regiven n (t.at (k + 1)).given d.long.given (Tick.answer n l.frame l.line (k + 1) (direct_runs (t.at (k + 1)))).output i pi
          ∙ ap (λ (m : Matching). later (m.output i) (word_at (k + 1) i)) (sym d.answer)

  last_at : (k : ℕ) → 1 ≤ k → k ≤ l.ticks → Last k
  last_at = by_ticks Last last_first step
    where
      step : (k : ℕ) → 1 ≤ k → k < l.ticks → Last k → Last (k + 1)
      step k a b r i pi =
          let e : k - 1 + 1 ≡ k = omega arith in
          let d : k + 1 - 1 ≡ k = omega arith in
          goes_on k a b i pi ∙ ap (later ((l.answer k).output i)) (r i pi) ∙ sym (both_given k i (last_given l i (k - 1)))
          ∙ sym (ap (last_given l i) d ∙ ap (last_given l i) (sym e) ∙ last_next l i (k - 1) ∙ rw e)

  pub direct_found : (k i : ℕ) → 1 ≤ k → Port n i → T (answered l (slot_of_one l k i)) → LastFound l h k i
  unfolding last_before_two
  direct_found k i a pi b =
      let r = DirectForm.answered_at l h now t k (rw (one_slot k i) at b) in
      let d = DirectForm.tick_facts l h now t k r.0 r.1 in
      record {
        first = ap (λ (v : View). v.last i) d.first ∙ last_at k r.0 r.1 i pi;
        second = ap (λ (v : View). v.last i) d.second ∙ last_at k r.0 r.1 i pi ∙ rw t.form;
      }

-- THE PIPELINED FORM
module _ (l : Ledger) (h : Seen) (m : Model l h) where
  abbrev ports : ℕ
  ports = l.ports

  -- the slots of the turns of input i at tick k
  first_slot : (k i : ℕ) → slot_of_one l k i ≡ k + 2 * ports + 1 - i
  unfolding slot_of_one
  first_slot k i = rw m.form

  second_slot : (k i : ℕ) → slot_of_two l k i ≡ k + ports + 1 - i
  unfolding slot_of_two
  second_slot k i = rw m.form

  -- what they give is what the turns chose
  gave_one : (k i : ℕ) → Port ports i → k + 2 * ports + 1 - i ≤ l.ticks + 1 → given_one l k i ≡ choice_one l h m (k + 2 * ports + 1 - i) i
  unfolding given_one
  gave_one k i pi g =
      let r = answered_is l h m (k + 2 * ports + 1 - i) i g pi in
      rw (first_slot k i, r.first, r.output) (go (choice_one l h m (k + 2 * ports + 1 - i) i))
    where
      go : (c : ℕ) → pick (ltb 0 c) (got c (choice_two l h m (k + 2 * ports + 1 - i) i)) 0 ≡ c
      go zero = refl
      go (suc c) = rw (lt-ltb 0 (suc c) (omega arith))

  gave_two : (k i : ℕ) → Port ports i → k + ports + 1 - i ≤ l.ticks + 1 → k ≤ l.ticks
      → given_two l k i ≡ choice_two l h m (k + ports + 1 - i) i
  unfolding given_two
  gave_two k i pi g b =
      let r = answered_is l h m (k + ports + 1 - i) i g pi in
      rw (second_slot k i, r.first, r.output)
      (go (choice_one l h m (k + ports + 1 - i) i) (exclusive l h m (k + ports + 1 - i) i (omega arith) pi))
    where
      two : ℕ
      two = choice_two l h m (k + ports + 1 - i) i

      go : (c : ℕ) → (1 ≤ c → two ≡ 0) → pick (ltb 0 c) 0 (got c two) ≡ two
      go zero z = refl
      go (suc c) z = rw (lt-ltb 0 (suc c) (omega arith)) (sym (z (omega arith)))

  -- the words that tick k finds, where the slots of the turns before are answered
  abbrev Words : ℕ → Type 0
  Words k = (i : ℕ) → Port ports i → k + 2 * ports ≤ l.ticks + 1 + i → (m.board k).last i ≡ last_given l i (k - 1)

  words_at : (k : ℕ) → 1 ≤ k → k ≤ l.ticks → Words k
  words_at = by_ticks Words begin step
    where
      begin : 1 ≤ l.ticks → Words 1
      begin g i pi b = unfold last_given in (m.begins g).last i pi

      step : (k : ℕ) → 1 ≤ k → k < l.ticks → Words k → Words (k + 1)
      step k a b r i pi g =
          let e : k - 1 + 1 ≡ k = omega arith in
          let d : k + 1 - 1 ≡ k = omega arith in
          let s = k + 2 * ports + 1 - i in
          let u = k + ports + 1 - i in
          (m.goes_on k a b).last i pi
          ∙ ap₂ later (sym (choice_two_at l h m k u i (omega arith)) ∙ sym (gave_two k i pi (omega arith) (omega arith)))
          (ap₂ later (sym (choice_one_at l h m k s i (omega arith)) ∙ sym (gave_one k i pi (omega arith))) (r i pi (omega arith)))
          ∙ sym (ap (last_given l i) d ∙ ap (last_given l i) (sym e) ∙ last_next l i (k - 1) ∙ rw e)

  words_found : (k i : ℕ) → 1 ≤ k → Port ports i → k + 2 * ports + 1 - i ≤ l.ticks + 1 → LastFound l h k i
  unfolding last_before_two
  words_found k i a pi g =
      let f = m.tick_facts k a (omega arith) in
      let w = words_at k a (omega arith) i pi (omega arith) in
      let s = k + 2 * ports + 1 - i in
      record {
        first = f.last_first i pi ∙ w;
        second = f.last_second i pi
            ∙ ap₂ later (sym (choice_one_at l h m k s i (omega arith)) ∙ sym (gave_one k i pi g)) w ∙ rw m.form;
      }

pub pipelined_found : (l : Ledger) (h : Seen) (now : Switch) (t : Trace pipelined l h now) (k i : ℕ) → 1 ≤ k → Port l.ports i
    → T (answered l (slot_of_one l k i)) → LastFound l h k i
pipelined_found l h now t k i a pi b =
    let m = model_of l h now t in
    words_found l h m k i a pi (rw (first_slot l h m k i) at (PipelinedForm.answered_high l h now t (slot_of_one l k i) b))

-- NO OUTPUT STARVES
-- what is needed of the turns: those of a tick are for slots that are answered where its pass-one slot is, and the pass-two slot's turn is at that tick
pub record Turned (l : Ledger) (t i : ℕ) : Type 0 where
  pub second : T (answered l (slot_of_one l t i)) → T (answered l (slot_of_two l t i))
  pub tick : T (has_turns l (slot_of_two l t i)) → tick_two l (slot_of_two l t i) i ≡ t

module _ (l : Ledger) (h : Seen) (fair : Fair l h) (turned : (t i : ℕ) → 1 ≤ t → Port l.ports i → Turned l t i)
    (found : (t i : ℕ) → 1 ≤ t → Port l.ports i → T (answered l (slot_of_one l t i)) → LastFound l h t i) (i j : ℕ) (pi : Port l.ports i)
    (pj : Port l.ports j) where
  -- how far output j is in the order that input i has after tick t
  abbrev far : ℕ → ℕ
  far t = ahead l.ports (next l.ports (last_given l i t)) j

  -- where pass one gives nothing at tick t, the pass-two turn finds what the ticks before gave
  before_two : (t : ℕ) → given_one l t i ≡ 0 → last_before_two l i t ≡ last_given l i (t - 1)
  unfolding last_before_two
  before_two t z = grind (arith, nat_tests)

  -- what its pass-two slot gives an input that pass one does not serve in it
  second_given : (t : ℕ) → (l.answer (slot_of_two l t i)).first i ≡ false → given_two l t i ≡ (l.answer (slot_of_two l t i)).output i
  unfolding given_two
  second_given t e = rw e

  -- at a tick at which it is open, it is given or comes nearer
  closer : (x : ℕ) → Open l h (x + 1) i j
      → ((l.answer (slot_of_two l (x + 1) i)).output i ≡ j) ⊎ (far (x + 1) < far x)
  unfolding steps_answer
  closer x o = go (ℕ_discrete v j)
    where
      t : ℕ
      t = x + 1

      s : ℕ
      s = slot_of_two l t i

      v : ℕ
      v = (l.answer s).output i

      same : (y : ℕ) → Port l.ports y → (l.answer s).output y ≡ (steps_answer l h s).output y
      same y py = (fair.follows s y ((turned t i (omega arith) pi).second o.told) o.both py).output

      marks : (steps_answer l h s).first i ≡ false
      marks = sym (fair.follows s i ((turned t i (omega arith) pi).second o.told) o.both pi).first ∙ o.unserved

      at_tick : tick_two l s i ≡ t
      at_tick = (turned t i (omega arith) pi).tick o.both

      back : t - 1 ≡ x
      back = omega arith

      last : (second_view l h s).last i ≡ last_given l i x
      last =
          ap (λ k. (h.second k).last i) at_tick ∙ (found t i (omega arith) pi o.told).second ∙ before_two t o.nothing ∙ ap (last_given l i) back

      go : Dec (v ≡ j) → (v ≡ j) ⊎ (far t < far x)
      go (yes e) = inl e
      go (no d) =
          let packet : 1 ≤ (second_view l h s).queue i j = omega (arith, o.packet, ap (λ k. (h.second k).queue i j) at_tick) in
          let r = nearer l.ports (credit_left l s) (first_view l h s) (second_view l h s) i j pi pj marks packet
          (λ y py e z. o.free y py e (same y py ∙ z)) (λ e. d (same i pi ∙ e)) in
          let some : 1 ≤ v = omega (arith, r.0, same i pi) in
          let new : last_given l i t ≡ v =
          last_next l i x ∙ ap₂ later (second_given t o.unserved) refl ∙ rw (lt-ltb 0 v some) in
          inr (rw (new, same i pi, ← last) r.1)

  -- so within n ticks it is given
  pub given_within : (k : ℕ) → ((u : ℕ) → Port l.ports u → Open l h (k + u) i j)
      → (u : ℕ) × Port l.ports u × ((l.answer (slot_of_two l (k + u) i)).output i ≡ j)
  given_within k open_to = go l.ports (omega arith) (search_up l.ports (omega arith))
    where
      Given : Type 0
      Given = (u : ℕ) × Port l.ports u × ((l.answer (slot_of_two l (k + u) i)).output i ≡ j)

      search_up : (u : ℕ) → u ≤ l.ports → Given ⊎ (far (k + u) + u < l.ports)
      search_up zero g = inr (let e : k + 0 ≡ k = omega arith in rw e (omega (arith, ahead_within l.ports _ j (next_port l.ports (last_given l i k) (omega arith)) pj)))
      search_up (suc u) g = up (search_up u (omega arith))
        where
          e : k + suc u ≡ k + u + 1
          e = omega arith

          up : Given ⊎ (far (k + u) + u < l.ports) → Given ⊎ (far (k + suc u) + suc u < l.ports)
          up (inl r) = inl r
          up (inr r) = at (closer (k + u) (rw e at (open_to (suc u) (omega arith))))
            where
              at : ((l.answer (slot_of_two l (k + u + 1) i)).output i ≡ j) ⊎ (far (k + u + 1) < far (k + u)) → Given ⊎ (far (k + suc u) + suc u < l.ports)
              at (inl z) = inl (suc u, omega arith, rw e z)
              at (inr z) = inr (rw e (omega (arith, z, r)))

      go : (p : ℕ) → p ≡ l.ports → Given ⊎ (far (k + p) + p < l.ports) → Given
      go p e (inl r) = r
      go p e (inr r) = absurd (omega (arith, r, e))

-- both forms
pub direct_turned : (l : Ledger) (h : Seen) (now : Switch) → Trace direct l h now → (t i : ℕ) → 1 ≤ t → Port l.ports i → Turned l t i
direct_turned l h now r t i a pi =
    record {
      second = λ b. rw (two_slot l h now r t i) (rw (one_slot l h now r t i) at b);
      tick = λ b. DirectForm.tick_two_is l h now r (slot_of_two l t i) i ∙ two_slot l h now r t i;
    }

pub pipelined_turned : (l : Ledger) (h : Seen) (now : Switch) → Trace pipelined l h now → (t i : ℕ) → 1 ≤ t → Port l.ports i → Turned l t i
pipelined_turned l h now r t i a pi =
    let m = model_of l h now r in
    let one = first_slot l h m t i in
    let two = second_slot l h m t i in
    record {
      second = λ b.
          let high = PipelinedForm.answered_high l h now r (slot_of_one l t i) b in
          PipelinedForm.high_answered l h now r (slot_of_two l t i) (omega (arith, two)) (omega (arith, one, two, high));
      tick = λ b.
          PipelinedForm.tick_two_is l h now r (slot_of_two l t i) i ∙ omega (arith, two, PipelinedForm.turns_late l h now r (slot_of_two l t i) b);
    }
