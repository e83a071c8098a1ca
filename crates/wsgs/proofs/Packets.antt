-- Packets are conserved, in both forms: a start leaves none, the calls between two ticks add what arrives, and a tick answers one or none of a
-- pair's. So what has arrived is queued, in flight or answered. Assumes nothing.
use mathlib.Core.Path.{◌≡◌, refl, ◌∙◌, ap, subst}
use mathlib.Core.Bool.{Bool}
use mathlib.Core.List.{List}
use mathlib.Core.Logic.{inl}
use Prim.Native.Nat.{ℕ, zero, suc, ◌+◌, ◌*◌, ◌≤◌, ◌<◌}
use native.Mathlib.Omega.{arith}
use native.Mathlib.Numerals.{add-one}
use lib.Dec.{eqb, leb→le}
use Rattle.std.proofs.lemmas.Bool.Decides.{nat_tests}
use Rattle.wsgs.specs.Clocks.{clock_of}
use Rattle.wsgs.specs.Basics.{pick, bit, Port, sum}
use Rattle.wsgs.specs.Words.{word}
use Rattle.wsgs.specs.Book.{arrive_words}
use Rattle.wsgs.specs.Steps.{Matching}
use Rattle.wsgs.specs.Direct
use Rattle.wsgs.specs.Pipelined
use Rattle.wsgs.specs.Pipelined.{turn_runs, copied_at, output_in, reserved}
use Rattle.wsgs.specs.Switch.{Switch, Form, direct, pipelined, tick, apply, direct_runs, pipelined_runs}
use Rattle.wsgs.specs.Ledger.{Ledger, slot_of_tick, by_one, by_two, count_one, count_two}
use Rattle.wsgs.specs.Seen.{Seen}
use Rattle.wsgs.specs.Packets.{packets_in_flight, answers}
use Rattle.wsgs.proofs.Laws.Tests.{range_in, bit_split, bit_ne, at_pair}
use Rattle.wsgs.proofs.Laws.Words.{word_put, word_cleared}
use Rattle.wsgs.proofs.Laws.Sums.{sum_zero, sum_last}
use Rattle.wsgs.proofs.Refusals.{arrive_asked, started, ticked, direct_asked, pipelined_asked}
use Rattle.wsgs.proofs.Trace.{Trace, Arrivals, none, more, Between, base, started_empty, left, left_after}
use Rattle.wsgs.proofs.Direct.Tick as DirectTick
use Rattle.wsgs.proofs.Pipelined.Tick.{copy_length, after_inputs, sized_after}
use Rattle.wsgs.proofs.Pipelined.Flight.{clear_row, all_hold}

-- the packets of a pair that a switch has, queued and in flight
unfoldable pub packets : Form → ℕ → Switch → ℕ → ℕ → ℕ
packets m n s i j = word n s.queues i j + packets_in_flight m n s i j

-- A TICK answers one of them or none
abbrev Answers : Form → ℕ → Switch → Type 0
Answers m n s =
    (i j : ℕ) → Port n i → Port n j → packets m n s i j ≡ packets m n (ticked m s).after i j + bit (eqb ((ticked m s).matching.output i) j)

-- in both forms
tick_answers : (m : Form) (s : Switch) → (apply (tick m) s).refusal ≡ 0 → s.clock.ports ≤ 32 → Answers m s.clock.ports s
unfolding packets packets_in_flight Direct.ticked Pipelined.ticked
tick_answers direct s ok few i j pi pj =
    let n = s.clock.ports in
    let f = s.clock.frame in
    let b = s.clock.line in
    let k = s.clock.slot + 1 in
    let long = direct_asked s ok in
    omega (arith, DirectTick.queue_after n f b k (direct_runs s) long i j pi pj, DirectTick.packet n f b k (direct_runs s) long i j pi pj)
tick_answers pipelined s ok few i j pi pj =
    let n = s.clock.ports in
    let f = s.clock.frame in
    let b = s.clock.line in
    let k = s.clock.slot in
    let w = pipelined_runs s in
    let long = pipelined_asked s ok in
    let flight = (after_inputs n f b k w long n).flight in
    let handed : (ticked pipelined s).matching.output i ≡ reserved n flight (k + 1 + 1) i = rw (range_in 1 n i pi.low pi.high) in
    omega (
      arith,
      all_hold n few i j pi pj f (copied_at n f b (k + 1) w) (copy_length n f b k w long) (k + 1) (turn_runs w) long.sized n (omega arith),
      clear_row n flight (sized_after n f b k w long n (omega arith)).flight i j pi (k + 1 + 1) (omega arith) pj.low,
      ap (λ o. bit (eqb o j)) handed,
    )

-- A START leaves none
start_leaves : (m : Form) (n f b : ℕ) (g : Bool) (s : Switch) (i j : ℕ) → Port n i → Port n j → packets m n (started m n f b g s).after i j ≡ 0
unfolding packets packets_in_flight Direct.started Pipelined.started
start_leaves direct n f b g s i j pi pj = omega (arith, word_cleared n s.queues i j pi pj)
start_leaves pipelined n f b g s i j pi pj =
    omega (
      arith,
      word_cleared n s.queues i j pi pj,
      sum_zero (λ u. bit (eqb (reserved n (started pipelined n f b g s).after.flight u i) j)) (2 * n)
          (λ u p. ap (λ v. bit (eqb (output_in n v) j)) ((started_empty n f b g s).flight u i pi) ∙ bit_ne 0 j (λ e. omega (arith, pj.low))),
    )

-- ARRIVALS add to the queues what the ledger notes
arrivals_add : (n : ℕ) (q : List ℕ) (a : ℕ → ℕ → ℕ) {q' : List ℕ} {a' : ℕ → ℕ → ℕ} → Arrivals n q a q' a'
    → (x y : ℕ) → Port n x → Port n y → word n q' x y + a x y ≡ word n q x y + a' x y
unfolding arrive_words
arrivals_add n q a none x y px py = refl
arrivals_add n q a (more {q' = r} {a' = b} f k line kind i j d e v) x y px py =
    let c = clock_of n f k line kind in
    let g = (arrive_asked c r i j d e).0 in
    let before = arrivals_add n q a v x y px py in
    rw (e, word_put n r (leb→le _ _ g.long) i j g.input g.output (word n r i j + d) x y px py)
    (at_pair (λ z. pick z (word n r i j + d) (word n r x y) + a x y ≡ word n q x y + pick z (b i j + d) (b x y)) i j x y
    (λ e u. rw (e, u) (omega (arith, rw (e, u) at before))) (λ u. before))

-- CALLS BETWEEN TICKS leave the flight
same_flying : (m : Form) (n : ℕ) (r s : Switch) → s.flight ≡ r.flight → (i j : ℕ) → packets_in_flight m n s i j ≡ packets_in_flight m n r i j
unfolding packets_in_flight
same_flying direct n r s e i j = refl
same_flying pipelined n r s e i j = ap (λ w. sum (λ u. bit (eqb (reserved n w u i) j)) (2 * n)) e

-- so the packets rise as arrivals do
packets_between : (m : Form) (n : ℕ) (a a' : ℕ → ℕ → ℕ) (r s : Switch) → Between n a a' r s → (i j : ℕ) → Port n i → Port n j
    → packets m n s i j + a i j ≡ packets m n r i j + a' i j
unfolding packets
packets_between m n a a' r s v i j pi pj = omega (arith, arrivals_add n r.queues a v.queues i j pi pj, same_flying m n r s v.flight i j)

-- ALL CALLS
module _ (m : Form) (l : Ledger) (h : Seen) (now : Switch) (t : Trace m l h now) (i j : ℕ) (pi : Port l.ports i) (pj : Port l.ports j) where
  abbrev n : ℕ
  n = l.ports

  -- what the first k ticks answered
  abbrev pub answered_by : ℕ → ℕ
  answered_by k = count_one l i j (slot_of_tick l.form k) + count_two l i j (slot_of_tick l.form k)

  -- a pair's answers are by one pass or by the other
  passes : (s : ℕ) → bit (by_one l s i j) + bit (by_two l s i j) ≡ bit (eqb ((l.answer s).output i) j)
  unfolding by_one by_two
  passes s = bit_split ((l.answer s).first i) (eqb ((l.answer s).output i) j)

  -- a slot before the first tick's has none
  none_before : (s : ℕ) → s < slot_of_tick l.form 1 → bit (by_one l s i j) + bit (by_two l s i j) ≡ 0
  none_before s g = passes s ∙ ap (λ (a : Matching). bit (eqb (a.output i) j)) (t.unanswered s (inl g)) ∙ bit_ne 0 j (λ e. omega (arith, pj.low))

  -- so before tick 1 nothing was answered
  none_answered : answered_by 0 ≡ 0
  unfolding count_one count_two
  none_answered = grind (arith, nat_tests, sum_zero)

  -- and each tick adds its own
  answered_next : (k : ℕ) → answered_by (k + 1) ≡ answered_by k + bit (eqb ((l.answer (slot_of_tick l.form (k + 1))).output i) j)
  unfolding count_one count_two
  answered_next k = grind (arith, nat_tests, sum_last)

  -- what tick k left and what was answered by then are what had arrived just before it
  abbrev Account : ℕ → Type 0
  Account k = packets m n (left m (base m l t.before) t.at k) i j + answered_by k ≡ l.arrived_before k i j

  -- after the start
  account_first : Account 0
  unfolding left
  account_first =
      omega (arith, start_leaves m n l.frame l.line l.fine t.before i j pi pj, none_answered, t.none_arrived i j)

  -- and one tick on
  account_next : (k : ℕ) → k < l.ticks → Account k → Account (k + 1)
  account_next k g r =
      let p = t.past k g in
      let ports : (t.at (k + 1)).clock.ports ≡ n = ap (λ c. c.ports) p.clock in
      let answers : Answers m n (t.at (k + 1)) =
      subst (λ n. Answers m n (t.at (k + 1))) ports (tick_answers m (t.at (k + 1)) p.accepted (rw ports t.sizes.few_ports)) in
      rw (left_after m (base m l t.before) t.at k)
      (omega (
        arith,
        r,
        packets_between m n _ _ _ _ p.follows i j pi pj,
        answers i j pi pj,
        answered_next k,
        ap (λ (a : Matching). bit (eqb (a.output i) j)) p.answer,
      ))

  -- so it stands after every tick
  account : (k : ℕ) → k ≤ l.ticks → Account k
  account zero g = account_first
  account (suc k) g = rw (add-one k) at (account_next k g (account k (omega arith)))

  -- before every tick, with what arrived since
  pub found : (k : ℕ) → k < l.ticks → packets m n (t.at (k + 1)) i j + answered_by k ≡ l.arrived_before (k + 1) i j
  found k g = omega (arith, account k (omega arith), packets_between m n _ _ _ _ (t.past k g).follows i j pi pj)

  -- and now
  pub conserved : l.arrived i j ≡ word n now.queues i j + packets_in_flight m n now i j + answers l i j
  unfolding packets answers
  conserved = omega (arith, account l.ticks (omega arith), packets_between m n _ _ _ _ t.current i j pi pj)
