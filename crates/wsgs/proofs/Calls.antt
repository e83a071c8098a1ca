-- From the public functions' contracts to the switch. A contract equates what a function gives back, and the runs at its exit, with the effect
-- of a definition; put together into an outcome of the switch, that is what `apply` says of the call. For a start or a tick nothing is lost on
-- the way: 32 outputs and the pass-one word tell the whole matching, since a switch has at most 32 inputs. Assumes nothing.
use mathlib.Core.Path.{◌≡◌, refl, sym, ◌∙◌, ap, ap₂, fun_ext}
use mathlib.Core.Bool.{Bool, true, false}
use mathlib.Core.List.{List, [], ◌∷◌}
use Prim.Native.Nat.{ℕ, zero, suc, ◌+◌, ◌-◌, ◌≤◌, ◌<◌, ◌/◌, ◌%◌, ◌^◌}
use native.Mathlib.Decide.{dec_lt}
use native.Mathlib.Nat.{div-eq_of_lt, lt_of_lt_of_le}
use native.Mathlib.Omega.{arith}
use borrow.Author.Tests.{lt-ltb}
use lib.Dec.{eqb, ltb}
use lib.ListN.{get_or, get_or-eq_default}
use lib.Pow.{pow_mono}
use Rattle.std.proofs.lemmas.Bool.Decides.{nat_tests}
use Rattle.wsgs.specs.declared.Clock.{Clock}
use Rattle.wsgs.specs.Basics.{pick, bit, between, Port}
use Rattle.wsgs.specs.Steps.{Matching, empty_matching, View, nine_steps, listed, outputs_of, pass_word_of}
use Rattle.wsgs.specs.Words.{word}
use Rattle.wsgs.specs.Questions.{Outcome, Effect, refused, clock_can_advance}
use Rattle.wsgs.specs.Bookings.{Book}
use Rattle.wsgs.specs.Book.{book_effect, rate_effect, release_effect, release_rate_effect, arrive_effect}
use Rattle.wsgs.specs.Headroom.{HeadroomResult, headroom_result}
use Rattle.wsgs.specs.Preview
use Rattle.wsgs.specs.Preview.{BookOperation, PreviewResult}
use Rattle.wsgs.specs.Direct
use Rattle.wsgs.specs.Pipelined
use Rattle.wsgs.specs.Answers.{StartResult, TickResult, start_effect, tick_effect, start_outcome, tick_outcome, matching_of}
use Rattle.wsgs.specs.Switch.{Switch, direct, pipelined, start, book, book_rate, release, release_rate, headroom, preview, arrive, tick, apply, direct_runs, pipelined_runs, of_direct, of_pipelined, of_asking, of_book, of_queues}
use Rattle.wsgs.proofs.Laws.Tests.{range_out}
use Rattle.wsgs.proofs.Laws.Listed.{listed_length, listed_at}
use Rattle.wsgs.proofs.Laws.Marked.{marked_lt, marked_bit}
use Rattle.wsgs.proofs.Laws.Questions.{all_yes, direct_yes}
use Rattle.wsgs.proofs.Steps.{one_outside, two_outside}

-- A matching of the inputs 1..32 alone.
record Bounded (m : Matching) : Type 0 where
  output : (i : ℕ) → (Port 32 i → ⊥) → m.output i ≡ 0
  first : (i : ℕ) → (Port 32 i → ⊥) → m.first i ≡ false

none_bounded : Bounded empty_matching
none_bounded = record { output = λ i h. refl; first = λ i h. refl }

-- Such a one is told whole by 32 outputs and a word.
module _ (m : Matching) (b : Bounded m) where
  abbrev rebuilt : Matching
  rebuilt = matching_of (outputs_of m) (pass_word_of m)

  -- at input x + 1
  listed_tells : (x : ℕ) → Dec (x < 32) → get_or (outputs_of m) x 0 ≡ m.output (suc x)
  unfolding outputs_of
  listed_tells x (yes h) = listed_at 32 m.output x h
  listed_tells x (no h) =
      get_or-eq_default (listed 32 m.output) 0 {n = x} (omega (arith, listed_length 32 m.output))
      ∙ sym (b.output (suc x) (λ p. omega arith))

  is_bit : (c : Bool) → eqb (bit c) 1 ≡ c
  is_bit true = refl
  is_bit false = refl

  bit_tells : (x : ℕ) → Dec (x < 32) → eqb (pass_word_of m / 2 ^ x % 2) 1 ≡ m.first (suc x)
  unfolding pass_word_of
  bit_tells x (yes h) = rw (marked_bit 32 m.first x h) (is_bit (m.first (suc x)))
  bit_tells x (no h) =
      rw (div-eq_of_lt (lt_of_lt_of_le (marked_lt 32 m.first) (pow_mono {i = 32} {j = x} (omega arith)))) (sym (b.first (suc x) (λ p. omega arith)))

  -- at any input
  before : (x : ℕ) → suc x - 1 ≡ x
  before x = omega arith

  outputs_tell : (i : ℕ) → rebuilt.output i ≡ m.output i
  outputs_tell zero = sym (b.output 0 (λ p. omega arith))
  outputs_tell (suc x) = rw (lt-ltb 0 (suc x) (omega arith), before x) (listed_tells x (dec_lt x 32))

  word_tells : (i : ℕ) → rebuilt.first i ≡ m.first i
  word_tells zero = sym (b.first 0 (λ p. omega arith))
  word_tells (suc x) = rw (lt-ltb 0 (suc x) (omega arith), before x) (bit_tells x (dec_lt x 32))

  rebuilt_same : rebuilt ≡ m
  rebuilt_same = ap₂ (λ o f. record { output = o; first = f }) (fun_ext outputs_tell) (fun_ext word_tells)

-- So a tick whose matching is one comes back from its effect.
tick_back : {Runs : Type 0} (o : Outcome Runs) → Bounded o.matching → tick_outcome (tick_effect o) ≡ o
tick_back o b = ap (λ m. record { refusal = o.refusal; matching = m; clock = o.clock; runs = o.runs }) (rebuilt_same o.matching b)

-- THE MATCHINGS OF TICKS are such: outside its ports a switch has no pairs.
module _ (n : ℕ) (few : n ≤ 32) where
  narrow : {i : ℕ} → (Port 32 i → ⊥) → Port n i → ⊥
  narrow h p = h (omega arith)

  steps_bounded : (credit : ℕ → ℕ → ℕ) (v w : View) → Bounded (nine_steps n credit v w)
  unfolding nine_steps
  steps_bounded credit v w =
      record {
        output = λ i h. two_outside n w.queue w.last _ n i (narrow h) ∙ one_outside n credit v.queue v.last n i (narrow h);
        first = λ i h. ap (ltb 0) (one_outside n credit v.queue v.last n i (narrow h));
      }

  -- the test of the ports fails outside them
  outside : (i : ℕ) → (Port 32 i → ⊥) → between 1 n i ≡ false
  outside i h = range_out 1 n i (λ p. narrow h (record { low = p.0; high = p.1 }))

  handed_bounded : (flight : List ℕ) (s : ℕ) → Bounded (Pipelined.handed_out n flight s)
  unfolding Pipelined.handed_out
  handed_bounded flight s = record { output = λ i h. rw (outside i h); first = λ i h. rw (outside i h) }

-- accepted or refused
either_bounded : {Runs : Type 0} (r : ℕ) (c : Clock) (w : Runs) (o : Outcome Runs) → (r ≡ 0 → Bounded o.matching)
    → Bounded (pick (eqb r 0) o (refused r c w)).matching
either_bounded r c w o h = grind (arith, nat_tests)

direct_bounded : (c : Clock) (w : Direct.Runs) → Bounded (Direct.tick c w).matching
unfolding Direct.tick Direct.ticked Direct.paired Direct.tick_refusal
direct_bounded c w =
    let qs = clock_can_advance c.slot ∷ [] in
    either_bounded (Direct.tick_refusal c w) c w (Direct.ticked c w)
    (λ e. steps_bounded c.ports (direct_yes c.ports c.frame w qs (all_yes (Direct.questions c.ports c.frame w qs) (omega arith) e)).ports.1 (word c.ports (Direct.loaded c.ports c.frame c.line (c.slot + 1) w)) (Direct.found c.ports w) (Direct.found c.ports w))

pipelined_bounded : (c : Clock) (w : Pipelined.Runs) → Bounded (Pipelined.tick c w).matching
unfolding Pipelined.tick Pipelined.ticked Pipelined.tick_refusal
pipelined_bounded c w = grind (arith, nat_tests)

-- A START has no pairs, accepted or refused.
either_back : {Runs : Type 0} (r : ℕ) (k : Clock) (w : Runs) (o : Outcome Runs) → o.matching ≡ empty_matching
    → start_outcome (start_effect (pick (eqb r 0) o (refused r k w))) ≡ pick (eqb r 0) o (refused r k w)
either_back r k w o e = grind (arith, nat_tests)

direct_start_back : (n f b : ℕ) (g : Bool) (c : Clock) (w : Direct.Runs) → start_outcome (start_effect (Direct.start n f b g c w)) ≡ Direct.start n f b g c w
unfolding Direct.start Direct.started
direct_start_back n f b g c w = either_back (Direct.start_refusal n f b w) c w (Direct.started n f b g w) refl

pipelined_start_back : (n f b : ℕ) (g : Bool) (c : Clock) (w : Pipelined.Runs)
    → start_outcome (start_effect (Pipelined.start n f b g c w)) ≡ Pipelined.start n f b g c w
unfolding Pipelined.start Pipelined.started
pipelined_start_back n f b g c w = either_back (Pipelined.start_refusal n f b w) c w (Pipelined.started n f b g w) refl

-- THE CALLS, one by one: e is what the function's contract equates with the definition, the result beside the runs at exit.
module _ (s : Switch) where
  -- `starts::start_direct`, `starts::start_pipelined`
  pub start_direct : (n f b : ℕ) (g : Bool) (e : Effect StartResult Direct.Runs) → e ≡ start_effect (Direct.start n f b g s.clock (direct_runs s))
      → of_direct s (start_outcome e) ≡ apply (start direct n f b g) s
  unfolding apply
  start_direct n f b g e h = ap (of_direct s) (ap start_outcome h ∙ direct_start_back n f b g s.clock (direct_runs s))

  pub start_pipelined : (n f b : ℕ) (g : Bool) (e : Effect StartResult Pipelined.Runs)
      → e ≡ start_effect (Pipelined.start n f b g s.clock (pipelined_runs s)) → of_pipelined (start_outcome e) ≡ apply (start pipelined n f b g) s
  unfolding apply
  start_pipelined n f b g e h = ap of_pipelined (ap start_outcome h ∙ pipelined_start_back n f b g s.clock (pipelined_runs s))

  -- `book::book`, `book::book_rate`, `book::release`, `book::release_rate`
  pub books : (i j d : ℕ) (e : Effect ℕ Book) → e ≡ book_effect s.clock s.book i j d → of_book s e ≡ apply (book i j d) s
  unfolding apply
  books i j d e h = ap (of_book s) h

  pub books_rate : (i j r : ℕ) (e : Effect ℕ Book) → e ≡ rate_effect s.clock s.book i j r → of_book s e ≡ apply (book_rate i j r) s
  unfolding apply
  books_rate i j r e h = ap (of_book s) h

  pub releases : (i j d : ℕ) (e : Effect ℕ Book) → e ≡ release_effect s.clock s.book i j d → of_book s e ≡ apply (release i j d) s
  unfolding apply
  releases i j d e h = ap (of_book s) h

  pub releases_rate : (i j r : ℕ) (e : Effect ℕ Book) → e ≡ release_rate_effect s.clock s.book i j r
      → of_book s e ≡ apply (release_rate i j r) s
  unfolding apply
  releases_rate i j r e h = ap (of_book s) h

  -- `previews::headroom`
  pub asks_headroom : (i j : ℕ) (e : HeadroomResult) → e ≡ headroom_result s.clock s.book i j
      → of_asking s e.refusal ≡ apply (headroom i j) s
  unfolding apply headroom_result
  asks_headroom i j e h = ap (λ r. of_asking s r.refusal) h

  -- the previews of `book`
  pub asks_preview : (o : BookOperation) (i j d : ℕ) (e : PreviewResult) → e ≡ Preview.preview o s.clock s.book i j d
      → of_asking s e.refusal ≡ apply (preview o i j d) s
  unfolding apply
  asks_preview o i j d e h = ap (λ r. of_asking s r.refusal) h

  -- `book::arrive`
  pub arrives : (i j d : ℕ) (e : Effect ℕ (List ℕ)) → e ≡ arrive_effect s.clock s.queues i j d → of_queues s e ≡ apply (arrive i j d) s
  unfolding apply
  arrives i j d e h = ap (of_queues s) h

  -- `direct::tick`, `pipelined::tick` and the steps of `clock`
  pub tick_direct : (e : Effect TickResult Direct.Runs) → e ≡ tick_effect (Direct.tick s.clock (direct_runs s))
      → of_direct s (tick_outcome e) ≡ apply (tick direct) s
  unfolding apply
  tick_direct e h = ap (of_direct s) (ap tick_outcome h ∙ tick_back _ (direct_bounded s.clock (direct_runs s)))

  pub tick_pipelined : (e : Effect TickResult Pipelined.Runs) → e ≡ tick_effect (Pipelined.tick s.clock (pipelined_runs s))
      → of_pipelined (tick_outcome e) ≡ apply (tick pipelined) s
  unfolding apply
  tick_pipelined e h = ap of_pipelined (ap tick_outcome h ∙ tick_back _ (pipelined_bounded s.clock (pipelined_runs s)))
