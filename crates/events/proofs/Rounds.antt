-- A call of `feed` takes fewer steps than its work counts, so that the steps counted are enough, and one step leaves less. Assumes nothing.
use mathlib.Core.Path.{◌≡◌, refl, sym, ap, ap₂, ◌∙◌}
use mathlib.Core.Bool.{Bool, true, false, ◌&&◌}
use mathlib.Core.List.{List, [], ◌++◌}
use Prim.Native.Nat.{ℕ, zero, suc, ◌+◌, ◌-◌, ◌*◌, ◌≤◌, ◌<◌}
use native.Mathlib.Decide.{ℕ_discrete}
use native.Mathlib.Omega.{arith}
use native.Mathlib.Nat.{add-zero}
use lib.Dec.{eqb, ltb}
use lib.ListN.{length, get_or, take, drop, length-drop}
use lib.Seq.{take_all}
use Rattle.std.proofs.lemmas.List.{get_or-drop}
use Rattle.wsgs.specs.declared.Operation.TheVariants.{Start, Pipe, Book, Release, Arrive, Tick}
use Rattle.wsgs.specs.Records.{Reading, Request, Refused}
use Rattle.wsgs.specs.Basics.{pick, between}
use Rattle.wsgs.specs.Text.{LF}
use Rattle.wsgs.specs.Program.{Machine, run_slot, obey}
use Rattle.wsgs.proofs.Laws.Tests.{in_range}
use Rattle.lines.specs.Lines.{TextWritten}
use Rattle.lines.proofs.Writing.{wrote_none, wrote_is, wrote_then, wrote_long, wrote_rest}
use Rattle.events.specs.Feeding.{State, StepOutcome, kept_reading, record_end, record_step, slot_step, byte_step, has_work, most_steps, FeedOutcome, goes_on, next_step, next_taken, step, steps, work, fed}
use Rattle.events.specs.View.{feed_effect, StepWritten}
use Rattle.events.proofs.Feeding.{Ready, ready, byte_there, step_slot, step_byte}
use Rattle.events.proofs.Whole.{end_read, end_heading, byte_ends, byte_more}

-- a record leaves at most 10,000 slots to run
asked_few : (z : ℕ) (b : Bool) → between 1 10000 z ≡ b → pick b z 0 ≤ 10000
asked_few z true e = (in_range 1 10000 z (rw e tt)).1
asked_few z false e = omega arith

few_slots : (m : Machine) (r : Reading) → (obey m r).slots ≤ 10000
unfolding obey
few_slots m (Refused number) = omega arith
few_slots m (Request Start x y z) = omega arith
few_slots m (Request Pipe x y z) = omega arith
few_slots m (Request Book x y z) = omega arith
few_slots m (Request Release x y z) = omega arith
few_slots m (Request Arrive x y z) = omega arith
few_slots m (Request Tick x y z) = asked_few z (between 1 10000 z) refl

-- so does a byte
record_few : (s : State) (r : Reading) → (record_step s r).state.slots_left ≤ 10000
unfolding record_step
record_few s r = few_slots s.machine r

end_few : (s : State) → (record_end s).state.slots_left ≤ 10000
end_few s = go s.past_heading refl
  where
    go : (b : Bool) → s.past_heading ≡ b → (record_end s).state.slots_left ≤ 10000
    go true h = rw (end_read s h) (record_few s (kept_reading s))
    go false h = rw (end_heading s h) (omega arith)

byte_few : (s : State) (x : ℕ) → s.slots_left ≡ 0 → (byte_step s x).state.slots_left ≤ 10000
byte_few s x e = go (s.after_CR && eqb x LF) refl
  where
    go : (b : Bool) → (s.after_CR && eqb x LF) ≡ b → (byte_step s x).state.slots_left ≤ 10000
    go true h = rw (byte_ends s x h) (end_few s)
    go false h = rw (byte_more s x h) (omega arith)

-- a slot leaves one less
slot_less : (s : State) → 0 < s.slots_left → (slot_step s).state.slots_left < s.slots_left
unfolding slot_step
slot_less s h = go (eqb (run_slot s.machine).refusal.number 0)
  where
    go : (b : Bool) → pick b (s.slots_left - 1) 0 < s.slots_left
    go true = omega arith
    go false = omega arith

module _ (room : ℕ) (block : List ℕ) where
  -- a step leaves less work
  less_work : (f : FeedOutcome) → goes_on room block f ≡ true → work room block (step room block f) < work room block f
  less_work f g = go (ℕ_discrete f.state.slots_left 0)
    where
      go : Dec (f.state.slots_left ≡ 0) → work room block (step room block f) < work room block f
      go (yes e) =
          let taken : f.taken < length block = byte_there room block f g e in
          let less : (length block - (f.taken + 1)) + 1 ≡ length block - f.taken = omega arith in
          rw (ap (work room block) (step_byte room block f e))
          (omega (arith, byte_few f.state (get_or block f.taken 0) e, ap (λ n. n * 10001) less))
      go (no d) =
          rw (ap (work room block) (step_slot room block f (omega arith))) (omega (arith, slot_less f.state (omega arith)))

  -- where it does not go on, nothing is done
  stops_at : (n : ℕ) (f : FeedOutcome) → goes_on room block f ≡ false → steps room block n f ≡ f
  unfolding steps
  stops_at zero f g = refl
  stops_at (suc n) f g = rw (g, steps)

  goes_at : (n : ℕ) (f : FeedOutcome) → goes_on room block f ≡ true → steps room block (suc n) f ≡ steps room block n (step room block f)
  unfolding steps
  goes_at n f g = rw (g, steps)

  -- enough steps are as good as more
  enough : (n m : ℕ) (f : FeedOutcome) → work room block f ≤ n → work room block f ≤ m → steps room block n f ≡ steps room block m f
  enough zero m f a b = go (goes_on room block f) refl
    where
      go : (t : Bool) → goes_on room block f ≡ t → steps room block zero f ≡ steps room block m f
      go true g = absurd (omega (arith, less_work f g))
      go false g = stops_at zero f g ∙ sym (stops_at m f g)
  enough (suc n) zero f a b = go (goes_on room block f) refl
    where
      go : (t : Bool) → goes_on room block f ≡ t → steps room block (suc n) f ≡ steps room block zero f
      go true g = absurd (omega (arith, less_work f g))
      go false g = stops_at (suc n) f g ∙ sym (stops_at zero f g)
  enough (suc n) (suc m) f a b = go (goes_on room block f) refl (enough n m (step room block f))
    where
      go : (t : Bool) → goes_on room block f ≡ t
          → (work room block (step room block f) ≤ n → work room block (step room block f) ≤ m
          → steps room block n (step room block f) ≡ steps room block m (step room block f))
          → steps room block (suc n) f ≡ steps room block (suc m) f
      go true g rest = goes_at n f g ∙ rest (omega (arith, less_work f g)) (omega (arith, less_work f g)) ∙ sym (goes_at m f g)
      go false g rest = stops_at (suc n) f g ∙ sym (stops_at (suc m) f g)

  -- all the steps of a call, from where it stands
  abbrev rest : FeedOutcome → FeedOutcome
  rest f = steps room block (work room block f) f

  rest_goes : (f : FeedOutcome) → goes_on room block f ≡ true → rest (step room block f) ≡ rest f
  rest_goes f g =
      let w : ℕ = work room block f in
      enough (work room block (step room block f)) w (step room block f) (omega arith) (omega (arith, less_work f g))
      ∙ sym (goes_at w f g)
      ∙ enough (suc w) w f (omega arith) (omega arith)

  rest_stops : (f : FeedOutcome) → goes_on room block f ≡ false → rest f ≡ f
  rest_stops f g = stops_at (work room block f) f g

  -- a step takes no more bytes than the block has
  step_within : (f : FeedOutcome) → f.taken ≤ length block → goes_on room block f ≡ true → (step room block f).taken ≤ length block
  step_within f h g = go (ℕ_discrete f.state.slots_left 0)
    where
      go : Dec (f.state.slots_left ≡ 0) → (step room block f).taken ≤ length block
      go (yes e) = rw (ap (λ (f : FeedOutcome). f.taken) (step_byte room block f e)) (omega (arith, byte_there room block f g e))
      go (no d) = rw (ap (λ (f : FeedOutcome). f.taken) (step_slot room block f (omega arith))) h

-- A CALL takes no more bytes than the block has, and leaves less work where there is some
module _ (room : ℕ) (block : List ℕ) where
  taken_within : (n : ℕ) (f : FeedOutcome) → f.taken ≤ length block → (steps room block n f).taken ≤ length block
  unfolding steps
  taken_within zero f h = h
  taken_within (suc n) f h = go (goes_on room block f) refl (taken_within n (step room block f))
    where
      go : (t : Bool) → goes_on room block f ≡ t
          → ((step room block f).taken ≤ length block → (steps room block n (step room block f)).taken ≤ length block)
          → (steps room block (suc n) f).taken ≤ length block
      go true g rest = rw (g, steps) (rest (step_within room block f h g))
      go false g rest = rw (g, steps) h

  no_more_work : (n : ℕ) (f : FeedOutcome) → work room block (steps room block n f) ≤ work room block f
  unfolding steps
  no_more_work zero f = omega arith
  no_more_work (suc n) f = go (goes_on room block f) refl (no_more_work n (step room block f))
    where
      go : (t : Bool) → goes_on room block f ≡ t → work room block (steps room block n (step room block f)) ≤ work room block (step room block f)
          → work room block (steps room block (suc n) f) ≤ work room block f
      go true g rest = rw (ap (work room block) (goes_at room block n f g)) (omega (arith, less_work room block f g))
      go false g rest = rw (ap (work room block) (stops_at room block (suc n) f g)) (omega arith)

  module _ (s : State) where
    abbrev first : FeedOutcome
    first = record { state = s; taken = 0; text = [] }

    pub fed_within : (fed room block s).taken ≤ length block
    unfolding fed
    fed_within = taken_within (work room block first) first (omega arith)

    pub fed_less : has_work s.slots_left (length block) (length s.buffer) room ≡ true
        → most_steps (fed room block s).state.slots_left (length block - (fed room block s).taken) < most_steps s.slots_left (length block)
    unfolding fed
    fed_less h =
        let all : length block - 0 ≡ length block = omega arith in
        let whole : room - 0 ≡ room = omega arith in
        let g : goes_on room block first ≡ true = rw (all, whole) h in
        rw (ap (work room block) (sym (rest_goes room block first g)))
        (omega (arith, no_more_work (work room block (step room block first)) (step room block first), less_work room block first g, ap (λ n. n * 10001) all))

-- A STEP ON THE REST of a block and of an output is one at their places
module _ (block : List ℕ) (s : State) (k : ℕ) where
  step_rest : next_step (drop k block) s 0 ≡ next_step block s k
  unfolding next_step
  step_rest = go (ltb 0 s.slots_left) refl
    where
      go : (b : Bool) → ltb 0 s.slots_left ≡ b → next_step (drop k block) s 0 ≡ next_step block s k
      go true h = rw (h, next_step)
      go false h = rw (h, next_step) (ap (byte_step s) (get_or-drop k block 0 0 ∙ ap (λ n. get_or block n 0) (add-zero k)))

  taken_rest : k + next_taken s 0 ≡ next_taken s k
  taken_rest = go (ltb 0 s.slots_left)
    where
      go : (b : Bool) → k + pick b 0 1 ≡ pick b k (k + 1)
      go true = add-zero k
      go false = refl

  module _ {out part : List ℕ} {done count : ℕ} {s' : State} (within : k ≤ length block) (room : done ≤ length out)
      (w : StepWritten (next_step (take (length block - k) (drop k block)) s 0) s' (take (length out - done) (drop done out)) 0 count part) where
    placed : StepWritten (next_step block s k) s' out done (done + count) (take done out ++ (part ++ drop (length out - done) (drop done out)))
    placed =
        let rest : take (length block - k) (drop k block) ≡ drop k block = take_all (length block - k) (drop k block) (omega (arith, length-drop k block)) in
        let is = ap (λ b. next_step b s 0) rest ∙ step_rest in
        record {
          state = w.state ∙ ap (λ (o : StepOutcome). o.state) is;
          text = wrote_is (wrote_rest out done room w.text) (ap (λ (o : StepOutcome). o.printed) is);
        }

-- THE LOOP: what is written so far, and what the rest of the call does
module _ (block : List ℕ) (s₀ : State) (out₀ : List ℕ) where
  abbrev room₀ : ℕ
  room₀ = length out₀

  pub record SoFar (s : State) (taken done : ℕ) (out : List ℕ) : Type 0 where
    pub text : List ℕ
    pub within : taken ≤ length block
    pub wrote : TextWritten out₀ 0 text done out
    pub same : rest room₀ block (record { state = s; taken = taken; text = text }) ≡ fed room₀ block s₀

  pub so_far_none : SoFar s₀ 0 0 out₀
  unfolding fed
  so_far_none = record { text = []; within = omega arith; wrote = wrote_none out₀ 0 (omega arith); same = refl }

  module _ {s : State} {taken done : ℕ} {out : List ℕ} (h : SoFar s taken done out) where
    abbrev here : FeedOutcome
    here = record { state = s; taken = taken; text = h.text }

    -- what is written has room
    pub so_far_room : done ≤ length out
    so_far_room = omega (arith, h.wrote.fits, h.wrote.next_place, wrote_long h.wrote)

    -- the code's test is the definition's
    abbrev test : Bool
    test = has_work s.slots_left (length block - taken) (length s.buffer) (length out - done)

    tested : test ≡ goes_on room₀ block here
    tested =
        let left : length out - done ≡ room₀ - length h.text = omega (arith, wrote_long h.wrote, h.wrote.next_place) in
        ap (has_work s.slots_left (length block - taken) (length s.buffer)) left

    pub so_far_ready : test ≡ true → Ready s.slots_left (length block - taken) (length s.buffer) (length out - done)
    so_far_ready t = ready _ _ _ _ t

    module _ (t : test ≡ true) {s' : State} {part : List ℕ} {count took : ℕ}
        (w : StepWritten (next_step (take (length block - taken) (drop taken block)) s 0) s' (take (length out - done) (drop done out)) 0 count part)
        (e : took ≡ next_taken s 0) where
      at_place : StepWritten (next_step block s taken) s' out done (done + count) (take done out ++ (part ++ drop (length out - done) (drop done out)))
      at_place = placed block s taken h.within so_far_room w

      taken_is : taken + took ≡ next_taken s taken
      taken_is = rw e (taken_rest block s taken)

      pub so_far_less : most_steps s'.slots_left (length block - (taken + took)) < most_steps s.slots_left (length block - taken)
      so_far_less = rw (ap (λ (s : State). s.slots_left) at_place.state, taken_is) (less_work room₀ block here (sym tested ∙ t))

      pub so_far_more : SoFar s' (taken + took) (done + count) (take done out ++ (part ++ drop (length out - done) (drop done out)))
      so_far_more =
          record {
            text = h.text ++ (next_step block s taken).printed;
            within = rw taken_is (step_within room₀ block here h.within (sym tested ∙ t));
            wrote = wrote_then h.wrote at_place.text;
            same = rw (at_place.state, taken_is) (rest_goes room₀ block here (sym tested ∙ t) ∙ h.same);
          }

    -- where it ends
    pub so_far_all : test ≡ false → record { state = s; taken = taken; written = done; out = out } ≡ feed_effect (fed room₀ block s₀) out₀
    so_far_all t =
        let count : done ≡ length h.text = omega (arith, h.wrote.next_place) in
        ap₂ (λ (n : ℕ) (o : List ℕ). record { state = s; taken = taken; written = n; out = o }) count h.wrote.buffer
        ∙ ap (λ (f : FeedOutcome). feed_effect f out₀) (sym (rest_stops room₀ block here (sym tested ∙ t)) ∙ h.same)
