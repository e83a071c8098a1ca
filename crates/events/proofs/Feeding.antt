-- Calls of `feed` one after the other print what the whole input prints, wherever the blocks end and whatever the room. A step leaves what
-- is printed before it and what is still to be printed together the same. Assumes nothing.
use mathlib.Core.Path.{◌≡◌, refl, sym, ap, ◌∙◌}
use mathlib.Core.Bool.{Bool, true, false, ◌&&◌, ◌||◌, false≢true}
use mathlib.Core.List.{List, [], ◌∷◌, ◌++◌, append_assoc, append-nil}
use Prim.Native.Nat.{ℕ, zero, suc, ◌+◌, ◌-◌, ◌≤◌, ◌<◌}
use native.Mathlib.Decide.{ℕ_discrete}
use native.Mathlib.Numerals.{add-one}
use native.Mathlib.Omega.{arith}
use borrow.Author.Tests.{lt-ltb, le-ltb, ltb-true, leb-true}
use lib.Dec.{eqb, leb, ltb}
use lib.ListN.{length, get_or, drop}
use lib.Seq.{drop-cons}
use Rattle.wsgs.specs.Program.{Step, run_slot, run_slots}
use Rattle.lines.specs.Lines.{slot_room}
use Rattle.events.specs.Feeding.{kept_bytes, State, StepOutcome, after, with_machine, slot_step, byte_step, drained, finish, has_work, FeedOutcome, noted, goes_on, next_step, step, steps, work, fed, Calls, none, call}

-- what is printed before what is printed before
pub after_after : (t u : List ℕ) (o : StepOutcome) → after t (after u o) ≡ after (t ++ u) o
after_after t u o = rw (append_assoc t u o.printed)

-- no slot to run
pub drained_none : (s : State) → s.slots_left ≡ 0 → drained s ≡ record { state = s; printed = [] }
unfolding run_slots
drained_none s e =
    ap (λ n. let t : Step = run_slots n s.machine in record { state = with_machine s t.machine 0; printed = t.printed }) e
    ∙ ap (λ n. record { state = with_machine s s.machine n; printed = [] }) (sym e)

-- a slot to run: it is accepted or refused
module _ (s : State) (d : ℕ) (e : s.slots_left ≡ suc d) where
  abbrev First : Type 0
  First = drained s ≡ after (slot_step s).printed (drained (slot_step s).state)

  abbrev refusal : ℕ
  refusal = (run_slot s.machine).refusal.number

  by_refusal : (b : Bool) → eqb refusal 0 ≡ b → First
  unfolding slot_step run_slots
  by_refusal true h = let back : suc d - 1 ≡ d = omega arith in rw (e, run_slots, h, back, h)
  by_refusal false h = rw (e, run_slots, h, append-nil, h)

drained_slot : (s : State) → 0 < s.slots_left → drained s ≡ after (slot_step s).printed (drained (slot_step s).state)
drained_slot s h = by_refusal s (s.slots_left - 1) (omega arith) _ refl

-- a byte after an outcome
abbrev then_byte : ℕ → List ℕ → StepOutcome → StepOutcome
then_byte x xs d = after d.printed (let b : StepOutcome = byte_step d.state x in after b.printed (finish b.state xs))

-- an input that ends
pub finish_none : (s : State) → s.slots_left ≡ 0 → finish s [] ≡ record { state = s; printed = [] }
unfolding finish
finish_none s e = drained_none s e

-- the slots may be run first
pub drained_first : (s : State) (xs : List ℕ) → finish s xs ≡ after (drained s).printed (finish (drained s).state xs)
unfolding finish
drained_first s [] = ap (λ t. record { state = (drained s).state; printed = t }) (sym (append-nil (drained s).printed))
drained_first s (x ∷ xs) = ap (after (drained s).printed) (sym (ap (then_byte x xs) (drained_none (drained s).state refl)))

-- the first step
finish_slot : (s : State) (xs : List ℕ) → 0 < s.slots_left → finish s xs ≡ after (slot_step s).printed (finish (slot_step s).state xs)
finish_slot s xs h =
    drained_first s xs
    ∙ ap (λ (d : StepOutcome). after d.printed (finish d.state xs)) (drained_slot s h)
    ∙ sym (after_after (slot_step s).printed (drained (slot_step s).state).printed (finish (drained (slot_step s).state).state xs))
    ∙ ap (after (slot_step s).printed) (sym (drained_first (slot_step s).state xs))

-- the second step
pub finish_byte : (s : State) (x : ℕ) (xs : List ℕ) → s.slots_left ≡ 0
    → finish s (x ∷ xs) ≡ after (byte_step s x).printed (finish (byte_step s x).state xs)
unfolding finish
finish_byte s x xs e = ap (then_byte x xs) (drained_none s e)

-- an input in two parts
pub finish_append : (s : State) (xs ys : List ℕ)
    → finish s (xs ++ ys) ≡ after (finish s xs).printed (finish (finish s xs).state ys)
unfolding finish
finish_append s [] ys = drained_first s ys
finish_append s (x ∷ xs) ys =
    let d : StepOutcome = drained s in
    let b : StepOutcome = byte_step d.state x in
    ap (λ o. after d.printed (after b.printed o)) (finish_append b.state xs ys)
    ∙ ap (after d.printed) (after_after b.printed (finish b.state xs).printed (finish (finish b.state xs).state ys))
    ∙ after_after d.printed (b.printed ++ (finish b.state xs).printed) (finish (finish b.state xs).state ys)

-- after an input no slot is left to run
pub finish_idle : (s : State) (xs : List ℕ) → (finish s xs).state.slots_left ≡ 0
unfolding finish
finish_idle s [] = refl
finish_idle s (x ∷ xs) = finish_idle (byte_step (drained s).state x).state xs

-- the parts of a test that holds
both_true : (a b : Bool) → (a && b) ≡ true → (a ≡ true) × (b ≡ true)
both_true true b e = (refl, e)
both_true false b e = absurd (false≢true e)

right_true : (a b : Bool) → a ≡ false → (a || b) ≡ true → b ≡ true
right_true true b d e = absurd (false≢true (sym d))
right_true false b d e = e

-- what it says that there is work
pub record Ready (left bytes buffer room : ℕ) : Type 0 where
  pub byte : left ≡ 0 → 0 < bytes
  pub long : kept_bytes ≤ buffer
  pub room_left : slot_room ≤ room

pub ready : (left bytes buffer room : ℕ) → has_work left bytes buffer room ≡ true → Ready left bytes buffer room
ready left bytes buffer room t =
    let p = both_true (ltb 0 left || ltb 0 bytes) _ t in
    let q = both_true (leb kept_bytes buffer) _ p.1 in
    record {
      byte = λ e. ltb-true _ _ (right_true (ltb 0 left) _ (le-ltb 0 left (omega arith)) p.0);
      long = leb-true _ _ q.0;
      room_left = leb-true _ _ q.1;
    }

module _ (room : ℕ) (block : List ℕ) where
  -- where a step is to take a byte, the block has one
  pub byte_there : (f : FeedOutcome) → goes_on room block f ≡ true → f.state.slots_left ≡ 0 → f.taken < length block
  byte_there f g e =
      omega (arith, (ready f.state.slots_left (length block - f.taken) (length f.state.buffer) (room - length f.text) g).byte e)

  -- the step by what is left to run
  module _ (f : FeedOutcome) where
    pub step_slot : 0 < f.state.slots_left → step room block f ≡ noted f (slot_step f.state) f.taken
    unfolding next_step
    step_slot l = rw (lt-ltb 0 f.state.slots_left l, next_step)

    pub step_byte : f.state.slots_left ≡ 0 → step room block f ≡ noted f (byte_step f.state (get_or block f.taken 0)) (f.taken + 1)
    unfolding next_step
    step_byte e = rw (le-ltb 0 f.state.slots_left (omega arith), next_step)

  -- what is printed and what is still to be printed for the rest of the block
  abbrev whole : FeedOutcome → StepOutcome
  whole f = after f.text (finish f.state (drop f.taken block))

  -- a step keeps it
  noted_keeps : (f : FeedOutcome) (o : StepOutcome) (k : ℕ)
      → finish f.state (drop f.taken block) ≡ after o.printed (finish o.state (drop k block)) → whole (noted f o k) ≡ whole f
  noted_keeps f o k e = sym (ap (after f.text) e ∙ after_after f.text o.printed (finish o.state (drop k block)))

  step_keeps : (f : FeedOutcome) → goes_on room block f ≡ true → whole (step room block f) ≡ whole f
  step_keeps f g = go (ℕ_discrete f.state.slots_left 0)
    where
      go : Dec (f.state.slots_left ≡ 0) → whole (step room block f) ≡ whole f
      go (yes e) =
          let x = get_or block f.taken 0 in
          ap whole (step_byte f e)
          ∙ noted_keeps f (byte_step f.state x) (f.taken + 1)
          (rw (drop-cons block f.taken 0 (byte_there f g e), add-one f.taken) (finish_byte f.state x (drop (suc f.taken) block) e))
      go (no d) = ap whole (step_slot f (omega arith)) ∙ noted_keeps f (slot_step f.state) f.taken (finish_slot f.state _ (omega arith))

  -- so do several, and a call
  steps_keep : (n : ℕ) (f : FeedOutcome) → whole (steps room block n f) ≡ whole f
  unfolding steps
  steps_keep zero f = refl
  steps_keep (suc n) f = go (goes_on room block f) refl (steps_keep n (step room block f))
    where
      go : (b : Bool) → goes_on room block f ≡ b → whole (steps room block n (step room block f)) ≡ whole (step room block f)
          → whole (steps room block (suc n) f) ≡ whole f
      go true g rest = rw (g, steps) (rest ∙ step_keeps f g)
      go false g rest = rw (g, steps)

  pub fed_keeps : (s : State)
      → after (fed room block s).text (finish (fed room block s).state (drop (fed room block s).taken block)) ≡ finish s block
  unfolding fed
  fed_keeps s = let f : FeedOutcome = record { state = s; taken = 0; text = [] } in steps_keep (work room block f) f

-- a call, and what comes after it
module _ (s s' : State) (f : FeedOutcome) (block later rest text : List ℕ) where
  then_later : after f.text (finish f.state rest) ≡ finish s block
      → finish f.state (rest ++ later) ≡ record { state = s'; printed = text }
      → finish s (block ++ later) ≡ record { state = s'; printed = f.text ++ text }
  then_later e h =
      finish_append s block later
      ∙ ap (λ (o : StepOutcome). after o.printed (finish o.state later)) (sym e)
      ∙ sym (after_after f.text (finish f.state rest).printed (finish (finish f.state rest).state later))
      ∙ ap (after f.text) (sym (finish_append f.state rest later))
      ∙ ap (after f.text) h

-- calls one after the other print what the whole input prints
pub calls_print : {s s' : State} {input text : List ℕ} → Calls s input s' text → finish s input ≡ record { state = s'; printed = text }
calls_print (none s e) = finish_none s e
calls_print (call room block later text s s' rest) =
    then_later s s' (fed room block s) block later (drop (fed room block s).taken block) text (fed_keeps room block s) (calls_print rest)
