-- A machine that is not running after steps and calls of `feed` was not before, and keeps its form. Assumes nothing.
use mathlib.Core.Path.{◌≡◌, refl}
use mathlib.Core.Bool.{Bool, true, false, ◌&&◌}
use mathlib.Core.List.{List, []}
use Prim.Native.Nat.{ℕ, zero, suc}
use lib.Dec.{eqb, ltb}
use lib.ListN.{get_or}
use Rattle.wsgs.specs.Text.{LF}
use Rattle.machine.proofs.RecordLaws.{FormStays, stays_same, stays_then, form_stays, slot_form_stays}
use Rattle.events.specs.Feeding.{State, FeedOutcome, kept_reading, slot_step, record_step, record_end, byte_step, next_step, goes_on, step, steps, work, fed}
use Rattle.events.proofs.Whole.{end_read, end_heading, byte_ends, byte_more}

-- THE STEPS: a slot, and a byte
module _ (s : State) where
  slot_stays : FormStays s.machine (slot_step s).state.machine
  unfolding slot_step
  slot_stays = slot_form_stays s.machine

  record_stays : FormStays s.machine (record_step s (kept_reading s)).state.machine
  unfolding record_step
  record_stays = form_stays s.machine (kept_reading s)

  end_stays : FormStays s.machine (record_end s).state.machine
  end_stays = go s.past_heading refl
    where
      go : (b : Bool) → s.past_heading ≡ b → FormStays s.machine (record_end s).state.machine
      go true e = rw (end_read s e) record_stays
      go false e = rw (end_heading s e) (stays_same s.machine)

  byte_stays : (x : ℕ) → FormStays s.machine (byte_step s x).state.machine
  byte_stays x = go (s.after_CR && eqb x LF) refl
    where
      go : (b : Bool) → (s.after_CR && eqb x LF) ≡ b → FormStays s.machine (byte_step s x).state.machine
      go true e = rw (byte_ends s x e) end_stays
      go false e = rw (byte_more s x e) (stays_same s.machine)

  step_stays : (block : List ℕ) (k : ℕ) → FormStays s.machine (next_step block s k).state.machine
  unfolding next_step
  step_stays block k = go (ltb 0 s.slots_left) refl
    where
      go : (b : Bool) → ltb 0 s.slots_left ≡ b → FormStays s.machine (next_step block s k).state.machine
      go true e = rw (e, next_step) slot_stays
      go false e = rw (e, next_step) (byte_stays (get_or block k 0))

-- A CALL OF `feed`
module _ (room : ℕ) (block : List ℕ) where
  steps_stay : (n : ℕ) (f : FeedOutcome) → FormStays f.state.machine (steps room block n f).state.machine
  unfolding steps
  steps_stay zero f = stays_same f.state.machine
  steps_stay (suc n) f = go (goes_on room block f) refl (steps_stay n (step room block f))
    where
      go : (b : Bool) → goes_on room block f ≡ b
          → FormStays (step room block f).state.machine (steps room block n (step room block f)).state.machine
          → FormStays f.state.machine (steps room block (suc n) f).state.machine
      go true e rest = rw (e, steps) (stays_then f.state.machine (step room block f).state.machine (steps room block n (step room block f)).state.machine (step_stays f.state block f.taken) rest)
      go false e rest = rw (e, steps) (stays_same f.state.machine)

  pub fed_stays : (s : State) → FormStays s.machine (fed room block s).state.machine
  unfolding fed
  fed_stays s = let f : FeedOutcome = record { state = s; taken = 0; text = [] } in steps_stay (work room block f) f
