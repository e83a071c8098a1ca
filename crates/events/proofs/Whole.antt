-- What the calls of `feed` print for an input, with what is fed at its end, is what the program prints. Assumes nothing.
use mathlib.Core.Path.{◌≡◌, refl, sym, ap, ◌∙◌}
use mathlib.Core.Bool.{Bool, true, false, ◌&&◌, and-false}
use mathlib.Core.List.{List, [], ◌∷◌, ◌++◌, append_assoc}
use Prim.Native.Nat.{ℕ, ◌≤◌}
use native.Mathlib.Omega.{arith}
use borrow.Author.Tests.{eq-eqb, ne_eqb}
use lib.Dec.{eqb}
use lib.ListN.{length, replicate}
use Rattle.wsgs.specs.Text.{CR, LF, drop_last, reversed, records_from, records, heading}
use Rattle.wsgs.specs.Records.{Reading, read_record}
use Rattle.wsgs.specs.Program.{Machine, Step, run_record, run_records, skip_heading, program}
use Rattle.events.specs.Feeding.{kept_bytes, State, StepOutcome, after, ended, appended, record_step, kept_reading, record_end, byte_step, drained, finish, ending, Calls, FirstState}
use Rattle.machine.specs.declared.SwitchRuns.{SwitchRuns}
use Rattle.events.specs.View.{state_of, first_progress}
use Rattle.events.proofs.Feeding.{after_after, drained_first, finish_byte, finish_none, calls_print}
use Rattle.events.proofs.Kept.{Holds, holds_none, holds_more, reads_same}

-- a record that has ended, with the slots that it leaves, is run
module _ (s : State) (r : Reading) where
  abbrev done : Step → StepOutcome
  done o = record { state = ended s o.machine 0; printed = o.printed }

  record_whole : after (record_step s r).printed (drained (record_step s r).state) ≡ done (run_record s.machine r)
  unfolding record_step run_record
  record_whole = refl

  -- so the input goes on after it
  record_then : (xs : List ℕ)
      → after (record_step s r).printed (finish (record_step s r).state xs)
      ≡ after (run_record s.machine r).printed (finish (ended s (run_record s.machine r).machine 0) xs)
  record_then xs =
      ap (after (record_step s r).printed) (drained_first (record_step s r).state xs)
      ∙ after_after (record_step s r).printed (drained (record_step s r).state).printed (finish (drained (record_step s r).state).state xs)
      ∙ ap (λ (o : StepOutcome). after o.printed (finish o.state xs)) record_whole

-- the step of a byte
module _ (s : State) where
  pub end_read : s.past_heading ≡ true → record_end s ≡ record_step s (kept_reading s)
  unfolding record_end
  end_read h = rw (h, record_end)

  pub end_heading : s.past_heading ≡ false → record_end s ≡ record { state = ended s s.machine 0; printed = [] }
  unfolding record_end
  end_heading h = rw (h, record_end)

  pub byte_ends : (x : ℕ) → (s.after_CR && eqb x LF) ≡ true → byte_step s x ≡ record_end s
  unfolding byte_step
  byte_ends x e = rw (e, byte_step)

  pub byte_more : (x : ℕ) → (s.after_CR && eqb x LF) ≡ false → byte_step s x ≡ record { state = appended s x; printed = [] }
  unfolding byte_step
  byte_more x e = rw (e, byte_step)

-- a byte that ends a record, one that ends the heading, and any other
module _ (s : State) (x : ℕ) (xs : List ℕ) (idle : s.slots_left ≡ 0) where
  ends_record : (s.after_CR && eqb x LF) ≡ true → s.past_heading ≡ true
      → finish s (x ∷ xs)
      ≡ after (run_record s.machine (kept_reading s)).printed (finish (ended s (run_record s.machine (kept_reading s)).machine 0) xs)
  ends_record e h = finish_byte s x xs idle ∙ ap (λ (o : StepOutcome). after o.printed (finish o.state xs)) is ∙ record_then s (kept_reading s) xs
    where
      is : byte_step s x ≡ record_step s (kept_reading s)
      is = byte_ends s x e ∙ end_read s h

  ends_heading : (s.after_CR && eqb x LF) ≡ true → s.past_heading ≡ false → finish s (x ∷ xs) ≡ finish (ended s s.machine 0) xs
  ends_heading e h = finish_byte s x xs idle ∙ ap (λ (o : StepOutcome). after o.printed (finish o.state xs)) (byte_ends s x e ∙ end_heading s h)

  goes_on : (s.after_CR && eqb x LF) ≡ false → finish s (x ∷ xs) ≡ finish (appended s x) xs
  goes_on e = finish_byte s x xs idle ∙ ap (λ (o : StepOutcome). after o.printed (finish o.state xs)) (byte_more s x e)

-- the records from here on that are read: the first is a heading where it is not past
abbrev read : Bool → List (List ℕ) → List (List ℕ)
read true rs = rs
read false rs = skip_heading rs

read_none : (b : Bool) → read b [] ≡ []
read_none true = refl
read_none false = refl

-- all that is printed after an outcome, with what is fed at the end of the input
abbrev close : StepOutcome → List ℕ
close o = o.printed ++ (finish o.state (ending o.state)).printed

close_after : (t : List ℕ) (o : StepOutcome) → close (after t o) ≡ t ++ close o
close_after t o = append_assoc t o.printed (finish o.state (ending o.state)).printed

-- the records of an input by its first byte
module _ (x : ℕ) (xs : List ℕ) (after_CR : Bool) (begun : List ℕ) where
  record_ends : (after_CR && eqb x LF) ≡ true
      → records_from (x ∷ xs) after_CR begun ≡ reversed (drop_last begun) [] ∷ records_from xs false []
  unfolding records_from
  record_ends e = rw (e, records_from)

  record_goes_on : (after_CR && eqb x LF) ≡ false → records_from (x ∷ xs) after_CR begun ≡ records_from xs (eqb x CR) (x ∷ begun)
  unfolding records_from
  record_goes_on e = rw (e, records_from)

records_first : (m : Machine) (r : List ℕ) (rs : List (List ℕ))
    → run_records m (r ∷ rs) ≡ (run_record m (read_record m.running r)).printed ++ run_records (run_record m (read_record m.running r)).machine rs
unfolding run_records
records_first m r rs = refl

records_none : (m : Machine) → run_records m [] ≡ []
unfolding run_records
records_none m = refl

-- a byte that ends a record, or the heading: whatever is read off the outcome, if it goes on with what is printed before
module _ (F : StepOutcome → List ℕ) (F_after : (t : List ℕ) (o : StepOutcome) → F (after t o) ≡ t ++ F o) (rest : List (List ℕ))
    (s : State) (x : ℕ) (xs begun : List ℕ) (idle : s.slots_left ≡ 0) (h : Holds s begun) (e : (s.after_CR && eqb x LF) ≡ true)
    (later : (m : Machine) → F (finish (ended s m 0) xs) ≡ run_records m rest) where
  abbrev ended_record : List ℕ
  ended_record = reversed (drop_last begun) []

  by_heading : (b : Bool) → s.past_heading ≡ b → F (finish s (x ∷ xs)) ≡ run_records s.machine (read b (ended_record ∷ rest))
  by_heading true p =
      let o : Step = run_record s.machine (kept_reading s) in
      ap F (ends_record s x xs idle e p)
      ∙ F_after o.printed (finish (ended s o.machine 0) xs)
      ∙ ap (λ t. o.printed ++ t) (later o.machine)
      ∙ rw (reads_same s begun h) (sym (records_first s.machine ended_record rest))
  by_heading false p = ap F (ends_heading s x xs idle e p) ∙ later s.machine

  end_case : F (finish s (x ∷ xs)) ≡ run_records s.machine (read s.past_heading (ended_record ∷ rest))
  end_case = by_heading s.past_heading refl

-- an input that has ended, with no record begun
ended_none : (s : State) → s.slots_left ≡ 0 → s.count ≡ 0 → close (finish s []) ≡ []
ended_none s idle e = rw (finish_none s idle, eq-eqb s.count 0 e, finish_none s idle)

-- and with one: CR LF ends it
ended_some : (s : State) (b : ℕ) (bs : List ℕ) → s.slots_left ≡ 0 → Holds s (b ∷ bs)
    → close (finish s []) ≡ run_records s.machine (read s.past_heading (reversed (b ∷ bs) [] ∷ []))
ended_some s b bs idle h =
    let some : eqb s.count 0 ≡ false = ne_eqb s.count 0 (λ e. omega (arith, h.count)) in
    let cr : State = appended s CR in
    let more : finish s (CR ∷ LF ∷ []) ≡ finish cr (LF ∷ []) = goes_on s CR (LF ∷ []) idle (and-false s.after_CR) in
    rw (finish_none s idle, some, more)
    (end_case (λ o. o.printed) (λ t o. refl) [] cr LF [] (CR ∷ b ∷ bs) idle (holds_more s (b ∷ bs) CR h) refl
    (λ m. ap (λ (o : StepOutcome). o.printed) (finish_none (ended cr m 0) refl) ∙ sym (records_none m)))

-- from a state that keeps a record begun, all that is printed is what its records print
prints : (xs : List ℕ) (s : State) (begun : List ℕ) → s.slots_left ≡ 0 → Holds s begun
    → close (finish s xs) ≡ run_records s.machine (read s.past_heading (records_from xs s.after_CR begun))
unfolding records_from
prints [] s [] idle h = ended_none s idle h.count ∙ sym (ap (run_records s.machine) (read_none s.past_heading) ∙ records_none s.machine)
prints [] s (b ∷ bs) idle h = ended_some s b bs idle h
prints (x ∷ xs) s begun idle h = by_byte (s.after_CR && eqb x LF) refl (λ m h. prints xs (ended s m 0) [] refl h) (prints xs (appended s x) (x ∷ begun))
  where
    by_byte : (b : Bool) → (s.after_CR && eqb x LF) ≡ b
        → ((m : Machine) → Holds (ended s m 0) [] → close (finish (ended s m 0) xs) ≡ run_records m (records_from xs false []))
        → (s.slots_left ≡ 0 → Holds (appended s x) (x ∷ begun)
        → close (finish (appended s x) xs) ≡ run_records s.machine (read s.past_heading (records_from xs (eqb x CR) (x ∷ begun))))
        → close (finish s (x ∷ xs)) ≡ run_records s.machine (read s.past_heading (records_from (x ∷ xs) s.after_CR begun))
    by_byte true e after_it goes =
        end_case close close_after (records_from xs false []) s x xs begun idle h e (λ m. after_it m (holds_none (ended s m 0) refl h.long))
        ∙ ap (λ rs. run_records s.machine (read s.past_heading rs)) (sym (record_ends x xs s.after_CR begun e))
    by_byte false e after_it goes =
        ap close (goes_on s x xs idle e)
        ∙ goes idle (holds_more s begun x h)
        ∙ ap (λ rs. run_records s.machine (read s.past_heading rs)) (sym (record_goes_on x xs s.after_CR begun e))

-- However the input is cut into blocks, and whatever the room for each call: after the heading, the calls of `feed` for an input, and those
-- for its end, print what the program prints.
module _ {s s' s'' : State} {input text end : List ℕ} (b : FirstState s) (c : Calls s input s' text) (d : Calls s' (ending s') s'' end) where
  all_printed : close (finish s input) ≡ text ++ end
  all_printed = ap close (calls_print c) ∙ ap (λ (o : StepOutcome). text ++ o.printed) (calls_print d)

  pub feeds_program : heading ++ (text ++ end) ≡ program input
  unfolding program records
  feeds_program =
      ap (λ t. heading ++ t)
      (sym all_printed
      ∙ prints input s [] b.slots_left (holds_none s b.count b.buffer)
      ∙ rw (b.machine, b.past_heading, b.after_CR))

-- the program begins so, with runs for 32 ports
pub record FreshRuns (r : SwitchRuns) : Type 0 where
  pub slots : r.slots.now ≡ replicate 1024 0
  pub rates : r.rates.now ≡ replicate 1024 0
  pub credits : r.turns.credits.now ≡ replicate 1024 0
  pub queues : r.turns.queues.now ≡ replicate 1024 0
  pub given : r.turns.given.now ≡ replicate 32 0
  pub copy : r.pipeline.copy.now ≡ replicate 1024 0
  pub flight : r.pipeline.flight.now ≡ replicate 2048 0

pub first_state : (buffer : List ℕ) (r : SwitchRuns) → kept_bytes ≤ length buffer → FreshRuns r → FirstState (state_of first_progress buffer r)
first_state buffer r h f =
    record {
      machine = rw (f.slots, f.rates, f.credits, f.queues, f.given, f.copy, f.flight);
      past_heading = refl;
      after_CR = refl;
      count = refl;
      buffer = h;
      slots_left = refl;
    }
