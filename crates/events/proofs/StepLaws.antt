-- What a byte, the end of a record and a slot leave, as the code has it. Assumes nothing.
use mathlib.Core.Path.{◌≡◌, sym, ap, subst⁻¹, ◌∙◌}
use mathlib.Core.Bool.{true, false, ◌&&◌, and-false, and-true}
use mathlib.Core.List.{List}
use Prim.Native.Nat.{ℕ, ◌+◌, ◌-◌, ◌≤◌, ◌<◌, min}
use native.Mathlib.Omega.{arith}
use borrow.Author.Tests.{lt-ltb, le-ltb, le-leb, lt-leb, ne_eqb}
use lib.Dec.{eqb, ltb, leb}
use lib.ListN.{length, get_or, take}
use Rattle.std.specs.Prelude.{Some, Result, Ok, Err, IfErr}
use Rattle.std.specs.Result.{result_unwrap_or, MatchResult, IsErrAnd}
use Rattle.std.proofs.lemmas.Result.{IfErr-at_err}
use Rattle.wsgs.specs.declared.Refused.{Refused}
use Rattle.wsgs.specs.declared.Request.{Request}
use Rattle.wsgs.specs.declared.RefusalLine.{RefusalLine}
use Rattle.wsgs.specs.Basics.{pick}
use Rattle.wsgs.specs.Text.{LF}
use Rattle.wsgs.specs.Records.{Reading, read_record}
use Rattle.wsgs.specs.Records
use Rattle.wsgs.specs.Answers.{matching_of}
use Rattle.wsgs.specs.Questions.{effect}
use Rattle.wsgs.specs.Program.{RecordOutcome, SlotOutcome, obey, run_slot, refusal_text, slot_text, match_lines}
use Rattle.wsgs.specs.Program
use Rattle.wsgs.specs.Told.{number, reading_of, reading_told, refusal_told}
use Rattle.lines.proofs.Printing.{refusal_short}
use Rattle.lines.specs.Lines.{TextWritten, slot_room, refusal_room, put_effect}
use Rattle.lines.proofs.Writing.{wrote_none, wrote_is, wrote_front}
use Rattle.machine.specs.declared.RecordResult.{RecordResult}
use Rattle.machine.specs.declared.SlotPairs.{SlotPairs}
use Rattle.machine.specs.declared.SlotResult.{SlotResult}
use Rattle.machine.specs.declared.SwitchRuns.{SwitchRuns}
use Rattle.machine.specs.View.{book_in, machine_of, refusal_in, record_outcome_of, slot_outcome_of}
use Rattle.events.specs.declared.Progress.{Progress}
use Rattle.events.specs.Feeding.{kept_bytes, State, kept_reading, StepOutcome, with_machine, ended, appended, slots_after, slot_step, record_step, record_end, byte_step, next_step, has_work}
use Rattle.events.specs.View.{state_of, ended_progress, moved_progress, StepWritten}
use Rattle.events.proofs.Whole.{end_read, end_heading, byte_ends, byte_more}

-- a step by another name
step_is : {o o' : StepOutcome} {s : State} {out out' : List ℕ} {at next : ℕ} → o ≡ o' → StepWritten o' s out at next out' → StepWritten o s out at next out'
step_is {s = s} {out = out} {out' = out'} {at = at} {next = next} e h = subst⁻¹ (λ (o : StepOutcome). StepWritten o s out at next out') e h

-- a reader's refusal by its number
pub read_by_number : (r : Result Request Refused) (m : Result Request ℕ)
    → MatchResult r (λ q. m ≡ Ok q) (λ d. IsErrAnd m (λ n. n ≡ number d)) → reading_of m ≡ reading_told r
read_by_number (Ok q) m h = ap reading_of h
read_by_number (Err d) (Ok q) h = absurd h
read_by_number (Err d) (Err n) h = ap Records.Refused h

module _ (k : Progress) (b : List ℕ) (before : SwitchRuns) where
  abbrev S : State
  S = state_of k b before

  abbrev M : Program.Machine
  M = machine_of k.machine before

  -- THE END OF THE HEADING, and of any other record
  pub heading_written : {out : List ℕ} (k' : Progress) → k.past_heading ≡ false → k' ≡ ended_progress k.machine 0
      → StepWritten (record_end S) (state_of k' b before) out 0 0 out
  heading_written {out = out} k' h e =
      step_is (end_heading S h) (record { state = ap (λ (k : Progress). state_of k b before) e; text = wrote_none out 0 (omega arith) })

  module _ {out out' : List ℕ} (after : SwitchRuns) (r : RecordResult) (k' : Progress) (count : ℕ) where
    obeyed_written : (reading : Reading) → record_outcome_of r after ≡ obey M reading
        → TextWritten out 0 (refusal_text (refusal_in r.outcome)) count out'
        → k' ≡ ended_progress r.machine (result_unwrap_or r.outcome 0) → StepWritten (record_step S reading) (state_of k' b after) out 0 count out'
    unfolding record_step
    obeyed_written reading e w ek =
        record {
          state = ap (λ (k : Progress). state_of k b after) ek ∙ ap (λ (o : RecordOutcome). ended S o.machine o.slots) e;
          text = wrote_is w (ap (λ (o : RecordOutcome). refusal_text o.refusal) e);
        }

    pub record_written : (n : ℕ) (reading : Reading) → k.past_heading ≡ true → n ≡ min (k.count - 1) kept_bytes
        → reading ≡ read_record k.machine.running (take n b) → record_outcome_of r after ≡ obey M reading
        → TextWritten out 0 (refusal_text (refusal_in r.outcome)) count out' → k' ≡ ended_progress r.machine (result_unwrap_or r.outcome 0)
        → StepWritten (record_end S) (state_of k' b after) out 0 count out'
    record_written n reading h en er e w ek =
        let is : reading ≡ kept_reading S = er ∙ ap (λ n. read_record k.machine.running (take n b)) en in
        step_is (end_read S h ∙ ap (record_step S) (sym is)) (obeyed_written reading e w ek)

  -- A BYTE
  module _ (x : ℕ) where
    pub byte_ended : {s : State} {out out' : List ℕ} {count : ℕ} → (k.after_cr && eqb x LF) ≡ true
        → StepWritten (record_end S) s out 0 count out' → StepWritten (byte_step S x) s out 0 count out'
    byte_ended t h = step_is (byte_ends S x t) h

    pub byte_kept : {s : State} {out : List ℕ} → (k.after_cr && eqb x LF) ≡ false → s ≡ appended S x → StepWritten (byte_step S x) s out 0 0 out
    byte_kept {out = out} t h = step_is (byte_more S x t) (record { state = h; text = wrote_none out 0 (omega arith) })

  -- A SLOT
  module _ {out out' : List ℕ} (after : SwitchRuns) (r : SlotResult) (k' : Progress) (left count : ℕ) (is : slot_outcome_of r (book_in after) after.turns after.pipeline ≡ run_slot M) where
    pub slot_written : TextWritten out 0 (slot_text (slot_outcome_of r (book_in after) after.turns after.pipeline)) count out' → left ≡ slots_after (refusal_in r.outcome).number k.slots_left
        → k' ≡ moved_progress k r.machine left → StepWritten (slot_step S) (state_of k' b after) out 0 count out'
    unfolding slot_step
    slot_written w en ek =
        record {
          state =
              ap (λ (k : Progress). state_of k b after) (ek ∙ ap (moved_progress k r.machine) en)
              ∙ ap (λ (o : SlotOutcome). with_machine S o.machine (slots_after o.refusal.number k.slots_left)) is;
          text = wrote_is w (ap (λ (o : SlotOutcome). slot_text o) is);
        }

    -- its pairs, or its refusal
    pub pairs_written : (pairs : SlotPairs) → r.outcome ≡ Ok pairs
        → length (match_lines pairs.slot (matching_of pairs.served.outputs pairs.served.first_pass) r.machine.clock.ports) ≤ slot_room
        → slot_room ≤ length out
        → effect count out'
        ≡ put_effect slot_room (match_lines pairs.slot (matching_of pairs.served.outputs pairs.served.first_pass) r.machine.clock.ports) out
        → left ≡ k.slots_left - 1 → k' ≡ moved_progress k r.machine left → StepWritten (slot_step S) (state_of k' b after) out 0 count out'
    pairs_written pairs e short room w l ek =
        slot_written (wrote_is (wrote_front slot_room out _ room short w) (rw e)) (rw e l) ek

    pub slot_refused : (line : RefusalLine) → r.outcome ≡ Err line → IfErr r.outcome (λ l. 1 ≤ l.number) → slot_room ≤ length out
        → effect count out' ≡ put_effect refusal_room (refusal_text (refusal_told (Some line))) out
        → left ≡ 0 → k' ≡ moved_progress k r.machine left → StepWritten (slot_step S) (state_of k' b after) out 0 count out'
    slot_refused line e h room w l ek =
        let numbered : 1 ≤ line.number = IfErr-at_err (λ (l : RefusalLine). 1 ≤ l.number) e h in
        let some : eqb line.number 0 ≡ false = ne_eqb line.number 0 (λ z. omega arith) in
        slot_written
        (wrote_is (wrote_front refusal_room out _ (omega arith) (refusal_short (refusal_told (Some line))) w) (rw (e, some)))
        (rw (e, some) l) ek

  -- A STEP
  module _ (block : List ℕ) {s : State} {out out' : List ℕ} {count : ℕ} where
    pub step_slot_written : 0 < k.slots_left → StepWritten (slot_step S) s out 0 count out' → StepWritten (next_step block S 0) s out 0 count out'
    unfolding next_step
    step_slot_written l h = step_is (rw (lt-ltb 0 k.slots_left l, next_step)) h

    pub step_byte_written : k.slots_left ≤ 0 → StepWritten (byte_step S (get_or block 0 0)) s out 0 count out'
        → StepWritten (next_step block S 0) s out 0 count out'
    unfolding next_step
    step_byte_written l h = step_is (rw (le-ltb 0 k.slots_left l, next_step)) h

-- the bytes taken after a step
module _ (left taken : ℕ) where
  pub slot_taken : 0 < left → taken ≡ pick (ltb 0 left) taken (taken + 1)
  slot_taken l = rw (lt-ltb 0 left l)

  pub byte_taken : left ≤ 0 → taken + 1 ≡ pick (ltb 0 left) taken (taken + 1)
  byte_taken l = rw (le-ltb 0 left l)

-- WHETHER THERE IS WORK, by the code's tests
module _ (left bytes buffer room : ℕ) where
  pub short_buffer : buffer < kept_bytes → false ≡ has_work left bytes buffer room
  short_buffer h = rw (lt-leb kept_bytes buffer h, and-false)

  pub no_room : room < slot_room → false ≡ has_work left bytes buffer room
  no_room h = rw (lt-leb slot_room room h, and-false (leb kept_bytes buffer), and-false)

  pub slot_to_run : kept_bytes ≤ buffer → slot_room ≤ room → 0 < left → true ≡ has_work left bytes buffer room
  slot_to_run h l n = rw (le-leb kept_bytes buffer h, le-leb slot_room room l, lt-ltb 0 left n)

  pub byte_to_take : kept_bytes ≤ buffer → slot_room ≤ room → left ≤ 0 → ltb 0 bytes ≡ has_work left bytes buffer room
  byte_to_take h l n = rw (le-leb kept_bytes buffer h, le-leb slot_room room l, le-ltb 0 left n) (sym (and-true (ltb 0 bytes)))
