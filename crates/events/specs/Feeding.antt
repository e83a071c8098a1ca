-- The event program fed in blocks: what is kept between two bytes, the two steps, what a call of `feed` does, and calls one after the
-- other. Assumes nothing.
use Rattle.std.specs.Prelude.{◌≡◌, Bool, ◌&&◌, ◌||◌, eqb, leb, ltb, length, get_or, set, take, drop}
use Rattle.std.proofs.Math.Bool.{true, false}
use mathlib.Core.List.{List, [], ◌∷◌, ◌++◌}
use Prim.Native.Nat.{ℕ, zero, suc, ◌+◌, ◌-◌, ◌*◌, ◌≤◌, min}
use Rattle.wsgs.specs.Basics.{pick}
use Rattle.wsgs.specs.Text.{CR, LF}
use Rattle.wsgs.specs.Records.{Reading, read_record}
use Rattle.wsgs.specs.Program.{Machine, RecordOutcome, obey, SlotOutcome, run_slot, refusal_text, slot_text, refused_line, match_lines, Step, run_slots, fresh}
use Rattle.lines.specs.Lines.{slot_room}

-- Of the record so far only the first 65 bytes are kept, in a buffer, and its bytes are counted up to 66: one of more than 64 bytes without
-- its CR LF is refused with 12 whatever they are.
abbrev pub kept_bytes : ℕ
kept_bytes = 65

abbrev pub most_counted : ℕ
most_counted = 66

pub record State : Type 0 where
  pub machine : Machine
  -- the first record, the heading, has ended
  pub past_heading : Bool
  -- the last byte of the record so far is a CR
  pub after_CR : Bool
  pub count : ℕ
  pub buffer : List ℕ
  -- slots of a tick record that are still to run
  pub slots_left : ℕ

-- what a step leaves, and prints
pub record StepOutcome : Type 0 where
  pub state : State
  pub printed : List ℕ

-- an outcome with something printed before it
abbrev pub after : List ℕ → StepOutcome → StepOutcome
after text o = record { state = o.state; printed = text ++ o.printed }

-- a state with another machine and other slots to run
abbrev pub with_machine : State → Machine → ℕ → State
with_machine s m left =
    record {
      machine = m;
      past_heading = s.past_heading;
      after_CR = s.after_CR;
      count = s.count;
      buffer = s.buffer;
      slots_left = left;
    }

-- a state in which a record has ended
abbrev pub ended : State → Machine → ℕ → State
ended s m left =
    record { machine = m; past_heading = true; after_CR = false; count = 0; buffer = s.buffer; slots_left = left }

-- a byte more of the record so far
abbrev pub appended : State → ℕ → State
appended s x =
    record {
      machine = s.machine;
      past_heading = s.past_heading;
      after_CR = eqb x CR;
      count = pick (ltb s.count most_counted) (s.count + 1) s.count;
      buffer = pick (ltb s.count kept_bytes) (set s.buffer s.count x) s.buffer;
      slots_left = s.slots_left;
    }

-- THE FIRST STEP: a slot of a tick record. Of the slots to run one less is left after it; the first that is refused ends the record.
abbrev pub slots_after : (refusal left : ℕ) → ℕ
slots_after refusal left = pick (eqb refusal 0) (left - 1) 0

unfoldable pub slot_step : State → StepOutcome
unfolding run_slot match_lines
slot_step s =
    let o : SlotOutcome = run_slot s.machine in
    record { state = with_machine s o.machine (slots_after o.refusal.number s.slots_left); printed = slot_text o }

-- a record that has ended
unfoldable pub record_step : State → Reading → StepOutcome
unfolding obey refused_line
record_step s r =
    let o : RecordOutcome = obey s.machine r in
    record { state = ended s o.machine o.slots; printed = refusal_text o.refusal }

-- the record so far without its last byte, which is a CR
abbrev pub kept_record : State → List ℕ
kept_record s = take (min (s.count - 1) kept_bytes) s.buffer

-- what it reads as
abbrev pub kept_reading : State → Reading
kept_reading s = read_record s.machine.running (kept_record s)

-- THE SECOND STEP: a byte. LF after CR ends a record, and the first record is a heading.
unfoldable pub record_end : State → StepOutcome
unfolding record_step read_record
record_end s =
    elim s.past_heading [
      | true ↦ record_step s (kept_reading s)
      | false ↦ record { state = ended s s.machine 0; printed = [] }
    ]

unfoldable pub byte_step : State → ℕ → StepOutcome
unfolding record_end
byte_step s x = elim (s.after_CR && eqb x LF) [ true ↦ record_end s | false ↦ record { state = appended s x; printed = [] } ]

-- A STEP at place k of a block: a slot where one is to run, else a byte
unfoldable pub next_step : List ℕ → State → ℕ → StepOutcome
unfolding slot_step byte_step
next_step block s k = elim (ltb 0 s.slots_left) [ true ↦ slot_step s | false ↦ byte_step s (get_or block k 0) ]

abbrev pub next_taken : State → ℕ → ℕ
next_taken s k = pick (ltb 0 s.slots_left) k (k + 1)

-- there is a slot to run or a byte to take, the buffer of the record is long enough, and there is room for what a step may print
abbrev pub has_work : (left bytes buffer room : ℕ) → Bool
has_work left bytes buffer room = (ltb 0 left || ltb 0 bytes) && (leb kept_bytes buffer && leb slot_room room)

-- more steps than so many slots and bytes can take: a byte leaves at most 10,000 slots to run
abbrev pub most_steps : (left bytes : ℕ) → ℕ
most_steps left bytes = left + bytes * 10001

-- A CALL OF `feed`: the state, how many bytes of the block are taken, and what is printed so far.
pub record FeedOutcome : Type 0 where
  pub state : State
  pub taken : ℕ
  pub text : List ℕ

abbrev pub noted : FeedOutcome → StepOutcome → ℕ → FeedOutcome
noted f o k = record { state = o.state; taken = k; text = f.text ++ o.printed }

module _ (room : ℕ) (block : List ℕ) where
  abbrev pub goes_on : FeedOutcome → Bool
  goes_on f =
      has_work f.state.slots_left (length block - f.taken) (length f.state.buffer) (room - length f.text)

  abbrev pub step : FeedOutcome → FeedOutcome
  step f = noted f (next_step block f.state f.taken) (next_taken f.state f.taken)

  -- steps as long as it goes on, at most so many
  unfoldable pub steps : ℕ → FeedOutcome → FeedOutcome
  unfolding next_step
  steps zero f = f
  steps (suc n) f = elim (goes_on f) [ true ↦ steps n (step f) | false ↦ f ]

  abbrev pub work : FeedOutcome → ℕ
  work f = most_steps f.state.slots_left (length block - f.taken)

  -- what a call of `feed` does
  unfoldable pub fed : State → FeedOutcome
  unfolding steps
  fed s = let f : FeedOutcome = record { state = s; taken = 0; text = [] } in steps (work f) f

-- ALL THAT IS PRINTED for an input, with every slot of a tick record run before the next byte
abbrev pub drained : State → StepOutcome
drained s = let t : Step = run_slots s.slots_left s.machine in record { state = with_machine s t.machine 0; printed = t.printed }

unfoldable pub finish : State → List ℕ → StepOutcome
unfolding run_slots byte_step
finish s [] = drained s
finish s (x ∷ xs) =
    let d : StepOutcome = drained s in
    let b : StepOutcome = byte_step d.state x in
    after d.printed (after b.printed (finish b.state xs))

-- where a last record lacks its CR LF, what is fed at the end of the input
abbrev pub ending : State → List ℕ
ending s = pick (eqb s.count 0) [] (CR ∷ LF ∷ [])

-- a state that the program begins with
pub record FirstState (s : State) : Type 0 where
  pub machine : s.machine ≡ fresh
  pub past_heading : s.past_heading ≡ false
  pub after_CR : s.after_CR ≡ false
  pub count : s.count ≡ 0
  pub buffer : kept_bytes ≤ length s.buffer
  pub slots_left : s.slots_left ≡ 0

-- CALLS ONE AFTER THE OTHER: from one state to another an input is read and a text printed. Each call is fed some block that what is
-- still to be read begins with, whatever the room; what it leaves of the block is still to be read.
pub data Calls : State → List ℕ → State → List ℕ → Type 0 where
  none : (s : State) → s.slots_left ≡ 0 → Calls s [] s []
  call : (room : ℕ) (block later text : List ℕ) (s s' : State)
      → Calls (fed room block s).state (drop (fed room block s).taken block ++ later) s' text
      → Calls s (block ++ later) s' ((fed room block s).text ++ text)
