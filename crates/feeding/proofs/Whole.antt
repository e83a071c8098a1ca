-- A text that is fed whole is calls of `feed` for all its bytes, and so are such texts one after the other: `feeds_program` of crates/events says
-- what they print. Assumes nothing.
use mathlib.Core.Path.{◌≡◌, refl, sym, ap, subst, ◌∙◌}
use mathlib.Core.Bool.{true, false, false≢true}
use mathlib.Core.List.{List, [], ◌++◌, append-nil, append_assoc}
use Prim.Native.Nat.{ℕ, zero, suc, ◌-◌, ◌≤◌, ◌<◌}
use native.Mathlib.Decide.{dec_lt}
use native.Mathlib.Omega.{arith}
use borrow.Author.Tests.{lt-ltb}
use lib.Dec.{ltb}
use lib.ListN.{length, drop, drop_of_length-le}
use lib.Seq.{drop-drop}
use Rattle.wsgs.specs.Text.{heading}
use Rattle.wsgs.specs.Program.{program}
use Rattle.lines.specs.Lines.{slot_room}
use Rattle.events.specs.Feeding.{kept_bytes, State, FeedOutcome, fed, ending, FirstState, Calls, none, call}
use Rattle.events.proofs.Whole.{feeds_program}
use Rattle.events.proofs.StepLaws.{slot_to_run, byte_to_take}
use Rattle.feeding.specs.Texts.{TextState, is_left, next_call, calls, TextFed}

-- the same input and the same text by another name
calls_are : {s s' : State} {input input' text text' : List ℕ} → input ≡ input' → text ≡ text' → Calls s input s' text → Calls s input' s' text'
calls_are {s} {s'} {input} {input'} {text} {text'} e f c = subst (λ t. Calls s input' s' t) f (subst (λ i. Calls s i s' text) e c)

-- CALLS for an input, and then for another
pub calls_join : {s s' s'' : State} {input input' text text' : List ℕ} → Calls s input s' text → Calls s' input' s'' text'
    → Calls s (input ++ input') s'' (text ++ text')
calls_join (none s e) d = d
calls_join {s'' = s''} {input' = input'} {text' = text'} (call room block later text s s' rest) d =
    let f : FeedOutcome = fed room block s in
    calls_are (sym (append_assoc block later input')) (sym (append_assoc f.text text text'))
    (call room block (later ++ input') (text ++ text') s s''
    (calls_are (append_assoc (drop f.taken block) later input') refl (calls_join rest d)))

module _ (text : List ℕ) (first : TextState) where
  abbrev call_of : TextState → FeedOutcome
  call_of t = fed (length t.out) (drop t.taken text) t.state

  -- what so many calls print
  unfoldable printed : ℕ → List ℕ
  printed zero = []
  printed (suc n) = printed n ++ (call_of (calls text n first)).text

  -- they are calls of `feed`, whatever comes after them
  calls_then : (n : ℕ) {s' : State} {rest : List ℕ} → Calls (calls text n first).state (drop (calls text n first).taken text) s' rest
      → Calls first.state (drop first.taken text) s' (printed n ++ rest)
  unfolding printed calls next_call
  calls_then zero c = c
  calls_then (suc n) {s'} {rest} c =
      let t : TextState = calls text n first in
      let f : FeedOutcome = call_of t in
      let block : List ℕ = drop t.taken text in
      calls_are refl (sym (append_assoc (printed n) f.text rest))
      (calls_then n
      (calls_are (append-nil block) refl
      (call (length t.out) block [] rest t.state s'
      (calls_are (sym (drop-drop f.taken t.taken text) ∙ sym (append-nil (drop f.taken block))) refl c))))

-- where nothing is left to do, though buffer and output are long enough, no slot is to run and no byte to take
module _ (text : List ℕ) (t : TextState) (long : kept_bytes ≤ length t.state.buffer) (room : slot_room ≤ length t.out)
    (over : is_left text t ≡ false) where
  no_slot : t.state.slots_left ≡ 0
  no_slot = go (dec_lt 0 t.state.slots_left)
    where
      go : Dec (0 < t.state.slots_left) → t.state.slots_left ≡ 0
      go (yes l) = absurd (false≢true (sym (slot_to_run t.state.slots_left (length text - t.taken) (length t.state.buffer) (length t.out) long room l ∙ over)))
      go (no l) = omega arith

  no_byte : drop t.taken text ≡ []
  no_byte = go (dec_lt 0 (length text - t.taken))
    where
      taken : ltb 0 (length text - t.taken) ≡ false
      taken = byte_to_take t.state.slots_left (length text - t.taken) (length t.state.buffer) (length t.out) long room (omega (arith, no_slot)) ∙ over

      go : Dec (0 < length text - t.taken) → drop t.taken text ≡ []
      go (yes l) = absurd (false≢true (sym taken ∙ lt-ltb 0 (length text - t.taken) l))
      go (no l) = drop_of_length-le text {i = t.taken} (omega arith)

-- so a text that is fed whole is calls for all its bytes
pub text_whole : (text : List ℕ) (first last : TextState) → first.taken ≡ 0 → TextFed text first last true
    → kept_bytes ≤ length last.state.buffer → slot_room ≤ length last.out
    → (printed : List ℕ) × Calls first.state text last.state printed
text_whole text first last e w long room =
    let over : is_left text last ≡ false = w.whole refl in
    let ended : Calls last.state (drop last.taken text) last.state [] =
    calls_are (sym (no_byte text last long room over)) refl (none last.state (no_slot text last long room over)) in
    let made : Calls (calls text w.count first).state (drop (calls text w.count first).taken text) last.state [] =
    subst (λ (t : TextState). Calls t.state (drop t.taken text) last.state []) w.same ended in
    (printed text first w.count ++ [], calls_are (ap (λ n. drop n text) e) refl (calls_then text first w.count made))

-- An input that has been fed so, and then its end: with the heading before it, what is printed is what the program prints.
pub program_printed : {s s' : State} {input text : List ℕ} (begun ended : TextState) → FirstState s → Calls s input s' text
    → begun.state ≡ s' → begun.taken ≡ 0 → TextFed (ending s') begun ended true
    → kept_bytes ≤ length ended.state.buffer → slot_room ≤ length ended.out
    → (printed : List ℕ) × Calls begun.state (ending s') ended.state printed × (heading ++ (text ++ printed) ≡ program input)
program_printed {s} {s'} begun ended first c same none_taken w long room =
    let last = text_whole (ending s') begun ended none_taken w long room in
    (last.0, last.1, feeds_program first c (subst (λ (k : State). Calls k (ending s') ended.state last.0) same last.1))
