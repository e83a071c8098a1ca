-- Text written into a lent buffer, and the room that it may need. Assumes nothing.
use Rattle.std.specs.Prelude.{◌≡◌, Bool, List, [], ◌++◌, ℕ, ◌+◌, ◌*◌, ◌/◌, ◌%◌, ◌^◌, ◌≤◌, eqb, leb, length, take, drop}
use Rattle.lines.specs.declared.printer.Printer.{Printer}
use Rattle.wsgs.specs.Basics.{pick}
use Rattle.wsgs.specs.Questions.{Effect, effect}

-- a buffer with a text in it from a place on
abbrev pub with_text : ℕ → List ℕ → List ℕ → List ℕ
with_text at text out = take at out ++ text ++ drop (at + length text) out

-- a text fits at a place of a buffer and stands there afterwards; `next` is the place after it
pub record TextWritten (out : List ℕ) (at : ℕ) (text : List ℕ) (next : ℕ) (out' : List ℕ) : Type 0 where
  pub fits : at + length text ≤ length out
  pub next_place : next ≡ at + length text
  pub buffer : out' ≡ with_text at text out

-- what a printer is lent has room for so many bytes more; and after a call a text stands where the printer had come to, in the same buffer
abbrev pub HasRoom : Printer → ℕ → Type 0
HasRoom p n = p.count + n ≤ length p.out.now

pub record Printed (before : Printer) (text : List ℕ) (after : Printer) : Type 0 where
  pub same_buffer : after.out.ghost_name ≡ before.out.ghost_name
  pub written : TextWritten before.out.now before.count text after.count after.out.now

-- THE ROOM that texts may need, with 20 digits for a number: a comma and a number; a line of four numbers beside its kind; the line of a pair;
-- the heading; the line of a refusal; and the lines of a slot of 32 inputs
abbrev pub field_room : ℕ
field_room = 21

abbrev pub line_room : ℕ
line_room = 4 * field_room + 2

abbrev pub match_room : ℕ
match_room = 5 + line_room

abbrev pub heading_room : ℕ
heading_room = 31

abbrev pub refusal_room : ℕ
refusal_room = 7 + line_room

abbrev pub slot_room : ℕ
slot_room = 32 * match_room

-- a text, where a buffer has the room that it may need; else nothing
abbrev pub with_room : ℕ → List ℕ → List ℕ → List ℕ
with_room room out text = pick (leb room (length out)) text []

-- such a text put at the front of a buffer: how many bytes are put, and the buffer afterwards
abbrev pub put_effect : (room : ℕ) (text out : List ℕ) → Effect ℕ (List ℕ)
put_effect room text out = let t : List ℕ = with_room room out text in effect (length t) (with_text 0 t out)

-- bit k of a word is set
abbrev pub is_set : ℕ → ℕ → Bool
is_set w k = eqb (w / 2 ^ k % 2) 1
