-- Records with a fault or two: a table with the number that each gets before an accepted start, and after one. Of the faults of a record the
-- earlier question in the order of specs/Records tells. Each question is answered no by some record to which all others are yes, where there is
-- such a record: one of more than 64 bytes has another fault too, and so has one with a quote. Each two neighbours in the order are answered no
-- at once by some record; the first four give the same number, so their order among themselves shows in none. Beside an edge stand records
-- that are accepted. Assumes nothing.
use Rattle.std.specs.Prelude.{Bool, true, false, ◌&&◌, List, [], ◌∷◌, ◌++◌, ℕ, suc, replicate}
use Prim.Native.String.{String}
use Rattle.wsgs.specs.declared.Operation.TheVariants.{Start, Tick}
use Rattle.wsgs.specs.Basics.{same}
use Rattle.wsgs.specs.Text.{bytes}
use Rattle.wsgs.specs.Records.{Request, read_record}
use Rattle.wsgs.specs.Program.{Machine, fresh, run_record, refused_line, refusal_text, number_alone}

-- a record with its numbers before and after, 0 where it is accepted
pub record BadRecord : Type 0 where
  pub text : List ℕ
  pub before : ℕ
  pub after : ℕ

-- one of printable characters, and one told byte by byte
abbrev pub ascii : String → (before after : ℕ) → BadRecord
ascii t before after = record { text = bytes t; before = before; after = after }

abbrev pub raw : List ℕ → (before after : ℕ) → BadRecord
raw t before after = record { text = t; before = before; after = after }

-- a machine whose only start was refused, since it asked for 33 ports; and one that has started a switch of two ports and has run three slots
abbrev pub refused_start : Machine
refused_start = (run_record fresh (Request Start 33 3 0)).machine

abbrev pub in_slot_3 : Machine
in_slot_3 = (run_record (run_record fresh (Request Start 2 3 0)).machine (Request Tick 0 0 3)).machine

-- the machine prints the number of a record, with zeros before it, and nothing where the number is 0
unfoldable pub prints : Machine → List ℕ → ℕ → Bool
unfolding same refused_line run_record read_record
prints m text number = same (run_record m (read_record m.running text)).printed (refusal_text (number_alone number))

unfoldable pub told : BadRecord → Bool
unfolding prints bytes
told r = prints fresh r.text r.before && (prints refused_start r.text r.before && prints in_slot_3 r.text r.after)

-- the place of the first record of which one of its numbers is wrong, the table's first being at k; 0 where all are right
unfoldable pub first_mistold : ℕ → List BadRecord → ℕ
unfolding told
first_mistold k [] = 0
first_mistold k (r ∷ rs) = elim (told r) [ true ↦ first_mistold (suc k) rs | false ↦ k ]

abbrev pub bad_records : List BadRecord
bad_records =
    -- OVER 64 BYTES: 65, and six fields and an unused one that is not 0; beside it one of 64 bytes, which is told by its next fault
    raw (bytes "start,2,3,7,0," ++ replicate 51 48) 12 12
    ∷ raw (bytes "start,2,3,7,0," ++ replicate 50 48) 13 13
    -- 65 bytes, and a field that is no number; beside it one of 64
    ∷ raw (bytes "start,2,3," ++ replicate 55 48) 12 12
    ∷ raw (bytes "start,2,3," ++ replicate 54 48) 14 14
    -- 66 bytes, and a quote
    ∷ raw (bytes "start,2,\"3\"," ++ replicate 54 48) 12 12
    -- A QUOTE in a number field, which is then no number
    ∷ ascii "start,\"2\",3,0" 12 12
    ∷ ascii "start,2,3,\"0\"" 12 12
    -- in the operation, which is then unknown
    ∷ ascii "\"start\",2,3,0" 12 12
    ∷ ascii "\"" 12 12
    -- after the fourth field, and in the last of three
    ∷ ascii "start,2,3,0,\"" 12 12
    ∷ ascii "start,2,\"3\"" 12 12
    -- an apostrophe is none
    ∷ ascii "start,2,'3',0" 14 14
    -- AN UNKNOWN OPERATION: another word, in capitals, a letter or a byte less or more, empty. Before a start the next question is answered no too.
    ∷ ascii "halt,1,1,1" 12 12
    ∷ ascii "Start,2,3,0" 12 12
    ∷ ascii "star,2,3,0" 12 12
    ∷ ascii "starts,2,3,0" 12 12
    ∷ ascii " start,2,3,0" 12 12
    ∷ ascii "start ,2,3,0" 12 12
    ∷ ascii ",2,3,0" 12 12
    -- and other than four fields
    ∷ ascii "halt" 12 12
    ∷ ascii "halt,1,1" 12 12
    ∷ ascii "halt,1,1,1,1" 12 12
    ∷ ascii "" 12 12
    ∷ ascii "," 12 12
    ∷ ascii ",,,," 12 12
    ∷ raw (bytes "start" ++ (13 ∷ [])) 12 12
    ∷ raw (bytes "start" ++ (10 ∷ [])) 12 12
    ∷ raw (bytes "start" ++ (255 ∷ [])) 12 12
    -- and a field that is no number
    ∷ ascii "halt,x,1,1" 12 12
    ∷ ascii ",,," 12 12
    -- NO START BEFORE IT
    ∷ ascii "book,1,1,1" 12 0
    ∷ ascii "arrive,1,1,1" 12 0
    ∷ ascii "tick,0,0,1" 12 0
    ∷ ascii "start,2,3,0" 0 0
    ∷ ascii "pipe,2,3,0" 0 0
    -- and other than four fields
    ∷ ascii "book" 12 13
    ∷ ascii "book,1,1" 12 13
    ∷ ascii "release,1,1,1,1" 12 13
    ∷ ascii "arrive,1,1" 12 13
    ∷ ascii "tick,0,1" 12 13
    -- and a field that is no number
    ∷ ascii "book,x,1,1" 12 14
    ∷ ascii "release,1,x,1" 12 14
    ∷ ascii "arrive,1,1,x" 12 14
    -- and an unused field that is not 0
    ∷ ascii "tick,1,0,1" 12 12
    ∷ ascii "tick,0,1,1" 12 12
    -- OTHER THAN FOUR FIELDS: one, two, three, five, and five of which the last is empty
    ∷ ascii "start" 13 13
    ∷ ascii "start,2" 13 13
    ∷ ascii "pipe,2,3" 13 13
    ∷ ascii "start,2,3,0,0" 13 13
    ∷ ascii "pipe,2,3,0," 13 13
    -- and a field that is no number
    ∷ ascii "start,x,3" 13 13
    ∷ ascii "start,2,x,0,0" 13 13
    ∷ ascii "tick,x" 12 13
    -- and an unused field that is not 0
    ∷ ascii "start,2,3,7,0" 13 13
    ∷ ascii "tick,1,0" 12 13
    -- A FIELD THAT IS NO NUMBER: each of the three, used or not
    ∷ ascii "pipe,x,3,0" 14 14
    ∷ ascii "pipe,2,x,0" 14 14
    ∷ ascii "pipe,2,3,x" 14 14
    ∷ ascii "tick,x,0,1" 12 14
    ∷ ascii "tick,0,x,1" 12 14
    -- empty; of eleven digits, and beside it of ten
    ∷ ascii "start,,3,0" 14 14
    ∷ ascii "start,2,3," 14 14
    ∷ ascii "start,00000000002,3,0" 14 14
    ∷ ascii "start,0000000002,3,0" 0 0
    ∷ ascii "book,1,1,00000000001" 12 14
    ∷ ascii "book,1,1,0000000001" 12 0
    -- with a sign, a space, the bytes on either side of the digits, a NUL, a tab, a lone LF or CR, a byte that is not ASCII
    ∷ ascii "book,1,1,+1" 12 14
    ∷ ascii "book,1,1, 1" 12 14
    ∷ ascii "book,1,1,/" 12 14
    ∷ ascii "book,1,1,:" 12 14
    ∷ raw (bytes "book,1,1,1" ++ (0 ∷ [])) 12 14
    ∷ raw (bytes "book,1,1,1" ++ (9 ∷ [])) 12 14
    ∷ raw (bytes "book,1,1,1" ++ (10 ∷ [])) 12 14
    ∷ raw (bytes "book,1,1,1" ++ (13 ∷ [])) 12 14
    ∷ raw (bytes "book,1,1,1" ++ (255 ∷ [])) 12 14
    -- and an unused field that is not 0
    ∷ ascii "start,2,x,7" 14 14
    ∷ ascii "tick,1,x,1" 12 14
    ∷ ascii "tick,1,0,x" 12 14
    -- AN UNUSED FIELD THAT IS NOT 0; beside it one that is 0 in another way
    ∷ ascii "start,2,3,7" 12 12
    ∷ ascii "start,2,3,00" 0 0
    -- and an amount, or ports, out of range
    ∷ ascii "pipe,33,3,4294967296" 12 12
    ∷ ascii "tick,9999999999,0,0" 12 12
    ∷ []
