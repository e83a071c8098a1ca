-- What a record of the event program reads as: the questions to it, in their order, and the request that it makes. Assumes nothing.
use Rattle.std.specs.Prelude.{Bool, true, false, not, ◌&&◌, ◌||◌, List, [], ◌∷◌, ℕ, ◌-◌, eqb, leb, length, get_or, Option, Some, None}
use Prim.Native.String.{String}
use Rattle.wsgs.specs.declared.Operation.{Operation}
use Rattle.wsgs.specs.declared.Operation.TheVariants.{Start, Pipe, Book, Release, Arrive, Tick}
use Rattle.wsgs.specs.Basics.{pick, same}
use Rattle.wsgs.specs.Questions.{Question, first_no}
use Rattle.wsgs.specs.Text.{bytes, quote, has, fields, read_field}

-- OPERATIONS and their names
pub record Name : Type 0 where
  pub name : String
  pub operation : Operation

abbrev pub names : List Name
names =
    record { name = "start"; operation = Start }
    ∷ record { name = "pipe"; operation = Pipe }
    ∷ record { name = "book"; operation = Book }
    ∷ record { name = "release"; operation = Release }
    ∷ record { name = "arrive"; operation = Arrive }
    ∷ record { name = "tick"; operation = Tick }
    ∷ []

unfoldable pub look_up : List Name → List ℕ → Option Operation
unfolding bytes same
look_up [] t = None
look_up (r ∷ rs) t = elim (same t (bytes r.name)) [ true ↦ Some r.operation | false ↦ look_up rs t ]

-- an operation is a start or pipe. What is said of an unknown one, here and below, does not matter: its record is refused before it is asked.
abbrev pub is_start : Option Operation → Bool
is_start (Some Start) = true
is_start (Some Pipe) = true
is_start (Some Book) = false
is_start (Some Release) = false
is_start (Some Arrive) = false
is_start (Some Tick) = false
is_start None = false

-- the number fields that an operation does not use are 0
abbrev pub unused_are_0 : Option Operation → ℕ → ℕ → ℕ → Bool
unused_are_0 (Some Start) x y z = eqb z 0
unused_are_0 (Some Pipe) x y z = eqb z 0
unused_are_0 (Some Book) x y z = true
unused_are_0 (Some Release) x y z = true
unused_are_0 (Some Arrive) x y z = true
unused_are_0 (Some Tick) x y z = eqb x 0 && eqb y 0
unused_are_0 None x y z = true

abbrev pub is_known : Option Operation → Bool
is_known (Some o) = true
is_known None = false

-- NUMBER FIELDS: a field has a number, and which, 0 for none
abbrev pub has_number : Option ℕ → Bool
has_number (Some x) = true
has_number None = false

abbrev pub number_of : Option ℕ → ℕ
number_of (Some x) = x
number_of None = 0

-- QUESTIONS to a record, in the order in which they are asked: has it at most 64 bytes?
abbrev pub short_enough : List ℕ → Question
short_enough t = record { yes = leb (length t) 64; number = 12 }

-- is it free of quotes?
abbrev pub unquoted : List ℕ → Question
unquoted t = record { yes = not (has quote t); number = 12 }

-- is its operation one of the six?
abbrev pub operation_known : Option Operation → Question
operation_known o = record { yes = is_known o; number = 12 }

-- is it a start or pipe, or has one been accepted before it?
abbrev pub in_time : (running : Bool) → Option Operation → Question
in_time running o = record { yes = running || is_start o; number = 12 }

-- has it four fields?
abbrev pub four_fields : List (List ℕ) → Question
four_fields fs = record { yes = eqb (length fs) 4; number = 13 }

-- is each of its number fields one to ten digits, used or not?
abbrev pub all_numbers : Option ℕ → Option ℕ → Option ℕ → Question
all_numbers x y z = record { yes = has_number x && (has_number y && has_number z); number = 14 }

-- are those that its operation does not use 0?
abbrev pub unused_zero : Option Operation → Option ℕ → Option ℕ → Option ℕ → Question
unused_zero o x y z = record { yes = unused_are_0 o (number_of x) (number_of y) (number_of z); number = 12 }

-- what a record reads as: a request, which is an operation with the numbers of the three other fields, or the number that refuses it
pub data Reading : Type 0 where
  Request : Operation → ℕ → ℕ → ℕ → Reading
  Refused : ℕ → Reading

-- what is asked for where all are answered yes: the operation with its numbers
abbrev pub request : Option Operation → Option ℕ → Option ℕ → Option ℕ → Reading
request (Some o) x y z = Request o (number_of x) (number_of y) (number_of z)
request None x y z = Refused 12

-- a reading, or the number of the first question that is answered no
abbrev pub unless_refused : List Question → Reading → Reading
unless_refused qs r = pick (eqb (first_no qs) 0) r (Refused (first_no qs))

-- field k of a record, from 1 on, with nothing in it where there are fewer
abbrev pub field : List ℕ → ℕ → List ℕ
field t k = get_or (fields t) (k - 1) []

-- what a record reads as, where a start or pipe has been accepted before it or not: its operation stands before the first comma, however many
-- fields there are
unfoldable pub read_record : (running : Bool) → List ℕ → Reading
unfolding first_no has fields look_up read_field
read_record running t =
    let o = look_up names (field t 1) in
    let x = read_field (field t 2) in
    let y = read_field (field t 3) in
    let z = read_field (field t 4) in
    unless_refused
    (short_enough t
    ∷ unquoted t
    ∷ operation_known o
    ∷ in_time running o
    ∷ four_fields (fields t)
    ∷ all_numbers x y z
    ∷ unused_zero o x y z
    ∷ [])
    (request o x y z)
