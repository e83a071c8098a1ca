-- Parts of a record: what the number fields say. Assumes nothing.
use Rattle.std.specs.Prelude.{[], ◌∷◌, ℕ, Option, Some}
use Rattle.wsgs.specs.declared.Operation.{Operation}
use Rattle.wsgs.specs.Questions.{first_no}
use Rattle.wsgs.specs.Records.{Reading, all_numbers, unused_zero, request, unless_refused}

-- what an operation and three number fields say: the last two questions to a record
abbrev pub numbers_reading : Operation → Option ℕ → Option ℕ → Option ℕ → Reading
unfolding first_no
numbers_reading o x y z = unless_refused (all_numbers x y z ∷ unused_zero (Some o) x y z ∷ []) (request (Some o) x y z)
