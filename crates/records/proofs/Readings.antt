-- What a record says, by the first question that is answered no. Assumes nothing.
use mathlib.Core.Path.{◌≡◌}
use mathlib.Core.Bool.{Bool, true, false, ◌||◌}
use mathlib.Core.List.{List, [], ◌∷◌}
use Prim.Native.Nat.{ℕ, ◌≤◌, ◌<◌}
use borrow.Author.Tests.{eq-eqb, ne_eqb, le-leb, lt-leb}
use lib.ListN.{length, get_or}
use Rattle.wsgs.specs.declared.Operation.{Operation}
use Rattle.std.specs.Prelude.{Some, None}
use Rattle.wsgs.specs.Text.{quote, has, fields, read_field}
use Rattle.wsgs.specs.Records.{Refused, names, look_up, is_start, field, read_record}
use Rattle.records.specs.Parts.{numbers_reading}

module _ (running : Bool) (t : List ℕ) where
  pub over_64 : 64 < length t → Refused 12 ≡ read_record running t
  unfolding read_record
  over_64 h = rw (lt-leb (length t) 64 h)

  module _ (short : length t ≤ 64) where
    pub quoted : has quote t ≡ true → Refused 12 ≡ read_record running t
    unfolding read_record
    quoted e = rw (le-leb (length t) 64 short, e)

    module _ (unquoted : has quote t ≡ false) where
      pub unknown : look_up names (field t 1) ≡ None → Refused 12 ≡ read_record running t
      unfolding read_record
      unknown e = rw (le-leb (length t) 64 short, unquoted, e)

      module _ (o : Operation) (known : look_up names (field t 1) ≡ Some o) where
        pub too_early : (running || is_start (Some o)) ≡ false → Refused 12 ≡ read_record running t
        unfolding read_record
        too_early e = rw (le-leb (length t) 64 short, unquoted, known, e)

        module _ (in_time : (running || is_start (Some o)) ≡ true) where
          pub other_count : (length (fields t) ≡ 4 → ⊥) → Refused 13 ≡ read_record running t
          unfolding read_record
          other_count d = rw (le-leb (length t) 64 short, unquoted, known, in_time, ne_eqb (length (fields t)) 4 d)

          -- four fields: the operation's, and others
          pub by_numbers : length (fields t) ≡ 4 → (a : List ℕ) (fs : List (List ℕ)) → fields t ≡ a ∷ fs
              → numbers_reading o (read_field (get_or fs 0 [])) (read_field (get_or fs 1 [])) (read_field (get_or fs 2 [])) ≡ read_record running t
          unfolding read_record
          by_numbers e a fs f = rw (le-leb (length t) 64 short, unquoted, known, in_time, eq-eqb (length (fields t)) 4 e, f)
