-- What a text names, by its length and its bytes. Assumes nothing.
use mathlib.Core.Path.{◌≡◌, refl, ap}
use mathlib.Core.Bool.{Bool, true, false, cond, ◌&&◌, and-true}
use mathlib.Core.List.{List, [], ◌∷◌}
use mathlib.Core.Logic.{◌≢◌}
use Prim.Native.Nat.{ℕ, suc, ◌+◌}
use Prim.Native.String.{String}
use native.Mathlib.Omega.{arith}
use borrow.Author.Tests.{ne_eqb}
use lib.Dec.{eqb}
use lib.ListN.{length, get_or, drop, drop_of_length-le}
use lib.Seq.{drop-cons}
use Rattle.std.specs.Prelude.{Some, None}
use Rattle.wsgs.specs.declared.Operation.TheVariants.{Start, Pipe, Book, Release, Arrive, Tick}
use Rattle.wsgs.specs.Basics.{same}
use Rattle.wsgs.specs.Text.{bytes}
use Rattle.wsgs.specs.Records.{Name, names, look_up}

-- texts of different lengths differ
pub lengths_differ : (a b : List ℕ) → length a ≢ length b → same a b ≡ false
unfolding same
lengths_differ [] [] d = absurd (d refl)
lengths_differ [] (y ∷ ys) d = refl
lengths_differ (x ∷ xs) [] d = refl
lengths_differ (x ∷ xs) (y ∷ ys) d = go (eqb x y) (lengths_differ xs ys (λ e. d (ap suc e)))
  where
    go : (t : Bool) → same xs ys ≡ false → (t && same xs ys) ≡ false
    go true e = e
    go false e = refl

-- a text looked for in a list of names
pub one_more : (r : Name) (rs : List Name) (t : List ℕ) → look_up (r ∷ rs) t ≡ cond (same t (bytes r.name)) (Some r.operation) (look_up rs t)
unfolding look_up
one_more r rs t = go (same t (bytes r.name))
  where
    go : (b : Bool) → elim b [ true ↦ Some r.operation | false ↦ look_up rs t ] ≡ cond b (Some r.operation) (look_up rs t)
    go true = refl
    go false = refl

pub no_more : (t : List ℕ) → look_up [] t ≡ None
unfolding look_up
no_more t = refl

module _ (t : List ℕ) where
  -- the bytes from place i on are those of a list
  abbrev spells : List ℕ → ℕ → Bool
  spells [] i = true
  spells (b ∷ []) i = eqb (get_or t i 0) b
  spells (b ∷ c ∷ cs) i = eqb (get_or t i 0) b && spells (c ∷ cs) (suc i)

  same_from : (p : List ℕ) (i : ℕ) → i + length p ≡ length t → same (drop i t) p ≡ spells p i
  unfolding same
  same_from [] i h = rw (drop_of_length-le t {i = i} (omega arith))
  same_from (b ∷ []) i h = rw (drop-cons t i 0 (omega arith), same_from [] (suc i) (omega arith), and-true)
  same_from (b ∷ c ∷ cs) i h = rw (drop-cons t i 0 (omega arith), same_from (c ∷ cs) (suc i) (omega arith))

  other : (s : String) → length t ≢ length (bytes s) → same t (bytes s) ≡ false
  other s d = lengths_differ t (bytes s) d

  spelled : (s : String) → length t ≡ length (bytes s) → same t (bytes s) ≡ spells (bytes s) 0
  spelled s e = same_from (bytes s) 0 (omega arith)

  pub named_4 : length t ≡ 4 → look_up names t
      ≡ cond (eqb (get_or t 0 0) 112 && (eqb (get_or t 1 0) 105 && (eqb (get_or t 2 0) 112 && eqb (get_or t 3 0) 101))) (Some Pipe)
      (cond (eqb (get_or t 0 0) 98 && (eqb (get_or t 1 0) 111 && (eqb (get_or t 2 0) 111 && eqb (get_or t 3 0) 107))) (Some Book)
      (cond (eqb (get_or t 0 0) 116 && (eqb (get_or t 1 0) 105 && (eqb (get_or t 2 0) 99 && eqb (get_or t 3 0) 107))) (Some Tick) None))
  unfolding bytes
  named_4 h =
      simp (
        one_more,
        no_more,
        other "start" (omega arith),
        spelled "pipe" (omega arith),
        spelled "book" (omega arith),
        other "release" (omega arith),
        other "arrive" (omega arith),
        spelled "tick" (omega arith),
      )

  pub named_5 : length t ≡ 5 → look_up names t
      ≡ cond
      (eqb (get_or t 0 0) 115 && (eqb (get_or t 1 0) 116 && (eqb (get_or t 2 0) 97 && (eqb (get_or t 3 0) 114 && eqb (get_or t 4 0) 116))))
      (Some Start) None
  unfolding bytes
  named_5 h =
      simp (
        one_more,
        no_more,
        spelled "start" (omega arith),
        other "pipe" (omega arith),
        other "book" (omega arith),
        other "release" (omega arith),
        other "arrive" (omega arith),
        other "tick" (omega arith),
      )

  pub named_6 : length t ≡ 6 → look_up names t
      ≡ cond
      (eqb (get_or t 0 0) 97 && (eqb (get_or t 1 0) 114 && (eqb (get_or t 2 0) 114 && (eqb (get_or t 3 0) 105 && (eqb (get_or t 4 0) 118 && eqb (get_or t 5 0) 101)))))
      (Some Arrive) None
  unfolding bytes
  named_6 h =
      simp (
        one_more,
        no_more,
        other "start" (omega arith),
        other "pipe" (omega arith),
        other "book" (omega arith),
        other "release" (omega arith),
        spelled "arrive" (omega arith),
        other "tick" (omega arith),
      )

  pub named_7 : length t ≡ 7 → look_up names t
      ≡ cond
      (eqb (get_or t 0 0) 114 && (eqb (get_or t 1 0) 101 && (eqb (get_or t 2 0) 108 && (eqb (get_or t 3 0) 101 && (eqb (get_or t 4 0) 97 && (eqb (get_or t 5 0) 115 && eqb (get_or t 6 0) 101))))))
      (Some Release) None
  unfolding bytes
  named_7 h =
      simp (
        one_more,
        no_more,
        other "start" (omega arith),
        other "pipe" (omega arith),
        other "book" (omega arith),
        spelled "release" (omega arith),
        other "arrive" (omega arith),
        other "tick" (omega arith),
      )

  pub nameless : length t ≢ 4 → length t ≢ 5 → length t ≢ 6 → length t ≢ 7 → look_up names t ≡ None
  unfolding bytes
  nameless h i j k =
      simp (
        one_more,
        no_more,
        other "start" (omega arith),
        other "pipe" (omega arith),
        other "book" (omega arith),
        other "release" (omega arith),
        other "arrive" (omega arith),
        other "tick" (omega arith),
      )

  -- a text of four bytes that begins with no name's first byte
  pub other_4 : length t ≡ 4 → get_or t 0 0 ≢ 112 → get_or t 0 0 ≢ 98 → get_or t 0 0 ≢ 116 → look_up names t ≡ None
  other_4 h p b k = rw (named_4 h, ne_eqb (get_or t 0 0) 112 p, ne_eqb (get_or t 0 0) 98 b, ne_eqb (get_or t 0 0) 116 k)

-- what the look-up of a name is proved by
pub ruleset by_letters = (named_4, named_5, named_6, named_7, nameless, other_4)
