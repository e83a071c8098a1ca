-- Lines of a name and four numbers, their length, and the lines of a slot. Assumes nothing.
use mathlib.Core.Path.{◌≡◌, refl, sym, ◌∙◌}
use mathlib.Core.Bool.{Bool}
use mathlib.Core.List.{List, [], ◌∷◌, ◌++◌, map, append_assoc, append-nil}
use mathlib.Core.Logic.{◌≢◌}
use Prim.Native.Nat.{ℕ, zero, suc, ◌+◌, ◌-◌, ◌*◌, ◌/◌, ◌%◌, ◌^◌, ◌≤◌, ◌<◌, min}
use native.Mathlib.Decide.{ℕ_discrete, dec_le}
use native.Mathlib.Nat.{add-zero, add-suc}
use native.Mathlib.Numerals.{add-one}
use native.Mathlib.Omega.{arith}
use borrow.Author.Tests.{eq-eqb, ne_eqb, lt-ltb}
use lib.Dec.{eqb}
use lib.Bits.{bit_and, and_mask}
use lib.ListN.{length, get_or, take, length-append, get_or-eq_default}
use lib.Seq.{length-take-le, get_or-take}
use Rattle.wsgs.specs.Answers.{matching_of}
use Rattle.wsgs.specs.Basics.{pick}
use Rattle.wsgs.specs.Steps.{Matching}
use Rattle.wsgs.specs.Text.{CR, LF, comma, bytes, decimal, line}
use Rattle.wsgs.specs.Program.{Refusal, refused_line, refusal_text, match_line, match_lines}
use Rattle.lines.specs.declared.printer.Printer.{Printer}
use Rattle.lines.specs.Lines.{HasRoom, field_room, line_room, match_room, refusal_room, slot_room, is_set}
use Rattle.lines.proofs.Decimals.{decimal_short}

-- a comma and a number take the room of a field
pub field_short : (n : ℕ) → length (comma ∷ decimal n) ≤ field_room
field_short n = omega (arith, decimal_short n)

-- numbers, each after a comma
unfoldable pub number_fields : List ℕ → List ℕ
number_fields [] = []
number_fields (n ∷ ns) = comma ∷ (decimal n ++ number_fields ns)

-- none of them, one more, and all with the line's name before them and its end after them
pub no_fields : (ns : List ℕ) → [] ≡ number_fields (take 0 ns)
unfolding number_fields
no_fields ns = refl

pub fields_more : (ns : List ℕ) (i : ℕ) → i < length ns
    → number_fields (take i ns) ++ (comma ∷ decimal (get_or ns i 0)) ≡ number_fields (take (suc i) ns)
unfolding number_fields
fields_more [] i h = absurd (omega arith)
fields_more (n ∷ ns) zero h = rw append-nil
fields_more (n ∷ ns) (suc i) h = rw (append_assoc (decimal n) (number_fields (take i ns)) (comma ∷ decimal (get_or ns i 0)), fields_more ns i (omega arith))

pub line_of : (name ns : List ℕ) → name ++ number_fields ns ++ (CR ∷ LF ∷ []) ≡ line (name ∷ map decimal ns)
unfolding line number_fields
line_of name [] = rw append-nil
line_of name (n ∷ ns) =
    rw (append_assoc name (comma ∷ (decimal n ++ number_fields ns)) (CR ∷ LF ∷ []), line_of (decimal n) ns)

pub fields_short : (ns : List ℕ) → length (number_fields ns) ≤ field_room * length ns
unfolding number_fields
fields_short [] = omega arith
fields_short (n ∷ ns) = omega (arith, length-append (decimal n) (number_fields ns), decimal_short n, fields_short ns)

-- the room that is left to a line of four numbers, of which some are put: of the next one, of at most a field, or of the end
pub room_left : (p : Printer) (kind ns : List ℕ) (i n : ℕ) → HasRoom p (length kind + line_room) → length ns ≡ 4
    → i ≤ 4 → field_room * i + n ≤ line_room → HasRoom p (length (kind ++ number_fields (take i ns)) + n)
room_left p kind ns i n h four l k =
    omega (arith, length-append kind (number_fields (take i ns)), fields_short (take i ns), length-take-le i ns (omega arith))

-- a line takes the room of a line beside its kind
pub line_short : (name : List ℕ) (a b c d : ℕ)
    → length (line (name ∷ decimal a ∷ decimal b ∷ decimal c ∷ decimal d ∷ [])) ≤ length name + line_room
line_short name a b c d =
    rw (← line_of name (a ∷ b ∷ c ∷ d ∷ [])) (simp length-append (omega (arith, fields_short (a ∷ b ∷ c ∷ d ∷ []))))

-- no refusal, and the line of one
module _ (r : Refusal) where
  pub no_refusal : r.number ≡ 0 → [] ≡ refusal_text r
  no_refusal e = rw (eq-eqb r.number 0 e)

  pub the_refusal : (r.number ≡ 0 → ⊥)
      → line (bytes "refused" ∷ decimal r.slot ∷ decimal r.input ∷ decimal r.output ∷ decimal r.number ∷ []) ≡ refusal_text r
  unfolding refused_line
  the_refusal d = rw (ne_eqb r.number 0 d)

  pub refusal_short : length (refusal_text r) ≤ refusal_room
  unfolding bytes
  refusal_short = go (ℕ_discrete r.number 0)
    where
      go : Dec (r.number ≡ 0) → length (refusal_text r) ≤ refusal_room
      go (yes e) = rw (← no_refusal e) (omega arith)
      go (no d) = rw (← the_refusal d) (line_short (bytes "refused") r.slot r.input r.output r.number)

-- the pass that a bit of the word tells
pub pass_of : (w i : ℕ) → 2 - bit_and (w / 2 ^ i) 1 ≡ pick (is_set w i) 1 2
pass_of w i = rw (and_mask (w / 2 ^ i) 1) (go (ℕ_discrete (w / 2 ^ i % 2) 1))
  where
    go : Dec (w / 2 ^ i % 2 ≡ 1) → 2 - w / 2 ^ i % 2 ≡ pick (is_set w i) 1 2
    go (yes e) = rw (eq-eqb (w / 2 ^ i % 2) 1 e, e)
    go (no d) = let z : w / 2 ^ i % 2 ≡ 0 = omega arith in rw (ne_eqb (w / 2 ^ i % 2) 1 d, z)

pub bit_small : (x : ℕ) → bit_and x 1 ≤ 2
bit_small x = rw (and_mask x 1) (omega arith)

-- the line of an input without an output, and with one
module _ (slot i output : ℕ) (first : Bool) where
  pub no_line : output ≡ 0 → [] ≡ match_line slot i output first
  unfolding match_line
  no_line e = rw (eq-eqb output 0 e)

  pub the_line : (output ≡ 0 → ⊥)
      → line (bytes "match" ∷ decimal slot ∷ decimal i ∷ decimal output ∷ decimal (pick first 1 2) ∷ []) ≡ match_line slot i output first
  unfolding match_line
  the_line d = rw (ne_eqb output 0 d)

  pub match_short : length (match_line slot i output first) ≤ match_room
  unfolding bytes
  match_short = go (ℕ_discrete output 0)
    where
      go : Dec (output ≡ 0) → length (match_line slot i output first) ≤ match_room
      go (yes e) = rw (← no_line e) (omega arith)
      go (no d) = rw (← the_line d) (omega (arith, line_short (bytes "match") slot i output (pick first 1 2)))

-- the lines of a slot, one input more
pub matches_suc : (slot : ℕ) (a : Matching) (x : ℕ)
    → match_lines slot a (suc x) ≡ match_lines slot a x ++ match_line slot (suc x) (a.output (suc x)) (a.first (suc x))
unfolding match_lines
matches_suc slot a x = refl

module _ (slot : ℕ) (outputs : List ℕ) (passes : ℕ) where
  -- the pair of input i + 1, as it stands in the array and the word
  output_at : (i : ℕ) → (matching_of outputs passes).output (suc i) ≡ get_or outputs i 0
  output_at i = let back : suc i - 1 ≡ i = omega arith in rw (lt-ltb 0 (suc i) (omega arith), back)

  first_at : (i : ℕ) → (matching_of outputs passes).first (suc i) ≡ is_set passes i
  first_at i = let back : suc i - 1 ≡ i = omega arith in rw (lt-ltb 0 (suc i) (omega arith), back)

  pub matches_none : [] ≡ match_lines slot (matching_of outputs passes) 0
  unfolding match_lines
  matches_none = refl

  pub matches_more : (i : ℕ)
      → match_lines slot (matching_of outputs passes) i ++ match_line slot (i + 1) (get_or outputs i 0) (is_set passes i)
      ≡ match_lines slot (matching_of outputs passes) (i + 1)
  matches_more i = rw (add-one i) (sym (matches_suc slot (matching_of outputs passes) i ∙ rw (output_at i, first_at i)))

  -- the same as the loop over the first inputs reads it
  pub matches_next : (n i : ℕ) → i < n
      → match_lines slot (matching_of outputs passes) i
      ++ match_line slot (i + 1) (get_or (take n outputs) i 0) (eqb (bit_and (passes / 2 ^ i) 1) 1)
      ≡ match_lines slot (matching_of outputs passes) (i + 1)
  matches_next n i h = rw (get_or-take n outputs i 0 h, and_mask (passes / 2 ^ i) 1) (matches_more i)

  -- a slot's lines take the room of a pair's line for each input
  pub matches_short : (i : ℕ) → length (match_lines slot (matching_of outputs passes) i) ≤ match_room * i
  unfolding match_lines
  matches_short zero = omega arith
  matches_short (suc i) =
      let a = matching_of outputs passes in
      rw (matches_suc slot a i)
      (omega (
        arith,
        length-append (match_lines slot a i) (match_line slot (suc i) (a.output (suc i)) (a.first (suc i))),
        matches_short i,
        match_short slot (suc i) (a.output (suc i)) (a.first (suc i)),
      ))

  -- inputs past the last entry have no line
  module _ (m : ℕ) (long : length outputs ≡ m) where
    none_past : (n : ℕ) → match_lines slot (matching_of outputs passes) (m + n) ≡ match_lines slot (matching_of outputs passes) m
    none_past zero = rw (add-zero m)
    none_past (suc n) =
        let a = matching_of outputs passes in
        let e : a.output (suc (m + n)) ≡ 0 = output_at (m + n) ∙ get_or-eq_default outputs 0 (omega arith) in
        rw (add-suc m n, matches_suc slot a (m + n), ← no_line slot (suc (m + n)) (a.output (suc (m + n))) (a.first (suc (m + n))) e, append-nil)
        (none_past n)

    pub matches_past : (n : ℕ) → m ≤ n → match_lines slot (matching_of outputs passes) m ≡ match_lines slot (matching_of outputs passes) n
    matches_past n h = let e : m + (n - m) ≡ n = omega arith in rw e at (sym (none_past (n - m)))

  -- a slot's lines as a tick answers them, whatever the number of ports
  pub matches_all : length outputs ≡ 32 → (n k : ℕ) → k ≡ min n 32
      → match_lines slot (matching_of outputs passes) k ≡ match_lines slot (matching_of outputs passes) n
  matches_all long n k e = go (dec_le n 32)
    where
      go : Dec (n ≤ 32) → match_lines slot (matching_of outputs passes) k ≡ match_lines slot (matching_of outputs passes) n
      go (yes l) = let same : k ≡ n = omega arith in rw same
      go (no l) = let most : k ≡ 32 = omega arith in rw most (matches_past 32 long n (omega arith))

  pub slot_short : length outputs ≡ 32 → (n : ℕ) → length (match_lines slot (matching_of outputs passes) n) ≤ slot_room
  slot_short long n = go (dec_le n 32)
    where
      go : Dec (n ≤ 32) → length (match_lines slot (matching_of outputs passes) n) ≤ slot_room
      go (yes l) = omega (arith, matches_short n)
      go (no l) = rw (← matches_past 32 long n (omega arith)) (omega (arith, matches_short 32))
