-- When an input has a turn; and, where it has one, what it asks for, and what it takes: the first in turn of the outputs that are open to it. Assumes
-- nothing.
use mathlib.Core.Path.{◌≡◌, refl, sym, ◌∙◌}
use mathlib.Core.Bool.{Bool, true, false, not, ◌&&◌, and-false, and_self}
use mathlib.Core.List.{List}
use Prim.Native.Nat.{ℕ, ◌-◌, ◌*◌, ◌≤◌}
use native.Mathlib.Omega.{arith}
use borrow.Author.Tests.{le-leb, not-true, not-false}
use lib.Dec.{leb, ltb, leb→le}
use lib.ListN.{length}
use Rattle.std.proofs.Math.Facts.{and_yes}
use Rattle.wsgs.specs.Basics.{pick, Port, in_turn}
use Rattle.std.specs.Prelude.{Option, Some}
use Rattle.wsgs.specs.declared.Output.{Output}
use Rattle.wsgs.specs.Words.{word, port_word}
use Rattle.wsgs.specs.Steps.{marked}
use Rattle.wsgs.proofs.Laws.Tests.{holds}
use Rattle.wsgs.proofs.Laws.Marked.{marked_ext}
use Rattle.wsgs.proofs.Laws.InTurn.{in_turn_some}
use Rattle.words.specs.Places.{is_port}
use Rattle.words.proofs.PlaceLaws.{known, port_passes}
use Rattle.turns.specs.Masks.{ready_mask}
use Rattle.turns.specs.Requests.{has_turn, Turn, RowOf, first_requested, second_requested, common_in_turn, first_output, second_output}
use Rattle.turns.specs.Charges.{output_told, HasNumber, PairOf}
use Rattle.turns.proofs.Ready.{ready_pairs, is_open, requested_in_turn}

-- THE QUESTION for a turn of input i of n ports, on a run of so many words
module _ (n i words : ℕ) where
  -- it has none where it is no port
  pub no_turn : is_port n i ≡ false → false ≡ has_turn n i words
  unfolding has_turn
  no_turn h = rw h

  -- else the run's length decides
  pub run_decides : is_port n i ≡ true → leb (n * n) words ≡ has_turn n i words
  unfolding has_turn
  run_decides h = rw h

  -- it is answered no
  pub not_due : {answer : Bool} → answer ≡ has_turn n i words → not answer ≡ true → has_turn n i words ≡ false
  not_due e h = sym e ∙ not-true _ h

-- A TURN
module _ (n i : ℕ) (run : List ℕ) where
  -- is one where the question is answered yes
  pub due : {answer : Bool} → answer ≡ has_turn n i (length run) → not answer ≡ false → Turn n i (length run)
  unfolding has_turn
  due e h =
      let a = and_yes (is_port n i) (leb (n * n) (length run)) (rw (sym e ∙ not-false _ h) tt) in
      let k = known n i {answer = true} (sym (holds (is_port n i) a.0)) refl in
      record { few = k.few; port = k.port; long = leb→le (n * n) (length run) a.1 }

  -- and there it is answered yes
  pub is_due : Turn n i (length run) → has_turn n i (length run) ≡ true
  is_due t = sym (run_decides n i (length run) (port_passes n i t.few t.port)) ∙ le-leb (n * n) (length run) t.long

-- an answer where there is a turn, and where there is none
pub with_turn : {a : Bool} {r x : ℕ} → a ≡ true → r ≡ x → r ≡ pick a x 0
with_turn p e = rw p e

pub without_turn : {a : Bool} (x : ℕ) → a ≡ false → 0 ≡ pick a x 0
without_turn x p = rw p

-- two questions, both answered yes, or one of them no
pub both_yes : {a b : Bool} → a ≡ true → b ≡ true → (a && b) ≡ true
both_yes p q = rw (p, q)

pub first_no : {a : Bool} (b : Bool) → a ≡ false → (a && b) ≡ false
first_no b p = rw p

pub second_no : (a : Bool) {b : Bool} → b ≡ false → (a && b) ≡ false
second_no a q = rw (q, and-false a)

-- a test asked twice
pub row_waits : (n i : ℕ) (queues : List ℕ) → marked n (λ j. ltb 0 (word n queues i j) && ltb 0 (word n queues i j)) ≡ marked n (λ j. ltb 0 (word n queues i j))
row_waits n i queues = marked_ext n _ _ (λ j p. and_self (ltb 0 (word n queues i j)))

-- what is ready in the row of an input is what it asks for in pass one, and what is ready in one run in pass two
pub rows_requested : (n i : ℕ) (credits queues : List ℕ) (row : ℕ) → RowOf n i (length credits) row → Turn n i (length queues)
    → ready_mask credits queues row n ≡ first_requested n i credits queues
rows_requested n i credits queues row r q =
    rw (r.begin, both_yes (is_due n i credits r.turn) (is_due n i queues q)) (ready_pairs n i credits queues)

pub row_requested : (n i : ℕ) (queues : List ℕ) (row : ℕ) → RowOf n i (length queues) row → ready_mask queues queues row n ≡ second_requested n i queues
row_requested n i queues row r = rw (r.begin, is_due n i queues r.turn) (ready_pairs n i queues queues ∙ row_waits n i queues)

-- the columns of the row of input i that have packets, by its pairs
pub waiting_pairs : (n i : ℕ) (queues : List ℕ) → ready_mask queues queues ((i - 1) * n) n ≡ marked n (λ j. ltb 0 (word n queues i j))
waiting_pairs n i queues = ready_pairs n i queues queues ∙ row_waits n i queues

-- WHAT AN INPUT ASKS FOR where it has a turn
pub first_asks : (n i : ℕ) (credits queues : List ℕ) → Turn n i (length credits) → Turn n i (length queues) → (r : ℕ) → r ≡ first_requested n i credits queues
    → r ≡ ready_mask credits queues ((i - 1) * n) n
first_asks n i credits queues paid sent r e =
    e ∙ rw (both_yes (is_due n i credits paid) (is_due n i queues sent)) (sym (ready_pairs n i credits queues))

pub second_asks : (n i : ℕ) (queues : List ℕ) → Turn n i (length queues) → (r : ℕ) → r ≡ second_requested n i queues → r ≡ ready_mask queues queues ((i - 1) * n) n
second_asks n i queues sent r e = e ∙ rw (is_due n i queues sent) (sym (waiting_pairs n i queues))

-- WHAT A TURN of input i takes, where it has one and asks for the ready columns
module _ (n i : ℕ) (queues given : List ℕ) (sent : Turn n i (length queues)) (known : n ≤ length given) where
  due_here : (has_turn n i (length queues) && leb n (length given)) ≡ true
  due_here = both_yes (is_due n i queues sent) (le-leb n (length given) known)

  pub second_takes : (one : List ℕ) (asked : ℕ) → asked ≡ ready_mask one queues ((i - 1) * n) n → (free r : ℕ)
      → r ≡ second_output free asked n i queues given → r ≡ in_turn (is_open n free one queues i) n (port_word given i)
  second_takes one asked is free r e = requested_in_turn n free one queues i asked is r (port_word given i) (e ∙ rw due_here)

  pub first_takes : (credits : List ℕ) → Turn n i (length credits) → (asked : ℕ) → asked ≡ ready_mask credits queues ((i - 1) * n) n → (free r : ℕ)
      → r ≡ first_output free asked n i credits queues given → r ≡ in_turn (is_open n free credits queues i) n (port_word given i)
  first_takes credits paid asked is free r e = second_takes credits asked is free r (e ∙ rw (is_due n i credits paid))

-- what a turn takes is a port
pub second_port : (free asked n i : ℕ) (queues given : List ℕ) (r : ℕ) → r ≡ second_output free asked n i queues given → 1 ≤ r → Port n r
second_port free asked n i queues given r e h = go (has_turn n i (length queues) && leb n (length given)) e
  where
    go : (b : Bool) → r ≡ pick b (common_in_turn free asked n (port_word given i)) 0 → Port n r
    go true d = (in_turn_some _ n (port_word given i) r d h).0
    go false d = absurd (omega arith)

-- what a search in turn finds, and what a turn of pass two takes, is a port
module _ (free asked n i : ℕ) (run : List ℕ) (t : Turn n i (length run)) (o : Option Output) where
  pub taken_pair : (last : ℕ) → output_told o ≡ common_in_turn free asked n last → HasNumber o → (k : Output) → o ≡ Some k → PairOf n i k.0
  taken_pair last e h k is =
      record { few = t.few; input = t.port; output = (in_turn_some _ n last k.0 (rw is at e) (rw is at h)).0 }

  pub second_pair : (queues given : List ℕ) → output_told o ≡ second_output free asked n i queues given → HasNumber o → (k : Output) → o ≡ Some k → PairOf n i k.0
  second_pair queues given e h k is = go (has_turn n i (length queues) && leb n (length given)) e
    where
      go : (b : Bool) → output_told o ≡ pick b (common_in_turn free asked n (port_word given i)) 0 → PairOf n i k.0
      go true d = taken_pair (port_word given i) d h k is
      go false d = let z : k.0 ≡ 0 = rw is at d in let s : 1 ≤ k.0 = rw is at h in absurd (omega arith)
