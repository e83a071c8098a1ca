-- Laws of questions put in turn: the first that is answered no gives its number, and questions that are all answered yes leave it to those
-- after them. They hold by cases on the answers. And what has been asked where the questions on sizes and runs are answered yes. Assumes nothing.
use mathlib.Core.Path.{◌≡◌, refl, ◌∙◌}
use mathlib.Core.Bool.{Bool, true, false, not}
use mathlib.Core.List.{List, [], ◌∷◌, ◌++◌}
use mathlib.Core.Logic.{◌≢◌, ◌⊎◌, inl, inr}
use Prim.Native.Nat.{ℕ, ◌*◌, ◌≤◌, ◌<◌}
use native.Mathlib.Omega.{arith}
use lib.Dec.{T, eqb}
use lib.ListN.{length}
use borrow.Author.Tests.{eq-eqb, lt-ltb, le-ltb}
use Rattle.std.proofs.lemmas.Bool.Decides.{nat_tests}
use Rattle.wsgs.specs.Basics.{pick}
use Rattle.wsgs.specs.Questions.{Question, first_no, clock_can_advance}
use Rattle.wsgs.specs.Direct
use Rattle.wsgs.specs.Pipelined
use Rattle.wsgs.proofs.Laws.Tests.{holds}

-- every question of a list is answered yes
abbrev pub Yes : List Question → Type 0
Yes [] = Unit {0}
Yes (q ∷ qs) = T q.yes × Yes qs

-- the questions have numbers from 1 on
abbrev pub Numbered : List Question → Type 0
Numbered [] = Unit {0}
Numbered (q ∷ qs) = (1 ≤ q.number) × Numbered qs

-- where none is left the call is accepted
pub none_left : 0 ≡ first_no []
unfolding first_no
none_left = refl

-- a question that is answered no gives its number
pub asked_no : (q : Question) (qs : List Question) → q.yes ≡ false → q.number ≡ first_no (q ∷ qs)
unfolding first_no
asked_no q qs e = rw e

-- one that is answered yes leaves it to the next
pub asked_yes : (q : Question) (qs : List Question) → q.yes ≡ true → first_no qs ≡ first_no (q ∷ qs)
unfolding first_no
asked_yes q qs e = rw e

-- an accepted call has a yes to each
pub all_yes : (qs : List Question) → Numbered qs → first_no qs ≡ 0 → Yes qs
unfolding first_no
all_yes [] k e = tt
all_yes (q ∷ qs) k e = go q.yes e (all_yes qs k.1)
  where
    go : (b : Bool) → pick b (first_no qs) q.number ≡ 0 → (first_no qs ≡ 0 → Yes qs) → T b × Yes qs
    go true e r = (tt, r e)
    go false e r = absurd (omega (arith, k.0))

-- and a call with a yes to each is accepted
pub yes_all : (qs : List Question) → Yes qs → first_no qs ≡ 0
unfolding first_no
yes_all [] y = refl
yes_all (q ∷ qs) y = rw (holds q.yes y.0) (yes_all qs y.1)

-- questions that are all answered yes leave it to those after them
pub rest_decides : (qs rs : List Question) → Numbered qs → 0 ≡ first_no qs → first_no rs ≡ first_no (qs ++ rs)
unfolding first_no
rest_decides [] rs k e = refl
rest_decides (q ∷ qs) rs k e = go q.yes e (rest_decides qs rs k.1)
  where
    go : (b : Bool) → 0 ≡ pick b (first_no qs) q.number → (0 ≡ first_no qs → first_no rs ≡ first_no (qs ++ rs))
        → first_no rs ≡ pick b (first_no (qs ++ rs)) q.number
    go true e h = h e
    go false e h = absurd (omega (arith, k.0))

-- and else give the number, whatever follows
pub some_no : (qs rs : List Question) (r : ℕ) → r ≡ first_no qs → r ≢ 0 → r ≡ first_no (qs ++ rs)
unfolding first_no
some_no [] rs r e h = absurd (h e)
some_no (q ∷ qs) rs r e h = go q.yes e (λ d. some_no qs rs r d h)
  where
    go : (b : Bool) → r ≡ pick b (first_no qs) q.number → (r ≡ first_no qs → r ≡ first_no (qs ++ rs))
        → r ≡ pick b (first_no (qs ++ rs)) q.number
    go true e h = h e
    go false e h = e

-- all numbers are at most k
abbrev pub UpTo : ℕ → List Question → Type 0
UpTo k [] = Unit {0}
UpTo k (q ∷ qs) = (q.number ≤ k) × UpTo k qs

-- so no number, or one above k, says that all are answered yes, whatever follows
pub passed : (k : ℕ) (qs rs : List Question) → UpTo k qs → Numbered qs → (first_no (qs ++ rs) ≡ 0) ⊎ (k < first_no (qs ++ rs)) → first_no qs ≡ 0
unfolding first_no
passed k [] rs u p h = refl
passed k (q ∷ qs) rs u p h = go q.yes h (passed k qs rs u.1 p.1)
  where
    go : (b : Bool) → (pick b (first_no (qs ++ rs)) q.number ≡ 0) ⊎ (k < pick b (first_no (qs ++ rs)) q.number)
        → ((first_no (qs ++ rs) ≡ 0) ⊎ (k < first_no (qs ++ rs)) → first_no qs ≡ 0) → pick b (first_no qs) q.number ≡ 0
    go true h r = r h
    go false (inl e) r = e
    go false (inr l) r = absurd (omega (arith, u.0))

-- no question has the number k
abbrev pub Without : ℕ → List Question → Type 0
Without k [] = Unit {0}
Without k (q ∷ qs) = T (not (eqb q.number k)) × Without k qs

-- so none gives it
pub never : (k : ℕ) (qs : List Question) → 1 ≤ k → Without k qs → first_no qs ≢ k
unfolding first_no
never k [] p w = λ e. omega arith
never k (q ∷ qs) p w = go q.yes (never k qs p w.1)
  where
    go : (b : Bool) → first_no qs ≢ k → pick b (first_no qs) q.number ≢ k
    go true h = h
    go false h = λ e. rw (eq-eqb q.number k e) at w.0

-- the question on the clock
pub clock_stands : (slot : ℕ) → 4000000000 ≤ slot → 7 ≡ first_no (clock_can_advance slot ∷ [])
clock_stands slot h = asked_no _ _ (le-ltb slot 4000000000 h)

pub clock_advances : (slot : ℕ) → slot < 4000000000 → 0 ≡ first_no (clock_can_advance slot ∷ [])
clock_advances slot h = none_left ∙ asked_yes _ _ (lt-ltb slot 4000000000 h)

-- the runs of a direct switch are long enough
pub record DirectLong (n : ℕ) (w : Direct.Runs) : Type 0 where
  pub slots : n * n ≤ length w.book.slots
  pub rates : n * n ≤ length w.book.rates
  pub credits : n * n ≤ length w.credits
  pub queues : n * n ≤ length w.queues
  pub given : n ≤ length w.given

-- those that the turns of a pipelined tick change, and all that it borrows
pub record TurningLong (n : ℕ) (w : Pipelined.TurnRuns) : Type 0 where
  pub credits : n * n ≤ length w.credits
  pub queues : n * n ≤ length w.queues
  pub given : n ≤ length w.given
  pub flight : 2 * n * n ≤ length w.flight

pub record PipelinedLong (n : ℕ) (w : Pipelined.Runs) : Type 0 where
  pub slots : n * n ≤ length w.book.slots
  pub rates : n * n ≤ length w.book.rates
  pub copy : n * n ≤ length w.copy
  pub sized : TurningLong n (Pipelined.turn_runs w)

-- what has been asked of sizes and runs where the questions of a form, and those after them, are answered yes
pub record Asked (n f : ℕ) (Long : Type 0) (qs : List Question) : Type 0 where
  pub ports : (1 ≤ n) × (n ≤ 32)
  pub frame : (1 ≤ f) × (f ≤ 10000)
  pub long : Long
  pub later : Yes qs

pub direct_yes : (n f : ℕ) (w : Direct.Runs) (qs : List Question) → Yes (Direct.questions n f w qs) → Asked n f (DirectLong n w) qs
direct_yes n f w qs y = grind (arith, nat_tests)

pub pipelined_yes : (n f : ℕ) (w : Pipelined.Runs) (qs : List Question) → Yes (Pipelined.questions n f w qs)
    → (n ≤ f) × Asked n f (PipelinedLong n w) qs
pipelined_yes n f w qs y = grind (arith, nat_tests)
