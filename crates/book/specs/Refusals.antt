-- What the private functions of this crate answer, in the terms of the shared definitions, and what they require. Assumes nothing.
use Rattle.std.specs.Prelude.{true, false, List, [], ◌∷◌, ℕ, ◌*◌, ◌≤◌, length}
use Rattle.wsgs.specs.declared.Clock.{Clock}
use Rattle.wsgs.specs.Basics.{Port}
use Rattle.wsgs.specs.Bookings.{Book, bookings}
use Rattle.wsgs.specs.Questions.{first_no, enough_held, queue_can_take}
use Rattle.wsgs.specs.Rule.{rule}
use Rattle.wsgs.specs.Book.{on_rule}

-- the last questions of a call: of a booking that counts as d, 8 and 9 on a plain book, 15 on a fine one, and those of the kind that the clock tells; of a
-- release from the run m, 10; of an arrival, 11
unfoldable pub sums_refusal : Clock → Book → ℕ → ℕ → ℕ → ℕ
unfolding first_no bookings
sums_refusal c m i j d = first_no (rule false c.ports c.frame (bookings c.ports c.frame c.line m) i j d)

unfoldable pub pairs_refusal : Clock → Book → ℕ → ℕ → ℕ → ℕ
unfolding first_no bookings
pairs_refusal c m i j d = first_no (rule true c.ports c.frame (bookings c.ports c.frame c.line m) i j d)

unfoldable pub rule_refusal : Clock → Book → ℕ → ℕ → ℕ → ℕ
unfolding first_no
rule_refusal c m i j d = first_no (on_rule c m i j d)

unfoldable pub held_refusal : ℕ → List ℕ → ℕ → ℕ → ℕ → ℕ
unfolding first_no
held_refusal n m i j d = first_no (enough_held n m i j d ∷ [])

unfoldable pub queue_refusal : ℕ → List ℕ → ℕ → ℕ → ℕ → ℕ
unfolding first_no
queue_refusal n q i j d = first_no (queue_can_take n q i j d ∷ [])

-- a run holds a matrix over the pairs of at most 32 ports
pub record MatrixFits (n : ℕ) (m : List ℕ) : Type 0 where
  pub ports : n ≤ 32
  pub long : n * n ≤ length m

-- both runs of a book do
pub record BookFits (n : ℕ) (m : Book) : Type 0 where
  pub slots : MatrixFits n m.slots
  pub rates : MatrixFits n m.rates

-- and one of these pairs
pub record PairFits (n : ℕ) (m : List ℕ) (i j : ℕ) : Type 0 where
  pub matrix : MatrixFits n m
  pub input : Port n i
  pub output : Port n j
