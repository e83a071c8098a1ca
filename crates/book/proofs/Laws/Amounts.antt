-- Laws of amounts: what questions 8 to 11 make of one that is in range. Assumes nothing.
use mathlib.Core.Path.{◌≡◌, ◌∙◌}
use mathlib.Core.Bool.{true}
use mathlib.Core.List.{List}
use Prim.Native.Nat.{ℕ, ◌+◌, ◌*◌, ◌≤◌, ◌<◌}
use borrow.Author.Tests.{le-leb, lt-leb}
use Rattle.wsgs.specs.declared.Clock.{Clock}
use Rattle.wsgs.specs.Words.{word}
use Rattle.wsgs.specs.Bookings.{Book, bookings, row_sum, column_sum}
use Rattle.wsgs.specs.Basics.{between}
use Rattle.wsgs.specs.Questions.{rate_in_range}
use Rattle.wsgs.specs.Book.{rise}
use Rattle.std.proofs.Math.Facts.{and_yes}
use Rattle.wsgs.proofs.Laws.Tests.{in_range}
use Rattle.bookings.specs.Rises.{rise_of}
use Rattle.bookings.proofs.Laws.{rise_is}
use Rattle.book.specs.Refusals.{sums_refusal, held_refusal, queue_refusal}

module _ (c : Clock) (m : Book) (i j d : ℕ) where
  abbrev n : ℕ
  n = c.ports

  abbrev a : ℕ → ℕ → ℕ
  a = bookings n c.frame c.line m

  -- a row that is full
  pub row_full : c.frame + 1 < 2 * (row_sum n a i + d) → 8 ≡ sums_refusal c m i j d
  unfolding sums_refusal
  row_full h = rw (lt-leb _ _ h)

  module _ (row : 2 * (row_sum n a i + d) ≤ c.frame + 1) where
    -- a column that is full
    pub column_full : c.frame + 1 < 2 * (column_sum n a j + d) → 9 ≡ sums_refusal c m i j d
    unfolding sums_refusal
    column_full h = rw (le-leb _ _ row, lt-leb _ _ h)

    -- neither
    pub both_admit : 2 * (column_sum n a j + d) ≤ c.frame + 1 → 0 ≡ sums_refusal c m i j d
    unfolding sums_refusal
    both_admit h = rw (le-leb _ _ row, le-leb _ _ h)

-- the rise by a rate, from the words of the pair
pub rises_by : (c : Clock) (m : Book) (i j r s v d : ℕ) → c.frame ≤ 10000 → s ≡ word c.ports m.slots i j → v ≡ word c.ports m.rates i j
    → d ≡ rise_of c.frame c.line s v r → d ≡ rise c m i j r
unfolding rise
rises_by c m i j r s v d h e g u = u ∙ rise_is c.frame c.line s v r h ∙ rw (e, g)

module _ (n : ℕ) (m : List ℕ) (i j d : ℕ) where
  -- less is held than is taken off; and as much
  pub too_little_held : word n m i j < d → 10 ≡ held_refusal n m i j d
  unfolding held_refusal
  too_little_held h = rw (lt-leb _ _ h)

  pub enough_is_held : d ≤ word n m i j → 0 ≡ held_refusal n m i j d
  unfolding held_refusal
  enough_is_held h = rw (le-leb _ _ h)

  -- a queue that is full; and one that is not
  pub queue_full : 1000000 < word n m i j + d → 11 ≡ queue_refusal n m i j d
  unfolding queue_refusal
  queue_full h = rw (lt-leb _ _ h)

  pub queue_takes : word n m i j + d ≤ 1000000 → 0 ≡ queue_refusal n m i j d
  unfolding queue_refusal
  queue_takes h = rw (le-leb _ _ h)

-- an amount in range
pub amount_few : (high d : ℕ) → between 1 high d ≡ true → d ≤ high
amount_few high d e = (in_range 1 high d (rw e tt)).1

-- a line rate and a rate in range
pub rate_asked : (line rate : ℕ) → (rate_in_range line rate).yes ≡ true → ((1 ≤ line) × (line ≤ 100000000)) × (rate ≤ line)
rate_asked line rate e =
    let p = and_yes (between 1 100000000 line) (between 1 line rate) (rw e tt) in
    (in_range 1 100000000 line p.0, (in_range 1 line rate p.1).1)
