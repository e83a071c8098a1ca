-- What a turn goes by and what it answers, for any runs and any numbers. Assumes nothing.
use Rattle.std.specs.Prelude.{◌≡◌, ◌≤◌, Bool, ◌&&◌, List, ℕ, ◌+◌, ◌-◌, ◌*◌, leb, ltb, length}
use Rattle.wsgs.specs.Basics.{pick, Port, in_turn, looks}
use Rattle.wsgs.specs.Words.{word, port_word}
use Rattle.wsgs.specs.Steps.{marked}
use Rattle.words.specs.Places.{is_port}
use Rattle.turns.specs.Masks.{in_mask}

-- input i of n ports has a turn on a run of so many words: it is one of at most 32 ports, and the run holds a word for each pair
unfoldable pub has_turn : (n i words : ℕ) → Bool
unfolding is_port
has_turn n i words = is_port n i && leb (n * n) words

-- which says that
pub record Turn (n i words : ℕ) : Type 0 where
  pub few : n ≤ 32
  pub port : Port n i
  pub long : n * n ≤ words

-- and the input's row begins at a place of the run
pub record RowOf (n i words row : ℕ) : Type 0 where
  pub turn : Turn n i words
  pub begin : row ≡ (i - 1) * n
  pub within : row + n ≤ n * n

-- the first in turn of the outputs 1..n that stand in two sets, or 0
abbrev pub common_in_turn : (free asked n last : ℕ) → ℕ
common_in_turn free asked n last = in_turn (λ j. in_mask free j && in_mask asked j) n last

-- what input i asks for, bit j - 1 for output j, and nothing where it has no turn: in pass one the outputs for which it has a credit and a packet,
abbrev pub first_requested : (n i : ℕ) (credits queues : List ℕ) → ℕ
first_requested n i credits queues =
    pick (has_turn n i (length credits) && has_turn n i (length queues)) (marked n (λ j. ltb 0 (word n credits i j) && ltb 0 (word n queues i j))) 0

-- and in pass two those for which it has a packet
abbrev pub second_requested : (n i : ℕ) (queues : List ℕ) → ℕ
second_requested n i queues = pick (has_turn n i (length queues)) (marked n (λ j. ltb 0 (word n queues i j))) 0

-- what a turn of input i answers that asks for some outputs, and 0 where it has none: of those that are free and asked for, the first from one past the
-- output that the input was last given; in pass two,
abbrev pub second_output : (free asked n i : ℕ) (queues given : List ℕ) → ℕ
second_output free asked n i queues given =
    pick (has_turn n i (length queues) && leb n (length given)) (common_in_turn free asked n (port_word given i)) 0

-- and in pass one, which needs a run of credits too
abbrev pub first_output : (free asked n i : ℕ) (credits queues given : List ℕ) → ℕ
first_output free asked n i credits queues given = pick (has_turn n i (length credits)) (second_output free asked n i queues given) 0

-- at how many free outputs it looks for that, 0 where it has no turn; in pass two,
abbrev pub second_looks : (free asked n i : ℕ) (queues given : List ℕ) → ℕ
second_looks free asked n i queues given =
    pick (has_turn n i (length queues) && leb n (length given)) (looks (in_mask free) (in_mask asked) n (port_word given i)) 0

-- and in pass one
abbrev pub first_looks : (free asked n i : ℕ) (credits queues given : List ℕ) → ℕ
first_looks free asked n i credits queues given = pick (has_turn n i (length credits)) (second_looks free asked n i queues given) 0
