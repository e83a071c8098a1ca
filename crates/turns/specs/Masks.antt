-- A set of outputs as one word, bit j - 1 for output j; and the columns of a row in which two runs have something. Assumes nothing.
use Rattle.std.specs.Prelude.{Bool, ◌&&◌, List, ℕ, ◌+◌, ◌-◌, ◌/◌, ◌%◌, ◌^◌, min, eqb, ltb, get_or}
use Rattle.wsgs.specs.Basics.{pick, between}
use Rattle.wsgs.specs.Steps.{marked}

-- output j stands in the set: bit j - 1 of the word is set
unfoldable pub in_mask : ℕ → ℕ → Bool
in_mask w j = eqb (w / 2 ^ (j - 1) % 2) 1

-- output j is free: it is one of the 32 for which a word has a bit, and its bit is set
unfoldable pub is_free : (free j : ℕ) → Bool
unfolding in_mask
is_free free j = between 1 32 j && in_mask free j

-- the free outputs without output j, which is taken: its bit is cleared, where it is set
unfoldable pub without : (free j : ℕ) → ℕ
unfolding is_free
without free j = pick (is_free free j) (free - 2 ^ (j - 1)) free

-- the set of all outputs 1..n, of which a word has 32
unfoldable pub all_free : ℕ → ℕ
all_free n = 2 ^ min n 32 - 1

-- the columns k below n, from 0 on, of the row that begins at a place, in which the words of two runs are above 0: bit k for column k
unfoldable pub ready_mask : List ℕ → List ℕ → ℕ → ℕ → ℕ
unfolding marked
ready_mask one two row n = marked n (λ j. ltb 0 (get_or one (row + (j - 1)) 0) && ltb 0 (get_or two (row + (j - 1)) 0))
