-- Where words stand in a lent run of n × n words, for any numbers. Assumes nothing.
use Rattle.std.specs.Prelude.{Bool, ◌&&◌, ℕ, ◌-◌, ◌*◌, leb}
use Rattle.wsgs.specs.Basics.{pick, between}
use Rattle.wsgs.specs.Words.{place}

-- x is one of n ports, which are at most 32
unfoldable pub is_port : (n x : ℕ) → Bool
is_port n x = leb n 32 && between 1 n x

-- where the row of input i begins, from 0, and 0 where i is no port
unfoldable pub row_of : (n i : ℕ) → ℕ
unfolding is_port
row_of n i = pick (is_port n i) ((i - 1) * n) 0

-- where the word of the pair (i, j) stands, from 0, and 0 where one of the two is no port
unfoldable pub place_of : (n i j : ℕ) → ℕ
unfolding is_port place
place_of n i j = pick (is_port n i && is_port n j) (place n i j) 0
