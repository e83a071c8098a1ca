-- The output that a turn gives, what that costs, and what it notes. Assumes nothing.
use Rattle.std.specs.Prelude.{List, ℕ, ltb, ◌≤◌, Option, Some, None, IfSome}
use Rattle.wsgs.specs.declared.Output.{Output}
use Rattle.wsgs.specs.Basics.{pick, Port}
use Rattle.wsgs.specs.Words.{less_one, put_port}

-- the number of the output that a turn gives, 0 for none; and one that is given has a number from 1 on
abbrev pub output_told : Option Output → ℕ
output_told None = 0
output_told (Some j) = j.0

abbrev pub HasNumber : Option Output → Type 0
HasNumber o = IfSome o (λ j. 1 ≤ j.0)

-- i and j are ports of n, which are at most 32
pub record PairOf (n i j : ℕ) : Type 0 where
  pub few : n ≤ 32
  pub input : Port n i
  pub output : Port n j

-- a matrix with one less at the pair of input i and its output j, if it has one
unfoldable pub charged : ℕ → List ℕ → ℕ → ℕ → List ℕ
unfolding less_one
charged n m i j = pick (ltb 0 j) (less_one n m i j) m

-- the words of the outputs last given, with output j for input i, if it has one
unfoldable pub noted : List ℕ → ℕ → ℕ → List ℕ
unfolding put_port
noted given i j = pick (ltb 0 j) (put_port given i j) given
