-- What a turn costs and notes that takes an output, and one that takes none. Assumes nothing.
use mathlib.Core.Path.{◌≡◌, refl, sym, ◌∙◌}
use mathlib.Core.Bool.{Bool, true, false, true≢false}
use mathlib.Core.List.{List}
use Prim.Native.Nat.{ℕ, ◌-◌, ◌≤◌}
use native.Mathlib.Omega.{arith}
use borrow.Author.Tests.{lt-ltb, le-ltb}
use lib.Dec.{ltb}
use lib.ListN.{length, length-set}
use Rattle.std.specs.Prelude.{Option, Some, None, is_some}
use Rattle.wsgs.specs.declared.Output.{Output}
use Rattle.wsgs.specs.Basics.{pick}
use Rattle.wsgs.specs.Words.{less_one, put_port}
use Rattle.wsgs.proofs.Laws.Words.{less_length}
use Rattle.turns.specs.Charges.{output_told, HasNumber, charged, noted}

module _ (n : ℕ) (m : List ℕ) (i j : ℕ) where
  -- one that takes output j
  pub charged_some : 1 ≤ j → charged n m i j ≡ less_one n m i j
  unfolding charged
  charged_some h = rw (lt-ltb 0 j h)

  -- one that takes none
  pub charged_none : j ≤ 0 → charged n m i j ≡ m
  unfolding charged
  charged_none h = rw (le-ltb 0 j h)

  -- either leaves as many words
  pub charged_length : length (charged n m i j) ≡ length m
  unfolding charged
  charged_length = go (ltb 0 j)
    where
      go : (b : Bool) → length (pick b (less_one n m i j) m) ≡ length m
      go true = less_length n m i j
      go false = refl

module _ (given : List ℕ) (i j : ℕ) where
  pub noted_some : 1 ≤ j → noted given i j ≡ put_port given i j
  unfolding noted
  noted_some h = rw (lt-ltb 0 j h)

  pub noted_none : j ≤ 0 → noted given i j ≡ given
  unfolding noted
  noted_none h = rw (le-ltb 0 j h)

  pub noted_length : length (noted given i j) ≡ length given
  unfolding noted put_port
  noted_length = go (ltb 0 j)
    where
      go : (b : Bool) → length (pick b (put_port given i j) given) ≡ length given
      go true = length-set given (i - 1) j
      go false = refl

-- an output that is given has a number from 1 on, and none has 0
pub numbered : (o : Option Output) {b : Bool} → HasNumber o → b ≡ is_some o → b ≡ true → 1 ≤ output_told o
numbered None h e t = absurd (true≢false (sym t ∙ e))
numbered (Some j) h e t = h

pub unnumbered : (o : Option Output) {b : Bool} → b ≡ is_some o → b ≡ false → output_told o ≤ 0
unnumbered None e t = omega arith
unnumbered (Some j) e t = absurd (true≢false (sym e ∙ t))
