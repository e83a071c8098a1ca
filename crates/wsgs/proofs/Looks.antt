-- The count of looks: a search looks at no more outputs than are free, at all of these where it gives none, and at one at least where it gives one.
-- Assumes nothing.
use mathlib.Core.Path.{◌≡◌, refl, ◌∙◌}
use mathlib.Core.Bool.{Bool, true, false, ◌&&◌, ◌||◌, and-true}
use Prim.Native.Nat.{ℕ, ◌≤◌}
use native.Mathlib.Omega.{arith}
use lib.Dec.{T, ltb}
use borrow.Author.Tests.{le-leb, ne_eqb}
use Rattle.std.proofs.lemmas.Bool.Decides.{nat_tests}
use Rattle.std.proofs.Math.Facts.{and_yes, yes_and}
use Rattle.wsgs.specs.Basics.{pick, bit, sum, in_turn, looks}
use Rattle.wsgs.proofs.Laws.Tests.{bit_one, bit_under}
use Rattle.wsgs.proofs.Laws.Sums.{sum_le, sum_ext, sum_parts}
use Rattle.wsgs.proofs.Laws.InTurn.{in_turn_some}
use Rattle.wsgs.proofs.Laws.Looks.{looked, looks_counted}

module _ (free permitted : ℕ → Bool) (n last : ℕ) where
  -- what the search gives
  abbrev given : ℕ
  given = in_turn (λ j. free j && permitted j) n last

  -- at most at what is free
  pub looks_bounded : looks free permitted n last ≤ sum (λ j. bit (free j)) n
  looks_bounded = grind (arith, nat_tests, looks_counted, sum_le, bit_under, bit_one)

  -- at all of it where none is given
  pub looks_all : given ≡ 0 → looks free permitted n last ≡ sum (λ j. bit (free j)) n
  looks_all e = looks_counted free permitted n last ∙ sum_ext _ _ n (λ y q. rw (e, and-true (free y)))

  -- at the given one at least
  pub looks_some : 1 ≤ given → 1 ≤ looks free permitted n last
  looks_some h =
      let r = in_turn_some (λ j. free j && permitted j) n last given refl h in
      let own = yes_and (free given) (looked last given given) (and_yes (free given) (permitted given) r.1).0 to_given in
      let one = bit_one (free given && looked last given given) own in
      omega (arith, one, looks_counted free permitted n last, sum_parts (λ y. bit (free y && looked last given y)) n given r.0)
    where
      go : (b : Bool) → T (pick b (b && true) (b || true))
      go true = tt
      go false = tt

      to_given : T (looked last given given)
      to_given = rw (ne_eqb given 0 (omega arith), le-leb given given (omega arith)) (go (ltb last given))
