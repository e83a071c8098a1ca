-- `words::copy_first` meets its contract. Assumes nothing.
use Prim.Native.Nat.{ℕ}
use mathlib.Core.Path.{◌≡◌, refl, ap, ◌∙◌}
use native.Mathlib.Numerals.{add-one}
use native.Mathlib.Omega.{arith}
use borrow.Author.Rules.{rules}
use lib.ListN.{length-set}
use Rattle.wsgs.specs.Words.{copied}
use Rattle.words.proofs.Laws.{copy_more}
use Rattle.words.proofs.copy_first.Goals as goal

pub loop-i-init : goal.loop-i-init
loop-i-init c =
    (search rules, refl, refl)

pub loop-i-preserved : goal.loop-i-preserved
loop-i-preserved c = (
  omega arith,
  rw (c.loop-i.invariant.1, add-one c.loop-i.i)
      (copy_more c.args.from.now c.args.to.now c.loop-i.i (omega arith) (omega arith)),
  simp length-set c.loop-i.invariant.2,
)

pub returns : goal.returns
returns c =
    let e : c.loop-i.i ≡ c.args.count = omega arith in record { to_exit = c.loop-i.invariant.1 ∙ ap (λ (k : ℕ). copied k c.args.from.now c.args.to.now) e }
