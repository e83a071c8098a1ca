-- `AskedPair::sum` meets its contract. Assumes nothing.
use mathlib.Core.Path.{◌≡◌, refl, ◌∙◌, ap}
use native.Mathlib.Omega.{arith}
use Rattle.wsgs.specs.Basics.{sum}
use Rattle.book.specs.Lines.{along}
use Rattle.book.specs.Asked.{present}
use Rattle.book.proofs.Laws.Sums.{sum_more, line_by_ports}
use Rattle.book.proofs.asked.AskedPair.sum.Goals as goal

pub loop-at-init : goal.loop-at-init
unfolding sum
loop-at-init c =
    (omega arith, refl, refl, omega arith)

pub loop-at-preserved : goal.loop-at-preserved
loop-at-preserved c = (
  omega arith,
  c.loop-at.invariant.1,
  sum_more (along c.args.line (present c.args.self) c.args.self.pair) _ _ _ c.loop-at.invariant.2 c.booked_at-sum.ensures.result,
  omega (arith, c.booked_at-sum.ensures.fits),
)

pub returns : goal.returns
returns c =
    let a = c.args.self in
    let e : c.loop-at.at ≡ a.clock.ports = omega arith in record {
      result = c.loop-at.invariant.2 ∙ ap (sum (along c.args.line (present a) a.pair)) e ∙ line_by_ports a.clock.ports (present a) a.pair c.args.line;
    }
