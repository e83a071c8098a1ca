-- The loop's invariant: the sum is that of the first bookings of the line, each below 2 ^ 32.
use Rattle.std.proofs.Common.{◌≡◌, ◌-◌, ◌*◌, ◌≤◌}
use Rattle.wsgs.specs.Basics.{sum}
use Rattle.book.specs.Lines.{along}
use Rattle.book.specs.Asked.{present}
use Rattle.book.proofs.asked.AskedPair.sum.Given as goal

abbrev pub invariant-loop-at : goal.invariant-loop-at
invariant-loop-at l = (l.at ≤ l.self.clock.ports) × (l.at-end ≡ l.self.clock.ports)
    × (l.sum ≡ sum (along l.line (present l.self) l.self.pair) l.at)
    × (l.sum ≤ 4294967296 * l.at)

abbrev pub decreases-loop-at : goal.decreases-loop-at
decreases-loop-at l = l.self.clock.ports - l.at
