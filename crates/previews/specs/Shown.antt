-- Beside which numbers a preview shows the sums, and with which booking of the pair. Assumes nothing.
use Rattle.std.specs.Prelude.{Bool, true, ℕ, ◌+◌, ◌-◌, ◌≤◌, eqb}
use Rattle.wsgs.specs.declared.Clock.{Clock}
use Rattle.wsgs.specs.Basics.{pick}
use Rattle.wsgs.specs.Bookings.{booking}
use Rattle.wsgs.specs.Preview.{refused_by_rule}
use Rattle.bookings.specs.Rises.{rise_of}
use Rattle.book.specs.declared.operations.BookOperation.{BookOperation}
use Rattle.book.specs.declared.operations.BookOperation.TheVariants as Asked
use Rattle.book.specs.declared.pair_sums.PairSums.{PairSums}

-- where the operation is accepted, and where the book's rule refuses it
unfoldable pub shows_sums : ℕ → Bool
shows_sums r = pick (eqb r 0) true (refused_by_rule r)

-- the booking of a pair after an operation, from what the book holds for it: raised by what a booking counts as, or the one that a release leaves
abbrev pub booking_after : BookOperation → Clock → PairSums → ℕ
booking_after (Asked.Book d) c p = p.booking + d.0
booking_after (Asked.BookRate r) c p = p.booking + rise_of c.frame c.line p.slots p.rate r
booking_after (Asked.Release d) c p = booking c.frame c.line (p.slots - d.0) p.rate
booking_after (Asked.ReleaseRate r) c p = booking c.frame c.line p.slots (p.rate - r)

-- an amount whose question was answered yes, and which is held where it is taken off
abbrev pub AmountFits : BookOperation → PairSums → Type 0
AmountFits (Asked.Book d) p = d.0 ≤ 10000
AmountFits (Asked.BookRate r) p = r ≤ 100000000
AmountFits (Asked.Release d) p = d.0 ≤ p.slots
AmountFits (Asked.ReleaseRate r) p = r ≤ p.rate
