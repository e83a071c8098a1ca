-- `BookingRequest::fits_at` meets its contract. Assumes nothing.
use mathlib.Core.Path.{◌∙◌, ap}
use Rattle.wsgs.specs.Basics.{Port}
use Rattle.wsgs.specs.Rule.{booked_fits}
use Rattle.book.specs.Afterwards.{afterwards, fits_along}
use Rattle.book.proofs.Laws.Sums.{ports_at}
use Rattle.book.proofs.Laws.Afterwards.{row_at, column_at, row_small, column_small}
use Rattle.book.proofs.Laws.Sharing.{fits_from}
use Rattle.book.proofs.afterwards.BookingRequest.fits_at.Goals as goal
use Rattle.book.proofs.afterwards.BookingRequest.fits_at.Goals.{After-booked}

-- the pair has two ports
inside : (c : After-booked) → Port c.args.self.asked.clock.ports c.pair_at-other.result.input.0 × Port c.args.self.asked.clock.ports c.pair_at-other.result.output.0
inside c =
    let a = c.args.self.asked in
    rw c.pair_at-other.ensures.result (ports_at a.clock.ports (λ x y. x) a.pair c.args.line c.args.port a.reached.input a.reached.output c.requires.port_in_range)

pub pair_fits-requires-clause-row_fits : goal.pair_fits-requires-clause-row_fits
pair_fits-requires-clause-row_fits c =
    row_small c.args.self c.args.totals.now c.requires.totals _ (inside c).0

pub pair_fits-requires-clause-column_fits : goal.pair_fits-requires-clause-column_fits
pair_fits-requires-clause-column_fits c =
    column_small c.args.self c.args.totals.now c.requires.totals _ (inside c).1

pub returns : goal.returns
unfolding fits_along
returns c =
    let q = c.args.self in
    let n = q.asked.clock.ports in
    let inside = inside (goal.at.returns c).After-booked in
    let e = fits_from n q.asked.clock.frame (afterwards q.asked q.more.0) _ _ _ _ _ c.booked.ensures.result (row_at n (afterwards q.asked q.more.0) _ _ inside.0 c.requires.totals.rows)
    (column_at n (afterwards q.asked q.more.0) _ _ inside.1 c.requires.totals.columns) in
    record { result = c.pair_fits.ensures.result ∙ e ∙ ap (λ o. booked_fits n q.asked.clock.frame (afterwards q.asked q.more.0) o.input.0 o.output.0) c.pair_at-other.ensures.result }
