-- `previews::preview_operation` meets its contract: the sums are hidden, or those with the booking that follows. Assumes nothing.
use mathlib.Core.Path.{◌≡◌, sym, ◌∙◌, ap}
use Prim.Native.Nat.{◌^◌, ◌<◌}
use native.Mathlib.Omega.{arith}
use Rattle.wsgs.specs.Questions.{holds_book}
use Rattle.wsgs.specs.Claims.{Reached}
use Rattle.wsgs.specs.Told.{book_lent, refusal_number}
use Rattle.wsgs.proofs.Preview.{none_shown, with_booking}
use Rattle.book.specs.PairSums.{present_sums}
use Rattle.book.specs.Operations.{operation_told, amount_told}
use Rattle.previews.specs.Shown.{AmountFits, booking_after}
use Rattle.previews.proofs.Laws.Previews.{Shown, sums_shown, sums_hidden, own_in_both, sums_with, operation_reached, operation_shows, operation_answers, pair_given, pair_sums_are, amount_fits_held}
use Rattle.previews.proofs.preview_operation.Goals as goal
use Rattle.previews.proofs.preview_operation.Goals.{Else-not-shows_sums, After-unwrap-present}

-- the sums are shown, so pair and amount have passed
sums : (c : Else-not-shows_sums) → Shown (refusal_number c.check_operation-outcome.result)
sums c = sums_shown _ (sym c.if-not-shows_sums.ensures.result)

reached : (c : Else-not-shows_sums) → Reached c.args.clock (holds_book c.args.clock.ports (book_lent c.args.book)) c.args.pair.input.0 c.args.pair.output.0
    × AmountFits c.args.operation (present_sums c.args.clock (book_lent c.args.book) c.args.pair.input.0 c.args.pair.output.0)
reached c =
    operation_reached c.args.clock (book_lent c.args.book) c.args.pair.input.0 c.args.pair.output.0 _ (sums c) c.args.operation c.check_operation-outcome.ensures.refusal

-- and the present sums are there
held : (c : After-unwrap-present) → c.unwrap-present.result ≡ present_sums c.args.clock (book_lent c.args.book) c.args.pair.input.0 c.args.pair.output.0
held c = pair_sums_are c.pair_sums.result _ _ c.unwrap-present.ensures c.pair_sums.ensures.sums

pub returns-then-not-shows_sums : goal.returns-then-not-shows_sums
returns-then-not-shows_sums c =
    let h = sums_hidden _ (sym c.if-not-shows_sums.ensures.result) in
    record {
      result = c.without_sums.ensures.result
          ∙ none_shown (operation_told c.args.operation) c.args.clock (book_lent c.args.book) _ _ (amount_told c.args.operation) _
          (c.check_operation-outcome.ensures.refusal ∙ operation_answers c.args.operation c.args.clock (book_lent c.args.book) _ _) h.0 h.1;
    }

pub unwrap-present-requires : goal.unwrap-present-requires
unwrap-present-requires c =
    let reached = reached (goal.at.unwrap-present-requires c).Else-not-shows_sums in
    pair_given c.args.clock (book_lent c.args.book) c.args.pair.input.0 c.args.pair.output.0 _ c.pair_sums.ensures.refusal reached.0

pub booking_after-booking-requires-clause-amount_fits : goal.booking_after-booking-requires-clause-amount_fits
booking_after-booking-requires-clause-amount_fits c =
    let reached = reached (goal.at.booking_after-booking-requires-clause-amount_fits c).Else-not-shows_sums in
    amount_fits_held c.args.operation _ _ (held c) reached.1

pub booking_after-booking-requires-clause-present_fits : goal.booking_after-booking-requires-clause-present_fits
booking_after-booking-requires-clause-present_fits c =
    let reached = reached (goal.at.booking_after-booking-requires-clause-present_fits c).Else-not-shows_sums in
    let small : c.unwrap-present.result.row < 2 ^ 38 = rw c.unwrap-present.ensures at c.pair_sums.ensures.row_fits in
    omega (arith, (own_in_both c.args.clock (book_lent c.args.book) _ _ reached.0 _ (held c)).0)

pub with_booking-requires-clause-own_in_row : goal.with_booking-requires-clause-own_in_row
with_booking-requires-clause-own_in_row c =
    let held = held (goal.at.with_booking-requires-clause-own_in_row c).After-unwrap-present in
    let reached = reached (goal.at.with_booking-requires-clause-own_in_row c).Else-not-shows_sums in
    (own_in_both c.args.clock (book_lent c.args.book) _ _ reached.0 _ held).0

pub with_booking-requires-clause-own_in_column : goal.with_booking-requires-clause-own_in_column
with_booking-requires-clause-own_in_column c =
    let held = held (goal.at.with_booking-requires-clause-own_in_column c).After-unwrap-present in
    let reached = reached (goal.at.with_booking-requires-clause-own_in_column c).Else-not-shows_sums in
    (own_in_both c.args.clock (book_lent c.args.book) _ _ reached.0 _ held).1

pub returns : goal.returns
returns c =
    let held = held (goal.at.returns c).After-unwrap-present in
    let sums = sums (goal.at.returns c).Else-not-shows_sums in
    let reached = reached (goal.at.returns c).Else-not-shows_sums in
    let m = book_lent c.args.book in
    let i = c.args.pair.input.0 in
    let j = c.args.pair.output.0 in
    let n = refusal_number c.check_operation-outcome.result in
    record {
      result = c.with_booking.ensures.result
          ∙ sums_with c.args.clock m i j reached.0 c.unwrap-present.result held n c.booking_after-booking.result
          ∙ ap (with_booking c.args.clock m i j n) (c.booking_after-booking.ensures.result ∙ ap (booking_after c.args.operation c.args.clock) held)
          ∙ operation_shows c.args.clock m i j n sums c.args.operation c.check_operation-outcome.ensures.refusal;
    }
