-- `BookingRequest::check_sharing` meets its contract: the pairs of the row and those of the column fit, or one does not. Assumes nothing.
use mathlib.Core.Path.{sym, ◌∙◌}
use Rattle.book.proofs.Laws.Sharing.{row_unfit, column_unfit, both_fit}
use Rattle.book.proofs.afterwards.BookingRequest.check_sharing.Goals as goal
use Rattle.book.proofs.afterwards.BookingRequest.check_sharing.Goals.{else-row_fits-via-then-row_fits+else-column_fits, else-row_fits-via-else-row_fits}

pub returns-then-column_fits : goal.returns-then-column_fits
returns-then-column_fits c =
    record {
      refusal = both_fit c.args.self.asked c.args.self.more.0 (sym c.row_fits.ensures.result ∙ c.if-row_fits.true)
          (sym c.column_fits.ensures.result ∙ c.if-column_fits.true);
    }

pub returns : goal.returns
returns c =
    elim c.else-row_fits.branch [
      | else-row_fits-via-then-row_fits+else-column_fits w ↦ record {
        refusal = column_unfit c.args.self.asked c.args.self.more.0 (sym c.row_fits.ensures.result ∙ w.if-row_fits.true)
            (sym w.column_fits.ensures.result ∙ w.if-column_fits.false);
      }
      | else-row_fits-via-else-row_fits w ↦ record { refusal = row_unfit c.args.self.asked c.args.self.more.0 (sym c.row_fits.ensures.result ∙ w.if-row_fits.false) }
    ]
