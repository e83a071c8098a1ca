-- The operations on a book with their amounts, as the definitions have them: what each is asked, and its refusal. Assumes nothing.
use Rattle.std.specs.Prelude.{ℕ}
use Rattle.wsgs.specs.declared.Clock.{Clock}
use Rattle.wsgs.specs.Bookings.{Book}
use Rattle.wsgs.specs.Questions.{Question, slots_in_range, rate_in_range}
use Rattle.wsgs.specs.Book.{rise, book_refusal, rate_refusal, release_refusal, release_rate_refusal}
use Rattle.wsgs.specs.Preview as Preview
use Rattle.book.specs.declared.operations.BookOperation.{BookOperation}
use Rattle.book.specs.declared.operations.BookOperation.TheVariants as Asked
use Rattle.book.specs.Refusals.{rule_refusal, held_refusal}

-- the operation, and its amount
abbrev pub operation_told : BookOperation → Preview.BookOperation
operation_told (Asked.Book d) = Preview.slots_booking
operation_told (Asked.BookRate r) = Preview.rate_booking
operation_told (Asked.Release d) = Preview.slots_release
operation_told (Asked.ReleaseRate r) = Preview.rate_release

abbrev pub amount_told : BookOperation → ℕ
amount_told (Asked.Book d) = d.0
amount_told (Asked.BookRate r) = r
amount_told (Asked.Release d) = d.0
amount_told (Asked.ReleaseRate r) = r

-- its refusal
abbrev pub operation_refusal : BookOperation → Clock → Book → ℕ → ℕ → ℕ
operation_refusal (Asked.Book d) c m i j = book_refusal c m i j d.0
operation_refusal (Asked.BookRate r) c m i j = rate_refusal c m i j r
operation_refusal (Asked.Release d) c m i j = release_refusal c m i j d.0
operation_refusal (Asked.ReleaseRate r) c m i j = release_rate_refusal c m i j r

-- after the questions on the pair it is asked whether its amount is in range, and then what refuses it last
abbrev pub amount_asked : BookOperation → Clock → Question
amount_asked (Asked.Book d) c = slots_in_range c.frame d.0
amount_asked (Asked.BookRate r) c = rate_in_range c.line r
amount_asked (Asked.Release d) c = slots_in_range c.frame d.0
amount_asked (Asked.ReleaseRate r) c = rate_in_range c.line r

abbrev pub last_refusal : BookOperation → Clock → Book → ℕ → ℕ → ℕ
last_refusal (Asked.Book d) c m i j = rule_refusal c m i j d.0
last_refusal (Asked.BookRate r) c m i j = rule_refusal c m i j (rise c m i j r)
last_refusal (Asked.Release d) c m i j = held_refusal c.ports m.slots i j d.0
last_refusal (Asked.ReleaseRate r) c m i j = held_refusal c.ports m.rates i j r
