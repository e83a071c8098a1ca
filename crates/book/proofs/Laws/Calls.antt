-- Laws of the calls on a pair. Each asks about the pair, then about its amount, then the rest, and one law says what number it gives, by where it
-- ends. A number leaves the words as they were, and 0 leaves them changed. Assumes nothing.
use mathlib.Core.Path.{◌≡◌, refl, sym, ◌∙◌}
use mathlib.Core.Bool.{Bool, true, false}
use mathlib.Core.List.{List, [], ◌∷◌}
use mathlib.Core.Logic.{◌≢◌}
use Prim.Native.Nat.{ℕ, ◌≤◌}
use native.Mathlib.Omega.{arith}
use borrow.Author.Tests.{ne_eqb}
use Rattle.wsgs.specs.declared.Clock.{Clock}
use Rattle.wsgs.specs.Bookings.{Book}
use Rattle.wsgs.specs.Questions.{Question, first_no, slots_in_range, packets_in_range, rate_in_range, enough_held, queue_can_take, holds_pairs, holds_book, on_pair, accepted, effect}
use Rattle.wsgs.specs.Book.{on_rule, book_refusal, rise, rate_refusal, release_refusal, release_rate_refusal, arrive_refusal}
use Rattle.wsgs.proofs.Laws.Questions.{asked_no, asked_yes, rest_decides, some_no}
use Rattle.questions.specs.Refusals.{pair_refusal}
use Rattle.questions.proofs.Laws.Answers.{number_some, handed_on}
use Rattle.std.specs.Prelude.{Result}
use Rattle.std.specs.Result.{IsErrAnd}
use Rattle.wsgs.specs.declared.Refused.{Refused}
use Rattle.wsgs.specs.Told.{number, refusal_number}
use Rattle.book.specs.declared.operations.BookOperation.{BookOperation}
use Rattle.book.specs.declared.operations.BookOperation.TheVariants as Asked
use Rattle.book.specs.Operations.{amount_asked, last_refusal, operation_refusal}
use Rattle.book.specs.Refusals.{rule_refusal, held_refusal, queue_refusal}

-- the number of a call: where the pair is refused, where the amount is, and else that of the rest
pub record Decides (pair : ℕ) (amount : Question) (rest call : ℕ) : Type 0 where
  pub at_pair : (r : ℕ) → r ≡ pair → r ≢ 0 → r ≡ call
  pub at_amount : 0 ≡ pair → amount.yes ≡ false → amount.number ≡ call
  pub at_rest : 0 ≡ pair → amount.yes ≡ true → rest ≡ call

decides : (c : Clock) (enough : Bool) (i j : ℕ) (amount : Question) (later : List Question) → 1 ≤ amount.number
    → Decides (pair_refusal c enough i j) amount (first_no later) (first_no (on_pair c enough i j (amount ∷ later)))
unfolding pair_refusal
decides c enough i j amount later numbered =
    record {
      at_pair = λ r e h. some_no (on_pair c enough i j []) (amount ∷ later) r e h;
      at_amount = λ p e. asked_no amount later e ∙ beyond p;
      at_rest = λ p e. asked_yes amount later e ∙ beyond p;
    }
  where
    beyond : 0 ≡ first_no (on_pair c enough i j []) → first_no (amount ∷ later) ≡ first_no (on_pair c enough i j (amount ∷ later))
    beyond p = rest_decides (on_pair c enough i j []) (amount ∷ later) (omega arith) p

-- so it is with the five
module _ (c : Clock) (m : Book) (i j d : ℕ) where
  abbrev pair : ℕ
  pair = pair_refusal c (holds_book c.ports m) i j

  pub book_decides : Decides pair (slots_in_range c.frame d) (rule_refusal c m i j d) (book_refusal c m i j d)
  unfolding book_refusal rule_refusal
  book_decides = decides c (holds_book c.ports m) i j (slots_in_range c.frame d) (on_rule c m i j d) (omega arith)

  pub rate_decides : Decides pair (rate_in_range c.line d) (rule_refusal c m i j (rise c m i j d)) (rate_refusal c m i j d)
  unfolding rate_refusal rule_refusal
  rate_decides = decides c (holds_book c.ports m) i j (rate_in_range c.line d) (on_rule c m i j (rise c m i j d)) (omega arith)

  pub release_decides : Decides pair (slots_in_range c.frame d) (held_refusal c.ports m.slots i j d) (release_refusal c m i j d)
  unfolding release_refusal held_refusal
  release_decides =
      decides c (holds_book c.ports m) i j (slots_in_range c.frame d) (enough_held c.ports m.slots i j d ∷ []) (omega arith)

  pub release_rate_decides : Decides pair (rate_in_range c.line d) (held_refusal c.ports m.rates i j d) (release_rate_refusal c m i j d)
  unfolding release_rate_refusal held_refusal
  release_rate_decides =
      decides c (holds_book c.ports m) i j (rate_in_range c.line d) (enough_held c.ports m.rates i j d ∷ []) (omega arith)

pub arrive_decides : (c : Clock) (q : List ℕ) (i j d : ℕ)
    → Decides (pair_refusal c (holds_pairs c.ports q) i j) (packets_in_range d) (queue_refusal c.ports q i j d) (arrive_refusal c q i j d)
unfolding arrive_refusal queue_refusal
arrive_decides c q i j d =
    decides c (holds_pairs c.ports q) i j (packets_in_range d) (queue_can_take c.ports q i j d ∷ []) (omega arith)

-- an operation on a book, and the number that its amount gives
pub operation_decides : (o : BookOperation) (c : Clock) (m : Book) (i j : ℕ)
    → Decides (pair_refusal c (holds_book c.ports m) i j) (amount_asked o c) (last_refusal o c m i j) (operation_refusal o c m i j)
operation_decides (Asked.Book d) c m i j = book_decides c m i j d.0
operation_decides (Asked.BookRate r) c m i j = rate_decides c m i j r
operation_decides (Asked.Release d) c m i j = release_decides c m i j d.0
operation_decides (Asked.ReleaseRate r) c m i j = release_rate_decides c m i j r

pub amount_number : (o : BookOperation) (c : Clock) → 6 ≡ (amount_asked o c).number
amount_number (Asked.Book d) c = refl
amount_number (Asked.BookRate r) c = refl
amount_number (Asked.Release d) c = refl
amount_number (Asked.ReleaseRate r) c = refl

-- what a call with the number q leaves
module _ {Words : Type 0} (q : ℕ) (changed old : Words) where
  pub kept : (r : Result (Unit {0}) Refused) (e : Refused) → IsErrAnd r (λ d. d ≡ e) → number e ≡ q
      → effect (refusal_number r) old ≡ effect q (accepted q changed old)
  kept r e h k = rw (handed_on r e h k) (rw (ne_eqb q 0 (rw k at (number_some e))))

  pub done : 0 ≡ q → effect 0 changed ≡ effect q (accepted q changed old)
  done e = rw (sym e)
