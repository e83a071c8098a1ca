-- The fine book accepts what the plain one accepts. At the end of a list of calls a plain book keeps every row and every column to half a frame, rounded
-- up; so does one more booking that it accepts, and then inequality (2) holds of every booked pair, of which the fine book asks a few. Assumes nothing.
use mathlib.Core.Path.{◌≡◌, refl, ◌∙◌, sym, ap, subst}
use mathlib.Core.Bool.{false}
use Prim.Native.Nat.{ℕ}
use native.Mathlib.Omega.{arith}
use lib.Dec.{eqb}
use Rattle.std.proofs.lemmas.Bool.Decides.{nat_tests}
use Rattle.wsgs.specs.declared.Clock.{Clock}
use Rattle.wsgs.specs.Basics.{pick, bit}
use Rattle.wsgs.specs.Bookings.{bookings}
use Rattle.wsgs.specs.Questions.{Outcome, refused}
use Rattle.wsgs.specs.Book.{rise, release_refusal, release_rate_refusal, arrive_refusal}
use Rattle.wsgs.specs.Headroom.{headroom_refusal}
use Rattle.wsgs.specs.Preview.{slots_booking, rate_booking, slots_release, rate_release, operation_effect}
use Rattle.wsgs.specs.Preview as Previews
use Rattle.wsgs.specs.Direct
use Rattle.wsgs.specs.Pipelined
use Rattle.wsgs.specs.Switch.{Switch, Form, direct, pipelined, plain, Call, start, book, book_rate, release, release_rate, headroom, preview, arrive, tick, apply, direct_runs, pipelined_runs}
use Rattle.wsgs.specs.Ledger.{Ledger, booked}
use Rattle.wsgs.specs.Seen.{Seen}
use Rattle.wsgs.specs.Claims.{Admitted, with_kind, FineAcceptsPlain}
use Rattle.wsgs.proofs.Laws.Rule.{Bounded, Kept, kept_below, plain_admitted}
use Rattle.wsgs.proofs.Refusals.{book_asks, rate_asks}
use Rattle.wsgs.proofs.Admission.{tells_bookings}
use Rattle.wsgs.proofs.Trace.{ledger_clock, Trace, trace_of}

-- the number of a start or a tick does not depend on the clock that it would leave
same_number : {Runs : Type 0} (r : ℕ) (c c' : Clock) (w : Runs) (done done' : Outcome Runs) → done.refusal ≡ done'.refusal
    → (pick (eqb r 0) done (refused r c w)).refusal ≡ (pick (eqb r 0) done' (refused r c' w)).refusal
same_number r c c' w done done' d = grind (arith, nat_tests)

-- ON A SWITCH whose plain book keeps rows and columns
abbrev PlainBook : Switch → Type 0
PlainBook s = let c = s.clock in Bounded c.ports c.frame (bookings c.ports c.frame c.line s.book)

module _ (s : Switch) (kind : ℕ) (is_plain : s.clock.fine ≡ 0) (bounded : PlainBook s) where
  abbrev c : Clock
  c = s.clock

  abbrev other : Switch
  other = with_kind s kind

  -- a booking that is admitted is admitted by a book of any kind
  admitted_too : (i j d : ℕ) → Admitted c s.book i j d → Admitted other.clock s.book i j d
  admitted_too i j d a = grind (arith, nat_tests, plain_admitted)

  book_too : (i j d : ℕ) → (apply (book i j d) s).refusal ≡ 0 → (apply (book i j d) other).refusal ≡ 0
  unfolding apply
  book_too i j d e = let a = (book_asks c s.book i j d).0 e in (book_asks other.clock s.book i j d).1 (a.0, admitted_too i j d a.1)

  rate_too : (i j r : ℕ) → (apply (book_rate i j r) s).refusal ≡ 0 → (apply (book_rate i j r) other).refusal ≡ 0
  unfolding apply rise
  rate_too i j r e = grind (arith, nat_tests, rate_asks, admitted_too)

  -- and the other calls are not asked about it
  pub accepted_too : (x : Call) → (apply x s).refusal ≡ 0 → (apply x other).refusal ≡ 0
  unfolding apply release_refusal release_rate_refusal headroom_refusal arrive_refusal Previews.preview operation_effect Direct.start Pipelined.start Direct.tick Pipelined.tick Direct.started Pipelined.started Direct.ticked Pipelined.ticked Direct.tick_refusal Pipelined.tick_refusal
  accepted_too (start direct n f b g) e = same_number (Direct.start_refusal n f b (direct_runs s)) other.clock c (direct_runs s) (Direct.started n f b g (direct_runs s)) (Direct.started n f b g (direct_runs s)) refl ∙ e
  accepted_too (start pipelined n f b g) e = same_number (Pipelined.start_refusal n f b (pipelined_runs s)) other.clock c (pipelined_runs s) (Pipelined.started n f b g (pipelined_runs s)) (Pipelined.started n f b g (pipelined_runs s)) refl ∙ e
  accepted_too (book i j d) e = book_too i j d e
  accepted_too (book_rate i j r) e = rate_too i j r e
  accepted_too (release i j d) e = e
  accepted_too (release_rate i j r) e = e
  accepted_too (headroom i j) e = e
  accepted_too (preview slots_booking i j d) e = book_too i j d e
  accepted_too (preview rate_booking i j r) e = rate_too i j r e
  accepted_too (preview slots_release i j d) e = e
  accepted_too (preview rate_release i j r) e = e
  accepted_too (arrive i j d) e = e
  accepted_too (tick direct) e = same_number (Direct.tick_refusal c (direct_runs s)) other.clock c (direct_runs s) (Direct.ticked other.clock (direct_runs s)) (Direct.ticked c (direct_runs s)) refl ∙ e
  accepted_too (tick pipelined) e = same_number (Pipelined.tick_refusal c (pipelined_runs s)) other.clock c (pipelined_runs s) (Pipelined.ticked other.clock (pipelined_runs s)) (Pipelined.ticked c (pipelined_runs s)) refl ∙ e

-- A LIST OF CALLS whose last start gave a plain book
module _ (m : Form) (l : Ledger) (h : Seen) (now : Switch) (t : Trace m l h now) (is_plain : l.fine ≡ plain) where
  -- its word is 0
  word_is_0 : now.clock.fine ≡ 0
  word_is_0 = ap (λ c. c.fine) t.clock ∙ ap bit is_plain

  plain_book : PlainBook now
  plain_book =
      subst (λ c. Bounded c.ports c.frame (bookings c.ports c.frame c.line now.book)) (sym t.clock)
      (kept_below l.ports l.frame _ (booked l)
      (λ x y px py. omega (arith, tells_bookings (ledger_clock l) now.book l.slots l.rates t.tells x y px py)) false
      (subst (λ g. Kept g l.ports l.frame (booked l)) is_plain t.kept))

-- every list of one form that opens with an accepted start
pub fine_accepts : FineAcceptsPlain
fine_accepts m cs s o t e x word = grind (arith, nat_tests, trace_of, accepted_too, word_is_0, plain_book)
