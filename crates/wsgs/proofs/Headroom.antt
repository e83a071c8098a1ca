-- Headroom. Inequality (2) of the paper holds of a pair exactly where its headroom is at least 0, and so it is with every booked pair of a book of either
-- kind. Assumes nothing.
use mathlib.Core.Path.{◌≡◌, ap}
use mathlib.Core.Logic.{◌↔◌}
use Prim.Native.Nat.{ℕ, zero, suc, ◌+◌, ◌-◌, ◌≤◌, ◌<◌}
use native.Mathlib.Omega.{arith}
use native.Mathlib.Decide.{dec_le}
use lib.IntN.{pos, negsuc, ◌-ℤ◌}
use lib.Signed.{◌≤ℤ◌, ◌<ℤ◌, clash_ℤ}
use borrow.Author.Tests.{lt-ltb, le-ltb}
use Rattle.std.proofs.lemmas.Bool.Decides.{nat_tests}
use Rattle.wsgs.specs.declared.Clock.{Clock}
use Rattle.wsgs.specs.Basics.{Port}
use Rattle.wsgs.specs.Bookings.{bookings, row_sum, column_sum}
use Rattle.wsgs.specs.Headroom.{headroom_over, pair_headroom, headroom_refusal, headroom_result}
use Rattle.wsgs.specs.Switch.{Switch, Form, final}
use Rattle.wsgs.specs.Ledger.{Ledger, booked, ledger_of}
use Rattle.wsgs.specs.Seen.{Seen, seen}
use Rattle.wsgs.specs.Claims.{Fits, Headroom, BookedPairsFit}
use Rattle.wsgs.proofs.Laws.Sums.{sum_ext, sum_parts}
use Rattle.wsgs.proofs.Laws.Rule.{kept_fits}
use Rattle.wsgs.proofs.Admission.{tells_bookings}
use Rattle.wsgs.proofs.Refusals.{headroom_asks}
use Rattle.wsgs.proofs.Trace.{ledger_clock, Trace, trace_of}

-- a difference of two numbers, by which is the greater
pub sub_below : (a b : ℕ) → a < b → pos a -ℤ pos b ≡ negsuc (b - suc a)
sub_below a zero h = absurd (omega arith)
sub_below a (suc b) h = rw (lt-ltb a (suc b) h)

pub sub_above : (a b : ℕ) → b ≤ a → pos a -ℤ pos b ≡ pos (a - b)
sub_above a zero h = ap pos (omega arith)
sub_above a (suc b) h = rw (le-ltb a (suc b) h)

-- the pair's own booking is a term of its row, so what the frame has to hold is a number without sign; and it is one of its column
pub own_in_row : (n : ℕ) (a : ℕ → ℕ → ℕ) (i j : ℕ) → Port n j → a i j ≤ row_sum n a i
unfolding row_sum
own_in_row n a i j p = omega (arith, sum_parts (λ y. a i y) n j p)

pub own_in_column : (n : ℕ) (a : ℕ → ℕ → ℕ) (i j : ℕ) → Port n i → a i j ≤ column_sum n a j
unfolding column_sum
own_in_column n a i j p = omega (arith, sum_parts (λ x. a x j) n i p)

module _ (n f : ℕ) (a : ℕ → ℕ → ℕ) (i j : ℕ) (p : Port n j) where
  abbrev taken : ℕ
  taken = row_sum n a i + column_sum n a j - a i j

  -- headroom is one difference
  pub one_difference : headroom_over n f a i j ≡ pos f -ℤ pos taken
  unfolding headroom_over
  one_difference = ap (λ z. pos f -ℤ z) (sub_above (row_sum n a i + column_sum n a j) (a i j) (omega (arith, own_in_row n a i j p)))

  -- inequality (2) exactly where it is at least 0
  pub at_least_zero : (pos 0 ≤ℤ headroom_over n f a i j) ↔ (row_sum n a i + column_sum n a j ≤ f + a i j)
  at_least_zero = grind (arith, nat_tests, one_difference, sub_above, sub_below)

-- headroom of the same bookings is the same
headroom_ext : (n f : ℕ) (a b : ℕ → ℕ → ℕ) (i j : ℕ) → Port n i → Port n j → ((x y : ℕ) → Port n x → Port n y → a x y ≡ b x y)
    → headroom_over n f a i j ≡ headroom_over n f b i j
unfolding headroom_over row_sum column_sum
headroom_ext n f a b i j pi pj e =
    rw (sum_ext (λ y. a i y) (λ y. b i y) n (λ y q. e i y pi q), sum_ext (λ x. a x j) (λ x. b x j) n (λ x q. e x j q pj), e i j pi pj)

-- A LIST OF CALLS
module _ (m : Form) (l : Ledger) (h : Seen) (now : Switch) (t : Trace m l h now) (i j : ℕ) (pi : Port l.ports i) (pj : Port l.ports j) where
  abbrev c : Clock
  c = now.clock

  -- the call is accepted
  asked : headroom_refusal c now.book i j ≡ 0
  asked =
      rw t.clock
      ((headroom_asks (ledger_clock l) now.book i j).1
      (record {
        ports = (t.sizes.some_port, t.sizes.few_ports);
        frame = (t.sizes.some_slot, t.sizes.few_slots);
        long = t.tells.long;
        input = pi;
        output = pj;
      }))

  -- and tells the number of the ledger's bookings
  told : (headroom_result c now.book i j).headroom ≡ headroom_over l.ports l.frame (booked l) i j
  unfolding headroom_result pair_headroom
  told =
      rw (asked, t.clock) (headroom_ext l.ports l.frame _ _ i j pi pj (tells_bookings (ledger_clock l) now.book l.slots l.rates t.tells))

  -- the pair's booking is the ledger's too
  booked_alike : bookings c.ports c.frame c.line now.book i j ≡ booked l i j
  booked_alike = rw t.clock (tells_bookings (ledger_clock l) now.book l.slots l.rates t.tells i j pi pj)

  abbrev a : ℕ
  a = bookings c.ports c.frame c.line now.book i j

  -- (2) holds of what is booked
  fits_now : Fits l.ports l.frame (booked l) i j
  fits_now = kept_fits l.fine l.ports l.frame (booked l) t.kept i j pi pj

  pub headroom_told : Headroom l (headroom_result c now.book i j) a i j
  unfolding headroom_result
  headroom_told =
      record {
        accepted = asked;
        booking = booked_alike;
        number = told;
        fits = fits_now;
        of_booked = fits;
        below_zero = λ z. go (dec_le 1 a) z;
      }
    where
      fits : 1 ≤ a → pos 0 ≤ℤ (headroom_result c now.book i j).headroom
      fits b = rw told ((at_least_zero l.ports l.frame (booked l) i j pj).1 (fits_now (omega (arith, b, booked_alike))))

      go : Dec (1 ≤ a) → (headroom_result c now.book i j).headroom <ℤ pos 0 → a ≡ 0
      go (yes b) z = clash_ℤ z (fits b)
      go (no b) z = omega arith

-- every list of one form that opens with an accepted start
pub fit : BookedPairsFit
fit m cs s o t = headroom_told m (ledger_of cs s) (seen cs s) (final cs s) (trace_of m cs s o t)
