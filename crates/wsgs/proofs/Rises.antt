-- What an accepted operation on the book leaves. After a booking no word overflows, since the book's rule keeps every booking to a frame, and the pair's
-- booking has risen by just what it counted as; after a release it is that of what is left. Assumes nothing.
use mathlib.Core.Path.{◌≡◌, sym}
use Prim.Native.Nat.{ℕ, ◌+◌, ◌-◌, ◌≤◌}
use native.Mathlib.Omega.{arith}
use Rattle.std.proofs.lemmas.Bool.Decides.{nat_tests}
use Rattle.wsgs.specs.declared.Clock.{Clock}
use Rattle.wsgs.specs.Basics.{Port, updated₂}
use Rattle.wsgs.specs.Words.{word}
use Rattle.wsgs.specs.Bookings.{Book, booking, bookings}
use Rattle.wsgs.specs.Book.{book_refusal, book_words, rise, rate_refusal, rate_words, release_refusal, release_words, release_rate_refusal, release_rate_words}
use Rattle.wsgs.specs.Claims.{Admitted}
use Rattle.wsgs.proofs.Laws.Rule.{own_fits}
use Rattle.wsgs.proofs.Laws.Bookings.{booking_mono, booking_whole, rate_small, slots_moved, rates_moved}
use Rattle.wsgs.proofs.Refusals.{book_asks, rate_asks, release_asked, release_rate_asked}
use Rattle.wsgs.proofs.Admission.{held}

module _ (c : Clock) (m : Book) (i j : ℕ) where
  abbrev n : ℕ
  n = c.ports

  abbrev f : ℕ
  f = c.frame

  abbrev line : ℕ
  line = c.line

  abbrev slots : ℕ
  slots = word n m.slots i j

  abbrev rate : ℕ
  rate = word n m.rates i j

  -- a pair's booking, with what is admitted, is at most a frame
  part : (d : ℕ) → Admitted c m i j d → booking f line slots rate + d ≤ f
  unfolding bookings
  part d a = grind (arith, nat_tests, own_fits)

  -- admitted slots, and an admitted rate, fit their words: they are at most a frame, and at most the line's rate
  pub slots_fit : (d : ℕ) → Admitted c m i j d → slots + d ≤ f
  slots_fit d a = grind (arith, nat_tests, part, booking_whole)

  -- the booking of an admitted rate
  raised : (r : ℕ) → Admitted c m i j (rise c m i j r) → booking f line slots (rate + r) ≤ f
  unfolding rise
  raised r a = omega (arith, part (rise c m i j r) a, booking_mono f line slots slots rate (rate + r) (omega arith) (omega arith))

  pub rates_fit : (r : ℕ) → 1 ≤ line → Admitted c m i j (rise c m i j r) → rate + r ≤ line
  rates_fit r h a =
      let p = raised r a in
      let e = booking_whole f line slots (rate + r) (omega (arith, p, a.reach.frame)) in
      rate_small f line (rate + r) (booking f line slots (rate + r)) h a.reach.frame.0 p (omega (arith, e))

  -- NO WORD OVERFLOWS where a booking is accepted
  pub slots_word_fits : (d : ℕ) → book_refusal c m i j d ≡ 0 → slots + d ≤ 4294967295
  slots_word_fits d e = let a = ((book_asks c m i j d).0 e).1 in omega (arith, slots_fit d a, a.reach.frame)

  pub rate_word_fits : (r : ℕ) → rate_refusal c m i j r ≡ 0 → rate + r ≤ 4294967295
  rate_word_fits r e = let a = (rate_asks c m i j r).0 e in omega (arith, rates_fit r a.0.0 a.1, a.0.1)

  -- IT RISES BY WHAT IT COUNTED AS, and the bookings of the other pairs stay
  pub slots_raise : (d : ℕ) → book_refusal c m i j d ≡ 0 → (x y : ℕ) → Port n x → Port n y
      → bookings n f line (book_words c m i j d) x y ≡ updated₂ (bookings n f line m) i j (bookings n f line m i j + d) x y
  unfolding book_words bookings
  slots_raise d e x y px py =
      let a = ((book_asks c m i j d).0 e).1 in
      let q = a.reach in
      let p = part d a in
      let w = booking_whole f line slots rate (omega (arith, p, q.frame)) in
      let sum : booking f line (slots + d) rate ≡ booking f line slots rate + d = unfold booking in omega (arith, w, slots_fit d a, p, q.frame) in
      rw (e, sym sum) (slots_moved n f line m i j q.input q.output (held n m q.long).0 (slots + d) x y px py)

  pub rate_raises : (r : ℕ) → rate_refusal c m i j r ≡ 0 → (x y : ℕ) → Port n x → Port n y
      → bookings n f line (rate_words c m i j r) x y ≡ updated₂ (bookings n f line m) i j (bookings n f line m i j + rise c m i j r) x y
  unfolding rate_words bookings rise
  rate_raises r e x y px py =
      let q = ((rate_asks c m i j r).0 e).1.reach in
      let sum : booking f line slots (rate + r) ≡ booking f line slots rate + (booking f line slots (rate + r) - booking f line slots rate) =
      omega (arith, booking_mono f line slots slots rate (rate + r) (omega arith) (omega arith)) in
      rw (e, sym sum) (rates_moved n f line m i j q.input q.output (held n m q.long).1 (rate + r) x y px py)

  -- an accepted release leaves the pair the booking of what is left, and the others theirs
  pub slots_lower : (d : ℕ) → release_refusal c m i j d ≡ 0 → (x y : ℕ) → Port n x → Port n y
      → bookings n f line (release_words c m i j d) x y ≡ updated₂ (bookings n f line m) i j (booking f line (slots - d) rate) x y
  unfolding release_words
  slots_lower d e x y px py = grind (arith, nat_tests, release_asked, slots_moved, held)

  pub rate_lowers : (r : ℕ) → release_rate_refusal c m i j r ≡ 0 → (x y : ℕ) → Port n x → Port n y
      → bookings n f line (release_rate_words c m i j r) x y ≡ updated₂ (bookings n f line m) i j (booking f line slots (rate - r)) x y
  unfolding release_rate_words
  rate_lowers r e x y px py = grind (arith, nat_tests, release_rate_asked, rates_moved, held)
