-- A pair that the questions have passed: the runs of its book hold it, and so do the queues. Assumes nothing.
use mathlib.Core.List.{List}
use Prim.Native.Nat.{ℕ}
use lib.Dec.{leb→le}
use Rattle.wsgs.specs.declared.Clock.{Clock}
use Rattle.wsgs.specs.Bookings.{Book}
use Rattle.wsgs.specs.Questions.{holds_pairs, holds_book}
use Rattle.wsgs.specs.Claims.{Reached}
use Rattle.wsgs.proofs.Admission.{held}
use Rattle.book.specs.Refusals.{BookFits, PairFits}

module _ (c : Clock) (m : Book) (i j : ℕ) (r : Reached c (holds_book c.ports m) i j) where
  pub book_fits : BookFits c.ports m
  book_fits =
      let h = held c.ports m r.long in
      record { slots = record { ports = r.ports.1; long = h.0 }; rates = record { ports = r.ports.1; long = h.1 } }

  pub slots_pair : PairFits c.ports m.slots i j
  slots_pair = record { matrix = book_fits.slots; input = r.input; output = r.output }

  pub rates_pair : PairFits c.ports m.rates i j
  rates_pair = record { matrix = book_fits.rates; input = r.input; output = r.output }

pub queues_pair : (c : Clock) (q : List ℕ) (i j : ℕ) → Reached c (holds_pairs c.ports q) i j → PairFits c.ports q i j
queues_pair c q i j r =
    record { matrix = record { ports = r.ports.1; long = leb→le _ _ r.long }; input = r.input; output = r.output }
