-- A machine that is not running after calls of `feed` one after the other was not before, and keeps its form. Assumes nothing.
use mathlib.Core.List.{List}
use Prim.Native.Nat.{ℕ, zero, suc}
use lib.ListN.{length, drop}
use Rattle.machine.proofs.RecordLaws.{FormStays, stays_same, stays_then}
use Rattle.events.proofs.Forms.{fed_stays}
use Rattle.feeding.specs.Texts.{TextState, next_call, calls}

module _ (text : List ℕ) (first : TextState) where
  call_stays : (t : TextState) → FormStays t.state.machine (next_call text t).state.machine
  unfolding next_call
  call_stays t = fed_stays (length t.out) (drop t.taken text) t.state

  pub calls_stay : (n : ℕ) → FormStays first.state.machine (calls text n first).state.machine
  unfolding calls
  calls_stay zero = stays_same first.state.machine
  calls_stay (suc n) =
      let t : TextState = calls text n first in
      stays_then first.state.machine t.state.machine (next_call text t).state.machine (calls_stay n) (call_stays t)
