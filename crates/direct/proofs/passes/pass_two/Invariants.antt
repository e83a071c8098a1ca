-- The loop's invariant is the contract's claim for the inputs so far.
use Prim.Native.Nat.{ℕ, ◌≤◌}
use mathlib.Core.Path.{◌≡◌}
use mathlib.Core.List.{List}
use lib.ListN.{length}
use Rattle.wsgs.specs.Words.{word, port_word}
use Rattle.wsgs.specs.Steps.{pass_two}
use Rattle.direct.specs.Passes.{PassState}
use Rattle.direct.proofs.passes.pass_two.Given as goal

abbrev pub invariant-loop-row : goal.invariant-loop-row
invariant-loop-row l = record {
  within : l.row ≤ l.ports;
  queues : length l.queues ≡ length l.initial.queues;
  given : length l.given ≡ length l.initial.given;
  state : (start words : List ℕ) (one : ℕ → ℕ) → PassState l.ports start words one l.initial.free l.initial.outputs l.initial.queues l.initial.given
      → PassState l.ports start words (pass_two l.ports (word l.ports start) (port_word words) one l.row) l.free l.outputs l.queues l.given;
}
