-- What an accepted tick of the direct form found. Assumes nothing.
use mathlib.Core.Path.{◌≡◌}
use mathlib.Core.List.{[], ◌∷◌}
use Prim.Native.Nat.{◌+◌, ◌≤◌, ◌<◌}
use native.Mathlib.Omega.{arith}
use lib.Dec.{ltb→lt}
use Rattle.wsgs.specs.declared.Clock.{Clock}
use Rattle.wsgs.specs.Clocks.{at_slot}
use Rattle.wsgs.specs.Questions.{clock_can_advance}
use Rattle.wsgs.specs.Direct
use Rattle.wsgs.proofs.Laws.Questions.{all_yes, direct_yes}
use Rattle.direct.specs.Passes.{QueuesFit, Loading}

pub record TickConditions (c : Clock) (w : Direct.Runs) : Type 0 where
  pub some_port : 1 ≤ c.ports
  pub loading : Loading (at_slot c (c.slot + 1)) w.book w.credits
  pub queues_fit : QueuesFit c.ports w.queues w.given
  pub slots_left : c.slot < 4000000000

pub accepted_found : (c : Clock) (w : Direct.Runs) → Direct.tick_refusal c w ≡ 0 → TickConditions c w
unfolding Direct.tick_refusal
accepted_found c w e =
    let qs = clock_can_advance c.slot ∷ [] in
    let y = direct_yes c.ports c.frame w qs (all_yes (Direct.questions c.ports c.frame w qs) (omega arith) e) in
    record {
      some_port = y.ports.0;
      loading = record {
        few = y.ports.1;
        frame = y.frame.0;
        slot = omega arith;
        slots = y.long.slots;
        rates = y.long.rates;
        credits = y.long.credits;
      };
      queues_fit = record { few = y.ports.1; queues = y.long.queues; given = y.long.given };
      slots_left = ltb→lt c.slot 4000000000 y.later.0;
    }
