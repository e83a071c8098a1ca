-- `turns::second_requests` meets its contract: where the input has a turn, the sweep gives what it asks for. Assumes nothing.
use mathlib.Core.Path.{◌∙◌}
use native.Mathlib.Omega.{arith}
use native.Mathlib.Omega.{arith}
use Rattle.turns.proofs.TurnLaws.{row_requested}
use Rattle.turns.proofs.second_requests.Goals as goal

pub ready_in-requires : goal.ready_in-requires
ready_in-requires c =
    let r = c.in-Some.ensures.there in
    record { few = r.turn.few; credits_fit = omega (arith, r.within, r.turn.long); queues_fit = omega (arith, r.within, r.turn.long) }

pub returns : goal.returns
returns c =
    record { asked = c.ready_in.ensures.ready ∙ row_requested _ _ _ _ c.in-Some.ensures.there }
