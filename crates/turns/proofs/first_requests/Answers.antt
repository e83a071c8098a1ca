-- `turns::first_requests` meets its contract: where the input has a turn and a credit, the sweep gives what it asks for. Assumes nothing.
use mathlib.Core.Path.{sym, ◌∙◌}
use native.Mathlib.Omega.{arith}
use Rattle.turns.proofs.Ready.{nothing_ready}
use Rattle.turns.proofs.TurnLaws.{rows_requested}
use Rattle.turns.proofs.first_requests.Goals as goal

pub has_credit-requires : goal.has_credit-requires
has_credit-requires c =
    record { credits_fit = omega (arith, c.in-Some.ensures.there.within, c.in-Some.ensures.there.turn.long) }

-- it has no credit
pub returns-then-not-has_credit : goal.returns-then-not-has_credit
returns-then-not-has_credit c =
    record { asked = nothing_ready _ _ _ _ (sym c.has_credit.ensures.tested ∙ c.if-not-has_credit.true) ∙ rows_requested _ _ _ _ _ c.in-Some.ensures.there (c.has_turn.ensures.turn c.if-not-has_turn.false) }

pub ready_in-requires : goal.ready_in-requires
ready_in-requires c =
    let r = c.in-Some.ensures.there in
    let q = c.has_turn.ensures.turn c.if-not-has_turn.false in
    record { few = q.few; credits_fit = omega (arith, r.within, r.turn.long); queues_fit = omega (arith, r.within, q.long) }

pub returns : goal.returns
returns c =
    record { asked = c.ready_in.ensures.ready ∙ rows_requested _ _ _ _ _ c.in-Some.ensures.there (c.has_turn.ensures.turn c.if-not-has_turn.false) }
