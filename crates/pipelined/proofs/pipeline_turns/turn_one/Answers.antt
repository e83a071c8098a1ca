-- `pipeline_turns::turn_one` meets its contract: the ways that its tests leave are those of the definition. Assumes nothing.
use Rattle.std.proofs.Common.{◌≡◌, ◌-◌, ◌*◌, length, ap, ◌∙◌, arith}
use Rattle.wsgs.specs.Basics.{Port, in_turn}
use Rattle.wsgs.specs.Words.{port_word}
use Rattle.wsgs.proofs.Laws.InTurn.{in_turn_some}
use Rattle.turns.specs.Masks.{ready_mask}
use Rattle.turns.specs.Charges.{output_told}
use Rattle.turns.specs.Requests.{Turn}
use Rattle.turns.proofs.Costs.{charged_length, noted_length, numbered, unnumbered}
use Rattle.turns.proofs.Ready.{is_open}
use Rattle.turns.proofs.TurnLaws.{first_asks, first_takes}
use Rattle.pipelined.specs.Turnings.{SameLengths}
use Rattle.pipelined.proofs.PipelinedTurns.{turn_one_unasked, turn_one_held, turn_one_some, turn_one_none}
use Rattle.pipelined.proofs.pipeline_turns.turn_one.Goals as goal
use Rattle.pipelined.proofs.pipeline_turns.turn_one.Goals.{Start, After-first_requests-asked, After-first_turn-choice, In-Some}

-- the input has a turn on its credits and on its queues
paid : (c : Start) → Turn c.args.ports c.args.input.0 (length c.args.runs.now.credits.now)
paid c =
    record { few = c.requires.fits.input.few; port = c.requires.fits.input.port; long = c.requires.credits_fit }

sent : (c : Start) → Turn c.args.ports c.args.input.0 (length c.args.runs.now.queues.now)
sent c =
    record { few = c.requires.fits.input.few; port = c.requires.fits.input.port; long = c.requires.fits.queues }

-- what it asks for
requests : (c : After-first_requests-asked) → c.first_requests-asked.result ≡ ready_mask c.args.runs.now.credits.now c.args.runs.now.queues.now ((c.args.input.0 - 1) * c.args.ports) c.args.ports
requests c =
    first_asks _ _ _ _ (paid (goal.at-After-first_requests-asked c).Start) (sent (goal.at-After-first_requests-asked c).Start) _ c.first_requests-asked.ensures.asked

-- the output that the turn finds
found : (c : After-first_turn-choice) → output_told c.first_turn-choice.result.output ≡ in_turn (is_open c.args.ports c.free_for-free.result c.args.runs.now.credits.now c.args.runs.now.queues.now c.args.input.0) c.args.ports (port_word c.args.runs.now.given.now c.args.input.0)
found c =
    first_takes _ _ _ _ (sent (goal.at-After-first_turn-choice c).Start) c.requires.fits.given _ (paid (goal.at-After-first_turn-choice c).Start) _ (requests (goal.at-After-first_turn-choice c).After-first_requests-asked) _ _ c.first_turn-choice.ensures.output

-- what it takes is a port
taken : (c : In-Some) → Port c.args.ports c.in-Some.output.0
taken c =
    (in_turn_some _ _ _ _ (rw c.in-Some.is at (found (goal.at-In-Some c).After-first_turn-choice)) (rw c.in-Some.is at c.first_turn-choice.ensures.some)).0

-- and the runs are as long as they were
lengths : (c : After-first_turn-choice) → SameLengths c.args.runs.now c.first_turn-choice.new.runs
lengths c =
    let turn = c.first_turn-choice.ensures in
    record {
      credits = ap length turn.credits_exit ∙ charged_length _ _ _ _;
      queues = ap length turn.queues_exit ∙ charged_length _ _ _ _;
      given = ap length turn.given_exit ∙ noted_length _ _ _;
    }

pub returns-then-asked-eq0-clause-turn : goal.returns-then-asked-eq0-clause-turn
returns-then-asked-eq0-clause-turn c =
    λ s e. turn_one_unasked _ s _ _ _ _ _ _ (requests (goal.at.returns-then-asked-eq0-clause-turn c).After-first_requests-asked) c.if-asked-eq0.true

pub returns-then-is_some-clause-turn : goal.returns-then-is_some-clause-turn
returns-then-is_some-clause-turn c =
    λ s e. turn_one_held _ s _ _ _ _ _ _ _ e c.output_of.ensures.read (numbered _ c.output_of.ensures.some c.is_some.ensures c.if-is_some.true)

pub overflow_cast-flight : goal.overflow_cast-flight
overflow_cast-flight c =
    omega (arith, (taken (goal.at.overflow_cast-flight c).In-Some).high, c.requires.fits.input.few)

pub overflow_add-flight : goal.overflow_add-flight
overflow_add-flight c =
    omega (arith, (taken (goal.at.overflow_add-flight c).In-Some).high, c.requires.fits.input.few)

pub returns-in-Some-clause-lengths : goal.returns-in-Some-clause-lengths
returns-in-Some-clause-lengths c =
    lengths (goal.at.returns-in-Some-clause-lengths c).After-first_turn-choice

pub returns-in-Some-clause-turn : goal.returns-in-Some-clause-turn
returns-in-Some-clause-turn c =
    let found = found (goal.at.returns-in-Some-clause-turn c).After-first_turn-choice in
    let turn = c.first_turn-choice.ensures in
    λ s e.
    turn_one_some _ s _ _ _ _ _ _ _ e c.output_of.ensures.read (unnumbered _ c.is_some.ensures c.if-is_some.false) _ _ (c.free_for-free.ensures.free s e)
    (rw c.in-Some.is at found) _ _ _ (rw c.in-Some.is at turn.credits_exit) (rw c.in-Some.is at turn.queues_exit) (rw c.in-Some.is at turn.given_exit) (rw c.in-Some.is at turn.some)

pub returns-in_default-clause-lengths : goal.returns-in_default-clause-lengths
returns-in_default-clause-lengths c =
    lengths (goal.at.returns-in_default-clause-lengths c).After-first_turn-choice

pub returns-in_default-clause-turn : goal.returns-in_default-clause-turn
returns-in_default-clause-turn c =
    let found = found (goal.at.returns-in_default-clause-turn c).After-first_turn-choice in
    let turn = c.first_turn-choice.ensures in
    λ s e.
    turn_one_none _ s _ _ _ _ _ _ _ e c.output_of.ensures.read (unnumbered _ c.is_some.ensures c.if-is_some.false) _ _ (c.free_for-free.ensures.free s e)
    found _ _ _ turn.credits_exit turn.queues_exit turn.given_exit (omega (arith, ap output_told c.in_default.is))
