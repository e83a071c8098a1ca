-- What both forms show of a whole list of calls of one form that opens with an accepted start: that its answers follow the nine steps, and
-- so give no output twice and are maximal; that packets are conserved; and that an input finds the output that it was last given, and starves none. Each list has a trace, which each form reads in its own way. Assumes nothing.
use mathlib.Core.Path.{sym, ◌∙◌}
use mathlib.Core.Bool.{Bool, true, false}
use mathlib.Core.List.{List}
use mathlib.Core.Logic.{◌≢◌}
use Prim.Native.Nat.{ℕ, ◌*◌, ◌≤◌}
use native.Mathlib.Omega.{arith}
use native.Mathlib.Decide.{dec_le}
use lib.Dec.{T, leb}
use Rattle.wsgs.specs.Basics.{pick, Port}
use Rattle.wsgs.specs.Steps.{Matching, empty_matching, nine_steps}
use Rattle.wsgs.specs.Switch.{Switch, Form, direct, pipelined, Call, final}
use Rattle.wsgs.specs.Ledger.{Ledger, ledger_of, answered, has_turns, credit_left}
use Rattle.wsgs.specs.Seen.{Seen, seen, second_view, steps_answer, early_answer, first_view}
use Rattle.wsgs.specs.Claims.{all_of_form, opens, Same, PipelinedBegins, NoOutputTwice, MatchingMaximal, PacketsConserved, QueuesSeen, LastGivenFound, NoOutputStarves}
use Rattle.wsgs.proofs.Steps.{once, maximal}
use Rattle.wsgs.proofs.Share.{Fair}
use Rattle.wsgs.proofs.Trace.{trace_of}
use Rattle.wsgs.proofs.Packets
use Rattle.wsgs.proofs.Given.{direct_found, pipelined_found, Turned, direct_turned, pipelined_turned, given_within}
use Rattle.wsgs.proofs.Direct.FollowsSteps as DirectForm
use Rattle.wsgs.proofs.Pipelined.FollowsSteps as PipelinedForm

-- what both forms show of every list of calls
pub fair : (m : Form) (cs : List Call) (s : Switch) → T (all_of_form m cs) → T (opens cs s) → Fair (ledger_of cs s) (seen cs s)
fair direct cs s o t = DirectForm.fair (ledger_of cs s) (seen cs s) (final cs s) (trace_of direct cs s o t)
fair pipelined cs s o t = PipelinedForm.fair (ledger_of cs s) (seen cs s) (final cs s) (trace_of pipelined cs s o t)

-- of the queues seen
pub queued : QueuesSeen
queued direct cs s o t = DirectForm.queued (ledger_of cs s) (seen cs s) (final cs s) (trace_of direct cs s o t)
queued pipelined cs s o t = PipelinedForm.queued (ledger_of cs s) (seen cs s) (final cs s) (trace_of pipelined cs s o t)

-- the first 2n slots of the pipelined form
pub begins : PipelinedBegins
begins cs s o t = PipelinedForm.begins (ledger_of cs s) (seen cs s) (final cs s) (trace_of pipelined cs s o t)

-- a matching gives no output to two inputs
abbrev Once : ℕ → Matching → Type 0
Once n a = (i x : ℕ) → Port n i → Port n x → i ≢ x → 1 ≤ a.output i → a.output i ≢ a.output x

-- one that agrees with such a matching on every input is one too
once_like : (n : ℕ) (a b : Matching) → ((i : ℕ) → Port n i → Same i a b) → Once n b → Once n a
once_like n a b same h i x pi px d k e = h i x pi px d (omega (arith, (same i pi).output)) (sym (same i pi).output ∙ e ∙ (same x px).output)

-- the answer of an early slot is one
early_once : (l : Ledger) (h : Seen) (k : ℕ) → Once l.ports (early_answer l h k)
unfolding early_answer
early_once l h k = go (leb k l.ports)
  where
    go : (b : Bool) → Once l.ports (pick b empty_matching (nine_steps l.ports (λ i j. 0) (second_view l h k) (second_view l h k)))
    go true = λ i x pi px d g e. omega arith
    go false = once l.ports (λ i j. 0) (second_view l h k) (second_view l h k)

-- so is that of a slot with turns
late_once : (m : Form) (cs : List Call) (s : Switch) (o : T (all_of_form m cs)) (t : T (opens cs s)) (k : ℕ) → T (answered (ledger_of cs s) k)
    → T (has_turns (ledger_of cs s) k) → Once (ledger_of cs s).ports ((ledger_of cs s).answer k)
unfolding steps_answer
late_once m cs s o t k a b =
    let l = ledger_of cs s in
    once_like l.ports (l.answer k) (steps_answer l (seen cs s) k) (λ i pi. (fair m cs s o t).follows k i a b pi) (once l.ports (credit_left l k) (first_view l (seen cs s) k) (second_view l (seen cs s) k))

-- so no answered slot gives an output to two inputs
pub once_answered : NoOutputTwice
unfolding has_turns
once_answered direct cs s o t k i x a = late_once direct cs s o t k a (rw (trace_of direct cs s o t).form tt) i x
once_answered pipelined cs s o t k i x a = go (dec_le k (2 * l.ports)) i x
  where
    l : Ledger
    l = ledger_of cs s

    go : Dec (k ≤ 2 * l.ports) → Once l.ports (l.answer k)
    go (yes b) = once_like l.ports (l.answer k) (early_answer l (seen cs s) k) (λ i. begins cs s o t k i a b) (early_once l (seen cs s) k)
    go (no b) =
        late_once pipelined cs s o t k a (PipelinedForm.late_turns l (seen cs s) (final cs s) (trace_of pipelined cs s o t) k (omega arith))

-- and the matching of one with turns of both passes is maximal
pub maximal_answered : MatchingMaximal
unfolding steps_answer
maximal_answered m cs s o t k i j a b pi pj e d =
    let l = ledger_of cs s in
    let same : (x : ℕ) → Port l.ports x → Same x (l.answer k) (steps_answer l (seen cs s) k) = λ x px. (fair m cs s o t).follows k x a b px in
    maximal l.ports (credit_left l k) (first_view l (seen cs s) k) (second_view l (seen cs s) k) i j pi pj (sym (same i pi).output ∙ e) (λ x px z. d x px ((same x px).output ∙ z))

-- and packets are conserved
pub conserved : PacketsConserved
conserved m cs s o t = Packets.conserved m (ledger_of cs s) (seen cs s) (final cs s) (trace_of m cs s o t)

-- an input finds the output that it was last given
pub last_found : LastGivenFound
last_found direct cs s o t = direct_found (ledger_of cs s) (seen cs s) (final cs s) (trace_of direct cs s o t)
last_found pipelined cs s o t = pipelined_found (ledger_of cs s) (seen cs s) (final cs s) (trace_of pipelined cs s o t)

-- and starves none
pub starves_none : NoOutputStarves
starves_none m cs s o t k i j pi pj =
    given_within (ledger_of cs s) (seen cs s) (fair m cs s o t) (turned m o) (last_found m cs s o t) i j pi pj k
  where
    turned : (m : Form) → T (all_of_form m cs) → (x y : ℕ) → 1 ≤ x → Port (ledger_of cs s).ports y → Turned (ledger_of cs s) x y
    turned direct o = direct_turned (ledger_of cs s) (seen cs s) (final cs s) (trace_of direct cs s o t)
    turned pipelined o = pipelined_turned (ledger_of cs s) (seen cs s) (final cs s) (trace_of pipelined cs s o t)
