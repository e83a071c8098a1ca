-- A start, and a call on a started switch: what its outcome leaves is what the definition says. And the form of a machine that is not running.
-- Assumes nothing.
use mathlib.Core.Path.{◌≡◌, refl, sym, ap, ◌∙◌}
use mathlib.Core.Bool.{Bool, true, false, false≢true, and-false}
use mathlib.Core.Logic.{◌≢◌}
use Prim.Native.Nat.{ℕ}
use borrow.Author.Tests.{eq-eqb, ne_eqb}
use Rattle.std.specs.Prelude.{Result, Ok, Err}
use Rattle.std.specs.Result.{IsErrAnd}
use Rattle.wsgs.specs.declared.Refused.{Refused}
use Rattle.wsgs.specs.declared.Request.{Request}
use Rattle.wsgs.specs.declared.Operation.TheVariants.{Start, Pipe, Book, Release, Arrive, Tick}
use Rattle.wsgs.specs.Basics.{pick}
use Rattle.wsgs.specs.Records
use Rattle.wsgs.specs.Records.{Reading}
use Rattle.wsgs.specs.Switch.{Form, Call, start, Outcome, apply, plain}
use Rattle.wsgs.specs.Program.{RecordOutcome, number_alone, with_switch, refusal_of, run_start, run_call, obey, run_slot}
use Rattle.wsgs.specs.Program
use Rattle.wsgs.proofs.Refusals.{unchanged}
use Rattle.machine.specs.declared.Machine.{Machine}
use Rattle.machine.specs.declared.SwitchRuns.{SwitchRuns}
use Rattle.machine.specs.View.{request_outcome_of}

-- an error that `?` hands on is that of the request
pub handed : (m : Machine) (q : Request) (r : Result (Machine × ℕ) Refused) (runs : SwitchRuns) (e : Refused) {o : RecordOutcome}
    → IsErrAnd r (λ d. d ≡ e) → request_outcome_of m q (Err e) runs ≡ o → request_outcome_of m q r runs ≡ o
handed m q (Ok x) runs e h k = absurd h
handed m q (Err d) runs e h k = ap (λ f. request_outcome_of m q (Err f) runs) h ∙ k

module _ (m : Program.Machine) (x y : ℕ) where
  -- what is accepted has no refusal
  pub accepted : number_alone 0 ≡ refusal_of m x y 0
  accepted = rw (and-false m.running)

  -- A START or pipe: accepted, or refused and the switch stays
  module _ (form : Form) {given : Outcome} (is : given ≡ apply (start form x y 0 plain) m.switch) where
    pub started : given.refusal ≡ 0
        → record { machine = record { running = true; form = form; switch = given.after }; slots = 0; refusal = number_alone 0 } ≡ run_start m form x y
    unfolding run_start
    started e =
        rw (← is, eq-eqb given.refusal 0 e, e)
        (ap (λ r. record { machine = record { running = true; form = form; switch = given.after }; slots = 0; refusal = r }) accepted)

    pub not_started : given.refusal ≢ 0
        → record { machine = with_switch m given.after; slots = 0; refusal = refusal_of m x y given.refusal } ≡ run_start m form x y
    unfolding run_start
    not_started d =
        rw (← is, ne_eqb given.refusal 0 d)
        (ap (λ s. record { machine = with_switch m s; slots = 0; refusal = refusal_of m x y given.refusal })
        (ap (λ (o : Outcome). o.after) is ∙ (unchanged (start form x y 0 plain) m.switch (λ e. d (ap (λ (o : Outcome). o.refusal) is ∙ e))).0))

  -- A CALL on a started switch
  module _ (call : Call) {given : Outcome} (is : given ≡ apply call m.switch) where
    pub called : given.refusal ≡ 0 → record { machine = with_switch m given.after; slots = 0; refusal = number_alone 0 } ≡ run_call m call x y
    unfolding run_call
    called e = rw (← is, e) (ap (λ r. record { machine = with_switch m given.after; slots = 0; refusal = r }) accepted)

    pub not_called : record { machine = with_switch m given.after; slots = 0; refusal = refusal_of m x y given.refusal } ≡ run_call m call x y
    unfolding run_call
    not_called = rw is

-- ONE THAT IS NOT RUNNING afterwards was not before, and keeps its form: after a record, and after a slot.
abbrev pub FormStays : (before after : Program.Machine) → Type 0
FormStays m m' = m'.running ≡ false → (m.running ≡ false) × (m'.form ≡ m.form)

pub stays_same : (m : Program.Machine) → FormStays m m
stays_same m h = (h, refl)

pub stays_then : (m m' m'' : Program.Machine) → FormStays m m' → FormStays m' m'' → FormStays m m''
stays_then m m' m'' f g h =
    let later = g h in
    let first = f later.0 in
    (first.0, later.1 ∙ first.1)

module _ (m : Program.Machine) where
  started_or : (b : Bool) (n : Program.Machine) → n.running ≡ true → FormStays m (pick b n m)
  started_or true n s h = absurd (false≢true (sym h ∙ s))
  started_or false n s h = stays_same m h

  pub form_stays : (r : Reading) → FormStays m (obey m r).machine
  unfolding obey run_start run_call
  form_stays (Records.Refused number) = stays_same m
  form_stays (Records.Request Start x y z) = started_or _ _ refl
  form_stays (Records.Request Pipe x y z) = started_or _ _ refl
  form_stays (Records.Request Book x y z) = stays_same m
  form_stays (Records.Request Release x y z) = stays_same m
  form_stays (Records.Request Arrive x y z) = stays_same m
  form_stays (Records.Request Tick x y z) = stays_same m

  pub slot_form_stays : FormStays m (run_slot m).machine
  unfolding run_slot
  slot_form_stays = stays_same m
