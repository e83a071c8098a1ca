-- A slot: what a tick gives back leaves what the definition of a slot says. Assumes nothing.
use mathlib.Core.Path.{◌≡◌, sym, ap, ◌∙◌}
use Rattle.std.specs.Prelude.{Some, Result, Ok, Err}
use Rattle.wsgs.specs.declared.Refused.{Refused}
use Rattle.wsgs.specs.declared.RefusalLine.{RefusalLine}
use Rattle.wsgs.specs.declared.Served.{Served}
use Rattle.wsgs.specs.declared.Ticked.{Ticked}
use Rattle.wsgs.specs.declared.TurnRuns.{TurnRuns}
use Rattle.wsgs.specs.declared.PipelineRuns.{PipelineRuns}
use Rattle.wsgs.specs.Answers.{matching_of}
use Rattle.wsgs.specs.Bookings.{Book}
use Rattle.wsgs.specs.Steps.{empty_matching}
use Rattle.wsgs.specs.Ledger.{slot_of_tick}
use Rattle.wsgs.specs.Program.{SlotOutcome, number_alone, with_switch, refusal_of, run_slot}
use Rattle.wsgs.specs.Program
use Rattle.wsgs.specs.Switch.{Outcome, tick, apply}
use Rattle.wsgs.specs.Told.{number, refusal_told}
use Rattle.wsgs.proofs.Refusals.{unchanged}
use Rattle.questions.proofs.Laws.Answers.{number_some}
use Rattle.machine.specs.declared.Machine.{Machine}
use Rattle.machine.specs.declared.SlotPairs.{SlotPairs}
use Rattle.machine.specs.View.{machine_lent, pairs_in, slot_outcome_of, tick_outcome_of}
use Rattle.machine.proofs.RecordLaws.{accepted}

-- a slot by the outcome of its tick
abbrev slot_from : Program.Machine → Outcome → SlotOutcome
slot_from M o =
    record {
      machine = with_switch M o.after;
      slot = slot_of_tick M.form o.after.clock.slot;
      matching = o.matching;
      refusal = refusal_of M 0 0 o.refusal;
    }

slot_is : (M : Program.Machine) {o : Outcome} → o ≡ apply (tick M.form) M.switch → slot_from M o ≡ run_slot M
unfolding run_slot
slot_is M e = ap (slot_from M) e

module _ (m : Machine) (b b' : Book) (t t' : TurnRuns) (p p' : PipelineRuns) where
  abbrev M : Program.Machine
  M = machine_lent m b t p

  abbrev left : Result Ticked Refused → Outcome
  left o = tick_outcome_of m.clock o b' t' p'

  pub slot_ran : (o : Ticked) → left (Ok o) ≡ apply (tick M.form) M.switch
      → (pairs : SlotPairs) → pairs.slot ≡ slot_of_tick M.form o.clock.slot → pairs.served ≡ o.served
      → slot_outcome_of (record { machine = record { running = m.running; form = m.form; clock = o.clock }; outcome = Ok pairs }) b' t' p' ≡ run_slot M
  slot_ran o e pairs s v =
      ap (λ k. record { machine = with_switch M (left (Ok o)).after; slot = k; matching = pairs_in (Ok pairs); refusal = number_alone 0 }) s
      ∙ ap (λ (v : Served). record { machine = with_switch M (left (Ok o)).after; slot = slot_of_tick M.form o.clock.slot; matching = matching_of v.outputs v.first_pass; refusal = number_alone 0 }) v
      ∙ ap (λ r. record { machine = with_switch M (left (Ok o)).after; slot = slot_of_tick M.form o.clock.slot; matching = (left (Ok o)).matching; refusal = r }) (accepted M 0 0)
      ∙ slot_is M e

  pub slot_refused : (refused : Refused) → left (Err refused) ≡ apply (tick M.form) M.switch
      → (line : RefusalLine) → refusal_told (Some line) ≡ refusal_of M 0 0 (number refused)
      → slot_outcome_of (record { machine = m; outcome = Err line }) b' t' p' ≡ run_slot M
  slot_refused refused e line l =
      ap (λ r. record { machine = with_switch M (left (Err refused)).after; slot = slot_of_tick M.form m.clock.slot; matching = empty_matching; refusal = r }) l
      ∙ ap (λ a. record { machine = with_switch M (left (Err refused)).after; slot = slot_of_tick M.form m.clock.slot; matching = a; refusal = refusal_of M 0 0 (number refused) }) (sym none)
      ∙ slot_is M e
    where
      none : (left (Err refused)).matching ≡ empty_matching
      none =
          ap (λ (x : Outcome). x.matching) e
          ∙ (unchanged (tick M.form) M.switch (λ z. number_some refused (ap (λ (x : Outcome). x.refusal) e ∙ z))).1
