-- A record is asked its questions in their order, and its numbers are read.
use mathlib.Core.Path.{sym, ap, ◌∙◌}
use mathlib.Core.List.{List, ◌∷◌}
use lib.ListN.{length}
use native.Mathlib.Omega.{arith}
use Rattle.std.proofs.lemmas.Result.{err_from_is_err_and}
use Rattle.std.specs.Result.{result_ok}
use Rattle.std.proofs.Common.{rules, ◌≡◌, ◌≤◌, ℕ, Bool, false, true, ◌||◌, Some, Bor}
use borrow.Author.Tests.{tests}
use Rattle.std.specs.Prelude.{Option}
use Rattle.wsgs.specs.declared.Operation.{Operation}
use Rattle.wsgs.specs.declared.Refused.TheVariants.{Record}
use Rattle.wsgs.specs.Text.{quote, has, fields}
use Rattle.wsgs.specs.Records.{names, look_up, is_start, field}
use Rattle.records.proofs.Texts.{any_has}
use Rattle.records.proofs.Cuts.{Others, first_named, other_fields}
use Rattle.records.proofs.Readings.{over_64, quoted, unknown, too_early, other_count, by_numbers}
use Rattle.records.proofs.read_record.Goals as goal
use Rattle.records.proofs.read_record.Goals.{After-next-5, else-not-running-via-then-not-running+else-not-is_start, else-not-running-via-else-not-running, then-text-gt-MAX_RECORD-via-then-text-gt-MAX_RECORD, then-text-gt-MAX_RECORD-via-else-text-gt-MAX_RECORD+then-contains}

pub returns-then-text-gt-MAX_RECORD : goal.returns-then-text-gt-MAX_RECORD
returns-then-text-gt-MAX_RECORD c =
    elim c.then-text-gt-MAX_RECORD.branch [
      | then-text-gt-MAX_RECORD-via-then-text-gt-MAX_RECORD w ↦ record { reading = over_64 _ _ (omega arith) }
      | then-text-gt-MAX_RECORD-via-else-text-gt-MAX_RECORD+then-contains w ↦
          record { reading = quoted _ _ (omega arith) (sym (any_has quote c.args.text.now) ∙ sym w.contains.ensures.value ∙ w.if-contains.true) }
    ]

pub returns-in_err-operation : goal.returns-in_err-operation
returns-in_err-operation c =
    let n = first_named _ _ c.args.text.now _ _ c.next.ensures.steps c.split-fields.ensures.rest c.split-fields.ensures.done c.split-fields.ensures.closure (λ x b q k. search (rules, tests)) c.and_then.ensures in
    let h : has quote c.args.text.now ≡ false = sym (any_has quote c.args.text.now) ∙ sym c.if-contains.ensures.value in
    let why = err_from_is_err_and c.from_residual.result c.from_residual.ensures.1 in
    let unnamed = c.in_err-operation.ensures.ok_part in
    let number : c.in_err-operation.field-0.0 ≡ Record = cc (rw unnamed at c.in_err-operation.ensures.value) in
    record { reading = rw (why.1, why.2, number) (unknown _ _ (omega arith) h (n.named ∙ unnamed)) }

-- an operation that is known and in time
pub record Asked (running : Bool) (t : List ℕ) (o : Operation) (a b c d : Option (Bor (List ℕ))) : Type 0 where
  pub short : length t ≤ 64
  pub unquoted : has quote t ≡ false
  pub known : look_up names (field t 1) ≡ Some o
  pub in_time : (running || is_start (Some o)) ≡ true
  pub others : List (List ℕ)
  pub are : fields t ≡ field t 1 ∷ others
  pub read : Others others a b c d

asked : (c : After-next-5) → Asked c.args.running c.args.text.now c.in_ok-operation.operation c.next-2.result c.next-3.result c.next-4.result c.next-5.result
asked c =
    let n = first_named _ _ c.args.text.now _ _ c.next.ensures.steps c.split-fields.ensures.rest c.split-fields.ensures.done c.split-fields.ensures.closure (λ x b q k. search (rules, tests)) c.and_then.ensures in
    let h : has quote c.args.text.now ≡ false = sym (any_has quote c.args.text.now) ∙ sym c.if-contains.ensures.value in
    let time : (c.args.running || is_start (Some c.in_ok-operation.operation)) ≡ true =
    elim c.else-not-running.branch [
      | else-not-running-via-then-not-running+else-not-is_start w ↦ rw (w.if-not-running.true, ← w.is_start.ensures.answer) w.if-not-is_start.false
      | else-not-running-via-else-not-running w ↦ rw w.if-not-running.false
    ] in
    record {
      short = omega arith;
      unquoted = h;
      known = n.named ∙ c.ok_or.ensures.ok_part ∙ ap result_ok c.in_ok-operation.was;
      in_time = time;
      others = n.others;
      are = n.are;
      read = other_fields _ _ _ _ _ _ _ n.left c.next-2.ensures.steps c.next-3.ensures.steps c.next-4.ensures.steps c.next-5.ensures.steps;
    }

pub returns-then-not-is_start : goal.returns-then-not-is_start
returns-then-not-is_start c =
    let n = first_named _ _ c.args.text.now _ _ c.next.ensures.steps c.split-fields.ensures.rest c.split-fields.ensures.done c.split-fields.ensures.closure (λ x b q k. search (rules, tests)) c.and_then.ensures in
    let h : has quote c.args.text.now ≡ false = sym (any_has quote c.args.text.now) ∙ sym c.if-contains.ensures.value in
    let known = n.named ∙ c.ok_or.ensures.ok_part ∙ ap result_ok c.in_ok-operation.was in
    record { reading = too_early _ _ (omega arith) h _ known (rw (c.if-not-running.true, ← c.is_start.ensures.answer) c.if-not-is_start.true) }

pub returns-in_default : goal.returns-in_default
returns-in_default c =
    let a = asked (goal.at.returns-in_default c).After-next-5 in
    let d = c.in_default in
    record { reading = other_count _ _ a.short a.unquoted _ a.known a.in_time (λ e. omega (arith, ap length a.are, a.read.more _ _ _ _ d.is-0 d.is-1 d.is-2 d.is-3)) }

pub returns-in_default-2 : goal.returns-in_default-2
returns-in_default-2 c =
    let a = asked (goal.at.returns-in_default-2 c).After-next-5 in
    let d = c.in_default in
    record { reading = other_count _ _ a.short a.unquoted _ a.known a.in_time (λ e. omega (arith, ap length a.are, a.read.two _ _ d.is-0 d.is-1 d.is-2)) }

pub returns-in_default-3 : goal.returns-in_default-3
returns-in_default-3 c =
    let a = asked (goal.at.returns-in_default-3 c).After-next-5 in
    record { reading = other_count _ _ a.short a.unquoted _ a.known a.in_time (λ e. omega (arith, ap length a.are, a.read.one _ c.in_default.is-0 c.in_default.is-1)) }

pub returns-in_default-4 : goal.returns-in_default-4
returns-in_default-4 c =
    let a = asked (goal.at.returns-in_default-4 c).After-next-5 in
    record { reading = other_count _ _ a.short a.unquoted _ a.known a.in_time (λ e. omega (arith, ap length a.are, a.read.none c.in_default.is-0)) }

pub returns : goal.returns
returns c =
    let a = asked (goal.at.returns c).After-next-5 in
    let d = c.in-Some-Some-Some-None in
    let fs = a.read.three _ _ _ d.is-0 d.is-1 d.is-2 d.is-3 in
    let four : length (fields c.args.text.now) ≡ 4 = ap length a.are ∙ rw fs in
    record { reading = c.read_numbers.ensures.reading ∙ (rw fs at (by_numbers _ _ a.short a.unquoted _ a.known a.in_time four _ _ a.are)) }
