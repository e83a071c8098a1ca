-- One theorem for each call of a switch and each public function that does it: what the function's contract says, its result and its runs at
-- exit put together into an outcome of the switch, is `apply` of the call; and runs that come as a struct are still the same loans. The contracts are those of the source, as the toolchain has them.
-- Stated over any `Logic`, as the contracts are; uses none of its laws.
use mathlib.Core.Path.{◌≡◌, ap}
use mathlib.Core.List.{List}
use Prim.Native.Nat.{ℕ}
use seplogic.Ra.Ura.{Ura}
use base.Logic.{SProp}
use prog.Memory.{Memory}
use prog.Routine.{Routine}
use types.Logic.{Logic}
use contract.Monad.{Fun, fact_mono}
use Rattle.wsgs.specs.declared.Clock.{Clock}
use Rattle.wsgs.specs.Bookings.{book_of}
use Rattle.wsgs.specs.Questions.{effect}
use Rattle.wsgs.specs.Headroom.{headroom_result}
use Rattle.wsgs.specs.Preview.{slots_booking, rate_booking, slots_release, rate_release}
use Rattle.wsgs.specs.Answers.{direct_runs_of, pipelined_runs_of, start_outcome, tick_outcome, result_of, by_value}
use Rattle.wsgs.specs.Told.{refusal_number, kind_is_fine, book_lent, direct_lent, pipelined_lent, SameTurnRuns, SamePipelineRuns, start_told, tick_told, answer_told, headroom_told, preview_told}
use Rattle.wsgs.specs.Switch.{direct, pipelined, start, book, book_rate, release, release_rate, headroom, arrive, tick, apply, of_direct, of_pipelined, of_book, of_asking, of_queues}
use Rattle.wsgs.proofs.Calls
use Rattle.starts.specs.contracts.start_direct as starts_direct
use Rattle.starts.specs.contracts.start_pipelined as starts_pipelined
use Rattle.book.specs.contracts.book as book_book
use Rattle.book.specs.contracts.book_rate as book_rate_book
use Rattle.book.specs.contracts.release as book_release
use Rattle.book.specs.contracts.release_rate as book_release_rate
use Rattle.previews.specs.contracts.headroom as previews_headroom
use Rattle.previews.specs.contracts.preview_book as previews_preview_book
use Rattle.previews.specs.contracts.preview_book_rate as previews_preview_book_rate
use Rattle.previews.specs.contracts.preview_release as previews_preview_release
use Rattle.previews.specs.contracts.preview_release_rate as previews_preview_release_rate
use Rattle.book.specs.contracts.arrive as book_arrive
use Rattle.direct.specs.contracts.tick as direct_tick
use Rattle.pipelined.specs.contracts.tick as pipelined_tick
use Rattle.clock.specs.contracts.tick_direct as clock_tick_direct
use Rattle.clock.specs.contracts.tick_pipelined as clock_tick_pipelined
use Rattle.clock.specs.contracts.step_direct as clock_step_direct
use Rattle.clock.specs.contracts.step_pipelined as clock_step_pipelined
use Rattle.calls.specs.Says.{Says, switch_of, direct_switch, pipelined_switch, PreviewTold}
use Rattle.calls.proofs.Facts.{from_two, from_three, from_four}

module _ {M : Type 1} {𝓤 : Ura M} (𝓛 : Logic 𝓤) (mem : Memory → SProp 𝓤) (run : Routine → Fun 𝓤) where
  -- `starts::start_direct`, `starts::start_pipelined`: ports, frame, line, the kind of the book, slots, rates, and the other runs; of a switch that had any clock
  pub start_direct : Says 𝓤 starts_direct.ended (starts_direct.clauses 𝓛 mem run) (λ κs a r e.
      SameTurnRuns a.1.1.1.1.1.1.0.now e.1.1.1.1.1.1.0.now × ((clock : Clock) (copy flight : List ℕ)
      → let s = direct_switch clock (book_of a.1.1.1.1.0.now a.1.1.1.1.1.0.now) a.1.1.1.1.1.1.0.now copy flight in
      let t = e.1.1.1.1.1.1.0.now in
      of_direct s (start_outcome (effect (start_told clock r) (direct_runs_of e.1.1.1.1.0.now e.1.1.1.1.1.0.now t.credits.now t.queues.now t.given.now))) ≡ apply (start direct a.0 a.1.0 a.1.1.0 (kind_is_fine a.1.1.1.0)) s))
  start_direct κs a g r e = from_two 𝓤 (λ loans told. (loans, λ clock copy flight. Calls.start_direct _ _ _ _ _ _ (told clock)))

  pub start_pipelined : Says 𝓤 starts_pipelined.ended (starts_pipelined.clauses 𝓛 mem run) (λ κs a r e.
      SameTurnRuns a.1.1.1.1.1.1.0.now e.1.1.1.1.1.1.0.now × (SamePipelineRuns a.1.1.1.1.1.1.1.0.now e.1.1.1.1.1.1.1.0.now × ((clock : Clock)
      → let s = pipelined_switch clock (book_of a.1.1.1.1.0.now a.1.1.1.1.1.0.now) a.1.1.1.1.1.1.0.now a.1.1.1.1.1.1.1.0.now in
      let t = e.1.1.1.1.1.1.0.now in
      let p = e.1.1.1.1.1.1.1.0.now in
      of_pipelined (start_outcome (effect (start_told clock r) (pipelined_runs_of e.1.1.1.1.0.now e.1.1.1.1.1.0.now t.credits.now t.queues.now t.given.now p.copy.now p.flight.now))) ≡ apply (start pipelined a.0 a.1.0 a.1.1.0 (kind_is_fine a.1.1.1.0)) s)))
  start_pipelined κs a g r e = from_three 𝓤 (λ loans pipeline told. (loans, (pipeline, λ clock. Calls.start_pipelined _ _ _ _ _ _ (told clock))))

  -- `book::book`, `book::book_rate`, `book::release`, `book::release_rate`: clock, slots, rates, the pair, and the amount or rate
  pub books : Says 𝓤 book_book.ended (book_book.clauses 𝓛 mem run) (λ κs a r e. (credits queues given copy flight : List ℕ)
      → let s = switch_of a.0 a.1.0.now a.1.1.0.now credits queues given copy flight in
      of_book s (effect (refusal_number r) (book_of e.1.0.now a.1.1.0.now)) ≡ apply (book a.1.1.1.0.input.0 a.1.1.1.0.output.0 a.1.1.1.1.0.0) s)
  books κs a g r e = fact_mono 𝓤 _ _ (λ h credits queues given copy flight. Calls.books _ _ _ _ _ h)

  pub books_rate : Says 𝓤 book_rate_book.ended (book_rate_book.clauses 𝓛 mem run) (λ κs a r e. (credits queues given copy flight : List ℕ)
      → let s = switch_of a.0 a.1.0.now a.1.1.0.now credits queues given copy flight in
      of_book s (effect (refusal_number r) (book_of a.1.0.now e.1.1.0.now)) ≡ apply (book_rate a.1.1.1.0.input.0 a.1.1.1.0.output.0 a.1.1.1.1.0) s)
  books_rate κs a g r e = fact_mono 𝓤 _ _ (λ h credits queues given copy flight. Calls.books_rate _ _ _ _ _ h)

  pub releases : Says 𝓤 book_release.ended (book_release.clauses 𝓛 mem run) (λ κs a r e. (credits queues given copy flight : List ℕ)
      → let s = switch_of a.0 a.1.0.now a.1.1.0.now credits queues given copy flight in
      of_book s (effect (refusal_number r) (book_of e.1.0.now a.1.1.0.now)) ≡ apply (release a.1.1.1.0.input.0 a.1.1.1.0.output.0 a.1.1.1.1.0.0) s)
  releases κs a g r e = fact_mono 𝓤 _ _ (λ h credits queues given copy flight. Calls.releases _ _ _ _ _ h)

  pub releases_rate : Says 𝓤 book_release_rate.ended (book_release_rate.clauses 𝓛 mem run) (λ κs a r e. (credits queues given copy flight : List ℕ)
      → let s = switch_of a.0 a.1.0.now a.1.1.0.now credits queues given copy flight in
      of_book s (effect (refusal_number r) (book_of a.1.0.now e.1.1.0.now)) ≡ apply (release_rate a.1.1.1.0.input.0 a.1.1.1.0.output.0 a.1.1.1.1.0) s)
  releases_rate κs a g r e = fact_mono 𝓤 _ _ (λ h credits queues given copy flight. Calls.releases_rate _ _ _ _ _ h)

  -- `previews::headroom`: clock, book, the pair; besides, its number is that of the switch
  pub asks_headroom : Says 𝓤 previews_headroom.ended (previews_headroom.clauses 𝓛 mem run) (λ κs a r e. (credits queues given copy flight : List ℕ)
      → let s = switch_of a.0 a.1.0.slots.now a.1.0.rates.now credits queues given copy flight in
      let told = headroom_told r in
      (of_asking s told.refusal ≡ apply (headroom a.1.1.0.input.0 a.1.1.0.output.0) s)
      × (told.headroom ≡ (headroom_result s.clock s.book a.1.1.0.input.0 a.1.1.0.output.0).headroom))
  asks_headroom κs a g r e = fact_mono 𝓤 _ _ (λ h credits queues given copy flight. (Calls.asks_headroom _ _ _ _ h, ap (λ x. x.headroom) h))

  -- `previews::preview_book`, `previews::preview_book_rate`, `previews::preview_release`, `previews::preview_release_rate`: clock, book, the pair, and the
  -- amount or rate; besides, number and sums are those of the switch
  pub previews_book : Says 𝓤 previews_preview_book.ended (previews_preview_book.clauses 𝓛 mem run) (λ κs a r e. (credits queues given copy flight : List ℕ)
      → PreviewTold (switch_of a.0 a.1.0.slots.now a.1.0.rates.now credits queues given copy flight) slots_booking a.1.1.0.input.0 a.1.1.0.output.0 a.1.1.1.0.0 (preview_told r))
  previews_book κs a g r e = fact_mono 𝓤 _ _ (λ h credits queues given copy flight. (Calls.asks_preview _ _ _ _ _ _ h, h))

  pub previews_book_rate : Says 𝓤 previews_preview_book_rate.ended (previews_preview_book_rate.clauses 𝓛 mem run) (λ κs a r e. (credits queues given copy flight : List ℕ)
      → PreviewTold (switch_of a.0 a.1.0.slots.now a.1.0.rates.now credits queues given copy flight) rate_booking a.1.1.0.input.0 a.1.1.0.output.0 a.1.1.1.0 (preview_told r))
  previews_book_rate κs a g r e = fact_mono 𝓤 _ _ (λ h credits queues given copy flight. (Calls.asks_preview _ _ _ _ _ _ h, h))

  pub previews_release : Says 𝓤 previews_preview_release.ended (previews_preview_release.clauses 𝓛 mem run) (λ κs a r e. (credits queues given copy flight : List ℕ)
      → PreviewTold (switch_of a.0 a.1.0.slots.now a.1.0.rates.now credits queues given copy flight) slots_release a.1.1.0.input.0 a.1.1.0.output.0 a.1.1.1.0.0 (preview_told r))
  previews_release κs a g r e = fact_mono 𝓤 _ _ (λ h credits queues given copy flight. (Calls.asks_preview _ _ _ _ _ _ h, h))

  pub previews_release_rate : Says 𝓤 previews_preview_release_rate.ended (previews_preview_release_rate.clauses 𝓛 mem run) (λ κs a r e. (credits queues given copy flight : List ℕ)
      → PreviewTold (switch_of a.0 a.1.0.slots.now a.1.0.rates.now credits queues given copy flight) rate_release a.1.1.0.input.0 a.1.1.0.output.0 a.1.1.1.0 (preview_told r))
  previews_release_rate κs a g r e = fact_mono 𝓤 _ _ (λ h credits queues given copy flight. (Calls.asks_preview _ _ _ _ _ _ h, h))

  -- `book::arrive`: clock, queues, the pair, packets
  pub arrives : Says 𝓤 book_arrive.ended (book_arrive.clauses 𝓛 mem run) (λ κs a r e. (slots rates credits given copy flight : List ℕ)
      → let s = switch_of a.0 slots rates credits a.1.0.now given copy flight in
      of_queues s (effect (refusal_number r) e.1.0.now) ≡ apply (arrive a.1.1.0.input.0 a.1.1.0.output.0 a.1.1.1.0) s)
  arrives κs a g r e = fact_mono 𝓤 _ _ (λ h slots rates credits given copy flight. Calls.arrives _ _ _ _ _ h)

  -- `direct::tick`: clock, book, and the runs that turns go by
  pub tick_direct : Says 𝓤 direct_tick.ended (direct_tick.clauses 𝓛 mem run) (λ κs a r e.
      SameTurnRuns a.1.1.0.now e.1.1.0.now × ((copy flight : List ℕ)
      → let s = direct_switch a.0 (book_lent a.1.0) a.1.1.0.now copy flight in
      of_direct s (tick_outcome (effect (tick_told a.0 r) (direct_lent a.1.0 e.1.1.0.now))) ≡ apply (tick direct) s))
  tick_direct κs a g r e = from_two 𝓤 (λ loans told. (loans, λ copy flight. Calls.tick_direct _ _ told))

  -- `pipelined::tick`: clock, book, the runs that turns go by, and those of a pipelined switch
  pub tick_pipelined : Says 𝓤 pipelined_tick.ended (pipelined_tick.clauses 𝓛 mem run) (λ κs a r e.
      SameTurnRuns a.1.1.0.now e.1.1.0.now × (SamePipelineRuns a.1.1.1.0.now e.1.1.1.0.now × (
      let s = pipelined_switch a.0 (book_lent a.1.0) a.1.1.0.now a.1.1.1.0.now in
      of_pipelined (tick_outcome (effect (tick_told a.0 r) (pipelined_lent a.1.0 e.1.1.0.now e.1.1.1.0.now))) ≡ apply (tick pipelined) s)))
  tick_pipelined κs a g r e = from_three 𝓤 (λ loans pipeline told. (loans, (pipeline, Calls.tick_pipelined _ _ told)))

  -- `clock::step_direct`, `clock::step_pipelined`: the same
  pub step_direct : Says 𝓤 clock_step_direct.ended (clock_step_direct.clauses 𝓛 mem run) (λ κs a r e.
      SameTurnRuns a.1.1.0.now e.1.1.0.now × ((copy flight : List ℕ)
      → let s = direct_switch a.0 (book_lent a.1.0) a.1.1.0.now copy flight in
      of_direct s (tick_outcome (effect (tick_told a.0 r) (direct_lent a.1.0 e.1.1.0.now))) ≡ apply (tick direct) s))
  step_direct κs a g r e = from_two 𝓤 (λ loans told. (loans, λ copy flight. Calls.tick_direct _ _ told))

  pub step_pipelined : Says 𝓤 clock_step_pipelined.ended (clock_step_pipelined.clauses 𝓛 mem run) (λ κs a r e.
      SameTurnRuns a.1.1.0.now e.1.1.0.now × (SamePipelineRuns a.1.1.1.0.now e.1.1.1.0.now × (
      let s = pipelined_switch a.0 (book_lent a.1.0) a.1.1.0.now a.1.1.1.0.now in
      of_pipelined (tick_outcome (effect (tick_told a.0 r) (pipelined_lent a.1.0 e.1.1.0.now e.1.1.1.0.now))) ≡ apply (tick pipelined) s)))
  step_pipelined κs a g r e = from_three 𝓤 (λ loans pipeline told. (loans, (pipeline, Calls.tick_pipelined _ _ told)))

  -- `clock::tick_direct`, `clock::tick_pipelined`: the clock is lent, and seen at exit like the runs
  pub tick_direct_in_place : Says 𝓤 clock_tick_direct.ended (clock_tick_direct.clauses 𝓛 mem run) (λ κs a r e.
      SameTurnRuns a.1.1.0.now e.1.1.0.now × ((copy flight : List ℕ)
      → let s = direct_switch a.0.now (book_lent a.1.0) a.1.1.0.now copy flight in
      of_direct s (tick_outcome (effect (result_of e.0.now (answer_told r)) (direct_lent a.1.0 e.1.1.0.now))) ≡ apply (tick direct) s))
  tick_direct_in_place κs a g r e = from_three 𝓤 (λ loans stays told. (loans, λ copy flight. Calls.tick_direct _ _ (ap by_value told)))

  pub tick_pipelined_in_place : Says 𝓤 clock_tick_pipelined.ended (clock_tick_pipelined.clauses 𝓛 mem run) (λ κs a r e.
      SameTurnRuns a.1.1.0.now e.1.1.0.now × (SamePipelineRuns a.1.1.1.0.now e.1.1.1.0.now × (
      let s = pipelined_switch a.0.now (book_lent a.1.0) a.1.1.0.now a.1.1.1.0.now in
      of_pipelined (tick_outcome (effect (result_of e.0.now (answer_told r)) (pipelined_lent a.1.0 e.1.1.0.now e.1.1.1.0.now))) ≡ apply (tick pipelined) s)))
  tick_pipelined_in_place κs a g r e = from_four 𝓤 (λ loans pipeline stays told. (loans, (pipeline, Calls.tick_pipelined _ _ (ap by_value told))))
