-- The same of the C functions (crates/kivdrag_c_c exports them with these contracts), whose clock is lent as its words: one theorem for each.
-- Stated over any `Logic`, as the contracts are; uses none of its laws.
use mathlib.Core.Path.{◌≡◌, ap}
use mathlib.Core.List.{List}
use Prim.Native.Nat.{ℕ}
use seplogic.Ra.Ura.{Ura}
use base.Logic.{SProp}
use prog.Memory.{Memory}
use prog.Routine.{Routine}
use types.Logic.{Logic}
use contract.Monad.{Fun, fact_mono}
use Rattle.wsgs.specs.Bookings.{book_of}
use Rattle.wsgs.specs.Questions.{effect}
use Rattle.wsgs.specs.Headroom.{headroom_result}
use Rattle.wsgs.specs.Preview.{preview_of, slots_booking, rate_booking, slots_release, rate_release}
use Rattle.wsgs.specs.Clocks.{is_fine}
use Rattle.wsgs.specs.Answers.{direct_runs_of, pipelined_runs_of, start_outcome, tick_outcome}
use Rattle.wsgs.specs.Switch.{direct, pipelined, start, book, book_rate, release, release_rate, headroom, arrive, tick, apply, of_direct, of_pipelined, of_book, of_asking, of_queues}
use Rattle.wsgs.proofs.Calls
use Rattle.kivdrag_c.specs.Clocks.{clock_in_words}
use Rattle.kivdrag_c.specs.Results.{c_start, c_tick}
use Rattle.kivdrag_c.specs.contracts.kivdrag_start_direct as c_start_direct
use Rattle.kivdrag_c.specs.contracts.kivdrag_start_pipelined as c_start_pipelined
use Rattle.kivdrag_c.specs.contracts.kivdrag_book as c_book
use Rattle.kivdrag_c.specs.contracts.kivdrag_book_rate as c_book_rate
use Rattle.kivdrag_c.specs.contracts.kivdrag_release as c_release
use Rattle.kivdrag_c.specs.contracts.kivdrag_release_rate as c_release_rate
use Rattle.kivdrag_c.specs.contracts.kivdrag_headroom as c_headroom
use Rattle.kivdrag_c.specs.contracts.kivdrag_preview_book as c_preview_book
use Rattle.kivdrag_c.specs.contracts.kivdrag_preview_book_rate as c_preview_book_rate
use Rattle.kivdrag_c.specs.contracts.kivdrag_preview_release as c_preview_release
use Rattle.kivdrag_c.specs.contracts.kivdrag_preview_release_rate as c_preview_release_rate
use Rattle.kivdrag_c.specs.contracts.kivdrag_arrive as c_arrive
use Rattle.kivdrag_c.specs.contracts.kivdrag_tick_direct as c_tick_direct
use Rattle.kivdrag_c.specs.contracts.kivdrag_tick_pipelined as c_tick_pipelined
use Rattle.calls.specs.Says.{Says, switch_of, PreviewTold, start_told, tick_told}

module _ {M : Type 1} {𝓤 : Ura M} (𝓛 : Logic 𝓤) (mem : Memory → SProp 𝓤) (run : Routine → Fun 𝓤) where
  -- `kivdrag_start_direct`, `kivdrag_start_pipelined`: ports, frame, line, the kind of the book, clock, and the runs
  pub start_direct : Says 𝓤 c_start_direct.ended (c_start_direct.clauses 𝓛 mem run) (λ κs a r e. (copy flight : List ℕ)
      → let s = switch_of (clock_in_words a.1.1.1.1.0.now) a.1.1.1.1.1.0.now a.1.1.1.1.1.1.0.now a.1.1.1.1.1.1.1.0.now a.1.1.1.1.1.1.1.1.0.now a.1.1.1.1.1.1.1.1.1.0.now copy flight in
      of_direct s (start_outcome (start_told (c_start r e.1.1.1.1.0.now (direct_runs_of e.1.1.1.1.1.0.now e.1.1.1.1.1.1.0.now e.1.1.1.1.1.1.1.0.now e.1.1.1.1.1.1.1.1.0.now e.1.1.1.1.1.1.1.1.1.0.now)))) ≡ apply (start direct a.0 a.1.0 a.1.1.0 (is_fine a.1.1.1.0)) s)
  start_direct κs a g r e = fact_mono 𝓤 _ _ (λ h copy flight. Calls.start_direct _ _ _ _ _ _ (ap start_told h))

  pub start_pipelined : Says 𝓤 c_start_pipelined.ended (c_start_pipelined.clauses 𝓛 mem run) (λ κs a r e.
      let s = switch_of (clock_in_words a.1.1.1.1.0.now) a.1.1.1.1.1.0.now a.1.1.1.1.1.1.0.now a.1.1.1.1.1.1.1.0.now a.1.1.1.1.1.1.1.1.0.now a.1.1.1.1.1.1.1.1.1.0.now a.1.1.1.1.1.1.1.1.1.1.0.now a.1.1.1.1.1.1.1.1.1.1.1.0.now in
      of_pipelined (start_outcome (start_told (c_start r e.1.1.1.1.0.now (pipelined_runs_of e.1.1.1.1.1.0.now e.1.1.1.1.1.1.0.now e.1.1.1.1.1.1.1.0.now e.1.1.1.1.1.1.1.1.0.now e.1.1.1.1.1.1.1.1.1.0.now e.1.1.1.1.1.1.1.1.1.1.0.now e.1.1.1.1.1.1.1.1.1.1.1.0.now)))) ≡ apply (start pipelined a.0 a.1.0 a.1.1.0 (is_fine a.1.1.1.0)) s)
  start_pipelined κs a g r e = fact_mono 𝓤 _ _ (λ h. Calls.start_pipelined _ _ _ _ _ _ (ap start_told h))

  -- `kivdrag_book`, `kivdrag_book_rate`, `kivdrag_release`, `kivdrag_release_rate`: clock, slots, rates, input, output, and the amount or rate
  pub books : Says 𝓤 c_book.ended (c_book.clauses 𝓛 mem run) (λ κs a r e. (credits queues given copy flight : List ℕ)
      → let s = switch_of (clock_in_words a.0.now) a.1.0.now a.1.1.0.now credits queues given copy flight in
      of_book s (effect r (book_of e.1.0.now a.1.1.0.now)) ≡ apply (book a.1.1.1.0 a.1.1.1.1.0 a.1.1.1.1.1.0) s)
  books κs a g r e = fact_mono 𝓤 _ _ (λ h credits queues given copy flight. Calls.books _ _ _ _ _ h)

  pub books_rate : Says 𝓤 c_book_rate.ended (c_book_rate.clauses 𝓛 mem run) (λ κs a r e. (credits queues given copy flight : List ℕ)
      → let s = switch_of (clock_in_words a.0.now) a.1.0.now a.1.1.0.now credits queues given copy flight in
      of_book s (effect r (book_of a.1.0.now e.1.1.0.now)) ≡ apply (book_rate a.1.1.1.0 a.1.1.1.1.0 a.1.1.1.1.1.0) s)
  books_rate κs a g r e = fact_mono 𝓤 _ _ (λ h credits queues given copy flight. Calls.books_rate _ _ _ _ _ h)

  pub releases : Says 𝓤 c_release.ended (c_release.clauses 𝓛 mem run) (λ κs a r e. (credits queues given copy flight : List ℕ)
      → let s = switch_of (clock_in_words a.0.now) a.1.0.now a.1.1.0.now credits queues given copy flight in
      of_book s (effect r (book_of e.1.0.now a.1.1.0.now)) ≡ apply (release a.1.1.1.0 a.1.1.1.1.0 a.1.1.1.1.1.0) s)
  releases κs a g r e = fact_mono 𝓤 _ _ (λ h credits queues given copy flight. Calls.releases _ _ _ _ _ h)

  pub releases_rate : Says 𝓤 c_release_rate.ended (c_release_rate.clauses 𝓛 mem run) (λ κs a r e. (credits queues given copy flight : List ℕ)
      → let s = switch_of (clock_in_words a.0.now) a.1.0.now a.1.1.0.now credits queues given copy flight in
      of_book s (effect r (book_of a.1.0.now e.1.1.0.now)) ≡ apply (release_rate a.1.1.1.0 a.1.1.1.1.0 a.1.1.1.1.1.0) s)
  releases_rate κs a g r e = fact_mono 𝓤 _ _ (λ h credits queues given copy flight. Calls.releases_rate _ _ _ _ _ h)

  -- `kivdrag_headroom`: clock, slots, rates, input, output, and the word for the number
  pub asks_headroom : Says 𝓤 c_headroom.ended (c_headroom.clauses 𝓛 mem run) (λ κs a r e. (credits queues given copy flight : List ℕ)
      → let s = switch_of (clock_in_words a.0.now) a.1.0.now a.1.1.0.now credits queues given copy flight in
      (of_asking s r ≡ apply (headroom a.1.1.1.0 a.1.1.1.1.0) s)
      × (e.1.1.1.1.1.0.now ≡ (headroom_result s.clock s.book a.1.1.1.0 a.1.1.1.1.0).headroom))
  asks_headroom κs a g r e = fact_mono 𝓤 _ _ (λ h credits queues given copy flight. (Calls.asks_headroom _ _ _ _ h, ap (λ x. x.headroom) h))

  -- `kivdrag_preview_book`, `kivdrag_preview_book_rate`, `kivdrag_preview_release`, `kivdrag_preview_release_rate`: clock, slots, rates, input, output,
  -- the amount or rate, and the words for the sums
  pub previews_book : Says 𝓤 c_preview_book.ended (c_preview_book.clauses 𝓛 mem run) (λ κs a r e. (credits queues given copy flight : List ℕ)
      → PreviewTold (switch_of (clock_in_words a.0.now) a.1.0.now a.1.1.0.now credits queues given copy flight) slots_booking a.1.1.1.0 a.1.1.1.1.0 a.1.1.1.1.1.0
      (preview_of r e.1.1.1.1.1.1.0.now e.1.1.1.1.1.1.1.0.now))
  previews_book κs a g r e = fact_mono 𝓤 _ _ (λ h credits queues given copy flight. (Calls.asks_preview _ _ _ _ _ _ h, h))

  pub previews_book_rate : Says 𝓤 c_preview_book_rate.ended (c_preview_book_rate.clauses 𝓛 mem run) (λ κs a r e. (credits queues given copy flight : List ℕ)
      → PreviewTold (switch_of (clock_in_words a.0.now) a.1.0.now a.1.1.0.now credits queues given copy flight) rate_booking a.1.1.1.0 a.1.1.1.1.0 a.1.1.1.1.1.0
      (preview_of r e.1.1.1.1.1.1.0.now e.1.1.1.1.1.1.1.0.now))
  previews_book_rate κs a g r e = fact_mono 𝓤 _ _ (λ h credits queues given copy flight. (Calls.asks_preview _ _ _ _ _ _ h, h))

  pub previews_release : Says 𝓤 c_preview_release.ended (c_preview_release.clauses 𝓛 mem run) (λ κs a r e. (credits queues given copy flight : List ℕ)
      → PreviewTold (switch_of (clock_in_words a.0.now) a.1.0.now a.1.1.0.now credits queues given copy flight) slots_release a.1.1.1.0 a.1.1.1.1.0 a.1.1.1.1.1.0
      (preview_of r e.1.1.1.1.1.1.0.now e.1.1.1.1.1.1.1.0.now))
  previews_release κs a g r e = fact_mono 𝓤 _ _ (λ h credits queues given copy flight. (Calls.asks_preview _ _ _ _ _ _ h, h))

  pub previews_release_rate : Says 𝓤 c_preview_release_rate.ended (c_preview_release_rate.clauses 𝓛 mem run) (λ κs a r e. (credits queues given copy flight : List ℕ)
      → PreviewTold (switch_of (clock_in_words a.0.now) a.1.0.now a.1.1.0.now credits queues given copy flight) rate_release a.1.1.1.0 a.1.1.1.1.0 a.1.1.1.1.1.0
      (preview_of r e.1.1.1.1.1.1.0.now e.1.1.1.1.1.1.1.0.now))
  previews_release_rate κs a g r e = fact_mono 𝓤 _ _ (λ h credits queues given copy flight. (Calls.asks_preview _ _ _ _ _ _ h, h))

  -- `kivdrag_arrive`: clock, queues, input, output, packets
  pub arrives : Says 𝓤 c_arrive.ended (c_arrive.clauses 𝓛 mem run) (λ κs a r e. (slots rates credits given copy flight : List ℕ)
      → let s = switch_of (clock_in_words a.0.now) slots rates credits a.1.0.now given copy flight in
      of_queues s (effect r e.1.0.now) ≡ apply (arrive a.1.1.0 a.1.1.1.0 a.1.1.1.1.0) s)
  arrives κs a g r e = fact_mono 𝓤 _ _ (λ h slots rates credits given copy flight. Calls.arrives _ _ _ _ _ h)

  -- `kivdrag_tick_direct`, `kivdrag_tick_pipelined`: clock, the runs, the outputs and the word of pass one
  pub tick_direct : Says 𝓤 c_tick_direct.ended (c_tick_direct.clauses 𝓛 mem run) (λ κs a r e. (copy flight : List ℕ)
      → let s = switch_of (clock_in_words a.0.now) a.1.0.now a.1.1.0.now a.1.1.1.0.now a.1.1.1.1.0.now a.1.1.1.1.1.0.now copy flight in
      of_direct s (tick_outcome (tick_told (c_tick r e.0.now e.1.1.1.1.1.1.0.now e.1.1.1.1.1.1.1.0.now (direct_runs_of a.1.0.now a.1.1.0.now e.1.1.1.0.now e.1.1.1.1.0.now e.1.1.1.1.1.0.now))))
      ≡ apply (tick direct) s)
  tick_direct κs a g r e = fact_mono 𝓤 _ _ (λ h copy flight. Calls.tick_direct _ _ (ap tick_told h))

  pub tick_pipelined : Says 𝓤 c_tick_pipelined.ended (c_tick_pipelined.clauses 𝓛 mem run) (λ κs a r e.
      let s = switch_of (clock_in_words a.0.now) a.1.0.now a.1.1.0.now a.1.1.1.0.now a.1.1.1.1.0.now a.1.1.1.1.1.0.now a.1.1.1.1.1.1.0.now a.1.1.1.1.1.1.1.0.now in
      of_pipelined (tick_outcome (tick_told (c_tick r e.0.now e.1.1.1.1.1.1.1.1.0.now e.1.1.1.1.1.1.1.1.1.0.now (pipelined_runs_of a.1.0.now a.1.1.0.now e.1.1.1.0.now e.1.1.1.1.0.now e.1.1.1.1.1.0.now e.1.1.1.1.1.1.0.now e.1.1.1.1.1.1.1.0.now))))
      ≡ apply (tick pipelined) s)
  tick_pipelined κs a g r e = fact_mono 𝓤 _ _ (λ h. Calls.tick_pipelined _ _ (ap tick_told h))
