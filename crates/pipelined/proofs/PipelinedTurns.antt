-- The turns of a pipelined tick. In a turn for slot s an input that has an output changes nothing, and any other takes the first open one in turn, if
-- there is one; at time k each input reloads its credits and has its turns where they are due. Assumes nothing.
use Rattle.std.proofs.Common.{◌≡◌, ℕ, suc, ◌+◌, ◌-◌, ◌*◌, ◌%◌, ◌<◌, ◌≤◌, Bool, true, false, not, ◌&&◌, eqb, ltb, List, get_or, set, sym, refl, ap, ◌∙◌, add-one, arith, le-ltb, lt-ltb, eq-eqb, ne_eqb, le-leb}
use mathlib.Core.Bool.{and_self, and-false}
use borrow.Author.Tests.{lt-leb}
use Rattle.wsgs.specs.declared.TurnRuns as Lent
use Rattle.wsgs.specs.declared.PipelineRuns.{PipelineRuns}
use Rattle.wsgs.specs.Told.{SameTurnRuns, SamePipelineRuns}
use Rattle.wsgs.specs.Basics.{pick, Port, in_turn}
use Rattle.wsgs.specs.Words.{word, less_one, port_word, put_port}
use Rattle.wsgs.specs.Frames.{first_of_frame}
use Rattle.wsgs.specs.Pipelined.{TurnRuns, loaded, reloaded, output_in, flight_place, in_flight, reserved, standing, turn_one, turn_two, slot_one, slot_two, pass_one_turn, turns_of, turns}
use Rattle.wsgs.proofs.Laws.InTurn.{in_turn_ext, in_turn_nobody}
use Rattle.turns.specs.Masks.{in_mask, ready_mask}
use Rattle.turns.specs.Charges.{charged, noted}
use Rattle.pipelined.specs.Turnings.{turn_runs_of}
use Rattle.turns.proofs.Costs.{charged_some, charged_none, noted_some, noted_none}
use Rattle.turns.proofs.Ready.{is_open, nothing_asked}

-- the same loans after one turn more
pub same_on : {a b c : Lent.TurnRuns} → SameTurnRuns a b → SameTurnRuns b c → SameTurnRuns a c
same_on s t = record { credits = t.credits ∙ s.credits; queues = t.queues ∙ s.queues; given = t.given ∙ s.given }

pub same_pipeline_on : {a b c : PipelineRuns} → SamePipelineRuns a b → SamePipelineRuns b c → SamePipelineRuns a c
same_pipeline_on s t = record { copy = t.copy ∙ s.copy; flight = t.flight ∙ s.flight }

-- a choice between two turnings
by_test : (b : Bool) (x y : TurnRuns) → ◌≡◌ {A = TurnRuns} (elim b [ true ↦ x | false ↦ y ]) (pick b x y)
by_test true x y = refl
by_test false x y = refl

-- A TURN of input i for slot s
module _ (n s i : ℕ) (c q g f : List ℕ) where
  abbrev w : TurnRuns
  w = turn_runs_of c q g f

  -- of the outputs that are free and whose words in two runs are above 0, the first in turn
  abbrev best : List ℕ → List ℕ → ℕ
  best one two = in_turn (λ j. not (standing n f s j) && (ltb 0 (word n one i j) && ltb 0 (word n two i j))) n (port_word g i)

  -- what a turn leaves that takes output j
  abbrev served_one : ℕ → TurnRuns
  served_one j = turn_runs_of (less_one n c i j) (less_one n q i j) (put_port g i j) (set f (flight_place n s i) (100 + j))

  abbrev served_two : ℕ → TurnRuns
  served_two j = turn_runs_of c (less_one n q i j) (put_port g i j) (set f (flight_place n s i) j)

  -- a turn of each pass; that of pass two goes by the queues alone
  turn_one_is : turn_one n s i w ≡ pick (eqb (reserved n f s i) 0 && ltb 0 (best c q)) (served_one (best c q)) w
  unfolding turn_one
  turn_one_is = by_test (eqb (reserved n f s i) 0 && ltb 0 (best c q)) (served_one (best c q)) w

  turn_two_is : turn_two n s i w ≡ pick (eqb (reserved n f s i) 0 && ltb 0 (best q q)) (served_two (best q q)) w
  unfolding turn_two
  turn_two_is =
      by_test (eqb (reserved n f s i) 0 && ltb 0 asks) (served_two asks) w
      ∙ ap (λ j. pick (eqb (reserved n f s i) 0 && ltb 0 j) (served_two j) w)
      (in_turn_ext _ _ n _ _ (λ j p. ap (λ b. not (standing n f s j) && b) (sym (and_self (ltb 0 (word n q i j))))) refl)
    where
      asks : ℕ
      asks = in_turn (λ j. not (standing n f s j) && ltb 0 (word n q i j)) n (port_word g i)

  -- it asks for nothing
  unasked : (one two : List ℕ) (asked : ℕ) → asked ≡ ready_mask one two ((i - 1) * n) n → asked ≡ 0 → best one two ≡ 0
  unasked one two asked e z =
      in_turn_nobody _ n (port_word g i)
      (λ j p. rw (nothing_asked n 0 one two i asked e z j p, and-false (not (standing n f s j))) tt)

  pub turn_one_unasked : (asked : ℕ) → asked ≡ ready_mask c q ((i - 1) * n) n → asked ≡ 0 → w ≡ turn_one n s i w
  turn_one_unasked asked e z = rw (turn_one_is, unasked c q asked e z, and-false (eqb (reserved n f s i) 0))

  pub turn_two_unasked : (asked : ℕ) → asked ≡ ready_mask q q ((i - 1) * n) n → asked ≡ 0 → w ≡ turn_two n s i w
  turn_two_unasked asked e z = rw (turn_two_is, unasked q q asked e z, and-false (eqb (reserved n f s i) 0))

  -- the slot's row begins at a place, and the input's word in it is read as output o
  module _ (row o : ℕ) (place : row ≡ s % (2 * n) * n) (read : o ≡ output_in n (get_or f (row + (i - 1)) 0)) where
    spot : row + (i - 1) ≡ flight_place n s i
    unfolding flight_place
    spot = ap (λ p. p + (i - 1)) place

    -- so that is the output that it has
    held : reserved n f s i ≡ o
    unfolding in_flight
    held = ap (λ p. output_in n (get_or f p 0)) (sym spot) ∙ sym read

    -- it has one
    pub turn_one_held : 1 ≤ o → w ≡ turn_one n s i w
    turn_one_held h = rw (turn_one_is, held, ne_eqb o 0 (omega arith))

    pub turn_two_held : 1 ≤ o → w ≡ turn_two n s i w
    turn_two_held h = rw (turn_two_is, held, ne_eqb o 0 (omega arith))

    -- it has none, and output r is the first in turn that is open by the mask
    module _ (none : o ≤ 0) (free r : ℕ) (frees : (j : ℕ) → Port n j → in_mask free j ≡ not (standing n f s j)) where
      -- then r is what the definition takes
      opens : (one two : List ℕ) → r ≡ in_turn (is_open n free one two i) n (port_word g i) → best one two ≡ r
      unfolding is_open
      opens one two e =
          sym (e ∙ in_turn_ext _ _ n _ _ (λ j p. ap (λ b. b && (ltb 0 (word n one i j) && ltb 0 (word n two i j))) (frees j p)) refl)

      module _ (e : r ≡ in_turn (is_open n free c q i) n (port_word g i)) (c' q' g' : List ℕ) (ec : c' ≡ charged n c i r) (eq : q' ≡ charged n q i r)
          (eg : g' ≡ noted g i r) where
        pub turn_one_some : 1 ≤ r → turn_runs_of c' q' g' (set f (row + (i - 1)) (100 + r)) ≡ turn_one n s i w
        turn_one_some h =
            rw (turn_one_is, held, eq-eqb o 0 (omega arith), opens c q e, lt-ltb 0 r h, ec, eq, eg, charged_some n c i r h, charged_some n q i r h, noted_some g i r h, spot)

        pub turn_one_none : r ≤ 0 → turn_runs_of c' q' g' f ≡ turn_one n s i w
        turn_one_none h =
            rw (turn_one_is, held, eq-eqb o 0 (omega arith), opens c q e, le-ltb 0 r h, ec, eq, eg, charged_none n c i r h, charged_none n q i r h, noted_none g i r h)

      module _ (e : r ≡ in_turn (is_open n free q q i) n (port_word g i)) (q' g' : List ℕ) (eq : q' ≡ charged n q i r) (eg : g' ≡ noted g i r) where
        pub turn_two_some : 1 ≤ r → turn_runs_of c q' g' (set f (row + (i - 1)) r) ≡ turn_two n s i w
        turn_two_some h = rw (turn_two_is, held, eq-eqb o 0 (omega arith), opens q q e, lt-ltb 0 r h, eq, eg, charged_some n q i r h, noted_some g i r h, spot)

        pub turn_two_none : r ≤ 0 → turn_runs_of c q' g' f ≡ turn_two n s i w
        turn_two_none h = rw (turn_two_is, held, eq-eqb o 0 (omega arith), opens q q e, le-ltb 0 r h, eq, eg, charged_none n q i r h, noted_none g i r h)

-- THE RELOAD of input i's row of credits, where slot s is the first of a frame
module _ (n k : ℕ) (copy c q g f : List ℕ) (s i : ℕ) where
  pub reloads : (c' : List ℕ) → first_of_frame k s ≡ true → c' ≡ loaded n copy i c → turn_runs_of c' q g f ≡ reloaded n k copy s i (turn_runs_of c q g f)
  unfolding reloaded
  reloads c' t l = rw (t, l)

  pub keeps : first_of_frame k s ≡ false → turn_runs_of c q g f ≡ reloaded n k copy s i (turn_runs_of c q g f)
  unfolding reloaded
  keeps t = rw t

-- AN INPUT'S TURNS at time k. They are due from time i on, and change nothing before.
module _ (n f : ℕ) (copy : List ℕ) (k i : ℕ) (w₀ : TurnRuns) where
  one_due : i ≤ k → pass_one_turn n f copy k i w₀ ≡ turn_one n (slot_one n k i) i (reloaded n f copy (slot_one n k i) i w₀)
  unfolding pass_one_turn
  one_due h = rw (le-leb (2 * n + 1) (slot_one n k i) (omega arith), pass_one_turn)

  two_due : i ≤ k → turns_of n f copy k i w₀ ≡ turn_two n (slot_two n k i) i (pass_one_turn n f copy k i w₀)
  unfolding turns_of
  two_due h = rw (le-leb (n + 1) (slot_two n k i) (omega arith), turns_of)

  pub turns_due : (w₁ w₂ w₃ : TurnRuns) → i ≤ k → w₁ ≡ reloaded n f copy (slot_one n k i) i w₀ → w₂ ≡ turn_one n (slot_one n k i) i w₁
      → w₃ ≡ turn_two n (slot_two n k i) i w₂ → w₃ ≡ turns_of n f copy k i w₀
  turns_due w₁ w₂ w₃ h a b c =
      c ∙ ap (turn_two n (slot_two n k i) i) (b ∙ ap (turn_one n (slot_one n k i) i) a ∙ sym (one_due h)) ∙ sym (two_due h)

  one_early : k < i → pass_one_turn n f copy k i w₀ ≡ w₀
  unfolding pass_one_turn
  one_early h = rw (lt-leb (2 * n + 1) (slot_one n k i) (omega arith), pass_one_turn)

  two_early : k < i → turns_of n f copy k i w₀ ≡ pass_one_turn n f copy k i w₀
  unfolding turns_of
  two_early h = rw (lt-leb (n + 1) (slot_two n k i) (omega arith), turns_of)

  pub turns_early : k < i → w₀ ≡ turns_of n f copy k i w₀
  turns_early h = sym (two_early h ∙ one_early h)

-- those of one input more
pub turns_more : (n f : ℕ) (copy : List ℕ) (k x : ℕ) (w₀ w₁ w₂ : TurnRuns) → w₁ ≡ turns n f copy k w₀ x → w₂ ≡ turns_of n f copy k (x + 1) w₁
    → w₂ ≡ turns n f copy k w₀ (x + 1)
unfolding turns
turns_more n f copy k x w₀ w₁ w₂ e d = d ∙ rw (add-one x) (ap (turns_of n f copy k (suc x)) e)
