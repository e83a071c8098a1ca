-- The packets of a pair, queued and in flight, through a pipelined tick: a turn that takes one from the queue puts its word into a row in which
-- the input had none, and the row handed out leaves the flight. Assumes nothing.
use mathlib.Core.Path.{◌≡◌, refl, sym, ◌∙◌, ap}
use mathlib.Core.Bool.{Bool, true}
use mathlib.Core.List.{List}
use mathlib.Core.Logic.{◌⊎◌, inl, inr, ◌≢◌}
use Prim.Native.Nat.{ℕ, zero, suc, ◌+◌, ◌-◌, ◌*◌, ◌≤◌, ◌<◌}
use native.Mathlib.Nat.{add-mod_right}
use native.Mathlib.Omega.{arith}
use native.Mathlib.Decide.{ℕ_discrete, dec_le}
use lib.Dec.{T, eqb, ltb, eqb→eq, ltb→lt}
use lib.ListN.{length, set}
use borrow.Author.Tests.{eq-eqb, ne_eqb, lt-ltb}
use Rattle.std.proofs.Math.Facts.{and_yes}
use Rattle.wsgs.specs.Basics.{pick, bit, Port, sum, updated}
use Rattle.wsgs.specs.Words.{word, less_one}
use Rattle.wsgs.specs.Pipelined.{TurnRuns, flight_place, in_flight, output_in, reserved, reloaded, turn_one, turn_two, turns_of, turns, slot_one, slot_two, row_cleared}
use Rattle.wsgs.proofs.Laws.Tests.{bit_under, bit_ne}
use Rattle.wsgs.proofs.Laws.Sums.{sum_ext, sum_last, sum_changed, sum_round}
use Rattle.wsgs.proofs.Laws.Words.{less_is}
use Rattle.wsgs.proofs.Laws.Questions.{TurningLong}
use Rattle.wsgs.proofs.Pipelined.Words.{flight_is, emptied_row, emptied_rest}
use Rattle.wsgs.proofs.Pipelined.Choice.{Chosen, choice_is, output_code}
use Rattle.wsgs.proofs.Pipelined.Turns.{wants₁, wants₂, choice₁, choice₂, served, turn_one_is, turn_two_is, sized_one, w₁, w₂, sized₁, late, early, sized_all}

-- ROWS. The word of input i in the row of slot u stands for output j; in how many rows it does
abbrev pub stands : ℕ → List ℕ → ℕ → ℕ → ℕ → ℕ
stands n flight i j u = bit (eqb (reserved n flight u i) j)

abbrev pub rows_with : ℕ → List ℕ → ℕ → ℕ → ℕ
rows_with n flight i j = sum (stands n flight i j) (2 * n)

module _ (n : ℕ) (flight : List ℕ) (i j : ℕ) where
  -- slots 2n apart have one row
  returns : (u : ℕ) → stands n flight i j (u + 2 * n) ≡ stands n flight i j u
  unfolding in_flight flight_place
  returns u = rw (add-mod_right u (2 * n))

  -- so the rows can be told from any slot on
  pub rows_from : (k : ℕ) → sum (λ v. stands n flight i j (k + v)) (2 * n) ≡ rows_with n flight i j
  rows_from = sum_round (stands n flight i j) (2 * n) returns

module _ (n : ℕ) (flight : List ℕ) (holds : 2 * n * n ≤ length flight) (i j : ℕ) (pi : Port n i) where
  -- the word v set for slot s and input i
  set_own : (k s v : ℕ) → k < s → s ≤ k + 2 * n
      → rows_with n (set flight (flight_place n s i) v) i j + stands n flight i j s ≡ rows_with n flight i j + bit (eqb (output_in n v) j)
  set_own k s v a b =
      let at : k + (s - k) ≡ s = omega arith in
      let new = set flight (flight_place n s i) v in
      rw (← rows_from n new i j k, ← rows_from n flight i j k)
      (omega (
        arith,
        sum_ext (λ u. stands n new i j (k + u)) _ (2 * n) (λ u p. same u p (ℕ_discrete u (s - k))),
        sum_changed (λ u. stands n flight i j (k + u)) (2 * n) (s - k) (bit (eqb (output_in n v) j)) (omega arith),
        ap (stands n flight i j) at,
      ))
    where
      new : List ℕ
      new = set flight (flight_place n s i) v

      same : (u : ℕ) → Port (2 * n) u → Dec (u ≡ s - k)
          → stands n new i j (k + u) ≡ updated (λ u. stands n flight i j (k + u)) (s - k) (bit (eqb (output_in n v) j)) u
      same u p (yes e) =
          rw (
            flight_is n flight holds k s i v (k + u) i pi pi a b (omega arith) (omega arith),
            eq-eqb i i refl,
            eq-eqb (k + u) s (omega arith),
            eq-eqb u (s - k) e,
          )
      same u p (no d) =
          rw (
            flight_is n flight holds k s i v (k + u) i pi pi a b (omega arith) (omega arith),
            eq-eqb i i refl,
            ne_eqb (k + u) s (λ e. d (omega arith)),
            ne_eqb u (s - k) d,
          )

  -- for another input
  set_other : (k s x v : ℕ) → Port n x → i ≢ x → k < s → s ≤ k + 2 * n
      → rows_with n (set flight (flight_place n s x) v) i j ≡ rows_with n flight i j
  set_other k s x v px d a b =
      let new = set flight (flight_place n s x) v in
      sym (rows_from n new i j k)
      ∙ sum_ext _ _ (2 * n) (λ u p. rw (flight_is n flight holds k s x v (k + u) i px pi a b (omega arith) (omega arith), ne_eqb i x d))
      ∙ rows_from n flight i j k

  -- a row that is cleared
  pub clear_row : (s : ℕ) → 1 ≤ s → 1 ≤ j → rows_with n (row_cleared n flight s) i j + stands n flight i j s ≡ rows_with n flight i j
  clear_row s a b =
      let new = row_cleared n flight s in
      rw (← rows_from n new i j s, ← rows_from n flight i j s)
      (omega (
        arith,
        sum_last (λ v. stands n new i j (s + v)) (2 * n - 1) (2 * n) (omega arith),
        sum_last (λ v. stands n flight i j (s + v)) (2 * n - 1) (2 * n) (omega arith),
        sum_ext (λ v. stands n new i j (s + v)) (λ v. stands n flight i j (s + v)) (2 * n - 1)
            (λ v p. ap (λ z. bit (eqb (output_in n z) j)) (emptied_rest n flight holds s (s + v) i pi a (omega arith) (omega arith))),
        ap (λ z. bit (eqb (output_in n z) j)) (emptied_row n flight holds s i pi),
        bit_ne 0 j (λ e. omega arith),
        returns n flight i j s,
      ))

-- TURNS. The packets of the pair (i, j), queued and in flight
abbrev pub held : ℕ → List ℕ → List ℕ → ℕ → ℕ → ℕ
held n queues flight i j = word n queues i j + rows_with n flight i j

-- a turn of input x for slot s
module _ (n : ℕ) (few : n ≤ 32) (i j : ℕ) (pi : Port n i) (pj : Port n j) where
  abbrev held_in : TurnRuns → ℕ
  held_in w = held n w.queues w.flight i j

  module _ (k s x : ℕ) (w : TurnRuns) (z : TurningLong n w) (px : Port n x) (low : k < s) (high : s ≤ k + 2 * n) where
    -- the packet that it chooses goes into flight
    choice_holds : (wants : ℕ → Bool) (credits : List ℕ) (v c : ℕ) → (c ≡ 0) ⊎ Chosen n (reserved n w.flight s) wants x c
        → (T (wants c) → 1 ≤ word n w.queues x c) → (Port n c → output_in n v ≡ c)
        → held_in (pick (ltb 0 c) (served n s x w credits v c) w) ≡ held_in w
    choice_holds wants credits v c (inl e) has tells = rw e
    choice_holds wants credits v c (inr h) has tells = rw (lt-ltb 0 c h.port.low) (go (ℕ_discrete i x))
      where
        go : Dec (i ≡ x) → held_in (served n s x w credits v c) ≡ held_in w
        go (yes e) =
            let less : word n (less_one n w.queues x c) x j ≡ word n w.queues x j - bit (eqb c j) =
            less_is n w.queues z.queues x c px h.port x j px pj ∙ rw (eq-eqb x x refl) in
            let covers : bit (eqb c j) ≤ word n w.queues x j = bit_under (eqb c j) (λ t. rw (eqb→eq c j t) at (has h.passes)) in
            rw e
            (omega (
              arith,
              set_own n w.flight z.flight x j px k s v low high,
              ap (λ o. bit (eqb o j)) h.free,
              bit_ne 0 j (λ e. omega (arith, pj.low)),
              ap (λ o. bit (eqb o j)) (tells h.port),
            ))
        go (no d) =
            let less : word n (less_one n w.queues x c) i j ≡ word n w.queues i j - 0 =
            less_is n w.queues z.queues x c px h.port i j pi pj ∙ rw (ne_eqb i x d) in
            omega (arith, set_other n w.flight z.flight i j pi k s x v px d low high)

    -- by pass one
    one_holds : held_in (turn_one n s x w) ≡ held_in w
    one_holds =
        rw (turn_one_is n s x w)
        (choice_holds (wants₁ n s x w) (less_one n w.credits x (choice₁ n s x w)) (100 + choice₁ n s x w) (choice₁ n s x w)
        (choice_is n true _ (wants₁ n s x w) _ x)
        (λ t. ltb→lt 0 _ (and_yes (ltb 0 (word n w.credits x (choice₁ n s x w))) _ t).1)
        (λ p. rw (lt-ltb 0 (choice₁ n s x w) p.low) at (output_code n (choice₁ n s x w) 0 few p.high (omega arith))))

    -- by pass two
    two_holds : held_in (turn_two n s x w) ≡ held_in w
    two_holds =
        rw (turn_two_is n s x w)
        (choice_holds (wants₂ n s x w) w.credits (choice₂ n s x w) (choice₂ n s x w) (choice_is n true _ (wants₂ n s x w) _ x)
        (λ t. ltb→lt 0 _ t) (λ p. output_code n 0 (choice₂ n s x w) few (omega arith) p.high))

  -- the turns of all inputs
  module _ (f : ℕ) (copy : List ℕ) (hc : n * n ≤ length copy) (k : ℕ) where
    -- of one
    turns_hold : (x : ℕ) (w : TurnRuns) → TurningLong n w → Port n x → held_in (turns_of n f copy k x w) ≡ held_in w
    unfolding reloaded
    turns_hold x w z px = go (dec_le x k)
      where
        go : Dec (x ≤ k) → held_in (turns_of n f copy k x w) ≡ held_in w
        go (yes h) =
            let long₁ = sized₁ n f copy hc k x w z px in
            rw (late n f copy hc k x w z px h)
            (two_holds k (slot_two n k x) x (w₂ n f copy hc k x w z px) (sized_one n (slot_one n k x) x (w₁ n f copy hc k x w z px) long₁) px (omega arith) (omega arith)
            ∙ one_holds k (slot_one n k x) x (w₁ n f copy hc k x w z px) long₁ px (omega arith) (omega arith))
        go (no h) = rw (early n f copy hc k x w z px (omega arith))

    -- of the inputs 1..m
    pub all_hold : (w : TurnRuns) → TurningLong n w → (m : ℕ) → m ≤ n → held_in (turns n f copy k w m) ≡ held_in w
    unfolding turns
    all_hold w z zero h = refl
    all_hold w z (suc m) h =
        turns_hold (suc m) (turns n f copy k w m) (sized_all n f copy hc k w z m (omega arith)) (omega arith) ∙ all_hold w z m (omega arith)
