-- The outputs that are free for a slot, as each word of its row takes the output that it stands for: bit j - 1 for output j. Assumes nothing.
use Rattle.std.proofs.Common.{◌≡◌, ℕ, suc, ◌+◌, ◌-◌, ◌*◌, ◌%◌, ◌<◌, ◌≤◌, Bool, true, false, not, ◌&&◌, ◌||◌, eqb, List, get_or, sym, ap, ◌∙◌, add-one, arith, ne_eqb}
use mathlib.Core.Bool.{or-true, or-false}
use native.Mathlib.Decide.{dec_lt}
use Rattle.wsgs.specs.Basics.{Port, some_of}
use Rattle.wsgs.specs.Steps.{taken}
use Rattle.wsgs.specs.Pipelined.{output_in, flight_place, in_flight, standing}
use Rattle.wsgs.proofs.Laws.Tests.{eqb_sym}
use Rattle.turns.specs.Masks.{in_mask, all_free, without}
use Rattle.turns.proofs.MaskLaws.{free_first, in_without}

-- the output of input i, by the row that begins at a place
abbrev read_in : ℕ → List ℕ → ℕ → ℕ → ℕ
read_in n flight row i = output_in n (get_or flight (row + (i - 1)) 0)

-- the word w has of the outputs 1..n those that none of the inputs 1..column has by that row
pub record FreeIn (n : ℕ) (flight : List ℕ) (row column w : ℕ) : Type 0 where
  pub free : (j : ℕ) → Port n j → in_mask w j ≡ not (taken (read_in n flight row) column j)

module _ (n : ℕ) (few : n ≤ 32) (flight : List ℕ) (row : ℕ) where
  -- at first all are free
  pub free_start : (w : ℕ) → w ≡ all_free n → FreeIn n flight row 0 w
  unfolding some_of
  free_start w e = record { free = λ j p. free_first n w few e j p }

  -- one word more takes the output of its column, which is past the ports where it stands for none
  pub free_more : (column w v w' : ℕ) → (v < n → output_in n (get_or flight (row + column) 0) ≡ v + 1)
      → (n ≤ v → output_in n (get_or flight (row + column) 0) ≡ 0)
      → w' ≡ without w (v + 1) → FreeIn n flight row column w → FreeIn n flight row (column + 1) w'
  unfolding some_of
  free_more column w v w' some none e h =
      record {
        free = λ j p.
            rw (e, add-one column, in_without w (v + 1) j (omega arith), h.free j p, place)
            (both (taken (read_in n flight row) column j) _ _ (same j p (dec_lt v n)));
      }
    where
      place : row + (suc column - 1) ≡ row + column
      place = omega arith

      same : (j : ℕ) → Port n j → Dec (v < n) → eqb j (v + 1) ≡ eqb (output_in n (get_or flight (row + column) 0)) j
      same j p (yes l) = rw (some l) (eqb_sym j (v + 1))
      same j p (no g) = rw (none (omega arith), ne_eqb 0 j (omega arith), ne_eqb j (v + 1) (omega arith))

      both : (a b c : Bool) → b ≡ c → (not a && not b) ≡ not (c || a)
      both true b c s = ap not (sym (or-true c))
      both false b c s = ap not (s ∙ sym (or-false c))

  -- where all inputs are passed, by the row of slot s, those are free that do not stand in it
  pub free_all : (column w : ℕ) → FreeIn n flight row column w → column ≡ n → (s : ℕ) → row ≡ s % (2 * n) * n
      → (j : ℕ) → Port n j → in_mask w j ≡ not (standing n flight s j)
  unfolding in_flight flight_place
  free_all column w h e s place j p = h.free j p ∙ rw (e, place)
