-- The remainder of a number less d, from the remainder of the number; so the rows of the slots ahead, and whether one is the first of a frame.
-- They hold by division with remainder. Assumes nothing.
use Rattle.std.proofs.Common.{◌≡◌, ℕ, ◌+◌, ◌-◌, ◌*◌, ◌/◌, ◌%◌, ◌<◌, ◌≤◌, true, false, ◌≢◌, sym, ap, ◌∙◌, mod-lt, mod-eq_of_lt, arith, eq-eqb, ne_eqb}
use native.Mathlib.Nat.{div-add-mod, mul-add-mod_self_left, add-mod_right}
use native.Mathlib.Decide.{dec_le}
use Rattle.wsgs.specs.Basics.{Port}
use Rattle.wsgs.specs.Frames.{into_frame, first_of_frame}
use Rattle.wsgs.specs.Pipelined.{slot_one}
use Rattle.pipelined.specs.Turnings.{Lookahead}

-- a remainder that reaches to d, and one that does not
module _ (m t d : ℕ) (some : 1 ≤ m) where
  less : d ≤ t % m → (t - d) % m ≡ t % m - d
  less h =
      let e : t - d ≡ m * (t / m) + (t % m - d) = omega (arith, div-add-mod t m) in
      ap (λ z. z % m) e ∙ mul-add-mod_self_left m (t / m) (t % m - d) ∙ mod-eq_of_lt (omega (arith, mod-lt t {m = m} some))

  around : t % m < d → d ≤ m → d ≤ t → (t - d) % m ≡ t % m + m - d
  around h low there =
      let e : t - d + m ≡ m * (t / m) + (t % m + m - d) = omega (arith, div-add-mod t m) in
      sym (add-mod_right (t - d) m) ∙ ap (λ z. z % m) e ∙ mul-add-mod_self_left m (t / m) (t % m + m - d) ∙ mod-eq_of_lt (omega arith)

-- THE ROW d before that of slot s: its number, and where it begins
module _ (n d row : ℕ) (some : 1 ≤ n) (s : ℕ) (e : row ≡ s % (2 * n)) where
  number_less : d ≤ row → row - d ≡ (s - d) % (2 * n)
  number_less h = rw (less (2 * n) s d (omega arith) (omega arith)) (omega arith)

  number_around : row < d → d ≤ n → d ≤ s → row + 2 * n - d ≡ (s - d) % (2 * n)
  number_around h low there = rw (around (2 * n) s d (omega arith) (omega arith) (omega arith) there) (omega arith)

  pub row_less : d ≤ row → (row - d) * n ≡ (s - d) % (2 * n) * n
  row_less h = ap (λ z. z * n) (number_less h)

  pub row_around : row < d → d ≤ n → d ≤ s → (row + 2 * n - d) * n ≡ (s - d) % (2 * n) * n
  row_around h low there = ap (λ z. z * n) (number_around h low there)

-- THE SLOT of input i at time k, where u slots of its frame come before slot k + 2n
module _ (n f k i u : ℕ) (port : Port n i) (covers : n ≤ f) (place : u ≡ into_frame f (k + 2 * n)) where
  -- that of input 1, less i - 1
  before : slot_one n k i - 1 ≡ k + 2 * n - 1 - (i - 1)
  before = omega arith

  pub slot_first : u ≡ i - 1 → first_of_frame f (slot_one n k i) ≡ true
  unfolding into_frame
  slot_first h = eq-eqb _ 0 (ap (λ z. z % f) before ∙ less f (k + 2 * n - 1) (i - 1) (omega arith) (omega arith) ∙ omega arith)

  pub slot_later : u ≢ i - 1 → first_of_frame f (slot_one n k i) ≡ false
  unfolding into_frame
  slot_later h = ne_eqb _ 0 (λ e. go (sym (ap (λ z. z % f) before) ∙ e) (dec_le (i - 1) u))
    where
      go : (k + 2 * n - 1 - (i - 1)) % f ≡ 0 → Dec (i - 1 ≤ u) → ⊥
      go e (yes l) = h (omega (arith, less f (k + 2 * n - 1) (i - 1) (omega arith) (omega arith)))
      go e (no l) = omega (arith, around f (k + 2 * n - 1) (i - 1) (omega arith) (omega arith) (omega arith) (omega arith))

-- WHAT A TICK KNOWS of the slots ahead
module _ (n k : ℕ) (some : 1 ≤ n) where
  -- the row of slot k + 2n + 1
  row_one : (k + 1) % (2 * n) ≡ (k + 2 * n + 1) % (2 * n)
  row_one = sym (add-mod_right (k + 1) (2 * n)) ∙ ap (λ z. z % (2 * n)) (omega arith)

  -- and half way around from it that of slot k + n + 1
  pub half_less : n ≤ (k + 1) % (2 * n) → (k + 1) % (2 * n) - n ≡ (k + n + 1) % (2 * n)
  half_less h = number_less n n _ some (k + 2 * n + 1) row_one h ∙ ap (λ z. z % (2 * n)) (omega arith)

  pub half_more : (k + 1) % (2 * n) < n → (k + 1) % (2 * n) + n ≡ (k + n + 1) % (2 * n)
  half_more h =
      omega arith ∙ number_around n n _ some (k + 2 * n + 1) row_one h (omega arith) (omega arith) ∙ ap (λ z. z % (2 * n)) (omega arith)

  pub foreseen : (f two : ℕ) → n ≤ f → two ≡ (k + n + 1) % (2 * n) → Lookahead n f k ((k + 1) % (2 * n)) two ((k + 2 * n - 1) % f)
  unfolding into_frame
  foreseen f two covers e =
      record {
        covers = covers;
        row_one = row_one;
        row_two = e;
        place = omega arith;
        one_within = mod-lt (k + 1) (omega arith);
        two_within = rw e (mod-lt (k + n + 1) (omega arith));
      }
