-- The word whose bits say which of 1..n pass a test: that it fits, its bits, and one bit set. They hold by induction on n. Assumes nothing.
use mathlib.Core.Path.{◌≡◌, refl, sym, ◌∙◌, ap, ap₂}
use mathlib.Core.Bool.{Bool, true, false}
use Prim.Native.Nat.{ℕ, zero, suc, ◌+◌, ◌-◌, ◌*◌, ◌/◌, ◌%◌, ◌^◌, ◌≤◌, ◌<◌}
use native.Mathlib.Nat.{two-pow-succ, mod-eq_of_lt}
use native.Mathlib.Numerals.{one-add}
use native.Mathlib.Decide.{ℕ_discrete, le_ind}
use native.Mathlib.Omega.{arith}
use lib.Bits.{bit_or, or_block, or_zero_r}
use lib.Pow.{pow_pos, pow-lt, high, low, field, mod-mod-pow}
use Rattle.std.proofs.lemmas.Bool.Decides.{nat_tests}
use Rattle.wsgs.specs.Basics.{bit, Port, sum, updated}
use Rattle.wsgs.specs.Steps.{marked}
use Rattle.wsgs.proofs.Laws.Tests.{updated_at, updated_other}

-- the highest bit and the word below it
pub marked_suc : (n : ℕ) (p : ℕ → Bool) → marked (suc n) p ≡ bit (p (suc n)) * 2 ^ n + marked n p
unfolding marked sum
marked_suc n p = grind (arith, nat_tests)

-- the word fits
pub marked_lt : (n : ℕ) (p : ℕ → Bool) → marked n p < 2 ^ n
unfolding marked sum
marked_lt zero p = omega arith
marked_lt (suc n) p = rw (marked_suc n p) (go (p (suc n)) (marked_lt n p))
  where
    go : (b : Bool) → marked n p < 2 ^ n → bit b * 2 ^ n + marked n p < 2 ^ suc n
    go true h = rw two-pow-succ (omega arith)
    go false h = rw two-pow-succ (omega arith)

-- tests that agree on 1..n give the same word
pub marked_ext : (n : ℕ) (p q : ℕ → Bool) → ((i : ℕ) → Port n i → p i ≡ q i) → marked n p ≡ marked n q
unfolding marked sum
marked_ext zero p q h = refl
marked_ext (suc n) p q h =
    rw (marked_suc n p, marked_suc n q, marked_ext n p q (λ i r. h i (omega arith)), h (suc n) (omega arith))

-- no bit
pub marked_none : (n : ℕ) → marked n (λ i. false) ≡ 0
unfolding marked sum
marked_none zero = refl
marked_none (suc n) = rw (marked_suc n (λ i. false), marked_none n) (omega arith)

-- the highest bit set, and a lower one
set_top : (b : Bool) (n m : ℕ) → m < 2 ^ n → bit_or (bit b * 2 ^ n + m) (2 ^ n) ≡ 1 * 2 ^ n + m
set_top b n m h =
    let one : 2 ^ n ≡ 1 * 2 ^ n + 0 = omega arith in
    ap (λ z. bit_or (bit b * 2 ^ n + m) z) one ∙ or_block n (bit b) 1 m 0 h (pow_pos n) ∙ rw (or_zero_r m) (ap (λ z. z * 2 ^ n + m) (or_one b))
  where
    or_one : (b : Bool) → bit_or (bit b) 1 ≡ 1
    or_one true = refl
    or_one false = refl

-- a lower one
set_below : (b : Bool) (n m x : ℕ) → m < 2 ^ n → x < n → bit_or (bit b * 2 ^ n + m) (2 ^ x) ≡ bit b * 2 ^ n + bit_or m (2 ^ x)
set_below b n m x h l =
    let none : 2 ^ x ≡ 0 * 2 ^ n + 2 ^ x = omega arith in
    ap (λ z. bit_or (bit b * 2 ^ n + m) z) none ∙ or_block n (bit b) 0 m (2 ^ x) h (pow-lt l) ∙ rw (or_zero_r (bit b))

-- one bit set
pub marked_set : (n : ℕ) (p : ℕ → Bool) (x : ℕ) → x < n → bit_or (marked n p) (2 ^ x) ≡ marked n (updated p (suc x) true)
marked_set zero p x h = absurd (omega arith)
marked_set (suc n) p x h =
    rw (marked_suc n p, marked_suc n (updated p (suc x) true)) (go (ℕ_discrete x n) (λ l. marked_set n p x l))
  where
    go : Dec (x ≡ n) → (x < n → bit_or (marked n p) (2 ^ x) ≡ marked n (updated p (suc x) true))
        → bit_or (bit (p (suc n)) * 2 ^ n + marked n p) (2 ^ x) ≡ bit (updated p (suc x) true (suc n)) * 2 ^ n + marked n (updated p (suc x) true)
    go (yes e) r =
        ap (λ z. bit_or (bit (p (suc n)) * 2 ^ n + marked n p) (2 ^ z)) e
        ∙ set_top (p (suc n)) n (marked n p) (marked_lt n p)
        ∙ ap₂ (λ b m. bit b * 2 ^ n + m) (sym (updated_at p (suc x) (suc n) true (omega arith)))
        (marked_ext n p (updated p (suc x) true) (λ i q. sym (updated_other p (suc x) i true (omega arith))))
    go (no d) r =
        set_below (p (suc n)) n (marked n p) x (marked_lt n p) (omega arith)
        ∙ ap₂ (λ b m. bit b * 2 ^ n + m) (sym (updated_other p (suc x) (suc n) true (omega arith))) (r (omega arith))

-- the lowest k bits
marked_mod : (n k : ℕ) (p : ℕ → Bool) → k ≤ n → marked n p % 2 ^ k ≡ marked k p
marked_mod n k p h = le_ind (λ n. marked n p % 2 ^ k ≡ marked k p) (mod-eq_of_lt (marked_lt k p)) (λ n l e. step n l ∙ e) n h
  where
    step : (n : ℕ) → k ≤ n → marked (suc n) p % 2 ^ k ≡ marked n p % 2 ^ k
    step n l =
        let e : n ≡ (n - k) + k = omega arith in
        sym (mod-mod-pow (marked (suc n) p) (n - k) k)
        ∙ ap (λ m. marked (suc n) p % 2 ^ m % 2 ^ k) (sym e)
        ∙ ap (λ w. w % 2 ^ k) (rw (marked_suc n p) (low (bit (p (suc n))) n (marked_lt n p)))

-- its bits
pub marked_bit : (n : ℕ) (p : ℕ → Bool) (x : ℕ) → x < n → marked n p / 2 ^ x % 2 ≡ bit (p (suc x))
marked_bit n p x h =
    sym (field (marked n p) 1 x)
    ∙ rw (one-add x, marked_mod n (suc x) p h, marked_suc x p) (high (bit (p (suc x))) x (marked_lt x p))
