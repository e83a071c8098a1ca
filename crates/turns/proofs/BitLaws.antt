-- The bits of a word, from 0 on: after one is cleared, and where the lowest n are set; and the ports of a mask, which are the bits from
-- 1 on. They hold bit by bit. Assumes nothing.
use mathlib.Core.Path.{◌≡◌, refl, sym, ap, ◌∙◌}
use mathlib.Core.Bool.{Bool, true, not, ◌&&◌, and-true}
use mathlib.Core.Logic.{◌≢◌}
use Prim.Native.Nat.{ℕ, zero, suc, ◌+◌, ◌-◌, ◌*◌, ◌/◌, ◌%◌, ◌^◌, ◌≤◌, ◌<◌, min}
use native.Mathlib.Nat.{div_self, div-eq_of_lt, one-mul, pow-suc, mul-mod_left, mul_assoc}
use native.Mathlib.Decide.{ℕ_discrete, dec_lt, dec_le}
use native.Mathlib.Omega.{arith}
use borrow.Author.Tests.{eq-eqb, ne_eqb, eqb-true, le-leb, lt-leb, lt-ltb, le-ltb}
use lib.Bits.{bit_and, bit_xor, and_step, and_zero_l, and_high, xor_shr, xor_mod, xor_zero_r}
use lib.Dec.{eqb, leb, ltb}
use lib.Pow.{pow_pos, pow-lt, pow-add, shl_exact, shl-shr, shr-shr, ones_lt, ones_split, high}
use Rattle.wsgs.specs.Basics.{Port}
use Rattle.turns.specs.Masks.{in_mask}

-- bit k of w is set
unfoldable pub bits : ℕ → ℕ → Bool
bits w k = eqb (w / 2 ^ k % 2) 1

-- output k + 1 of a mask is bit k
pub mask_bit : (w k : ℕ) → in_mask w (suc k) ≡ bits w k
unfolding in_mask bits
mask_bit w k = ap (λ (x : ℕ). eqb (w / 2 ^ x % 2) 1) (omega arith)

-- 1 << j, in a word of m bits
pub one_shl : (m j : ℕ) → j < m → (1 * 2 ^ j) % 2 ^ m ≡ 2 ^ j
one_shl m j h = shl_exact 1 j m (omega arith) (omega arith) ∙ one-mul (2 ^ j)

-- 2 ^ j has bit j
pow_here : (j : ℕ) → 2 ^ j / 2 ^ j % 2 ≡ 1
pow_here j = rw (div_self (pow_pos j))

-- and no other
pow_other : (j k : ℕ) → k ≢ j → 2 ^ j / 2 ^ k % 2 ≡ 0
pow_other j k ne = elim (dec_lt k j) [ yes l ↦ above l | no g ↦ below (omega arith) ]
  where
    below : j < k → 2 ^ j / 2 ^ k % 2 ≡ 0
    below l = rw (div-eq_of_lt (pow-lt l))

    above : k < j → 2 ^ j / 2 ^ k % 2 ≡ 0
    above l =
        let e : j ≡ suc (j - suc k) + k = omega arith in
        ap (λ (x : ℕ). 2 ^ x / 2 ^ k % 2) e ∙ rw (pow-add 2 (suc (j - suc k)) k, shl-shr (2 ^ suc (j - suc k)) k, pow-suc) (mul-mod_left _ 2)

-- bit k of a combination, by the bits
xor_bit : (a b k : ℕ) → bit_xor a b / 2 ^ k % 2 ≡ bit_xor (a / 2 ^ k % 2) (b / 2 ^ k % 2)
xor_bit a b k = ap (λ (x : ℕ). x % 2) (xor_shr a b k) ∙ xor_mod (a / 2 ^ k) (b / 2 ^ k) 1

-- a set bit taken out
pub bit_cleared : (w j : ℕ) → bits w j ≡ true → (k : ℕ) → bits (bit_xor w (2 ^ j)) k ≡ (bits w k && not (eqb k j))
unfolding bits
bit_cleared w j e k = elim (ℕ_discrete k j) [ yes q ↦ here q | no ne ↦ other ne ]
  where
    here : k ≡ j → eqb (bit_xor w (2 ^ j) / 2 ^ k % 2) 1 ≡ (eqb (w / 2 ^ k % 2) 1 && not (eqb k j))
    here q = rw (q, xor_bit w (2 ^ j) j, pow_here j, eqb-true (w / 2 ^ j % 2) 1 e, eq-eqb j j refl)

    other : k ≢ j → eqb (bit_xor w (2 ^ j) / 2 ^ k % 2) 1 ≡ (eqb (w / 2 ^ k % 2) 1 && not (eqb k j))
    other ne = rw (xor_bit w (2 ^ j) k, pow_other j k ne, xor_zero_r, ne_eqb k j ne) (sym (and-true (eqb (w / 2 ^ k % 2) 1)))

-- the bits from m on, where those below are shifted out and back
bits_from : (w m k : ℕ) → bits (w / 2 ^ m * 2 ^ m) k ≡ (leb m k && bits w k)
unfolding bits
bits_from w m k = elim (dec_le m k) [ yes h ↦ high h | no h ↦ low (omega arith) ]
  where
    high : m ≤ k → eqb (w / 2 ^ m * 2 ^ m / 2 ^ k % 2) 1 ≡ (leb m k && eqb (w / 2 ^ k % 2) 1)
    high h =
        let e : k ≡ m + (k - m) = omega arith in
        rw (le-leb m k h)
        (ap (λ x. eqb (w / 2 ^ m * 2 ^ m / 2 ^ x % 2) 1) e
        ∙ rw (← shr-shr (w / 2 ^ m * 2 ^ m) m (k - m), shl-shr (w / 2 ^ m) m, shr-shr w m (k - m), ← e))

    low : k < m → eqb (w / 2 ^ m * 2 ^ m / 2 ^ k % 2) 1 ≡ (leb m k && eqb (w / 2 ^ k % 2) 1)
    low h =
        let r = m - suc k in
        let e : m ≡ suc r + k = omega arith in
        let even : w / 2 ^ m * 2 ^ m / 2 ^ k % 2 ≡ 0 =
        ap (λ x. w / 2 ^ m * 2 ^ x / 2 ^ k % 2) e
        ∙ rw (pow-add 2 (suc r) k, ← mul_assoc (w / 2 ^ m) (2 ^ suc r) (2 ^ k), shl-shr (w / 2 ^ m * 2 ^ suc r) k, pow-suc, ← mul_assoc (w / 2 ^ m) (2 ^ r) 2)
        (mul-mod_left _ 2) in
        rw (even, lt-leb m k h)

-- so the outputs above m are left, none where m is past all of them
pub outputs_above : (w m j : ℕ) → Port 32 j → in_mask (w / 2 ^ min m 32 * 2 ^ min m 32) j ≡ (ltb m j && in_mask w j)
outputs_above w m zero p = absurd (omega arith)
outputs_above w m (suc k) p =
    rw (mask_bit (w / 2 ^ min m 32 * 2 ^ min m 32) k, mask_bit w k) (bits_from w (min m 32) k ∙ ap (λ b. b && bits w k) (same (dec_le m k)))
  where
    same : Dec (m ≤ k) → leb (min m 32) k ≡ ltb m (suc k)
    same (yes l) = le-leb (min m 32) k (omega arith) ∙ sym (lt-ltb m (suc k) (omega arith))
    same (no l) = lt-leb (min m 32) k (omega arith) ∙ sym (le-ltb m (suc k) (omega arith))

-- the n lowest bits
pub low_set : (n k : ℕ) → k < n → bits (2 ^ n - 1) k ≡ true
unfolding bits
low_set n k l =
    let e : n ≡ suc (n - suc k) + k = omega arith in
    let odd : (2 ^ suc (n - suc k) - 1) % 2 ≡ 1 = rw (pow-suc 2 (n - suc k)) (omega (arith, pow_pos (n - suc k))) in
    ap (λ (x : ℕ). eqb ((2 ^ x - 1) / 2 ^ k % 2) 1) e
    ∙ rw (ones_split (suc (n - suc k)) k, high (2 ^ suc (n - suc k) - 1) k (ones_lt k), odd)

-- bit k of a word, alone
pub alone : (w k : ℕ) → bit_and w (2 ^ k) ≡ w / 2 ^ k % 2 * 2 ^ k
alone w k =
    let e : 2 ^ k ≡ 2 ^ (1 + k) - 2 ^ k = rw (pow-add 2 1 k) (omega arith) in
    ap (bit_and w) e ∙ and_high w 1 k

-- an and with all of m bits but those of b leaves what b has not: digit by digit, and the halves
other_digit : (x y : ℕ) → x < 2 → y < 2 → min x (1 - y) + min x y ≡ x
other_digit x y p q = omega arith

join_halves : (w a b d e : ℕ) → a + b ≡ w / 2 → d + e ≡ w % 2 → a * 2 + d + (b * 2 + e) ≡ w
join_halves w a b d e p q = omega arith

pub and_others : (m w b : ℕ) → w < 2 ^ m → b < 2 ^ m → bit_and w (2 ^ m - 1 - b) + bit_and w b ≡ w
and_others zero w b p q =
    let e : w ≡ 0 = omega arith in
    rw (e, and_zero_l (2 ^ 0 - 1 - b), and_zero_l b)
and_others (suc m) w b p q =
    let twice : 2 ^ suc m ≡ 2 ^ m * 2 = pow-suc 2 m in
    let half : (2 ^ suc m - 1 - b) / 2 ≡ 2 ^ m - 1 - b / 2 = omega (arith, twice) in
    let odd : (2 ^ suc m - 1 - b) % 2 ≡ 1 - b % 2 = omega (arith, twice) in
    rw (and_step w (2 ^ suc m - 1 - b), and_step w b, half, odd)
    (join_halves w _ _ _ _ (and_others m (w / 2) (b / 2) (omega (arith, twice)) (omega (arith, twice)))
    (other_digit (w % 2) (b % 2) (omega arith) (omega arith)))
