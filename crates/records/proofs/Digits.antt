-- A number field read digit by digit: what is read so far, and the digits to come, decide the whole. Assumes nothing.
use mathlib.Core.Path.{◌≡◌, refl, ◌∙◌, sym, ap}
use mathlib.Core.Bool.{Bool, true, false, ◌&&◌, and-false}
use mathlib.Core.List.{List, []}
use Prim.Native.Nat.{ℕ, ◌+◌, ◌-◌, ◌*◌, ◌^◌, ◌≤◌, ◌<◌}
use native.Mathlib.Nat.{pow-suc, pow-le-pow_right}
use native.Mathlib.Numerals.{add-one}
use native.Mathlib.Omega.{arith}
use borrow.Author.Tests.{lt-leb}
use lib.Dec.{lit<, leb}
use lib.ListN.{length, get_or, drop, drop_of_length-le}
use lib.Seq.{drop-cons}
use Rattle.std.specs.Prelude.{Some, None}
use Rattle.wsgs.specs.Basics.{between}
use Rattle.wsgs.specs.Text.{all_digits, value_from, read_field}
use Rattle.wsgs.proofs.Laws.Tests.{range_in}

-- the first i bytes of a text are digits, and v is their value
pub record Digits (text : List ℕ) (v i : ℕ) : Type 0 where
  pub within : i ≤ length text
  pub digits : all_digits text ≡ all_digits (drop i text)
  pub value : value_from 0 text ≡ value_from v (drop i text)
  pub small : v < 10 ^ i

pub no_digits : (text : List ℕ) → Digits text 0 0
no_digits text = record { within = omega arith; digits = refl; value = refl; small = lit< tt }

-- a text that reads as a number, and one that does not
module _ (text : List ℕ) where
  abbrev is_number : Bool
  is_number = between 1 10 (length text) && all_digits text

  number : is_number ≡ true → Some (value_from 0 text) ≡ read_field text
  unfolding read_field
  number e = rw (e, read_field)

  no_number : is_number ≡ false → None ≡ read_field text
  unfolding read_field
  no_number e = rw (e, read_field)

  -- of another length than one to ten
  pub too_short : length text < 1 → None ≡ read_field text
  too_short h = no_number (rw (lt-leb 1 (length text) h))

  pub too_long : 10 < length text → None ≡ read_field text
  too_long h = no_number (rw (lt-leb (length text) 10 h, and-false (leb 1 (length text))))

module _ (text : List ℕ) (v i : ℕ) (d : Digits text v i) where
  -- ten digits fit
  pub next_fits : i < 10 → v * 10 + 9 < 2 ^ 64
  next_fits h = omega (arith, d.small, pow-le-pow_right {n = 10} (lit< tt) {i = i} {j = 9} (omega arith))

  module _ (h : i < length text) where
    abbrev byte : ℕ
    byte = get_or text i 0

    -- one digit more
    pub next_digit : (w : ℕ) → w ≡ v * 10 + (byte - 48) → 48 ≤ byte → byte ≤ 57 → Digits text w (i + 1)
    unfolding all_digits value_from
    next_digit w e low high =
        record {
          within = omega arith;
          digits = d.digits ∙ rw (add-one i, drop-cons text i 0 h, range_in 48 57 byte low high);
          value = d.value ∙ rw (e, add-one i, drop-cons text i 0 h);
          small = rw (add-one i, pow-suc 10 i) (omega (arith, d.small));
        }

    not_digit : between 48 57 byte ≡ false → None ≡ read_field text
    unfolding all_digits
    not_digit e = no_number text (rw (d.digits, drop-cons text i 0 h, e, and-false (between 1 10 (length text))))

    pub below_digits : byte < 48 → None ≡ read_field text
    below_digits l = not_digit (rw (lt-leb 48 byte l))

    pub above_digits : 57 < byte → None ≡ read_field text
    above_digits l = not_digit (rw (lt-leb byte 57 l, and-false (leb 48 byte)))

  -- all of them
  pub all_read : length text ≤ i → 1 ≤ length text → length text ≤ 10 → Some v ≡ read_field text
  unfolding all_digits value_from
  all_read e low high =
      let end : drop i text ≡ [] = drop_of_length-le text e in
      ap Some (sym (rw end at d.value))
      ∙ number text (rw (range_in 1 10 (length text) low high, d.digits, end))

-- what the reading of a field is proved by
pub ruleset reads = (no_digits, too_short, too_long, next_fits, below_digits, above_digits, all_read)
