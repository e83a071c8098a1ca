-- Laws of a signed difference of two numbers that fit 63 bits, as the machine works it out. Assumes nothing.
use mathlib.Core.Path.{◌≡◌, sym, ◌∙◌, ap₂, subst}
use Prim.Native.Nat.{ℕ, ◌^◌, ◌≤◌, ◌<◌}
use native.Mathlib.Omega.{arith}
use native.Mathlib.Decide.{dec_le}
use lib.IntN.{pos, ◌-ℤ◌}
use mir.Syntax.{w64}
use mir.Val.{SFits, to_z, of_z}
use mir.ValLaws.{to_z-of_z}
use Rattle.wsgs.proofs.Headroom.{sub_below, sub_above}

module _ (a b : ℕ) (fa : a < 2 ^ 63) (fb : b < 2 ^ 63) where
  -- each number is read back as it is
  read : (n : ℕ) → n < 2 ^ 63 → to_z w64 n ≡ pos n
  read n h = to_z-of_z w64 (pos n) (record { sfits = h })

  -- the difference fits
  pub fits : SFits w64 (pos a -ℤ pos b)
  fits = go (dec_le b a)
    where
      go : Dec (b ≤ a) → SFits w64 (pos a -ℤ pos b)
      go (yes h) = rw (sub_above a b h) (record { sfits = omega arith })
      go (no h) = rw (sub_below a b (omega arith)) (record { sfits = omega arith })

  both_read : to_z w64 a -ℤ to_z w64 b ≡ pos a -ℤ pos b
  both_read = ap₂ ◌-ℤ◌ (read a fa) (read b fb)

  -- so does that of the machine, which is the same
  pub machine_fits : SFits w64 (to_z w64 a -ℤ to_z w64 b)
  machine_fits = subst (SFits w64) (sym both_read) fits

  pub machine_is : to_z w64 (of_z w64 (to_z w64 a -ℤ to_z w64 b)) ≡ pos a -ℤ pos b
  machine_is = to_z-of_z w64 _ machine_fits ∙ both_read
