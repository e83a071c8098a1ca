-- Where a row begins and where the word of a pair stands: what is known of a port, and what both are for ports. Assumes nothing.
use mathlib.Core.Path.{◌≡◌, refl, sym, ◌∙◌}
use mathlib.Core.Bool.{Bool, true, false, not, and-false}
use Prim.Native.Nat.{ℕ, zero, suc, ◌+◌, ◌-◌, ◌*◌, ◌^◌, ◌≤◌, ◌<◌}
use native.Mathlib.Nat.{mul-le-mul_right}
use native.Mathlib.Omega.{arith}
use borrow.Author.Tests.{le-leb, lt-leb, not-true, not-false}
use lib.Dec.{leb, leb→le}
use Rattle.std.proofs.Math.Facts.{and_yes}
use Rattle.wsgs.specs.Basics.{pick, between, Port}
use Rattle.wsgs.specs.Words.{place}
use Rattle.wsgs.proofs.Laws.Tests.{between_port, range_in}
use Rattle.wsgs.proofs.Laws.Words.{row_within, place_inside}
use Rattle.words.specs.Places.{is_port, row_of, place_of}

-- a product of ports fits a word of 64 bits
pub product_fits : (x n : ℕ) → x ≤ 32 → n ≤ 32 → x * n < 2 ^ 64
product_fits x n h few = omega (arith, mul-le-mul_right n h)

-- a number is at most its square
squared : (n : ℕ) → 0 + n ≤ n * n
squared zero = omega arith
squared (suc n) =
    let some : 1 ≤ suc n = omega arith in
    omega (arith, mul-le-mul_right (suc n) some)

-- A NUMBER x, by the tests
module _ (n x : ℕ) where
  -- the ports are too many, or it is below them
  pub many_ports : 32 < n → false ≡ is_port n x
  unfolding is_port
  many_ports h = rw (lt-leb n 32 h)

  pub below_ports : x < 1 → false ≡ is_port n x
  unfolding is_port
  below_ports h = rw (lt-leb 1 x h, and-false (leb n 32))

  -- else the last port decides
  pub last_decides : n ≤ 32 → 1 ≤ x → leb x n ≡ is_port n x
  unfolding is_port
  last_decides few low = rw (le-leb n 32 few, le-leb 1 x low)

  -- a port passes
  pub port_passes : n ≤ 32 → Port n x → is_port n x ≡ true
  unfolding is_port
  port_passes few p = rw (le-leb n 32 few, range_in 1 n x p.low p.high)

  -- what is known where the question is answered yes
  pub record IsPort : Type 0 where
    pub yes : is_port n x ≡ true
    pub few : n ≤ 32
    pub port : Port n x

  pub known : {answer : Bool} → answer ≡ is_port n x → not answer ≡ false → IsPort
  unfolding is_port
  known e h =
      let yes : is_port n x ≡ true = sym e ∙ not-false _ h in
      let a = and_yes (leb n 32) (between 1 n x) (rw yes tt) in
      record { yes = yes; few = leb→le n 32 a.0; port = between_port n x a.1 }

  -- and where it is answered no
  pub unknown : {answer : Bool} → answer ≡ is_port n x → not answer ≡ true → is_port n x ≡ false
  unknown e h = sym e ∙ not-true _ h

-- THE ROW of input i
module _ (n i : ℕ) where
  pub no_row : is_port n i ≡ false → 0 ≡ row_of n i
  unfolding row_of
  no_row e = rw e

  pub row_there : is_port n i ≡ true → (i - 1) * n ≡ row_of n i
  unfolding row_of
  row_there e = rw e

  -- of a port
  pub row_is : n ≤ 32 → Port n i → row_of n i ≡ (i - 1) * n
  row_is few p = sym (row_there (port_passes n i few p))

  -- whatever the numbers are, it lies within the matrix
  pub row_inside : row_of n i + n ≤ n * n
  unfolding row_of
  row_inside = go (is_port n i) refl
    where
      go : (b : Bool) → is_port n i ≡ b → pick b ((i - 1) * n) 0 + n ≤ n * n
      go true e = row_within n i (known n i {answer = true} (sym e) refl).port
      go false e = squared n

-- THE PLACE of the pair (i, j)
module _ (n i j : ℕ) where
  pub no_input : is_port n i ≡ false → 0 ≡ place_of n i j
  unfolding place_of
  no_input e = rw e

  pub no_output : is_port n j ≡ false → 0 ≡ place_of n i j
  unfolding place_of
  no_output e = rw (e, and-false (is_port n i))

  pub place_there : is_port n i ≡ true → is_port n j ≡ true → (i - 1) * n + (j - 1) ≡ place_of n i j
  unfolding place_of
  place_there a b = rw (a, b)

  -- of two ports
  pub place_is : n ≤ 32 → Port n i → Port n j → place_of n i j ≡ place n i j
  unfolding place_of
  place_is few p q = rw (port_passes n i few p, port_passes n j few q)

  -- and that it lies inside the matrix
  module _ (at : ℕ) (e : at ≡ place_of n i j) (few : n ≤ 32) (p : Port n i) (q : Port n j) where
    pub at_place : at ≡ place n i j
    at_place = e ∙ place_is few p q

    pub at_inside : at < n * n
    at_inside = rw at_place (place_inside n i j p q)
