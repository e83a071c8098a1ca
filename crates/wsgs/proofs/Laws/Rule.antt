-- Laws of the book's rule. Its questions are answered yes exactly where it admits a booking. What a book of either kind keeps of all its pairs: inequality
-- (5) of the paper, which gives inequality (2), or (2) itself. Lower bookings keep it, and so does a booking that the rule admits. Assumes nothing.
use mathlib.Core.Path.{◌≡◌, refl}
use mathlib.Core.Bool.{Bool, true, false, and-false}
use mathlib.Core.Logic.{◌⊎◌, inl, inr, ◌≢◌}
use Prim.Native.Nat.{ℕ, zero, suc, ◌+◌, ◌*◌, ◌≤◌}
use native.Mathlib.Omega.{arith}
use native.Mathlib.Decide.{ℕ_discrete}
use lib.Dec.{T, leb→le, le→leb}
use borrow.Author.Tests.{eq-eqb, ne_eqb}
use Rattle.std.proofs.lemmas.Bool.Decides.{nat_tests}
use Rattle.std.proofs.Math.Facts.{and_yes, yes_and}
use Rattle.wsgs.specs.Basics.{Port, sum, sum_without, all_of}
use Rattle.wsgs.specs.Bookings.{row_sum, column_sum}
use Rattle.wsgs.specs.Rule.{with_more, booked_fits, sharing_fit, rule}
use Rattle.wsgs.specs.Claims.{Fits, Admits}
use Rattle.wsgs.proofs.Laws.Sums.{sum_le, sum_zero, sum_parts, row_changed, column_changed}
use Rattle.wsgs.proofs.Laws.Questions.{Yes, Numbered}

-- a test that every port passes
pub every_at : (p : ℕ → Bool) (n x : ℕ) → T (all_of p n) → Port n x → T (p x)
unfolding all_of
every_at p zero x t q = absurd (omega arith)
every_at p (suc n) x t q = let r = and_yes (p (suc n)) (all_of p n) t in go (ℕ_discrete x (suc n)) r.0 (λ q. every_at p n x r.1 q)
  where
    go : Dec (x ≡ suc n) → T (p (suc n)) → (Port n x → T (p x)) → T (p x)
    go (yes e) now before = rw e now
    go (no d) now before = before (omega (arith, q))

pub every_all : (p : ℕ → Bool) (n : ℕ) → ((x : ℕ) → Port n x → T (p x)) → T (all_of p n)
unfolding all_of
every_all p zero h = tt
every_all p (suc n) h = yes_and (p (suc n)) (all_of p n) (h (suc n) (omega arith)) (every_all p n (λ x q. h x (omega (arith, q))))

-- (2) as a test, and as a statement
module _ (n f : ℕ) (a : ℕ → ℕ → ℕ) (x y : ℕ) where
  pub fits_is : Port n y → T (booked_fits n f a x y) → Fits n f a x y
  unfolding booked_fits row_sum
  fits_is p t h = grind (arith, nat_tests)

  pub is_fits : Fits n f a x y → T (booked_fits n f a x y)
  unfolding booked_fits
  is_fits h = grind (arith, nat_tests)

-- THE QUESTIONS of the rule have numbers, and are answered yes exactly where it admits
pub rule_numbered : (g : Bool) (n f : ℕ) (a : ℕ → ℕ → ℕ) (i j d : ℕ) → Numbered (rule g n f a i j d)
rule_numbered false n f a i j d = omega arith
rule_numbered true n f a i j d = omega arith

module _ (n f : ℕ) (a : ℕ → ℕ → ℕ) (i j d : ℕ) (pi : Port n i) (pj : Port n j) where
  abbrev after : ℕ → ℕ → ℕ
  after = with_more a i j d

  pub rule_admits : (g : Bool) → Yes (rule g n f a i j d) → Admits g n f a i j d
  rule_admits false y = (leb→le _ _ y.0, leb→le _ _ y.1.0)
  rule_admits true y = λ u v pu pv. go u v pu pv
    where
      t : T (all_of (λ v. booked_fits n f after i v) n) × T (all_of (λ u. booked_fits n f after u j) n)
      t = unfold sharing_fit in and_yes (all_of (λ v. booked_fits n f after i v) n) (all_of (λ u. booked_fits n f after u j) n) y.0

      go : (u v : ℕ) → Port n u → Port n v → (u ≡ i) ⊎ (v ≡ j) → Fits n f after u v
      go u v pu pv (inl e) = rw e (fits_is n f after i v pv (every_at (λ v. booked_fits n f after i v) n v t.0 pv))
      go u v pu pv (inr e) = rw e (fits_is n f after u j pj (every_at (λ u. booked_fits n f after u j) n u t.1 pu))

  pub admits_rule : (g : Bool) → Admits g n f a i j d → Yes (rule g n f a i j d)
  unfolding sharing_fit
  admits_rule false h = (le→leb _ _ h.0, (le→leb _ _ h.1, tt))
  admits_rule true h = (
    yes_and (all_of (λ v. booked_fits n f after i v) n) (all_of (λ u. booked_fits n f after u j) n)
        (every_all _ n (λ v pv. is_fits n f after i v (h i v pi pv (inl refl))))
        (every_all _ n (λ u pu. is_fits n f after u j (h u j pu pj (inr refl)))),
    tt,
  )

-- WHAT A BOOK KEEPS. Plain: each row and each column has at most half a frame, rounded up.
pub record Bounded (n f : ℕ) (a : ℕ → ℕ → ℕ) : Type 0 where
  pub row : (i : ℕ) → Port n i → 2 * row_sum n a i ≤ f + 1
  pub column : (j : ℕ) → Port n j → 2 * column_sum n a j ≤ f + 1

-- fine: (2) holds of every booked pair
abbrev pub AllFit : (ports frame : ℕ) → (ℕ → ℕ → ℕ) → Type 0
AllFit n f a = (i j : ℕ) → Port n i → Port n j → Fits n f a i j

abbrev pub Kept : (fine : Bool) (ports frame : ℕ) → (ℕ → ℕ → ℕ) → Type 0
Kept false n f a = Bounded n f a
Kept true n f a = AllFit n f a

-- (2) holds of every booked pair of either
pub kept_fits : (g : Bool) (n f : ℕ) (a : ℕ → ℕ → ℕ) → Kept g n f a → AllFit n f a
kept_fits false n f a h = λ i j pi pj k. omega (arith, h.row i pi, h.column j pj)
kept_fits true n f a h = h

-- so a booked pair and the others of its row and its column fit the frame
pub sold : (n f : ℕ) (a : ℕ → ℕ → ℕ) → AllFit n f a → (i j : ℕ) → Port n i → Port n j → 1 ≤ a i j
    → a i j + (sum_without j (λ y. a i y) n + sum_without i (λ x. a x j) n) ≤ f
unfolding row_sum column_sum
sold n f a h i j pi pj k = omega (arith, h i j pi pj k, sum_parts (λ y. a i y) n j pj, sum_parts (λ x. a x j) n i pi)

-- LOWER BOOKINGS keep it
abbrev pub Below : ℕ → (ℕ → ℕ → ℕ) → (ℕ → ℕ → ℕ) → Type 0
Below n a b = (x y : ℕ) → Port n x → Port n y → a x y ≤ b x y

module _ (n f : ℕ) (a b : ℕ → ℕ → ℕ) (below : Below n a b) where
  row_below : (i : ℕ) → Port n i → row_sum n a i ≤ row_sum n b i
  unfolding row_sum
  row_below i p = sum_le _ _ n (λ y q. below i y p q)

  column_below : (j : ℕ) → Port n j → column_sum n a j ≤ column_sum n b j
  unfolding column_sum
  column_below j p = sum_le _ _ n (λ x q. below x j q p)

  without_below : (g h : ℕ → ℕ) (z : ℕ) → ((x : ℕ) → Port n x → g x ≤ h x) → sum_without z g n ≤ sum_without z h n
  without_below g h z k = grind (arith, nat_tests, sum_le)

  pub fits_below : (i j : ℕ) → Port n i → Port n j → Fits n f b i j → Fits n f a i j
  unfolding row_sum column_sum
  fits_below i j pi pj h k =
      omega (
        arith,
        h (omega (arith, below i j pi pj)),
        below i j pi pj,
        sum_parts (λ y. b i y) n j pj,
        sum_parts (λ x. b x j) n i pi,
        sum_parts (λ y. a i y) n j pj,
        sum_parts (λ x. a x j) n i pi,
        without_below (λ y. a i y) (λ y. b i y) j (λ y q. below i y pi q),
        without_below (λ x. a x j) (λ x. b x j) i (λ x q. below x j q pj),
      )

  pub kept_below : (g : Bool) → Kept g n f b → Kept g n f a
  kept_below false h =
      record { row = λ i p. omega (arith, h.row i p, row_below i p); column = λ j p. omega (arith, h.column j p, column_below j p) }
  kept_below true h = λ i j pi pj. fits_below i j pi pj (h i j pi pj)

-- an empty book keeps it
pub none_kept : (g : Bool) (n f : ℕ) → Kept g n f (λ i j. 0)
unfolding row_sum column_sum
none_kept false n f = record { row = λ i p. zero_sum; column = λ j p. zero_sum }
  where
    zero_sum : 2 * sum (λ j. 0) n ≤ f + 1
    zero_sum = rw (sum_zero (λ j. 0) n (λ j q. refl)) (omega arith)
none_kept true n f = λ i j pi pj k. absurd (omega arith)

-- A BOOKING that the rule admits keeps it
module _ (n f : ℕ) (a : ℕ → ℕ → ℕ) (i j d : ℕ) where
  -- rows and columns elsewhere stay
  row_same : (x : ℕ) → x ≢ i → row_sum n (with_more a i j d) x ≡ row_sum n a x
  unfolding row_sum
  row_same x e = rw (ne_eqb x i e)

  column_same : (y : ℕ) → y ≢ j → column_sum n (with_more a i j d) y ≡ column_sum n a y
  unfolding column_sum
  column_same y e = rw (ne_eqb y j e) (simp and-false)

  -- those of its pair have d more
  pub row_more : Port n j → row_sum n (with_more a i j d) i ≡ row_sum n a i + d
  unfolding row_sum
  row_more p = omega (arith, row_changed n a i j (a i j + d) p)

  pub column_more : Port n i → column_sum n (with_more a i j d) j ≡ column_sum n a j + d
  unfolding column_sum
  column_more p = omega (arith, column_changed n a i j (a i j + d) p)

  module _ (pi : Port n i) (pj : Port n j) where
    pub kept_more : (g : Bool) → Kept g n f a → Admits g n f a i j d → Kept g n f (with_more a i j d)
    kept_more false h r = record { row = λ x p. row x p (ℕ_discrete x i); column = λ y p. column y p (ℕ_discrete y j) }
      where
        row : (x : ℕ) → Port n x → Dec (x ≡ i) → 2 * row_sum n (with_more a i j d) x ≤ f + 1
        row x p (yes e) = rw e (omega (arith, r.0, row_more pj))
        row x p (no e) = rw (row_same x e) (h.row x p)

        column : (y : ℕ) → Port n y → Dec (y ≡ j) → 2 * column_sum n (with_more a i j d) y ≤ f + 1
        column y p (yes e) = rw e (omega (arith, r.1, column_more pi))
        column y p (no e) = rw (column_same y e) (h.column y p)
    kept_more true h r = λ x y px py. go x y px py (ℕ_discrete x i) (ℕ_discrete y j)
      where
        go : (x y : ℕ) → Port n x → Port n y → Dec (x ≡ i) → Dec (y ≡ j) → Fits n f (with_more a i j d) x y
        go x y px py (yes e) z = r x y px py (inl e)
        go x y px py (no e) (yes z) = r x y px py (inr z)
        go x y px py (no e) (no z) = λ k.
            let s : with_more a i j d x y ≡ a x y = rw (ne_eqb x i e) in
            omega (arith, h x y px py (omega arith), row_same x e, column_same y z)

    -- and one that a plain book admits, a fine one admits
    pub plain_admitted : Bounded n f a → Admits false n f a i j d → (g : Bool) → Admits g n f a i j d
    plain_admitted h r false = r
    plain_admitted h r true = λ x y px py e. kept_fits false n f (with_more a i j d) (kept_more false h r) x y px py

    -- the pair's own booking is at most a frame afterwards
    pub own_fits : 1 ≤ f → (g : Bool) → Admits g n f a i j d → a i j + d ≤ f
    unfolding row_sum column_sum
    own_fits k false r = omega (arith, r.0, sum_parts (λ y. a i y) n j pj)
    own_fits k true r = go (ℕ_discrete (a i j + d) 0)
      where
        own : with_more a i j d i j ≡ a i j + d
        own = rw (eq-eqb i i refl, eq-eqb j j refl)

        go : Dec (a i j + d ≡ 0) → a i j + d ≤ f
        go (yes e) = omega arith
        go (no e) =
            omega (
              arith,
              r i j pi pj (inl refl) (omega (arith, own)),
              own,
              sum_parts (λ y. with_more a i j d i y) n j pj,
              sum_parts (λ x. with_more a i j d x j) n i pi,
            )
