-- Laws of `in_turn`: what it gives passes the test; it gives one where one passes; it looks in its order, so that nobody before the one that it gives
-- passes; and tests that agree on 1..n are given the same. Assumes nothing.
use mathlib.Core.Path.{◌≡◌, refl, sym, ◌∙◌, ap₂}
use mathlib.Core.Bool.{Bool, true, false, not, ◌&&◌}
use mathlib.Core.Logic.{◌⊎◌, inl, inr, ◌≢◌}
use Prim.Native.Nat.{ℕ, zero, suc, ◌+◌, ◌-◌, ◌≤◌, ◌<◌}
use native.Mathlib.Omega.{arith}
use native.Mathlib.Decide.{ℕ_discrete, dec_lt, dec_le}
use lib.Dec.{T, leb, ltb, T_not, not_T, lt→ltb, ltb→lt}
use borrow.Author.Tests.{lt-leb, le-leb, lt-ltb, le-ltb}
use Rattle.std.proofs.lemmas.Bool.Decides.{nat_tests}
use Rattle.std.proofs.Math.Facts.{and_yes, yes_and}
use Rattle.wsgs.specs.Basics.{pick, Port, next, first_from, in_turn, later}

-- THE ORDER. How many of 1..n come before y, where they are told from k on, wrapping from n to 1
unfoldable pub ahead : (n k y : ℕ) → ℕ
ahead n k y = pick (leb k y) (y - k) (y + n - k)

-- of one from k on, and of one below k
pub ahead_from : (n k y : ℕ) → k ≤ y → ahead n k y ≡ y - k
unfolding ahead
ahead_from n k y h = rw (le-leb k y h)

pub ahead_below : (n k y : ℕ) → y < k → ahead n k y ≡ y + n - k
unfolding ahead
ahead_below n k y h = rw (lt-leb k y h)

-- the next one, before n and from n on
pub next_below : (n x : ℕ) → x < n → next n x ≡ suc x
next_below n x h = rw (lt-ltb x n h)

pub next_wraps : (n x : ℕ) → n ≤ x → next n x ≡ 1
next_wraps n x h = rw (le-ltb x n h)

-- it is a port
pub next_port : (n x : ℕ) → 1 ≤ n → Port n (next n x)
next_port n x h = grind (arith, nat_tests)

-- told from the next one on, each but k itself comes one earlier
pub ahead_next : (n k y : ℕ) → Port n k → Port n y → y ≢ k → ahead n k y ≡ suc (ahead n (next n k) y)
unfolding ahead
ahead_next n k y pk py d = grind (arith, nat_tests)

-- k itself is the first, and no two are told at the same place, of which there are n
pub ahead_own : (n k : ℕ) → ahead n k k ≡ 0
ahead_own n k = ahead_from n k k (omega arith) ∙ omega arith

pub ahead_once : (n k x y : ℕ) → Port n k → Port n x → Port n y → ahead n k x ≡ ahead n k y → x ≡ y
unfolding ahead
ahead_once n k x y pk px py e = grind (arith, nat_tests)

-- where y comes after x, it comes earlier when told from one past x
pub ahead_nearer : (n k x y : ℕ) → Port n k → Port n x → Port n y → ahead n k x < ahead n k y → ahead n (next n x) y < ahead n k y
unfolding ahead
ahead_nearer n k x y pk px py h = grind (arith, nat_tests)

pub ahead_within : (n k y : ℕ) → Port n k → Port n y → ahead n k y < n
unfolding ahead
ahead_within n k y pk py = grind (arith, nat_tests)

-- THE SEARCH. v is 0 and none of the first m from k on passes the test, or v is the first of them that does
abbrev pub Found : (ℕ → Bool) → (n k m v : ℕ) → Type 0
Found p n k m v =
    ((v ≡ 0) × ((y : ℕ) → Port n y → ahead n k y < m → T (not (p y))))
    ⊎ (Port n v × (ahead n k v < m) × T (p v) × ((y : ℕ) → Port n y → ahead n k y < ahead n k v → T (not (p y))))

-- so it is with `first_from`
pub first_is : (p : ℕ → Bool) (n k m : ℕ) → Port n k → Found p n k m (first_from p n k m)
unfolding first_from
first_is p n k zero pk = inl (refl, λ y q h. absurd (omega arith))
first_is p n k (suc m) pk = go (p k) refl (first_is p n (next n k) m (next_port n k (omega arith)))
  where
    after : (y : ℕ) (b : ℕ) → p k ≡ false → Port n y → ahead n k y < suc b
        → ((y : ℕ) → Port n y → ahead n (next n k) y < b → T (not (p y))) → Dec (y ≡ k) → T (not (p y))
    after y b e q h r (yes d) = rw (d, e) tt
    after y b e q h r (no d) = r y q (omega (arith, ahead_next n k y pk q d))

    go : (b : Bool) → p k ≡ b → Found p n (next n k) m (first_from p n (next n k) m)
        → Found p n k (suc m) (elim b [ true ↦ k | false ↦ first_from p n (next n k) m ])
    go true e r = inr (pk, omega (arith, ahead_own n k), rw e tt, λ y q h. absurd (omega (arith, ahead_own n k)))
    go false e (inl r) = inl (r.0, λ y q h. after y m e q h r.1 (ℕ_discrete y k))
    go false e (inr r) = at (ℕ_discrete (first_from p n (next n k) m) k)
      where
        v : ℕ
        v = first_from p n (next n k) m

        at : Dec (v ≡ k) → Found p n k (suc m) v
        at (yes d) = absurd (rw (d, e) at r.2)
        at (no d) =
            let s = ahead_next n k v pk r.0 d in
            inr (r.0, omega (arith, s, r.1), r.2, λ y q h. after y (ahead n (next n k) v) e q (omega (arith, s)) r.3 (ℕ_discrete y k))

-- v is 0 and nobody passes the test, or v is a port that does, and nobody before it in the order
abbrev pub InTurn : (ℕ → Bool) → (n last v : ℕ) → Type 0
InTurn p n last v =
    ((v ≡ 0) × ((y : ℕ) → Port n y → T (not (p y))))
    ⊎ (Port n v × T (p v) × ((y : ℕ) → Port n y → ahead n (next n last) y < ahead n (next n last) v → T (not (p y))))

-- so it is with `in_turn`
pub in_turn_is : (p : ℕ → Bool) (n last : ℕ) → InTurn p n last (in_turn p n last)
unfolding first_from
in_turn_is p zero last = inl (refl, λ y q. absurd (omega arith))
in_turn_is p (suc n) last = go (in_turn p (suc n) last) (first_is p (suc n) k (suc n) pk)
  where
    k : ℕ
    k = next (suc n) last

    pk : Port (suc n) k
    pk = next_port (suc n) last (omega arith)

    go : (v : ℕ) → Found p (suc n) k (suc n) v → InTurn p (suc n) last v
    go v (inl r) = inl (r.0, λ y q. r.1 y q (ahead_within (suc n) k y pk q))
    go v (inr r) = inr (r.0, r.2, r.3)

-- the same of a number that is known to be given
pub in_turn_some : (p : ℕ → Bool) (n last v : ℕ) → v ≡ in_turn p n last → 1 ≤ v → Port n v × T (p v)
in_turn_some p n last v e h = grind (arith, nat_tests, in_turn_is)

-- and of one that is known to be 0
pub in_turn_none : (p : ℕ → Bool) (n last v y : ℕ) → v ≡ in_turn p n last → v ≡ 0 → Port n y → T (not (p y))
in_turn_none p n last v y e z q = grind (arith, nat_tests, in_turn_is)

-- one that passes, and nobody before it in the order, is given
pub in_turn_at : (p : ℕ → Bool) (n last v : ℕ) → Port n v → T (p v)
    → ((y : ℕ) → Port n y → ahead n (next n last) y < ahead n (next n last) v → T (not (p y))) → in_turn p n last ≡ v
in_turn_at p n last v pv t h = grind (arith, nat_tests, in_turn_is, ahead_once, next_port)

-- the lowest that passes is given where the search begins at 1
pub in_turn_lowest : (p : ℕ → Bool) (n v : ℕ) → Port n v → T (p v) → ((y : ℕ) → Port n y → y < v → T (not (p y))) → in_turn p n 0 ≡ v
in_turn_lowest p n v pv t h =
    in_turn_at p n 0 v pv t
    (λ y q l. h y q (omega (arith, rw (next_below n 0 (omega arith)) at l, ahead_from n 1 y q.low, ahead_from n 1 v pv.low)))

-- where nobody passes, nobody is given
pub in_turn_nobody : (p : ℕ → Bool) (n last : ℕ) → ((y : ℕ) → Port n y → T (not (p y))) → in_turn p n last ≡ 0
in_turn_nobody p n last h = grind (arith, nat_tests, in_turn_is)

-- one that passes is given, or comes nearer: it is earlier in the order from one past the one that is given
pub in_turn_nearer : (p : ℕ → Bool) (n last v y : ℕ) → v ≡ in_turn p n last → Port n y → T (p y) → v ≢ y
    → ahead n (next n v) y < ahead n (next n last) y
in_turn_nearer p n last v y e py t d = grind (arith, nat_tests, in_turn_is, next_port, ahead_nearer, ahead_once)

-- tests that agree on 1..n are given the same
first_ext : (p q : ℕ → Bool) (n k m : ℕ) → Port n k → ((y : ℕ) → Port n y → p y ≡ q y) → first_from p n k m ≡ first_from q n k m
unfolding first_from
first_ext p q n k zero pk h = refl
first_ext p q n k (suc m) pk h = ap₂ step (h k pk) (first_ext p q n (next n k) m (next_port n k (omega arith)) h)
  where
    step : Bool → ℕ → ℕ
    step b r = elim b [ true ↦ k | false ↦ r ]

pub in_turn_ext : (p q : ℕ → Bool) (n last last' : ℕ) → ((y : ℕ) → Port n y → p y ≡ q y) → last ≡ last' → in_turn p n last ≡ in_turn q n last'
unfolding first_from
in_turn_ext p q zero last last' h e = refl
in_turn_ext p q (suc n) last last' h e = rw e (first_ext p q (suc n) (next (suc n) last') (suc n) (next_port (suc n) last' (omega arith)) h)

-- LOWEST ABOVE, ELSE LOWEST: the way to find it by bits. From 0 on the order is that of the numbers.
module _ (p : ℕ → Bool) (n last : ℕ) where
  abbrev above : ℕ → Bool
  above y = ltb last y && p y

  -- nobody above the last one passes, or v is the lowest of those that do
  from_above : (v : ℕ) → InTurn above n 0 v → in_turn p n last ≡ later v (in_turn p n 0)
  from_above v (inl r) = rw r.0 (go (in_turn p n 0) (in_turn_is p n 0) (dec_lt last n))
    where
      -- who passes is at most the last one
      low : (y : ℕ) → Port n y → T (p y) → y ≤ last
      low y q t = at (dec_le y last)
        where
          at : Dec (y ≤ last) → y ≤ last
          at (yes h) = h
          at (no h) = absurd (T_not (above y) (r.1 y q) (yes_and (ltb last y) (p y) (lt→ltb last y (omega arith)) t))

      go : (w : ℕ) → InTurn p n 0 w → Dec (last < n) → in_turn p n last ≡ w
      go w (inl s) _ = in_turn_nobody p n last s.1 ∙ sym s.0
      go w (inr s) (no h) = in_turn_at p n last w s.0 s.1 (rw (next_wraps n last (omega arith), ← next_below n 0 (omega arith)) s.2)
      go w (inr s) (yes h) = in_turn_at p n last w s.0 s.1 before
        where
          before : (y : ℕ) → Port n y → ahead n (next n last) y < ahead n (next n last) w → T (not (p y))
          before y q l = at (dec_le y last)
            where
              l' : ahead n (suc last) y < ahead n (suc last) w
              l' = rw (next_below n last h) at l

              at : Dec (y ≤ last) → T (not (p y))
              at (no g) = not_T (p y) (λ t. g (low y q t))
              at (yes g) =
                  s.2 y q
                  (rw (next_below n 0 (omega arith))
                  (omega (
                    arith,
                    l',
                    ahead_below n (suc last) y (omega arith),
                    ahead_below n (suc last) w (omega (arith, low w s.0 s.1)),
                    ahead_from n 1 y q.low,
                    ahead_from n 1 w s.0.low,
                  )))
  from_above v (inr r) = rw (lt-ltb 0 v r.0.low) (in_turn_at p n last v r.0 t.1 before)
    where
      t : T (ltb last v) × T (p v)
      t = and_yes (ltb last v) (p v) r.1

      high : last < v
      high = ltb→lt last v t.0

      before : (y : ℕ) → Port n y → ahead n (next n last) y < ahead n (next n last) v → T (not (p y))
      before y q l = at (dec_le y last)
        where
          l' : ahead n (suc last) y < ahead n (suc last) v
          l' = rw (next_below n last (omega (arith, high))) at l

          at : Dec (y ≤ last) → T (not (p y))
          at (yes g) = absurd (omega (arith, high, l', ahead_below n (suc last) y (omega arith), ahead_from n (suc last) v (omega (arith, high))))
          at (no g) =
              blocked_right (p y)
              (r.2 y q
              (rw (next_below n 0 (omega arith))
              (omega (
                arith,
                l',
                ahead_from n (suc last) y (omega arith),
                ahead_from n (suc last) v (omega (arith, high)),
                ahead_from n 1 y q.low,
                ahead_from n 1 v r.0.low,
              ))))
            where
              blocked_right : (b : Bool) → T (not (ltb last y && b)) → T (not b)
              blocked_right true f = absurd (T_not (ltb last y && true) f (yes_and (ltb last y) true (lt→ltb last y (omega arith)) tt))
              blocked_right false f = tt

  pub in_turn_above : in_turn p n last ≡ later (in_turn above n 0) (in_turn p n 0)
  in_turn_above = from_above (in_turn above n 0) (in_turn_is above n 0)

-- where nobody past n passes, the order may as well wrap at a larger m
module _ (n m : ℕ) (few : n ≤ m) where
  -- from 1 on
  low_wide : (q : ℕ → Bool) → ((y : ℕ) → Port m y → T (q y) → y ≤ n) → in_turn q m 0 ≡ in_turn q n 0
  low_wide q h = go (in_turn q n 0) (in_turn_is q n 0)
    where
      go : (v : ℕ) → InTurn q n 0 v → in_turn q m 0 ≡ v
      go v (inl r) =
          in_turn_nobody q m 0 (λ y py. not_T (q y) (λ t. T_not (q y) (r.1 y (omega (arith, h y py t))) t)) ∙ sym r.0
      go v (inr r) =
          in_turn_lowest q m v (omega arith) r.1
          (λ y py l. r.2 y (omega arith) (rw (next_below n 0 (omega arith)) (omega (arith, ahead_from n 1 y py.low, ahead_from n 1 v r.0.low))))

  pub in_turn_wide : (p : ℕ → Bool) (last : ℕ) → ((y : ℕ) → Port m y → T (p y) → y ≤ n) → in_turn p m last ≡ in_turn p n last
  in_turn_wide p last h = grind (arith, nat_tests, in_turn_above, low_wide)
