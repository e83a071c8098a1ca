-- Laws of runs cleared and copied: one word more, by induction on the run; what a run that is long enough becomes, and one that is too short; and the
-- length. And when the union of two words is 0. Assumes nothing.
use mathlib.Core.Path.{◌≡◌, refl, ap}
use mathlib.Core.Bool.{Bool, true, false, ◌&&◌, ◌||◌, and-false}
use mathlib.Core.List.{List, [], ◌∷◌, ◌++◌}
use mathlib.Core.Logic.{◌⊎◌, inl, inr}
use Prim.Native.Nat.{ℕ, zero, suc, ◌≤◌, ◌<◌}
use native.Mathlib.Nat.{le_of_suc-le-suc, not-suc-le-zero}
use native.Mathlib.Decide.{ℕ_discrete}
use native.Mathlib.Omega.{arith}
use lib.Bits.{bit_or, or_zero_l, or_add_and, and_le_l, and_le_r}
use lib.Dec.{leb, ltb}
use lib.ListN.{length, get_or, set, take, drop, replicate, length-append, length-take, length-drop}
use borrow.Author.Tests.{le-leb, lt-leb, leb-true, lt-ltb}
use Rattle.wsgs.specs.Basics.{pick}
use Rattle.wsgs.specs.Words.{cleared, copied}
use Rattle.words.specs.Runs.{clear_words, copy_words}

-- one word more is cleared
pub clear_more : (m : List ℕ) (i : ℕ) → i < length m → set (cleared i m) i 0 ≡ cleared (suc i) m
clear_more [] i h = absurd (not-suc-le-zero h)
clear_more (x ∷ m) zero h = refl
clear_more (x ∷ m) (suc i) h = ap (λ l. 0 ∷ l) (clear_more m i (le_of_suc-le-suc h))

-- one word more is copied
pub copy_more : (from m : List ℕ) (i : ℕ) → i < length from → i < length m → set (copied i from m) i (get_or from i 0) ≡ copied (suc i) from m
copy_more [] m i h k = absurd (not-suc-le-zero h)
copy_more (x ∷ from) [] i h k = absurd (not-suc-le-zero k)
copy_more (x ∷ from) (y ∷ m) zero h k = refl
copy_more (x ∷ from) (y ∷ m) (suc i) h k = ap (λ l. x ∷ l) (copy_more from m i (le_of_suc-le-suc h) (le_of_suc-le-suc k))

-- a run that is long enough is cleared
pub clear_fits : (count : ℕ) (m : List ℕ) → count ≤ length m → clear_words count m ≡ cleared count m
unfolding clear_words
clear_fits count m h = rw (le-leb count (length m) h)

-- so it is where the part that holds its first words is filled
pub clear_filled : {part : List ℕ} (count : ℕ) (m : List ℕ) → count ≤ length m
    → part ≡ replicate (length (take count m)) 0 → part ++ drop count m ≡ clear_words count m
clear_filled count m h e =
    let long : length (take count m) ≡ count = simp length-take (omega arith) in
    rw (clear_fits count m h, e, long)

-- and copied over, where both are
pub copy_fits : (count : ℕ) (from m : List ℕ) → count ≤ length from → count ≤ length m → copy_words count from m ≡ copied count from m
unfolding copy_words
copy_fits count from m h k = rw (le-leb count (length from) h, le-leb count (length m) k)

-- a run that is too short stays
pub clear_short : (count : ℕ) (m : List ℕ) → length m < count → clear_words count m ≡ m
unfolding clear_words
clear_short count m h = rw (lt-leb count (length m) h)

-- and so it does where one of the two is
pub copy_short : (count : ℕ) (from m : List ℕ) → (length from < count) ⊎ (length m < count) → copy_words count from m ≡ m
unfolding copy_words
copy_short count from m (inl h) = rw (lt-leb count (length from) h)
copy_short count from m (inr h) = rw (lt-leb count (length m) h, and-false (leb count (length from)))

-- a run that is copied over has its old length
pub copy_length : (count : ℕ) (from m : List ℕ) → length (copy_words count from m) ≡ length m
unfolding copy_words
copy_length count from m = go (leb count (length from)) refl (leb count (length m)) refl
  where
    go : (a : Bool) → leb count (length from) ≡ a → (b : Bool) → leb count (length m) ≡ b → length (pick (a && b) (copied count from m) m) ≡ length m
    go true d true e = simp (length-append, length-take, length-drop) (omega (arith, leb-true count (length from) d, leb-true count (length m) e))
    go true d false e = refl
    go false d b e = refl

-- a word is 0 where the union of words has no bit
pub or_none : (a b : ℕ) → ltb 0 (bit_or a b) ≡ (ltb 0 b || ltb 0 a)
or_none a b = go (ℕ_discrete a 0) (ℕ_discrete b 0)
  where
    go : Dec (a ≡ 0) → Dec (b ≡ 0) → ltb 0 (bit_or a b) ≡ (ltb 0 b || ltb 0 a)
    go (yes e) (yes d) = rw (e, d) (ap (ltb 0) (or_zero_l 0))
    go e (no d) = rw (lt-ltb 0 (bit_or a b) (omega (arith, or_add_and a b, and_le_l a b)), lt-ltb 0 b (omega arith))
    go (no e) (yes d) = rw (lt-ltb 0 (bit_or a b) (omega (arith, or_add_and a b, and_le_r a b)), d, lt-ltb 0 a (omega arith))
