-- A row of a run, copied over as the front of the part that begins with it, and cleared word by word. Assumes nothing.
use Rattle.std.proofs.Common.{◌≡◌, ℕ, suc, ◌+◌, ◌-◌, ◌*◌, ◌%◌, ◌<◌, ◌≤◌, List, [], ◌∷◌, ◌++◌, length, get_or, take, drop, set, replicate, sym, ap, ◌∙◌, append_assoc, append-nil, add-zero, arith, length-append, length-drop, take-append-drop, drop_of_length-le, length-take, take_all, drop-cons, drop-drop}
use lib.ListN.{length-replicate, replicate-append-replicate}
use lib.Seq.{append_snoc, get_or_at, set_at}
use Rattle.wsgs.specs.Words.{replaced}
use Rattle.wsgs.specs.Pipelined.{loaded, row_cleared}
use Rattle.words.specs.Runs.{copy_words}
use Rattle.words.proofs.Laws.{copy_fits}

-- the part of a run from place p on, and what is left after it
tail : (p : ℕ) (m : List ℕ) → take (length m - p) (drop p m) ≡ drop p m
tail p m = take_all (length m - p) (drop p m) (omega (arith, length-drop p m))

after : (p : ℕ) (m : List ℕ) → drop (length m - p) (drop p m) ≡ []
after p m = drop_of_length-le (drop p m) {i = length m - p} (omega (arith, length-drop p m))

-- the n words from place p on
module _ (p n : ℕ) (m ys : List ℕ) (fits : p + n ≤ length m) where
  -- a part that comes back with new words in front
  back : (new : List ℕ) → ys ≡ new ++ drop n (drop p m) → take p m ++ (ys ++ drop (length m - p) (drop p m)) ≡ replaced p n new m
  back new e = rw (e, after p m, append-nil (new ++ drop n (drop p m)), drop-drop n p m)

  -- the row of input i, copied from the same place of the frame copy
  pub row_loaded : (i : ℕ) (copy : List ℕ) → p ≡ (i - 1) * n → p + n ≤ length copy
      → ys ≡ copy_words n (take (length copy - p) (drop p copy)) (take (length m - p) (drop p m))
      → take p m ++ (ys ++ drop (length m - p) (drop p m)) ≡ loaded n copy i m
  unfolding loaded
  row_loaded i copy place h e =
      back (take n (drop p copy))
      (e ∙ rw (tail p copy, tail p m) (copy_fits n (drop p copy) (drop p m) (omega (arith, length-drop p copy)) (omega (arith, length-drop p m))))
      ∙ ap (λ x. replaced x n (take n (drop x copy)) m) place

-- a run whose words from place p on are set to 0, one after another
module _ (p : ℕ) (m : List ℕ) where
  -- the first k are
  pub record ClearedSoFar (k : ℕ) (l : List ℕ) : Type 0 where
    pub words : l ≡ replaced p k (replicate k 0) m

  -- none is
  pub cleared_none : ClearedSoFar 0 m
  cleared_none = record { words = sym (ap (λ q. take p m ++ drop q m) (add-zero p) ∙ take-append-drop p m) }

  -- all n are, and make up the row of slot s
  pub cleared_all : (n s k : ℕ) (l : List ℕ) → p ≡ s % (2 * n) * n → k ≡ n → ClearedSoFar k l → l ≡ row_cleared n m s
  unfolding row_cleared
  cleared_all n s k l place e h = rw (h.words, place, e)

  -- the next one
  module _ (k : ℕ) (l : List ℕ) (inside : p + k < length m) (h : ClearedSoFar k l) where
    -- what comes before it and after it
    abbrev front : List ℕ
    front = take p m ++ replicate k 0

    abbrev rest : List ℕ
    rest = drop (suc (p + k)) m

    -- how long the part before it is
    front_length : length front ≡ p + k
    front_length = simp (length-append, length-take, length-replicate) (omega arith)

    -- the run, cut around it
    around : l ≡ front ++ get_or m (p + k) 0 ∷ rest
    around =
        h.words
        ∙ ap (λ z. take p m ++ (replicate k 0 ++ z)) (drop-cons m (p + k) 0 inside)
        ∙ sym (append_assoc (take p m) (replicate k 0) (get_or m (p + k) 0 ∷ rest))

    -- it stands as it was
    pub next_stands : get_or l (p + k) 0 ≡ get_or m (p + k) 0
    next_stands = ap (λ z. get_or z (p + k) 0) around ∙ get_or_at front (get_or m (p + k) 0) rest 0 (p + k) front_length

    -- a 0 in its place is one 0 more
    zeros : replicate k 0 ++ 0 ∷ rest ≡ replicate (k + 1) 0 ++ rest
    zeros = sym (append_snoc (replicate k 0) 0 rest) ∙ ap (λ z. z ++ rest) (replicate-append-replicate k 1 0)

    -- and it is set to 0
    pub cleared_more : ClearedSoFar (k + 1) (set l (p + k) 0)
    cleared_more =
        let next : suc (p + k) ≡ p + (k + 1) = omega arith in
        record {
          words =
              ap (λ z. set z (p + k) 0) around
              ∙ set_at front (get_or m (p + k) 0) rest 0 (p + k) front_length
              ∙ append_assoc (take p m) (replicate k 0) (0 ∷ rest)
              ∙ ap (λ z. take p m ++ z) zeros
              ∙ ap (λ q. take p m ++ (replicate (k + 1) 0 ++ drop q m)) next;
        }
