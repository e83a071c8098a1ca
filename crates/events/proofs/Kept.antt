-- The first 65 bytes of a record are enough to read it, and the buffer keeps them. Assumes nothing.
use mathlib.Core.Path.{◌≡◌, refl, sym, ap, ◌∙◌}
use mathlib.Core.Bool.{Bool}
use mathlib.Core.List.{List, [], ◌∷◌, ◌++◌, append_assoc}
use Prim.Native.Nat.{ℕ, suc, ◌+◌, ◌-◌, ◌≤◌, ◌<◌, min}
use native.Mathlib.Decide.{dec_le, dec_lt}
use native.Mathlib.Omega.{arith}
use borrow.Author.Tests.{lt-ltb, le-ltb}
use lib.ListN.{length, take, length-append, length-set}
use lib.Seq.{take_all, take-take, take-append-le, take-suc-set, length-take-le}
use lib.Dec.{ltb}
use Rattle.wsgs.specs.Basics.{pick}
use Rattle.wsgs.specs.Text.{drop_last, reversed}
use Rattle.wsgs.specs.Records.{read_record}
use Rattle.events.specs.Feeding.{kept_bytes, State, appended, kept_record, kept_reading}
use Rattle.records.proofs.Readings.{over_64}

-- a text read back to front
reversed_onto : (xs done : List ℕ) → reversed xs done ≡ reversed xs [] ++ done
unfolding reversed
reversed_onto [] done = refl
reversed_onto (x ∷ xs) done = reversed_onto xs (x ∷ done) ∙ sym (append_assoc (reversed xs []) (x ∷ []) done) ∙ ap (λ l. l ++ done) (sym (reversed_onto xs (x ∷ [])))

-- its last byte is the first that was read
reversed_cons : (x : ℕ) (xs : List ℕ) → reversed (x ∷ xs) [] ≡ reversed xs [] ++ (x ∷ [])
unfolding reversed
reversed_cons x xs = reversed_onto xs (x ∷ [])

reversed_length : (xs : List ℕ) → length (reversed xs []) ≡ length xs
unfolding reversed
reversed_length [] = refl
reversed_length (x ∷ xs) = ap length (reversed_cons x xs) ∙ length-append (reversed xs []) (x ∷ []) ∙ omega (arith, reversed_length xs)

-- 65 bytes are enough
first_65 : (running : Bool) (r : List ℕ) → read_record running (take 65 r) ≡ read_record running r
first_65 running r = go (dec_le (length r) 65)
  where
    go : Dec (length r ≤ 65) → read_record running (take 65 r) ≡ read_record running r
    go (yes h) = rw (take_all 65 r h)
    go (no h) = sym (over_64 running (take 65 r) (omega (arith, length-take-le {A = ℕ} 65 r (omega arith)))) ∙ over_64 running r (omega arith)

-- the state keeps a record begun, whose last byte stands first
pub record Holds (s : State) (begun : List ℕ) : Type 0 where
  pub count : s.count ≡ min (length begun) 66
  pub kept : take (min (length begun) 65) s.buffer ≡ take 65 (reversed begun [])
  pub long : kept_bytes ≤ length s.buffer

-- a bound on the bytes taken may be the length
take_min : (k : ℕ) (r : List ℕ) → take (min (length r) k) r ≡ take k r
take_min k r = go (dec_le (length r) k)
  where
    go : Dec (length r ≤ k) → take (min (length r) k) r ≡ take k r
    go (yes h) = take_all (min (length r) k) r (omega arith) ∙ sym (take_all k r h)
    go (no h) = let e : min (length r) k ≡ k = omega arith in rw e

-- what is kept reads as the record does
pub reads_same : (s : State) (begun : List ℕ) → Holds s begun → kept_reading s ≡ read_record s.machine.running (reversed (drop_last begun) [])
unfolding reversed
reads_same s [] h = rw h.count
reads_same s (y ∷ ys) h =
    let r = reversed ys [] in
    let long : length r ≡ length ys = reversed_length ys in
    let k : ℕ = min (length r) 65 in
    let is_k : min (s.count - 1) 65 ≡ k = omega (arith, h.count) in
    let same : kept_record s ≡ take 65 r =
    ap (λ n. take n s.buffer) is_k
    ∙ sym (take-take k (min (suc (length ys)) 65) s.buffer (omega arith))
    ∙ ap (take k) h.kept
    ∙ take-take k 65 (reversed (y ∷ ys) []) (omega arith)
    ∙ ap (take k) (reversed_cons y ys)
    ∙ take-append-le k r (y ∷ []) (omega arith)
    ∙ take_min 65 r in
    ap (read_record s.machine.running) same ∙ first_65 s.machine.running r

-- a byte more
module _ (s : State) (begun : List ℕ) (x : ℕ) (h : Holds s begun) where
  counts : pick (ltb s.count 66) (s.count + 1) s.count ≡ min (suc (length begun)) 66
  counts = go (dec_lt s.count 66)
    where
      go : Dec (s.count < 66) → pick (ltb s.count 66) (s.count + 1) s.count ≡ min (suc (length begun)) 66
      go (yes l) = rw (lt-ltb s.count 66 l) (omega (arith, h.count))
      go (no l) = rw (le-ltb s.count 66 (omega arith)) (omega (arith, h.count))

  pub holds_more : Holds (appended s x) (x ∷ begun)
  holds_more = go (dec_lt (length begun) 65)
    where
      go : Dec (length begun < 65) → Holds (appended s x) (x ∷ begun)
      go (yes l) =
          let r = reversed begun [] in
          let long : length r ≡ length begun = reversed_length begun in
          let here : s.count ≡ length begun = omega (arith, h.count) in
          let all : min (suc (length begun)) 65 ≡ suc s.count = omega arith in
          let so_far : min (length begun) 65 ≡ s.count = omega arith in
          record {
            count = counts;
            kept =
                rw (lt-ltb s.count 65 (omega arith), all, take-suc-set s.buffer s.count x (omega (arith, h.long)))
                (ap (λ t. t ++ (x ∷ [])) (rw so_far at h.kept ∙ take_all 65 r (omega arith))
                ∙ sym (reversed_cons x begun)
                ∙ sym (take_all 65 (reversed (x ∷ begun) []) (omega (arith, reversed_length (x ∷ begun)))));
            long = rw (lt-ltb s.count 65 (omega arith), length-set) h.long;
          }
      go (no l) =
          let r = reversed begun [] in
          let long : length r ≡ length begun = reversed_length begun in
          let all : min (suc (length begun)) 65 ≡ min (length begun) 65 = omega arith in
          record {
            count = counts;
            kept =
                rw (le-ltb s.count 65 (omega (arith, h.count)), all)
                (h.kept ∙ sym (take-append-le 65 r (x ∷ []) (omega arith)) ∙ ap (take 65) (sym (reversed_cons x begun)));
            long = rw (le-ltb s.count 65 (omega (arith, h.count))) h.long;
          }

-- no byte yet
pub holds_none : (s : State) → s.count ≡ 0 → kept_bytes ≤ length s.buffer → Holds s []
unfolding reversed
holds_none s e l = record { count = e; kept = refl; long = l }
