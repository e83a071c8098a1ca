-- The turns of the two passes. What the inputs hold after a turn is what the definition says, for the row of an input is untouched until its
-- turn, and the mask has the outputs that nobody holds. Assumes nothing.
use mathlib.Core.Path.{◌≡◌, refl, sym, ◌∙◌, ap, fun_ext}
use mathlib.Core.Bool.{Bool, true, false, not, ◌&&◌, and_self}
use mathlib.Core.List.{List}
use mathlib.Core.Logic.{◌≢◌}
use Prim.Native.Nat.{ℕ, zero, suc, ◌*◌, ◌^◌, ◌≤◌, ◌<◌}
use native.Mathlib.Decide.{ℕ_discrete}
use native.Mathlib.Omega.{arith}
use borrow.Author.Tests.{lt-ltb, le-ltb}
use lib.Bits.{bit_or}
use lib.Dec.{eqb, ltb}
use lib.ListN.{length, get_or, set, replicate}
use Rattle.wsgs.specs.declared.TurnRuns.{TurnRuns}
use Rattle.wsgs.specs.Told.{SameTurnRuns}
use Rattle.wsgs.specs.Basics.{pick, Port, in_turn, updated}
use Rattle.wsgs.specs.Words.{word, port_word}
use Rattle.wsgs.specs.Steps.{taken, pass_one, pass_two, marked}
use Rattle.wsgs.specs.Direct.{spent}
use Rattle.wsgs.proofs.Laws.Tests.{updated_at, updated_other}
use Rattle.wsgs.proofs.Laws.InTurn.{in_turn_ext, in_turn_some}
use Rattle.wsgs.proofs.Steps.{two_untouched}
use Rattle.wsgs.proofs.Laws.Listed.{listed_at}
use Rattle.wsgs.proofs.Laws.Marked.{marked_none, marked_ext, marked_set}
use Rattle.turns.specs.Masks.{in_mask, without}
use Rattle.turns.specs.Charges.{charged, noted}
use Rattle.direct.specs.Passes.{PassState}
use Rattle.turns.proofs.Ready.{is_open}
use Rattle.turns.proofs.Costs.{charged_some, charged_none, noted_some, noted_none}
use Rattle.direct.proofs.PassStates.{taken_short, held_none, held_more}
use Rattle.direct.proofs.Spent.{spent_length, spent_none, spent_row, spent_more}
use Rattle.direct.proofs.Regiven.{regiven_own}

-- the same loans after one turn more
pub same_on : {a b c : TurnRuns} → SameTurnRuns a b → SameTurnRuns b c → SameTurnRuns a c
same_on s t = record { credits = t.credits ∙ s.credits; queues = t.queues ∙ s.queues; given = t.given ∙ s.given }

-- a value that is there already changes nothing
updated_same : (f : ℕ → ℕ) (k v : ℕ) → f k ≡ v → updated f k v ≡ f
updated_same f k v e = fun_ext (λ i. go i (ℕ_discrete i k))
  where
    go : (i : ℕ) → Dec (i ≡ k) → updated f k v i ≡ f i
    go i (yes d) = updated_at f k i v d ∙ sym (ap f d ∙ e)
    go i (no d) = updated_other f k i v d

-- an output that is above 0 is one more that is
updated_above : (f : ℕ → ℕ) (k v : ℕ) → 1 ≤ v → (i : ℕ) → updated (λ i. ltb 0 (f i)) k true i ≡ ltb 0 (updated f k v i)
updated_above f k v h i = go (eqb i k)
  where
    go : (b : Bool) → pick b true (ltb 0 (f i)) ≡ ltb 0 (pick b v (f i))
    go true = sym (lt-ltb 0 v h)
    go false = refl

-- what is open to input k, which holds none, in runs from which the outputs that are held have been spent
module _ (n : ℕ) (start other before : List ℕ) (f : ℕ → ℕ) (free : ℕ) (outputs queues given one : List ℕ)
    (h : PassState n start before f free outputs queues given) (cost : one ≡ spent n other f n) (long : n * n ≤ length one) (enough : n * n ≤ length queues) (k : ℕ) (pk : Port n k) (none : f k ≡ 0) where
  -- each output
  open_is : (j : ℕ) → Port n j → is_open n free one queues k j ≡ (not (taken f n j) && (ltb 0 (word n other k j) && ltb 0 (word n start k j)))
  unfolding is_open
  open_is j pj =
      let l : n * n ≤ length other = rw (cost, spent_length n other f n) at long in
      let m : n * n ≤ length start = rw (h.cost, spent_length n start f n) at enough in
      rw (h.mask j pj, cost, h.cost, spent_row n other l f h.bound k j pk pj none, spent_row n start m f h.bound k j pk pj none)

  -- so the first in turn
  pub first_is : in_turn (is_open n free one queues k) n (port_word given k)
      ≡ in_turn (λ j. not (taken f n j) && (ltb 0 (word n other k j) && ltb 0 (word n start k j))) n (port_word before k)
  first_is = in_turn_ext _ _ n _ _ open_is (ap (λ g. port_word g k) h.gifts ∙ regiven_own before f k n pk.low none)

-- PASS ONE: what the inputs hold, with the credits that they have spent and the word of those that hold an output
pub record PassOneState (n : ℕ) (other start words : List ℕ) (f : ℕ → ℕ) (free first : ℕ) (outputs credits queues given : List ℕ) : Type 0 where
  pub held : PassState n start words f free outputs queues given
  pub cost : credits ≡ spent n other f n
  pub mark : first ≡ marked 32 (λ i. ltb 0 (f i))

module _ (n : ℕ) (few : n ≤ 32) (other start words : List ℕ) where
  -- what the inputs 1..x hold
  abbrev before : ℕ → ℕ → ℕ
  before x = pass_one n (word n other) (word n start) (port_word words) x

  -- the inputs past x hold none
  one_beyond : (x i : ℕ) → x < i → before x i ≡ 0
  unfolding pass_one
  one_beyond zero i l = refl
  one_beyond (suc x) i l = updated_other (before x) (suc x) i _ (omega arith) ∙ one_beyond x i (omega arith)

  -- at first all outputs are free
  pub one_start : (free : ℕ) → ((j : ℕ) → Port n j → in_mask free j ≡ true) → PassOneState n other start words (before 0) free 0 (replicate 32 0) other start words
  unfolding pass_one
  one_start free h = record { held = held_none n free start words h; cost = sym (spent_none n other n); mark = sym (marked_none 32) }

  module _ (free first : ℕ) (outputs credits queues given : List ℕ) (long : n * n ≤ length credits) (enough : n * n ≤ length queues) (x k : ℕ)
      (next : k ≡ suc x) (l : x < n) (h : PassOneState n other start words (before x) free first outputs credits queues given) (r : ℕ)
      (found : r ≡ in_turn (is_open n free credits queues k) n (port_word given k)) where
    -- input x + 1 holds none yet
    free_yet : before x k ≡ 0
    free_yet = one_beyond x k (omega arith)

    -- and takes what the search finds
    at_turn : r ≡ in_turn (is_open n free credits queues (suc x)) n (port_word given (suc x)) → before (suc x) ≡ updated (before x) (suc x) r
    unfolding pass_one
    at_turn e =
        let wanted : ℕ → Bool = λ j. ltb 0 (word n other (suc x) j) && ltb 0 (word n start (suc x) j) in
        ap (updated (before x) (suc x))
        (sym (e
        ∙ first_is n start other words (before x) free outputs queues given credits h.held h.cost long enough (suc x)
        (omega arith) (one_beyond x (suc x) (omega arith))
        ∙ in_turn_ext _ _ n _ _ (λ j p. ap (λ b. not b && wanted j) (sym (taken_short (before x) x n j (omega arith) p.low (one_beyond x)))) refl))

    one_next : before k ≡ updated (before x) k r
    one_next = rw next (at_turn (rw next at found))

    -- it takes none
    pub one_none : r ≡ 0 → (credits' queues' given' : List ℕ) → credits' ≡ charged n credits k r → queues' ≡ charged n queues k r
        → given' ≡ noted given k r → PassOneState n other start words (before k) free first outputs credits' queues' given'
    one_none z credits' queues' given' c q g =
        let e : before k ≡ before x = one_next ∙ updated_same (before x) k r (free_yet ∙ sym z) in
        rw (e, c ∙ charged_none n credits k r (omega arith), q ∙ charged_none n queues k r (omega arith), g ∙ noted_none given k r (omega arith)) h

    -- it takes output r
    pub one_some : 1 ≤ r → (free' : ℕ) → free' ≡ without free r → (mine : ℕ) → mine ≡ 2 ^ x
        → (credits' queues' given' : List ℕ) → credits' ≡ charged n credits k r → queues' ≡ charged n queues k r → given' ≡ noted given k r
        → PassOneState n other start words (before k) free' (bit_or first mine) (set outputs x r) credits' queues' given'
    one_some p free' m mine b credits' queues' given' c q g =
        let port : Port n r = (in_turn_some _ n _ r found p).0 in
        let none : before x (suc x) ≡ 0 = one_beyond x (suc x) (omega arith) in
        rw (one_next, m, b, c ∙ charged_some n credits k r p, q ∙ charged_some n queues k r p, g ∙ noted_some given k r p, next)
        (record {
          held = held_more n few start words (before x) free outputs queues given h.held x r l none port;
          cost = rw h.cost (sym (spent_more n other (before x) (suc x) r n (omega arith) none p));
          mark = rw h.mark (marked_set 32 _ x (omega arith) ∙ marked_ext 32 _ _ (λ i _. updated_above (before x) (suc x) r p i));
        })

-- PASS TWO: what the inputs hold, where pass one gave the outputs `one`
module _ (n : ℕ) (few : n ≤ 32) (start words : List ℕ) (one : ℕ → ℕ) where
  -- after the turns of the inputs 1..x
  abbrev after : ℕ → ℕ → ℕ
  after x = pass_two n (word n start) (port_word words) one x

  -- at the turn of input x + 1
  module _ (free : ℕ) (outputs queues given : List ℕ) (x k : ℕ) (next : k ≡ suc x)
      (h : PassState n start words (after x) free outputs queues given) where
    -- it holds what pass one gave
    held_yet : after x (suc x) ≡ one (suc x)
    held_yet = two_untouched n (word n start) (port_word words) one x (suc x) (omega arith)

    -- which stands in the list
    listed_yet : x < n → get_or outputs x 0 ≡ one (suc x)
    listed_yet l = ap (λ o. get_or o x 0) h.list ∙ listed_at 32 (after x) x (omega arith) ∙ held_yet

    stay : ltb 0 (one (suc x)) ≡ true → after (suc x) ≡ after x
    unfolding pass_two
    stay e = rw e (updated_same (after x) (suc x) (one (suc x)) held_yet)

    -- where pass one served it, it has no turn
    pub two_served : x < n → get_or outputs x 0 ≢ 0 → PassState n start words (after k) free outputs queues given
    two_served l d = rw (next, stay (lt-ltb 0 (one (suc x)) (omega (arith, listed_yet l, d)))) h

    -- else it holds none at its turn, and takes what the search finds
    module _ (l : x < n) (enough : n * n ≤ length queues) (none : get_or outputs x 0 ≡ 0) (r : ℕ)
        (found : r ≡ in_turn (is_open n free queues queues k) n (port_word given k)) where
      idle : ltb 0 (one (suc x)) ≡ false
      idle = le-ltb 0 (one (suc x)) (omega (arith, listed_yet l))

      none_yet : after x (suc x) ≡ 0
      none_yet = held_yet ∙ sym (listed_yet l) ∙ none

      next_turn : r ≡ in_turn (is_open n free queues queues (suc x)) n (port_word given (suc x)) → after (suc x) ≡ updated (after x) (suc x) r
      unfolding pass_two
      next_turn e =
          rw idle
          (ap (updated (after x) (suc x))
          (sym (e
          ∙ first_is n start start words (after x) free outputs queues given queues h h.cost enough enough (suc x) (omega arith) none_yet
          ∙ in_turn_ext _ _ n _ _ (λ j p. ap (λ b. not (taken (after x) n j) && b) (and_self (ltb 0 (word n start (suc x) j)))) refl)))

      two_next : after k ≡ updated (after x) k r
      two_next = rw next (next_turn (rw next at found))

      -- it takes none
      pub two_none : r ≡ 0 → (queues' given' : List ℕ) → queues' ≡ charged n queues k r → given' ≡ noted given k r
          → PassState n start words (after k) free outputs queues' given'
      two_none z queues' given' q g =
          let e : after k ≡ after x = two_next ∙ updated_same (after x) k r (ap (after x) next ∙ none_yet ∙ sym z) in
          rw (e, q ∙ charged_none n queues k r (omega arith), g ∙ noted_none given k r (omega arith)) h

      -- it takes output r
      pub two_some : 1 ≤ r → (free' : ℕ) → free' ≡ without free r → (queues' given' : List ℕ)
          → queues' ≡ charged n queues k r → given' ≡ noted given k r → PassState n start words (after k) free' (set outputs x r) queues' given'
      two_some p free' m queues' given' q g =
          let port : Port n r = (in_turn_some _ n _ r found p).0 in
          rw (two_next, m, q ∙ charged_some n queues k r p, g ∙ noted_some given k r p, next)
          (held_more n few start words (after x) free outputs queues given h x r l none_yet port)
