-- A call on the rest of a text takes no more than it has, and leaves less work. Texts that are fed whole are calls of `feed` for all that they
-- have. Assumes nothing.
use mathlib.Core.Path.{◌≡◌, refl, sym, ap, ◌∙◌}
use mathlib.Core.Bool.{Bool, true, false, ◌&&◌, false≢true}
use mathlib.Core.List.{List}
use Prim.Native.Nat.{ℕ, suc, ◌+◌, ◌-◌, ◌*◌, ◌≤◌, ◌<◌}
use native.Mathlib.Omega.{arith}
use lib.ListN.{length, take, drop, length-drop}
use lib.Seq.{take_all}
use Rattle.events.specs.declared.FeedResult.{FeedResult}
use Rattle.events.specs.declared.Lent.{Lent}
use Rattle.events.specs.Feeding.{FeedOutcome, has_work, most_steps, fed}
use Rattle.events.specs.View.{lent_state, FeedEffect, feed_effect_of, feed_effect}
use Rattle.events.proofs.Rounds.{fed_within, fed_less}
use Rattle.feeding.specs.Texts.{TextState, is_left, next_call, calls, TextFed}

module _ (text : List ℕ) (t : TextState) (within : t.taken ≤ length text) where
  abbrev block : List ℕ
  block = drop t.taken text

  abbrev f : FeedOutcome
  f = fed (length t.out) block t.state

  long : length block ≡ length text - t.taken
  long = length-drop t.taken text

  pub next_within : (next_call text t).taken ≤ length text
  unfolding next_call
  next_within = omega (arith, long, fed_within (length t.out) block t.state)

  pub next_less : is_left text t ≡ true
      → most_steps (next_call text t).state.slots_left (length text - (next_call text t).taken) < most_steps t.state.slots_left (length text - t.taken)
  unfolding next_call
  next_less h =
      let left : length text - (t.taken + f.taken) ≡ length block - f.taken = omega (arith, long, fed_within (length t.out) block t.state) in
      let work : has_work t.state.slots_left (length block) (length t.state.buffer) (length t.out) ≡ true = rw long h in
      omega (arith, fed_less (length t.out) block t.state work, ap (λ n. n * 10001) left, ap (λ n. n * 10001) long)

  -- the code's call is the definition's
  pub call_is : (r : FeedResult) (lent : Lent)
      → feed_effect_of r lent ≡ feed_effect (fed (length t.out) (take (length text - t.taken) block) t.state) t.out
      → record { state = lent_state r.progress lent; taken = t.taken + r.taken; out = lent.out.now } ≡ next_call text t
  unfolding next_call
  call_is r lent e =
      let rest : take (length text - t.taken) block ≡ block = take_all (length text - t.taken) block (omega (arith, long)) in
      ap (λ (x : FeedEffect). record { state = x.state; taken = t.taken + x.taken; out = x.out })
      (e ∙ ap (λ b. feed_effect (fed (length t.out) b t.state) t.out) rest)

-- THE LOOP: some calls have been made
module _ (text : List ℕ) (first : TextState) where
  pub record SoFar (here : TextState) (is_written : Bool) : Type 0 where
    pub count : ℕ
    pub same : here ≡ calls text count first
    pub within : here.taken ≤ length text
    pub tried : is_written ≡ false → 1 ≤ count

  pub so_far_none : first.taken ≡ 0 → SoFar first true
  unfolding calls
  so_far_none e = record { count = 0; same = refl; within = omega arith; tried = λ w. absurd (false≢true (sym w)) }

  module _ {t : TextState} {w : Bool} (h : SoFar t w) where
    pub so_far_more : {t' : TextState} (w' : Bool) → t' ≡ next_call text t → SoFar t' w'
    unfolding calls
    so_far_more w' e =
        record {
          count = suc h.count;
          same = e ∙ ap (next_call text) h.same;
          within = rw e (next_within text t h.within);
          tried = λ f. omega arith;
        }

    pub so_far_less : {t' : TextState} → t' ≡ next_call text t → is_left text t ≡ true
        → most_steps t'.state.slots_left (length text - t'.taken) < most_steps t.state.slots_left (length text - t.taken)
    so_far_less e l = rw e (next_less text t h.within l)

    pub so_far_all : (w && is_left text t) ≡ false → TextFed text first t w
    so_far_all l = record { count = h.count; same = h.same; whole = λ e. rw e at l; tried = h.tried }
