-- A text fed to the event program by calls of `feed` one after the other, each of which is given the rest of the text. What a call prints is
-- written before the next, and the first write that fails ends it. Assumes nothing.
use Rattle.std.specs.Prelude.{◌≡◌, Bool, true, false, List, length, drop}
use Prim.Native.Nat.{ℕ, zero, suc, ◌+◌, ◌-◌, ◌≤◌}
use Rattle.lines.specs.Lines.{with_text}
use Rattle.events.specs.declared.Lent.{Lent}
use Rattle.events.specs.declared.Progress.{Progress}
use Rattle.events.specs.Feeding.{State, FeedOutcome, has_work, fed}
use Rattle.events.specs.View.{lent_state}
use Rattle.feeding.specs.declared.TextResult.{TextResult}

-- between two calls: the state, how many bytes of the text are taken, and the output
pub record TextState : Type 0 where
  pub state : State
  pub taken : ℕ
  pub out : List ℕ

-- before the first call, and as the code has it
abbrev pub text_begun : Progress → Lent → TextState
text_begun k l = record { state = lent_state k l; taken = 0; out = l.out.now }

abbrev pub text_state_of : TextResult → Lent → TextState
text_state_of o l = record { state = lent_state o.progress l; taken = o.taken; out = l.out.now }

module _ (text : List ℕ) where
  -- a call has something to do
  abbrev pub is_left : TextState → Bool
  is_left t = has_work t.state.slots_left (length text - t.taken) (length t.state.buffer) (length t.out)

  -- a call
  unfoldable pub next_call : TextState → TextState
  unfolding fed
  next_call t =
      let f : FeedOutcome = fed (length t.out) (drop t.taken text) t.state in
      record { state = f.state; taken = t.taken + f.taken; out = with_text 0 f.text t.out }

  -- so many calls
  unfoldable pub calls : ℕ → TextState → TextState
  unfolding next_call
  calls zero t = t
  calls (suc n) t = next_call (calls n t)

  -- a text has been fed by some calls: where all that they print could be written, nothing is left to do, and only what a call prints can fail
  -- to be written
  pub record TextFed (first last : TextState) (is_written : Bool) : Type 0 where
    pub count : ℕ
    pub same : last ≡ calls count first
    pub whole : is_written ≡ true → is_left last ≡ false
    pub tried : is_written ≡ false → 1 ≤ count
