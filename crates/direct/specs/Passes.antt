-- What the passes of the direct form keep, and what a slot leaves. Assumes nothing.
use Rattle.std.specs.Prelude.{◌≡◌, not, List, ℕ, ◌*◌, ◌≤◌, length}
use Rattle.wsgs.specs.declared.Clock.{Clock}
use Rattle.wsgs.specs.Bookings.{Book}
use Rattle.wsgs.specs.Basics.{Port}
use Rattle.wsgs.specs.Words.{word, port_word}
use Rattle.wsgs.specs.Steps.{taken, listed, pass_one, pass_two, outputs_of, pass_word_of}
use Rattle.wsgs.specs.Direct.{Runs, loaded, paired, spent, regiven, first_outputs}
use Rattle.turns.specs.Masks.{in_mask}

-- the ports are few, and the queues and the outputs last given hold their words
pub record QueuesFit (n : ℕ) (q g : List ℕ) : Type 0 where
  pub few : n ≤ 32
  pub queues : n * n ≤ length q
  pub given : n ≤ length g

-- a clock has come to a slot, and the book and the credits of its ports, which are few, hold their words
pub record Loading (c : Clock) (book : Book) (m : List ℕ) : Type 0 where
  pub few : c.ports ≤ 32
  pub frame : 1 ≤ c.frame
  pub slot : 1 ≤ c.slot
  pub slots : c.ports * c.ports ≤ length book.slots
  pub rates : c.ports * c.ports ≤ length book.rates
  pub credits : c.ports * c.ports ≤ length m

-- the outputs f that the inputs hold, as the mask of the free outputs, as the listed outputs, as the packets taken from the queues, and as the outputs
-- last given
pub record PassState (n : ℕ) (start before : List ℕ) (f : ℕ → ℕ) (free : ℕ) (outputs queues given : List ℕ) : Type 0 where
  pub bound : (i : ℕ) → f i ≤ n
  pub mask : (j : ℕ) → Port n j → in_mask free j ≡ not (taken f n j)
  pub list : outputs ≡ listed 32 f
  pub cost : queues ≡ spent n start f n
  pub gifts : given ≡ regiven before f n

-- the outputs that pass one gives on credits, queues and last given outputs
abbrev pub ones : ℕ → (credits queues given : List ℕ) → ℕ → ℕ
ones n credits queues given = pass_one n (word n credits) (word n queues) (port_word given) n

-- pass two, whatever the queues, the last given outputs and the outputs of pass one were that its inputs hold: they then hold those of pass two
abbrev pub PassTwo : (n : ℕ) (free : ℕ) (outputs queues given : List ℕ) (free' : ℕ) (outputs' queues' given' : List ℕ) → Type 0
PassTwo n free outputs queues given free' outputs' queues' given' =
    (start before : List ℕ) (one : ℕ → ℕ) → PassState n start before one free outputs queues given
    → PassState n start before (pass_two n (word n start) (port_word before) one n) free' outputs' queues' given'

-- slot k has been run on the runs w, with frames of f slots on lines of the rate b: the answer is the paired inputs', and each pair has taken a packet, and by pass one a credit too, and is noted
pub record SlotRun (n f b k : ℕ) (w : Runs) (outputs : List ℕ) (first_pass : ℕ) (credits queues given : List ℕ) : Type 0 where
  pub answer : outputs ≡ outputs_of (paired n f b k w)
  pub mark : first_pass ≡ pass_word_of (paired n f b k w)
  pub credits_left : credits ≡ spent n (loaded n f b k w) (first_outputs (paired n f b k w)) n
  pub queues_left : queues ≡ spent n w.queues (paired n f b k w).output n
  pub given_left : given ≡ regiven w.given (paired n f b k w).output n
