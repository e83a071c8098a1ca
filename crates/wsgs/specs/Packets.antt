-- Where the packets of a pair are: in flight, or answered; the others are in its queue. Assumes nothing.
use Rattle.std.specs.Prelude.{ℕ, ◌+◌, ◌*◌, eqb}
use Rattle.wsgs.specs.Basics.{bit, sum}
use Rattle.wsgs.specs.Pipelined.{in_flight, reserved}
use Rattle.wsgs.specs.Switch.{Switch, Form, direct, pipelined}
use Rattle.wsgs.specs.Ledger.{Ledger, slot_of_tick, count_one, count_two}

-- the words in flight of the pair (i, j): of the 2n rows, which are those of the slots 1..2n, the ones in which the word of input i stands for
-- output j, by either pass; a direct switch has none
unfoldable pub packets_in_flight : Form → ℕ → Switch → ℕ → ℕ → ℕ
unfolding sum in_flight
packets_in_flight direct n s i j = 0
packets_in_flight pipelined n s i j = sum (λ u. bit (eqb (reserved n s.flight u i) j)) (2 * n)

-- the answers of the pair so far: the answered slots whose answer has it, by either pass
unfoldable pub answers : Ledger → ℕ → ℕ → ℕ
unfolding count_one count_two
answers l i j = let last = slot_of_tick l.form l.ticks in count_one l i j last + count_two l i j last
