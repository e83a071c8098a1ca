-- `sweep::bit_if` meets its contract, by its test. Assumes nothing.
use borrow.Author.Rules.{rules}
use Rattle.turns.proofs.BitLaws.{one_shl}
use Rattle.turns.proofs.sweep.bit_if.Goals as goal

pub returns-then-test : goal.returns-then-test
returns-then-test c =
    record { bit = rw c.if-test.true (one_shl 32 _ (search rules)) }
