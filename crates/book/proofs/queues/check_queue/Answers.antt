-- `queues::check_queue` meets its contract. Assumes nothing.
use native.Mathlib.Omega.{arith}
use Rattle.book.proofs.Laws.Amounts.{queue_full, queue_takes}
use Rattle.book.proofs.queues.check_queue.Goals as goal

pub returns-then-waiting-gt-MAX_QUEUE : goal.returns-then-waiting-gt-MAX_QUEUE
returns-then-waiting-gt-MAX_QUEUE c =
    record { refusal = queue_full _ _ _ _ _ (omega (arith, c.word_of.ensures.result)) }

pub returns : goal.returns
returns c =
    record { refusal = queue_takes _ _ _ _ _ (omega (arith, c.word_of.ensures.result)) }
