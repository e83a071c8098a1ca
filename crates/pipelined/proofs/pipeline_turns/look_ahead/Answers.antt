-- `pipeline_turns::look_ahead` meets its contract, by the law of what a tick knows: the second row is half way around from the first. Assumes nothing.
use Rattle.std.proofs.Common.{◌+◌, ◌*◌, ◌∙◌, mod-lt, arith}
use Rattle.pipelined.proofs.Remainders.{half_less, half_more, foreseen}
use Rattle.pipelined.proofs.pipeline_turns.look_ahead.Goals as goal

pub overflow_add-two : goal.overflow_add-two
overflow_add-two c =
    omega (arith, c.requires.ports.high, mod-lt (c.args.time + 1) {m = 2 * c.args.ports} (omega (arith, c.requires.ports.low)))

pub invariant_of-result : goal.invariant_of-result
invariant_of-result c =
    record {
      known = foreseen c.args.ports c.args.time c.requires.ports.low c.args.frame _ c.requires.frame_covers
          (elim c.if-one-ports.branch [
            | goal.then-one-ports w ↦ w.two-is ∙ half_less c.args.ports c.args.time c.requires.ports.low w.if-one-ports.true
            | goal.else-one-ports w ↦ w.two-is ∙ half_more c.args.ports c.args.time c.requires.ports.low w.if-one-ports.false
          ]);
    }
