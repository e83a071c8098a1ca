-- `flight::is_by_first` meets its contract, by the law of the wrapped word. Assumes nothing.
use Rattle.std.proofs.Common.{arith}
use Rattle.pipelined.proofs.FlightLaws.{first_wrapped}
use Rattle.pipelined.proofs.flight.is_by_first.Goals as goal

pub returns : goal.returns
returns c =
    record { tested = first_wrapped c.args.ports c.args.word c.wrapping_sub_u32.result c.requires.few_ports (omega arith) (omega (arith, c.wrapping_sub_u32.ensures.value)) }
