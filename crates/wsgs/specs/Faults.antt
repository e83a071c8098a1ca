-- Runs in which a fault shows: those of a hurried scheduler, and those of a careless tick or ledger. Each case is
-- right as it stands, and another answer would be the fault. Assumes nothing.
use Rattle.std.specs.Prelude.{List, [], ◌∷◌, ◌++◌}
use Rattle.wsgs.specs.Switch.{direct, pipelined, plain, Call, start, book, book_rate, release, release_rate, arrive, tick}
use Rattle.wsgs.specs.Ledger.{Ledger, ledger_of, reading, others, waited, served}
use Rattle.wsgs.specs.Edges.{Case, calls, gives, ok, refused, pairs}
use Rattle.wsgs.specs.Examples.{some_switch, ticks}

-- the ledger of calls on a switch with something in each word
abbrev after : List Call → Ledger
after cs = ledger_of cs some_switch

-- one port: it is booked 2 of 3 slots and idle for a frame, then has packets
abbrev idle_frame : Ledger
idle_frame = after (start direct 1 3 0 plain ∷ book 1 1 2 ∷ ticks direct 3 ++ (arrive 1 1 9 ∷ ticks direct 3))

-- the booking of (1, 1) moves to (2, 1) after input 1 has loaded it and before input 2 loads
abbrev moved_booking : Ledger
moved_booking =
    after
    (start pipelined 2 3 0 plain
    ∷ book 1 1 2
    ∷ arrive 1 1 9
    ∷ arrive 2 1 9
    ∷ ticks pipelined 3 ++ (release 1 1 2 ∷ book 2 1 2 ∷ ticks pipelined 5))

-- the packets of (1, 1) come one by one, so that pass two sees what pass one did not
abbrev late_packets : Ledger
late_packets =
    after
    (start pipelined 1 2 0 plain
    ∷ book 1 1 1
    ∷ tick pipelined
    ∷ tick pipelined
    ∷ arrive 1 1 1
    ∷ tick pipelined
    ∷ arrive 1 1 9
    ∷ ticks pipelined 4)

-- a booking that is released after the first slot; and one packet, which pass two serves
abbrev released_after : Ledger
released_after = after (start direct 1 2 0 plain ∷ book 1 1 1 ∷ tick direct ∷ release 1 1 1 ∷ tick direct ∷ [])

abbrev one_packet : Ledger
one_packet = after (start direct 1 3 0 plain ∷ arrive 1 1 1 ∷ ticks direct 3)

abbrev pub faults : List Case
faults =
    -- with frames of one slot every slot loads
    calls some_switch (start direct 1 1 0 plain ∷ book 1 1 1 ∷ arrive 1 1 2 ∷ ticks direct 2) (ok ∷ ok ∷ ok ∷ pairs (1 ∷ []) 1 ∷ pairs (1 ∷ []) 1 ∷ [])
    -- with F = 3 a line takes 2
    ∷ calls some_switch (start direct 1 3 0 plain ∷ book 1 1 2 ∷ []) (ok ∷ ok ∷ [])
    -- credits that are left over are not added
    ∷ gives (served idle_frame 4 1 1) 2
    -- pass two charges no credit
    ∷ gives (reading late_packets 5 1 1) 1
    ∷ gives (served late_packets 5 1 1) 1
    -- what is booked after the reading does not count in its frame
    ∷ gives (reading moved_booking 7 1 1) 2
    ∷ gives (served moved_booking 7 1 1) 2
    ∷ gives (served moved_booking 7 2 1) 0
    -- a frame is read before its first slot
    ∷ gives (reading released_after 1 1 1) 1
    -- a packet that pass two has served waits no more
    ∷ gives (waited one_packet 1 1 1) 1
    -- a queue falls in either pass
    ∷ calls some_switch (start direct 1 3 0 plain ∷ arrive 1 1 1 ∷ ticks direct 2) (ok ∷ ok ∷ pairs (1 ∷ []) 0 ∷ pairs [] 0 ∷ [])
    -- a row that was handed out is empty when its turn comes again
    ∷ calls some_switch (start pipelined 1 1 0 plain ∷ arrive 1 1 1 ∷ ticks pipelined 3) (ok ∷ ok ∷ pairs (1 ∷ []) 0 ∷ pairs [] 0 ∷ pairs [] 0 ∷ [])
    -- of one packet the pass-one turn of a tick comes first
    ∷ calls some_switch (start pipelined 1 2 0 plain ∷ book 1 1 1 ∷ arrive 1 1 1 ∷ ticks pipelined 2) (ok ∷ ok ∷ ok ∷ pairs [] 0 ∷ pairs (1 ∷ []) 1 ∷ [])
    -- pass two has no mark
    ∷ calls some_switch (start direct 2 3 0 plain ∷ book 1 1 1 ∷ arrive 1 1 1 ∷ arrive 2 2 1 ∷ ticks direct 1) (ok ∷ ok ∷ ok ∷ ok ∷ pairs (1 ∷ 2 ∷ []) 1 ∷ [])
    -- frames shorter than the number of ports are refused by the pipelined form alone
    ∷ calls some_switch (start pipelined 3 2 0 plain ∷ []) (refused 3 ∷ [])
    ∷ calls some_switch (start direct 3 2 0 plain ∷ []) (ok ∷ [])
    -- the credits of a frame are those of slots and rates, in both forms
    ∷ calls some_switch (start direct 1 3 1000 plain ∷ book_rate 1 1 100 ∷ arrive 1 1 2 ∷ ticks direct 2) (ok ∷ ok ∷ ok ∷ pairs (1 ∷ []) 1 ∷ pairs (1 ∷ []) 0 ∷ [])
    ∷ calls some_switch (start pipelined 1 2 1000 plain ∷ book_rate 1 1 100 ∷ arrive 1 1 1 ∷ ticks pipelined 2) (ok ∷ ok ∷ ok ∷ pairs [] 0 ∷ pairs (1 ∷ []) 1 ∷ [])
    -- a start clears the rates, in both forms
    ∷ calls some_switch (start direct 1 3 1000 plain ∷ release_rate 1 1 1 ∷ []) (ok ∷ refused 10 ∷ [])
    ∷ calls some_switch (start pipelined 1 3 1000 plain ∷ release_rate 1 1 1 ∷ []) (ok ∷ refused 10 ∷ [])
    -- others are those of the row and of the column
    ∷ gives (others (after (start direct 2 5 0 plain ∷ book 1 1 1 ∷ book 1 2 2 ∷ book 2 1 1 ∷ tick direct ∷ [])) 1 1 1) 3
    ∷ []
