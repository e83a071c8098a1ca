-- Lists of calls on which demand 3 says something: a panel's pair is booked, and so are others of its row and column; every other queue is
-- full of films; and what the pair waits beyond the others' bookings is just what it has booked. Assumes nothing.
use Rattle.std.specs.Prelude.{List, [], ◌∷◌, ◌++◌, ℕ, zero, suc, ◌-◌, replicate}
use Rattle.wsgs.specs.Clocks.{clock_of}
use Rattle.wsgs.specs.Bookings.{book_of}
use Rattle.wsgs.specs.Switch.{Switch, Form, direct, pipelined, plain, fine, Call, start, book, book_rate, arrive, tick}
use Rattle.wsgs.specs.Ledger.{Ledger, ledger_of, reading, others, waited, served}

-- what the ledger tells of a pair in a frame: a, b - m and the served count
pub record Tally : Type 0 where
  pub booked : ℕ
  pub free_slots : ℕ
  pub served : ℕ

-- a list of calls on a switch, with a frame by its first slot and a pair
pub record Example : Type 0 where
  pub switch : Switch
  pub calls : List Call
  pub frame : ℕ
  pub input : ℕ
  pub output : ℕ

unfoldable pub tally : Example → Tally
unfolding ledger_of reading others waited served
tally e =
    let l : Ledger = ledger_of e.calls e.switch in
    record {
      booked = reading l e.frame e.input e.output;
      free_slots = waited l e.frame e.input e.output - others l e.frame e.input e.output;
      served = served l e.frame e.input e.output;
    }

unfoldable pub tallies : List Example → List Tally
unfolding tally
tallies [] = []
tallies (e ∷ es) = tally e ∷ tallies es

-- all three are b
abbrev pub all_are : ℕ → Tally
all_are b = record { booked = b; free_slots = b; served = b }

-- k ticks
unfoldable pub ticks : Form → ℕ → List Call
ticks m zero = []
ticks m (suc k) = tick m ∷ ticks m k

-- words for three ports, with something in each
abbrev pub some_switch : Switch
some_switch =
    record {
      clock = clock_of 9 2 77 3 7;
      book = book_of (replicate 9 8) (replicate 9 1);
      credits = replicate 9 7;
      queues = replicate 9 6;
      given = replicate 3 2;
      copy = replicate 9 5;
      flight = replicate 18 4;
    }

-- direct, 3 ports, 7 slots: the panel (3, 3) has 2 slots, its row and its column 2 others each; its packets come after the first slot
abbrev pub direct_films : Example
direct_films =
    record {
      switch = some_switch;
      calls =
          start direct 3 7 7000 plain
          ∷ book 3 3 2
          ∷ book 3 1 1
          ∷ book 3 2 1
          ∷ book 1 3 1
          ∷ book_rate 2 3 1000
          ∷ arrive 1 1 90
          ∷ arrive 1 2 90
          ∷ arrive 1 3 90
          ∷ arrive 2 1 90
          ∷ arrive 2 2 90
          ∷ arrive 2 3 90
          ∷ arrive 3 1 90
          ∷ arrive 3 2 90
          ∷ tick direct
          ∷ arrive 3 3 9
          ∷ ticks direct 6;
      frame = 1;
      input = 3;
      output = 3;
    }

-- direct, 2 ports, 3 slots, the second frame, after a refused booking
abbrev pub direct_second_frame : Example
direct_second_frame =
    record {
      switch = some_switch;
      calls =
          start direct 2 3 0 plain
          ∷ book 1 1 1
          ∷ book 1 2 1
          ∷ book 2 1 1
          ∷ book 1 1 1
          ∷ arrive 1 1 9
          ∷ arrive 1 2 9
          ∷ arrive 2 1 9
          ∷ arrive 2 2 9
          ∷ ticks direct 6;
      frame = 4;
      input = 1;
      output = 1;
    }

-- pipelined, 2 ports, 5 slots: the frame from slot 6 on, read just before tick 2; the packets of the panel (2, 2) miss the turn for slot 6
abbrev pub pipelined_films : Example
pipelined_films =
    record {
      switch = some_switch;
      calls =
          start pipelined 2 5 0 plain
          ∷ book 2 2 2
          ∷ book 2 1 1
          ∷ book 1 2 1
          ∷ arrive 1 1 90
          ∷ arrive 1 2 90
          ∷ arrive 2 1 90
          ∷ ticks pipelined 3 ++ (arrive 2 2 9 ∷ ticks pipelined 6);
      frame = 6;
      input = 2;
      output = 2;
    }

-- bookings by rate alone, on lines of 1,000 with frames of 5 slots: three streams of 120 on the panel (2, 2) take 2 slots together, and one stream
-- each on (2, 1) and (1, 2) takes 1
abbrev rates_booked : List Call
rates_booked =
    book_rate 2 2 120
    ∷ book_rate 2 1 200
    ∷ book_rate 2 2 120
    ∷ book_rate 1 2 150
    ∷ book_rate 2 2 120
    ∷ arrive 1 1 90
    ∷ arrive 1 2 90
    ∷ arrive 2 1 90
    ∷ []

-- direct, where the panel's packets come after the first slot
abbrev pub direct_rates : Example
direct_rates =
    record {
      switch = some_switch;
      calls = start direct 2 5 1000 plain ∷ rates_booked ++ (tick direct ∷ arrive 2 2 9 ∷ ticks direct 4);
      frame = 1;
      input = 2;
      output = 2;
    }

-- pipelined, where they miss the turn for slot 6
abbrev pub pipelined_rates : Example
pipelined_rates =
    record {
      switch = some_switch;
      calls = start pipelined 2 5 1000 plain ∷ rates_booked ++ (ticks pipelined 3 ++ (arrive 2 2 9 ∷ ticks pipelined 6));
      frame = 6;
      input = 2;
      output = 2;
    }

-- a fine book, 2 ports, 3 slots: the film wall (1, 1) holds the whole line, and others have packets for its output and from its input
abbrev whole_line : List Call
whole_line = book 1 1 3 ∷ arrive 1 1 90 ∷ arrive 1 2 90 ∷ arrive 2 1 90 ∷ []

-- direct, and pipelined the frame from slot 7 on
abbrev pub direct_whole_line : Example
direct_whole_line =
    record { switch = some_switch; calls = start direct 2 3 0 fine ∷ whole_line ++ ticks direct 3; frame = 1; input = 1; output = 1 }

abbrev pub pipelined_whole_line : Example
pipelined_whole_line =
    record { switch = some_switch; calls = start pipelined 2 3 0 fine ∷ whole_line ++ ticks pipelined 8; frame = 7; input = 1; output = 1 }

-- all of them, with what they tell
abbrev pub examples : List Example
examples =
    direct_films ∷ direct_second_frame ∷ pipelined_films ∷ direct_rates ∷ pipelined_rates ∷ direct_whole_line ∷ pipelined_whole_line ∷ []

abbrev pub expected_tallies : List Tally
expected_tallies = all_are 2 ∷ all_are 1 ∷ all_are 2 ∷ all_are 2 ∷ all_are 2 ∷ all_are 3 ∷ all_are 3 ∷ []
