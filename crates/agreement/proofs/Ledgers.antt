-- After random lists of calls the definition of the ledger says what the second program's ledger says, and the definitions of headroom and
-- preview give what the second program gives. A theorem that is refused tells the list, and where the checker prints what it computed, the
-- number of the first claim, headroom or preview that differs. Written by tools/ledgers: do not edit. Assumes nothing.
use mathlib.Core.Path.{◌≡◌, refl}
use mathlib.Core.List.{[], ◌∷◌}
use lib.IntN.{pos, negsuc}
use Rattle.wsgs.specs.Clocks.{clock_of}
use Rattle.wsgs.specs.Basics.{sum, some_of, first_from}
use Rattle.wsgs.specs.Words.{word, port_word}
use Rattle.wsgs.specs.Bookings.{book_of, booking, bookings, row_sum, column_sum}
use Rattle.wsgs.specs.Rule.{sharing_fit}
use Rattle.wsgs.specs.Frames.{into_frame}
use Rattle.wsgs.specs.Book.{book_words, rate_words, release_words, release_rate_words, arrive_words}
use Rattle.wsgs.specs.Headroom.{headroom_over, pair_headroom, headroom_refusal, headroom_result}
use Rattle.wsgs.specs.Preview
use Rattle.wsgs.specs.Preview.{slots_booking, rate_booking, slots_release, rate_release}
use Rattle.wsgs.specs.Direct
use Rattle.wsgs.specs.Pipelined
use Rattle.wsgs.specs.Switch.{direct, pipelined, plain, fine, start, book, book_rate, release, release_rate, headroom, preview, arrive, tick, apply, entries, final}
use Rattle.agreement.specs.Ledgers.{claim, told, showing, Case, first_wrong, first_wrong_headroom, first_wrong_preview}

abbrev list_1 : Case
list_1 =
    record {
      switch =
          record {
            clock = clock_of 33 10001 0 100000001 0;
            book = book_of (101 ∷ 1 ∷ 1 ∷ 2 ∷ 1 ∷ 2 ∷ 101 ∷ 4 ∷ 1 ∷ []) (1 ∷ 104 ∷ 104 ∷ 103 ∷ 1 ∷ 104 ∷ 2 ∷ 1 ∷ 4 ∷ []);
            credits = 2 ∷ 1 ∷ 2 ∷ 7 ∷ 4 ∷ 102 ∷ 103 ∷ 7 ∷ 1 ∷ [];
            queues = 7 ∷ 4 ∷ 101 ∷ 4 ∷ 101 ∷ 101 ∷ 1 ∷ 1 ∷ 102 ∷ [];
            given = 104 ∷ 3 ∷ 101 ∷ [];
            copy = 2 ∷ 4 ∷ 7 ∷ 103 ∷ 102 ∷ 1 ∷ 102 ∷ 3 ∷ 103 ∷ [];
            flight = 1 ∷ 101 ∷ 103 ∷ 2 ∷ 102 ∷ 2 ∷ 101 ∷ 3 ∷ 102 ∷ 7 ∷ 101 ∷ 1 ∷ 7 ∷ 3 ∷ 104 ∷ 7 ∷ 1 ∷ 103 ∷ [];
          };
      calls =
          start pipelined 2 7 7 plain
          ∷ book 2 1 1
          ∷ book_rate 2 2 1
          ∷ book_rate 2 2 1
          ∷ book_rate 1 1 1
          ∷ book_rate 1 1 1
          ∷ book_rate 1 1 1
          ∷ book_rate 1 1 1
          ∷ book_rate 2 2 1
          ∷ book_rate 2 2 1
          ∷ book_rate 2 2 1
          ∷ book_rate 2 2 1
          ∷ arrive 1 2 57
          ∷ arrive 2 1 59
          ∷ arrive 2 1 75
          ∷ arrive 2 1 61
          ∷ arrive 2 2 69
          ∷ arrive 2 1 64
          ∷ tick pipelined
          ∷ tick pipelined
          ∷ book 2 1 1
          ∷ tick pipelined
          ∷ arrive 1 1 68
          ∷ book_rate 2 2 1
          ∷ tick pipelined
          ∷ release 2 1 1
          ∷ release_rate 1 1 2
          ∷ release 1 1 1
          ∷ preview slots_release 2 2 1
          ∷ release_rate 2 2 3
          ∷ release_rate 1 1 1
          ∷ tick pipelined
          ∷ headroom 2 1
          ∷ release_rate 1 2 1
          ∷ preview slots_booking 1 1 1
          ∷ release_rate 2 1 1
          ∷ start pipelined 2 7 100000001 fine
          ∷ tick pipelined
          ∷ arrive 2 2 73
          ∷ headroom 1 2
          ∷ headroom 2 2
          ∷ tick pipelined
          ∷ tick pipelined
          ∷ start pipelined 33 7 7 fine
          ∷ release 1 1 0
          ∷ arrive 1 1 51
          ∷ tick pipelined
          ∷ book 2 2 3
          ∷ tick pipelined
          ∷ arrive 2 2 72
          ∷ release_rate 1 1 1
          ∷ tick pipelined
          ∷ tick pipelined
          ∷ release_rate 1 4294967297 1
          ∷ tick pipelined
          ∷ release_rate 2 2 1
          ∷ tick pipelined
          ∷ tick pipelined
          ∷ book 1 2 1
          ∷ tick pipelined
          ∷ book 1 1 1
          ∷ preview slots_release 1 1 4
          ∷ tick pipelined
          ∷ tick pipelined
          ∷ book_rate 2 2 2
          ∷ release_rate 1 1 1
          ∷ headroom 4294967297 1
          ∷ tick pipelined
          ∷ book 1 1 1
          ∷ headroom 2 2
          ∷ start pipelined 20 32 7 fine
          ∷ tick pipelined
          ∷ [];
      expected =
          claim 1 1 1 0 0 0 0
          ∷ claim 1 1 8 3 1 7 3
          ∷ claim 1 1 15 0 0 7 0
          ∷ claim 1 2 1 0 0 3 0
          ∷ claim 1 2 8 0 6 7 0
          ∷ claim 1 2 15 0 3 7 0
          ∷ claim 2 1 1 0 0 3 0
          ∷ claim 2 1 8 1 6 7 1
          ∷ claim 2 1 15 0 3 7 0
          ∷ claim 2 2 1 0 0 3 0
          ∷ claim 2 2 8 3 1 7 3
          ∷ claim 2 2 15 3 0 7 3
          ∷ [];
      headrooms =
          told 1 1 0 (pos 4)
          ∷ told 1 2 0 (pos 1)
          ∷ told 2 1 0 (pos 2)
          ∷ told 2 2 0 (pos 3)
          ∷ told 3 1 5 (pos 0)
          ∷ told 1 4294967297 5 (pos 0)
          ∷ [];
      previews =
          showing slots_booking 2 1 1 0 4 3
          ∷ showing slots_booking 1 2 2 8 5 6
          ∷ showing rate_booking 1 1 1 0 4 3
          ∷ showing rate_booking 1 2 4 8 7 8
          ∷ showing slots_release 1 1 1 0 2 1
          ∷ showing slots_release 2 2 1 0 2 3
          ∷ showing rate_release 2 2 1 10 0 0
          ∷ showing rate_release 1 2 1 10 0 0
          ∷ showing rate_booking 0 1 1 5 0 0
          ∷ showing slots_release 2 1 8 6 0 0
          ∷ [];
    }

pub agrees_1 : first_wrong list_1 ≡ 0
unfolding first_wrong entries apply Direct.start Direct.tick Pipelined.start Pipelined.tick book_words rate_words release_words release_rate_words headroom_refusal Preview.preview arrive_words into_frame sharing_fit booking bookings row_sum column_sum sum first_from some_of word port_word
agrees_1 = refl

pub headroom_1 : first_wrong_headroom list_1 ≡ 0
unfolding first_wrong_headroom final headroom_result pair_headroom headroom_over apply Direct.start Direct.tick Pipelined.start Pipelined.tick book_words rate_words release_words release_rate_words headroom_refusal Preview.preview arrive_words into_frame sharing_fit booking bookings row_sum column_sum sum first_from some_of word port_word
headroom_1 = refl

pub preview_1 : first_wrong_preview list_1 ≡ 0
unfolding first_wrong_preview final apply Direct.start Direct.tick Pipelined.start Pipelined.tick book_words rate_words release_words release_rate_words headroom_refusal Preview.preview arrive_words into_frame sharing_fit booking bookings row_sum column_sum sum first_from some_of word port_word
preview_1 = refl

abbrev list_2 : Case
list_2 =
    record {
      switch =
          record {
            clock = clock_of 9 1 1 0 7;
            book = book_of (104 ∷ 3 ∷ 101 ∷ 104 ∷ 3 ∷ 3 ∷ 1 ∷ 103 ∷ 2 ∷ []) (103 ∷ 1 ∷ 104 ∷ 104 ∷ 4 ∷ 102 ∷ 7 ∷ 2 ∷ 2 ∷ []);
            credits = 102 ∷ 1 ∷ 4 ∷ 7 ∷ 104 ∷ 1 ∷ 104 ∷ 2 ∷ 3 ∷ [];
            queues = 104 ∷ 7 ∷ 104 ∷ 103 ∷ 2 ∷ 3 ∷ 1 ∷ 4 ∷ 1 ∷ [];
            given = 2 ∷ 4 ∷ 2 ∷ [];
            copy = 4 ∷ 104 ∷ 4 ∷ 4 ∷ 3 ∷ 3 ∷ 101 ∷ 2 ∷ 2 ∷ [];
            flight = 3 ∷ 1 ∷ 2 ∷ 104 ∷ 2 ∷ 7 ∷ 2 ∷ 1 ∷ 104 ∷ 101 ∷ 2 ∷ 101 ∷ 102 ∷ 3 ∷ 103 ∷ 1 ∷ 102 ∷ 3 ∷ [];
          };
      calls =
          start direct 3 5 1000 fine
          ∷ book_rate 1 3 67
          ∷ book_rate 1 3 134
          ∷ book_rate 3 2 200
          ∷ book_rate 3 2 66
          ∷ book_rate 3 2 133
          ∷ book_rate 3 2 66
          ∷ book_rate 3 2 66
          ∷ book_rate 3 3 66
          ∷ arrive 1 2 83
          ∷ arrive 1 1 66
          ∷ arrive 1 2 50
          ∷ arrive 1 2 88
          ∷ tick direct
          ∷ headroom 2 2
          ∷ release_rate 3 2 531
          ∷ preview rate_release 1 3 67
          ∷ arrive 2 3 77
          ∷ tick direct
          ∷ book 1 3 1
          ∷ tick direct
          ∷ tick direct
          ∷ tick direct
          ∷ tick direct
          ∷ tick direct
          ∷ arrive 3 3 82
          ∷ tick direct
          ∷ tick direct
          ∷ tick direct
          ∷ tick direct
          ∷ tick direct
          ∷ tick direct
          ∷ arrive 3 3 59
          ∷ preview slots_release 1 3 1
          ∷ book_rate 1 2 134
          ∷ tick direct
          ∷ tick direct
          ∷ tick direct
          ∷ tick direct
          ∷ tick direct
          ∷ book_rate 2 3 66
          ∷ release 1 3 1
          ∷ tick direct
          ∷ [];
      expected =
          claim 1 1 1 0 2 5 0
          ∷ claim 1 1 6 0 3 5 0
          ∷ claim 1 1 11 0 3 5 0
          ∷ claim 1 1 16 0 4 4 0
          ∷ claim 1 2 1 0 5 5 0
          ∷ claim 1 2 6 0 3 5 0
          ∷ claim 1 2 11 0 3 5 0
          ∷ claim 1 2 16 1 3 4 1
          ∷ claim 1 3 1 2 0 0 0
          ∷ claim 1 3 6 3 0 0 0
          ∷ claim 1 3 11 3 0 0 0
          ∷ claim 1 3 16 3 1 0 0
          ∷ claim 2 1 1 0 0 0 0
          ∷ claim 2 1 6 0 0 0 0
          ∷ claim 2 1 11 0 0 0 0
          ∷ claim 2 1 16 0 0 0 0
          ∷ claim 2 2 1 0 3 0 0
          ∷ claim 2 2 6 0 0 0 0
          ∷ claim 2 2 11 0 0 0 0
          ∷ claim 2 2 16 0 1 0 0
          ∷ claim 2 3 1 0 2 4 0
          ∷ claim 2 3 6 0 3 5 0
          ∷ claim 2 3 11 0 3 5 0
          ∷ claim 2 3 16 0 3 4 0
          ∷ claim 3 1 1 0 3 0 0
          ∷ claim 3 1 6 0 0 0 0
          ∷ claim 3 1 11 0 0 0 0
          ∷ claim 3 1 16 0 0 0 0
          ∷ claim 3 2 1 3 0 0 0
          ∷ claim 3 2 6 0 0 0 0
          ∷ claim 3 2 11 0 0 0 0
          ∷ claim 3 2 16 0 1 0 0
          ∷ claim 3 3 1 0 5 0 0
          ∷ claim 3 3 6 0 3 3 0
          ∷ claim 3 3 11 0 3 5 0
          ∷ claim 3 3 16 0 3 4 0
          ∷ [];
      headrooms =
          told 1 1 0 (pos 2)
          ∷ told 1 2 0 (pos 2)
          ∷ told 1 3 0 (pos 1)
          ∷ told 2 1 0 (pos 4)
          ∷ told 2 2 0 (pos 3)
          ∷ told 2 3 0 (pos 2)
          ∷ told 3 1 0 (pos 5)
          ∷ told 3 2 0 (pos 4)
          ∷ told 3 3 0 (pos 2)
          ∷ told 4 1 5 (pos 0)
          ∷ told 1 0 5 (pos 0)
          ∷ [];
      previews =
          showing slots_booking 3 3 1 0 1 4
          ∷ showing slots_booking 1 1 2 15 5 2
          ∷ showing rate_booking 1 2 200 0 4 2
          ∷ showing rate_booking 3 3 68 0 1 4
          ∷ showing slots_release 1 3 3 10 0 0
          ∷ showing slots_release 2 1 3 10 0 0
          ∷ showing rate_release 1 3 67 0 2 2
          ∷ showing rate_release 1 3 24 0 2 2
          ∷ showing rate_release 2 0 1 5 0 0
          ∷ showing slots_release 2 3 6 6 0 0
          ∷ [];
    }

pub agrees_2 : first_wrong list_2 ≡ 0
unfolding first_wrong entries apply Direct.start Direct.tick Pipelined.start Pipelined.tick book_words rate_words release_words release_rate_words headroom_refusal Preview.preview arrive_words into_frame sharing_fit booking bookings row_sum column_sum sum first_from some_of word port_word
agrees_2 = refl

pub headroom_2 : first_wrong_headroom list_2 ≡ 0
unfolding first_wrong_headroom final headroom_result pair_headroom headroom_over apply Direct.start Direct.tick Pipelined.start Pipelined.tick book_words rate_words release_words release_rate_words headroom_refusal Preview.preview arrive_words into_frame sharing_fit booking bookings row_sum column_sum sum first_from some_of word port_word
headroom_2 = refl

pub preview_2 : first_wrong_preview list_2 ≡ 0
unfolding first_wrong_preview final apply Direct.start Direct.tick Pipelined.start Pipelined.tick book_words rate_words release_words release_rate_words headroom_refusal Preview.preview arrive_words into_frame sharing_fit booking bookings row_sum column_sum sum first_from some_of word port_word
preview_2 = refl

abbrev list_3 : Case
list_3 =
    record {
      switch =
          record {
            clock = clock_of 3 1 4000000000 100000001 0;
            book = book_of (1 ∷ 103 ∷ 1 ∷ 2 ∷ 2 ∷ 2 ∷ 3 ∷ 2 ∷ 1 ∷ []) (2 ∷ 104 ∷ 104 ∷ 101 ∷ 101 ∷ 1 ∷ 102 ∷ 104 ∷ 1 ∷ []);
            credits = 2 ∷ 1 ∷ 7 ∷ 104 ∷ 101 ∷ 103 ∷ 2 ∷ 103 ∷ 102 ∷ [];
            queues = 4 ∷ 7 ∷ 2 ∷ 7 ∷ 101 ∷ 102 ∷ 101 ∷ 2 ∷ 104 ∷ [];
            given = 4 ∷ 2 ∷ 103 ∷ [];
            copy = 1 ∷ 103 ∷ 102 ∷ 1 ∷ 104 ∷ 2 ∷ 103 ∷ 2 ∷ 1 ∷ [];
            flight = 103 ∷ 1 ∷ 4 ∷ 1 ∷ 102 ∷ 104 ∷ 3 ∷ 103 ∷ 1 ∷ 101 ∷ 102 ∷ 7 ∷ 1 ∷ 3 ∷ 2 ∷ 2 ∷ 2 ∷ 3 ∷ [];
          };
      calls =
          start pipelined 2 7 99999999 plain
          ∷ book_rate 1 2 4761904
          ∷ book_rate 1 2 4761904
          ∷ book 1 1 1
          ∷ book_rate 1 2 4761904
          ∷ book_rate 1 2 4761904
          ∷ book_rate 1 2 4761905
          ∷ book_rate 1 2 4761904
          ∷ book 2 1 3
          ∷ arrive 1 2 2
          ∷ arrive 1 1 2
          ∷ arrive 1 2 5
          ∷ arrive 2 2 2
          ∷ arrive 1 1 3
          ∷ arrive 1 1 3
          ∷ preview rate_release 1 2 28571426
          ∷ preview rate_booking 1 1 4761904
          ∷ release_rate 2 1 1
          ∷ tick pipelined
          ∷ tick pipelined
          ∷ book 1 1 1
          ∷ preview rate_booking 1 2 100000000
          ∷ book_rate 1 1 0
          ∷ book_rate 3 2 1
          ∷ book_rate 2 2 4761905
          ∷ tick pipelined
          ∷ book 2 2 1
          ∷ arrive 2 2 4
          ∷ release_rate 2 1 100000000
          ∷ tick pipelined
          ∷ preview rate_booking 1 1 9523809
          ∷ tick pipelined
          ∷ release 2 2 0
          ∷ arrive 2 1 2
          ∷ tick pipelined
          ∷ start pipelined 3 3 1000 plain
          ∷ book_rate 2 2 111
          ∷ book_rate 2 2 111
          ∷ book_rate 2 2 334
          ∷ book_rate 1 1 111
          ∷ book_rate 1 1 334
          ∷ book_rate 1 1 111
          ∷ book_rate 1 1 222
          ∷ book_rate 1 2 222
          ∷ book_rate 1 2 111
          ∷ book_rate 1 2 112
          ∷ arrive 2 3 65535
          ∷ arrive 2 3 65535
          ∷ arrive 2 3 65535
          ∷ arrive 2 3 65535
          ∷ arrive 2 3 65535
          ∷ arrive 2 3 65535
          ∷ arrive 2 3 65535
          ∷ arrive 2 3 65535
          ∷ arrive 2 3 65535
          ∷ arrive 2 3 65535
          ∷ arrive 2 3 65535
          ∷ arrive 2 3 65535
          ∷ arrive 2 3 65535
          ∷ arrive 2 3 65535
          ∷ arrive 2 3 65535
          ∷ arrive 2 3 16976
          ∷ arrive 2 3 16975
          ∷ arrive 2 3 1
          ∷ arrive 1 2 2
          ∷ arrive 2 2 4
          ∷ arrive 1 2 4
          ∷ arrive 3 3 3
          ∷ arrive 3 2 2
          ∷ arrive 3 2 3
          ∷ arrive 2 3 5
          ∷ arrive 3 3 3
          ∷ arrive 1 1 3
          ∷ arrive 3 2 4
          ∷ arrive 3 2 5
          ∷ arrive 1 3 5
          ∷ arrive 2 2 5
          ∷ arrive 1 1 2
          ∷ arrive 1 1 3
          ∷ arrive 1 3 3
          ∷ tick pipelined
          ∷ tick pipelined
          ∷ tick pipelined
          ∷ preview slots_release 4294967297 3 1
          ∷ book_rate 1 2 334
          ∷ tick pipelined
          ∷ release_rate 2 2 111
          ∷ preview slots_booking 3 1 1
          ∷ tick pipelined
          ∷ release_rate 1 1 222
          ∷ arrive 2 3 4
          ∷ arrive 2 3 4
          ∷ book 1 0 1
          ∷ tick pipelined
          ∷ arrive 3 2 5
          ∷ release 3 3 1
          ∷ tick pipelined
          ∷ arrive 1 1 4
          ∷ headroom 3 2
          ∷ tick pipelined
          ∷ arrive 1 1 4
          ∷ tick pipelined
          ∷ tick pipelined
          ∷ tick pipelined
          ∷ tick pipelined
          ∷ tick pipelined
          ∷ arrive 2 1 4
          ∷ tick pipelined
          ∷ book 3 3 1
          ∷ release 3 3 1
          ∷ start pipelined 22 32 1000 fine
          ∷ tick pipelined
          ∷ tick pipelined
          ∷ arrive 1 2 3
          ∷ tick pipelined
          ∷ tick pipelined
          ∷ tick pipelined
          ∷ tick pipelined
          ∷ [];
      expected =
          claim 1 1 1 0 0 0 0
          ∷ claim 1 1 4 0 0 0 0
          ∷ claim 1 1 7 2 0 3 2
          ∷ claim 1 1 10 2 0 3 2
          ∷ claim 1 1 13 2 0 3 2
          ∷ claim 1 1 16 2 0 3 2
          ∷ claim 1 1 19 2 0 3 2
          ∷ claim 1 2 1 0 0 0 0
          ∷ claim 1 2 4 0 0 0 0
          ∷ claim 1 2 7 0 4 3 0
          ∷ claim 1 2 10 0 4 3 0
          ∷ claim 1 2 13 0 4 3 0
          ∷ claim 1 2 16 0 4 3 0
          ∷ claim 1 2 19 0 4 3 0
          ∷ claim 1 3 1 0 0 0 0
          ∷ claim 1 3 4 0 0 0 0
          ∷ claim 1 3 7 0 2 3 0
          ∷ claim 1 3 10 0 2 3 0
          ∷ claim 1 3 13 0 2 3 0
          ∷ claim 1 3 16 0 2 3 0
          ∷ claim 1 3 19 0 2 3 0
          ∷ claim 2 1 1 0 0 0 0
          ∷ claim 2 1 4 0 0 0 0
          ∷ claim 2 1 7 0 4 0 0
          ∷ claim 2 1 10 0 4 0 0
          ∷ claim 2 1 13 0 4 0 0
          ∷ claim 2 1 16 0 4 0 0
          ∷ claim 2 1 19 0 4 3 0
          ∷ claim 2 2 1 0 0 0 0
          ∷ claim 2 2 4 0 0 0 0
          ∷ claim 2 2 7 2 0 3 2
          ∷ claim 2 2 10 2 0 3 2
          ∷ claim 2 2 13 2 0 3 2
          ∷ claim 2 2 16 2 0 2 2
          ∷ claim 2 2 19 2 0 0 0
          ∷ claim 2 3 1 0 0 0 0
          ∷ claim 2 3 4 0 0 0 0
          ∷ claim 2 3 7 0 2 3 0
          ∷ claim 2 3 10 0 2 3 0
          ∷ claim 2 3 13 0 2 3 0
          ∷ claim 2 3 16 0 2 3 0
          ∷ claim 2 3 19 0 2 3 0
          ∷ claim 3 1 1 0 0 0 0
          ∷ claim 3 1 4 0 0 0 0
          ∷ claim 3 1 7 0 2 0 0
          ∷ claim 3 1 10 0 2 0 0
          ∷ claim 3 1 13 0 2 0 0
          ∷ claim 3 1 16 0 2 0 0
          ∷ claim 3 1 19 0 2 0 0
          ∷ claim 3 2 1 0 0 0 0
          ∷ claim 3 2 4 0 0 0 0
          ∷ claim 3 2 7 0 2 3 0
          ∷ claim 3 2 10 0 2 3 0
          ∷ claim 3 2 13 0 2 3 0
          ∷ claim 3 2 16 0 2 3 0
          ∷ claim 3 2 19 0 2 3 0
          ∷ claim 3 3 1 0 0 0 0
          ∷ claim 3 3 4 0 0 0 0
          ∷ claim 3 3 7 0 0 3 0
          ∷ claim 3 3 10 0 0 3 0
          ∷ claim 3 3 13 0 0 3 0
          ∷ claim 3 3 16 0 0 2 0
          ∷ claim 3 3 19 0 0 0 0
          ∷ [];
      headrooms =
          told 1 1 0 (pos 1)
          ∷ told 1 2 0 (negsuc 0)
          ∷ told 1 3 0 (pos 1)
          ∷ told 2 1 0 (negsuc 0)
          ∷ told 2 2 0 (pos 1)
          ∷ told 2 3 0 (pos 1)
          ∷ told 3 1 0 (pos 1)
          ∷ told 3 2 0 (pos 1)
          ∷ told 3 3 0 (pos 3)
          ∷ told 4 1 5 (pos 0)
          ∷ told 1 4294967297 5 (pos 0)
          ∷ [];
      previews =
          showing slots_booking 2 3 1 8 3 1
          ∷ showing slots_booking 2 3 2 8 4 2
          ∷ showing rate_booking 3 3 334 0 2 2
          ∷ showing rate_booking 2 1 197 8 3 3
          ∷ showing slots_release 2 3 2 10 0 0
          ∷ showing slots_release 1 2 2 10 0 0
          ∷ showing rate_release 2 2 112 0 1 1
          ∷ showing rate_release 1 1 473 10 0 0
          ∷ showing rate_release 3 0 1 5 0 0
          ∷ showing rate_booking 3 3 1001 6 0 0
          ∷ [];
    }

pub agrees_3 : first_wrong list_3 ≡ 0
unfolding first_wrong entries apply Direct.start Direct.tick Pipelined.start Pipelined.tick book_words rate_words release_words release_rate_words headroom_refusal Preview.preview arrive_words into_frame sharing_fit booking bookings row_sum column_sum sum first_from some_of word port_word
agrees_3 = refl

pub headroom_3 : first_wrong_headroom list_3 ≡ 0
unfolding first_wrong_headroom final headroom_result pair_headroom headroom_over apply Direct.start Direct.tick Pipelined.start Pipelined.tick book_words rate_words release_words release_rate_words headroom_refusal Preview.preview arrive_words into_frame sharing_fit booking bookings row_sum column_sum sum first_from some_of word port_word
headroom_3 = refl

pub preview_3 : first_wrong_preview list_3 ≡ 0
unfolding first_wrong_preview final apply Direct.start Direct.tick Pipelined.start Pipelined.tick book_words rate_words release_words release_rate_words headroom_refusal Preview.preview arrive_words into_frame sharing_fit booking bookings row_sum column_sum sum first_from some_of word port_word
preview_3 = refl

abbrev list_4 : Case
list_4 =
    record {
      switch =
          record {
            clock = clock_of 9 10001 5 1000 0;
            book = book_of (101 ∷ 4 ∷ 1 ∷ 103 ∷ 104 ∷ 101 ∷ 4 ∷ 103 ∷ 101 ∷ []) (1 ∷ 2 ∷ 102 ∷ 2 ∷ 2 ∷ 103 ∷ 101 ∷ 2 ∷ 3 ∷ []);
            credits = 102 ∷ 2 ∷ 101 ∷ 104 ∷ 1 ∷ 1 ∷ 103 ∷ 4 ∷ 102 ∷ [];
            queues = 103 ∷ 103 ∷ 102 ∷ 2 ∷ 1 ∷ 1 ∷ 1 ∷ 102 ∷ 2 ∷ [];
            given = 103 ∷ 101 ∷ 3 ∷ [];
            copy = 104 ∷ 103 ∷ 7 ∷ 101 ∷ 4 ∷ 2 ∷ 102 ∷ 104 ∷ 102 ∷ [];
            flight = 104 ∷ 7 ∷ 1 ∷ 2 ∷ 104 ∷ 2 ∷ 3 ∷ 4 ∷ 1 ∷ 102 ∷ 104 ∷ 7 ∷ 101 ∷ 3 ∷ 1 ∷ 4 ∷ 1 ∷ 3 ∷ [];
          };
      calls =
          start direct 3 2 99999999 plain
          ∷ book_rate 2 2 49999999
          ∷ book_rate 2 1 33333333
          ∷ book_rate 2 1 33333333
          ∷ book_rate 3 2 16666666
          ∷ book_rate 3 2 16666666
          ∷ book_rate 3 2 49999999
          ∷ book_rate 2 1 16666666
          ∷ book_rate 2 1 16666666
          ∷ book_rate 2 1 16666666
          ∷ book_rate 2 1 16666667
          ∷ book_rate 2 1 16666667
          ∷ book_rate 2 1 16666666
          ∷ book_rate 2 1 16666666
          ∷ book_rate 2 1 16666666
          ∷ book_rate 2 1 16666667
          ∷ arrive 1 2 11
          ∷ arrive 2 2 7
          ∷ arrive 3 1 11
          ∷ arrive 2 3 10
          ∷ arrive 3 3 12
          ∷ arrive 1 2 12
          ∷ arrive 2 2 6
          ∷ arrive 1 2 8
          ∷ arrive 1 1 8
          ∷ arrive 1 3 9
          ∷ arrive 1 3 6
          ∷ arrive 3 1 12
          ∷ arrive 3 3 8
          ∷ arrive 2 1 7
          ∷ arrive 3 2 10
          ∷ arrive 3 1 10
          ∷ arrive 3 1 10
          ∷ arrive 1 3 10
          ∷ book_rate 2 2 33333333
          ∷ tick direct
          ∷ book 3 1 1
          ∷ release_rate 2 2 16666666
          ∷ release_rate 3 3 100000000
          ∷ tick direct
          ∷ release 3 1 1
          ∷ tick direct
          ∷ preview slots_booking 3 1 1
          ∷ tick direct
          ∷ tick direct
          ∷ tick direct
          ∷ tick direct
          ∷ headroom 4 2
          ∷ release_rate 1 2 1
          ∷ preview slots_release 4 2 1
          ∷ tick direct
          ∷ tick direct
          ∷ tick direct
          ∷ tick direct
          ∷ tick direct
          ∷ arrive 2 1 8
          ∷ preview rate_release 2 2 16666666
          ∷ tick direct
          ∷ tick direct
          ∷ [];
      expected =
          claim 1 1 1 0 0 2 0
          ∷ claim 1 1 3 0 0 2 0
          ∷ claim 1 1 5 0 0 2 0
          ∷ claim 1 1 7 0 0 2 0
          ∷ claim 1 1 9 0 0 2 0
          ∷ claim 1 1 11 0 0 2 0
          ∷ claim 1 1 13 0 0 2 0
          ∷ claim 1 2 1 0 1 2 0
          ∷ claim 1 2 3 0 1 2 0
          ∷ claim 1 2 5 0 1 2 0
          ∷ claim 1 2 7 0 1 2 0
          ∷ claim 1 2 9 0 1 2 0
          ∷ claim 1 2 11 0 1 2 0
          ∷ claim 1 2 13 0 1 2 0
          ∷ claim 1 3 1 0 0 2 0
          ∷ claim 1 3 3 0 0 2 0
          ∷ claim 1 3 5 0 0 2 0
          ∷ claim 1 3 7 0 0 2 0
          ∷ claim 1 3 9 0 0 2 0
          ∷ claim 1 3 11 0 0 2 0
          ∷ claim 1 3 13 0 0 2 0
          ∷ claim 2 1 1 0 1 2 0
          ∷ claim 2 1 3 0 1 2 0
          ∷ claim 2 1 5 0 1 2 0
          ∷ claim 2 1 7 0 1 2 0
          ∷ claim 2 1 9 0 1 2 0
          ∷ claim 2 1 11 0 1 2 0
          ∷ claim 2 1 13 0 1 2 0
          ∷ claim 2 2 1 1 0 2 1
          ∷ claim 2 2 3 1 0 2 1
          ∷ claim 2 2 5 1 0 2 1
          ∷ claim 2 2 7 1 0 2 1
          ∷ claim 2 2 9 1 0 2 1
          ∷ claim 2 2 11 1 0 2 1
          ∷ claim 2 2 13 1 0 2 1
          ∷ claim 2 3 1 0 1 2 0
          ∷ claim 2 3 3 0 1 2 0
          ∷ claim 2 3 5 0 1 2 0
          ∷ claim 2 3 7 0 1 2 0
          ∷ claim 2 3 9 0 1 2 0
          ∷ claim 2 3 11 0 1 2 0
          ∷ claim 2 3 13 0 1 2 0
          ∷ claim 3 1 1 0 0 2 0
          ∷ claim 3 1 3 0 0 2 0
          ∷ claim 3 1 5 0 0 2 0
          ∷ claim 3 1 7 0 0 2 0
          ∷ claim 3 1 9 0 0 2 0
          ∷ claim 3 1 11 0 0 2 0
          ∷ claim 3 1 13 0 0 2 0
          ∷ claim 3 2 1 0 1 2 0
          ∷ claim 3 2 3 0 1 2 0
          ∷ claim 3 2 5 0 1 2 0
          ∷ claim 3 2 7 0 1 2 0
          ∷ claim 3 2 9 0 1 2 0
          ∷ claim 3 2 11 0 1 2 0
          ∷ claim 3 2 13 0 1 2 0
          ∷ claim 3 3 1 0 0 2 0
          ∷ claim 3 3 3 0 0 2 0
          ∷ claim 3 3 5 0 0 2 0
          ∷ claim 3 3 7 0 0 2 0
          ∷ claim 3 3 9 0 0 2 0
          ∷ claim 3 3 11 0 0 2 0
          ∷ claim 3 3 13 0 0 2 0
          ∷ [];
      headrooms =
          told 1 1 0 (pos 2)
          ∷ told 1 2 0 (pos 1)
          ∷ told 1 3 0 (pos 2)
          ∷ told 2 1 0 (pos 1)
          ∷ told 2 2 0 (pos 1)
          ∷ told 2 3 0 (pos 1)
          ∷ told 3 1 0 (pos 2)
          ∷ told 3 2 0 (pos 1)
          ∷ told 3 3 0 (pos 2)
          ∷ told 4 1 5 (pos 0)
          ∷ told 1 0 5 (pos 0)
          ∷ [];
      previews =
          showing slots_booking 3 2 1 9 1 2
          ∷ showing slots_booking 2 3 1 8 2 1
          ∷ showing rate_booking 2 3 16666667 8 2 1
          ∷ showing rate_booking 2 1 4801869 8 2 1
          ∷ showing slots_release 1 1 1 10 0 0
          ∷ showing slots_release 3 1 1 10 0 0
          ∷ showing rate_release 2 2 33333333 0 0 0
          ∷ showing rate_release 2 2 14984825 0 1 1
          ∷ showing slots_release 1 0 1 5 0 0
          ∷ showing rate_booking 1 2 0 6 0 0
          ∷ [];
    }

pub agrees_4 : first_wrong list_4 ≡ 0
unfolding first_wrong entries apply Direct.start Direct.tick Pipelined.start Pipelined.tick book_words rate_words release_words release_rate_words headroom_refusal Preview.preview arrive_words into_frame sharing_fit booking bookings row_sum column_sum sum first_from some_of word port_word
agrees_4 = refl

pub headroom_4 : first_wrong_headroom list_4 ≡ 0
unfolding first_wrong_headroom final headroom_result pair_headroom headroom_over apply Direct.start Direct.tick Pipelined.start Pipelined.tick book_words rate_words release_words release_rate_words headroom_refusal Preview.preview arrive_words into_frame sharing_fit booking bookings row_sum column_sum sum first_from some_of word port_word
headroom_4 = refl

pub preview_4 : first_wrong_preview list_4 ≡ 0
unfolding first_wrong_preview final apply Direct.start Direct.tick Pipelined.start Pipelined.tick book_words rate_words release_words release_rate_words headroom_refusal Preview.preview arrive_words into_frame sharing_fit booking bookings row_sum column_sum sum first_from some_of word port_word
preview_4 = refl

abbrev list_5 : Case
list_5 =
    record {
      switch =
          record {
            clock = clock_of 2 10001 77 1 7;
            book = book_of (3 ∷ 1 ∷ 102 ∷ 101 ∷ 3 ∷ 104 ∷ 3 ∷ 4 ∷ 4 ∷ []) (2 ∷ 1 ∷ 1 ∷ 1 ∷ 103 ∷ 7 ∷ 7 ∷ 1 ∷ 3 ∷ []);
            credits = 4 ∷ 102 ∷ 1 ∷ 4 ∷ 104 ∷ 101 ∷ 3 ∷ 1 ∷ 3 ∷ [];
            queues = 101 ∷ 2 ∷ 3 ∷ 1 ∷ 101 ∷ 1 ∷ 4 ∷ 102 ∷ 3 ∷ [];
            given = 103 ∷ 104 ∷ 3 ∷ [];
            copy = 1 ∷ 3 ∷ 1 ∷ 2 ∷ 7 ∷ 7 ∷ 103 ∷ 103 ∷ 104 ∷ [];
            flight = 1 ∷ 7 ∷ 101 ∷ 1 ∷ 103 ∷ 101 ∷ 3 ∷ 103 ∷ 2 ∷ 3 ∷ 2 ∷ 4 ∷ 104 ∷ 101 ∷ 2 ∷ 1 ∷ 1 ∷ 1 ∷ [];
          };
      calls =
          start pipelined 1 3 1000 fine
          ∷ book 1 1 1
          ∷ arrive 1 1 4
          ∷ tick pipelined
          ∷ preview slots_booking 1 1 1
          ∷ preview slots_release 1 1 1
          ∷ preview slots_release 1 1 1
          ∷ arrive 1 1 4
          ∷ preview slots_release 1 1 1
          ∷ tick pipelined
          ∷ tick pipelined
          ∷ tick pipelined
          ∷ release_rate 1 1 1
          ∷ tick pipelined
          ∷ tick pipelined
          ∷ start pipelined 1 4 7 fine
          ∷ book_rate 1 1 1
          ∷ arrive 1 1 3
          ∷ arrive 1 1 2
          ∷ tick pipelined
          ∷ tick pipelined
          ∷ book 1 1 1
          ∷ book_rate 1 1 1
          ∷ arrive 1 1 4
          ∷ preview slots_booking 1 1 1
          ∷ arrive 1 1 3
          ∷ tick pipelined
          ∷ tick pipelined
          ∷ arrive 1 1 5
          ∷ tick pipelined
          ∷ book_rate 1 1 1
          ∷ preview slots_booking 1 1 5
          ∷ tick pipelined
          ∷ arrive 1 1 5
          ∷ tick pipelined
          ∷ release 1 1 1
          ∷ tick pipelined
          ∷ tick pipelined
          ∷ tick pipelined
          ∷ tick pipelined
          ∷ tick pipelined
          ∷ tick pipelined
          ∷ release 1 1 2
          ∷ book_rate 1 1 1
          ∷ headroom 4294967297 1
          ∷ tick pipelined
          ∷ tick pipelined
          ∷ book_rate 1 1 1
          ∷ tick pipelined
          ∷ tick pipelined
          ∷ book_rate 1 1 2
          ∷ tick pipelined
          ∷ arrive 1 1 4
          ∷ book_rate 1 1 1
          ∷ tick pipelined
          ∷ release_rate 1 1 8
          ∷ tick pipelined
          ∷ arrive 1 1 3
          ∷ tick pipelined
          ∷ tick pipelined
          ∷ [];
      expected =
          claim 1 1 1 0 0 2 0
          ∷ claim 1 1 5 3 0 4 3
          ∷ claim 1 1 9 3 0 4 3
          ∷ claim 1 1 13 2 0 4 2
          ∷ claim 1 1 17 3 0 4 3
          ∷ claim 1 1 21 4 0 3 3
          ∷ [];
      headrooms =
          told 1 1 0 (pos 0)
          ∷ told 2 1 5 (pos 0)
          ∷ told 1 0 5 (pos 0)
          ∷ [];
      previews =
          showing slots_booking 1 1 1 15 5 5
          ∷ showing slots_booking 1 1 2 15 6 6
          ∷ showing rate_booking 1 1 1 15 5 5
          ∷ showing rate_booking 1 1 1 15 5 5
          ∷ showing slots_release 1 1 1 10 0 0
          ∷ showing slots_release 1 1 1 10 0 0
          ∷ showing rate_release 1 1 7 0 0 0
          ∷ showing rate_release 1 1 3 0 3 3
          ∷ showing slots_booking 2 1 1 5 0 0
          ∷ showing slots_release 1 1 5 6 0 0
          ∷ [];
    }

pub agrees_5 : first_wrong list_5 ≡ 0
unfolding first_wrong entries apply Direct.start Direct.tick Pipelined.start Pipelined.tick book_words rate_words release_words release_rate_words headroom_refusal Preview.preview arrive_words into_frame sharing_fit booking bookings row_sum column_sum sum first_from some_of word port_word
agrees_5 = refl

pub headroom_5 : first_wrong_headroom list_5 ≡ 0
unfolding first_wrong_headroom final headroom_result pair_headroom headroom_over apply Direct.start Direct.tick Pipelined.start Pipelined.tick book_words rate_words release_words release_rate_words headroom_refusal Preview.preview arrive_words into_frame sharing_fit booking bookings row_sum column_sum sum first_from some_of word port_word
headroom_5 = refl

pub preview_5 : first_wrong_preview list_5 ≡ 0
unfolding first_wrong_preview final apply Direct.start Direct.tick Pipelined.start Pipelined.tick book_words rate_words release_words release_rate_words headroom_refusal Preview.preview arrive_words into_frame sharing_fit booking bookings row_sum column_sum sum first_from some_of word port_word
preview_5 = refl

abbrev list_6 : Case
list_6 =
    record {
      switch =
          record {
            clock = clock_of 2 5 1 0 7;
            book = book_of (7 ∷ 1 ∷ 103 ∷ 1 ∷ 101 ∷ 1 ∷ 101 ∷ 103 ∷ 1 ∷ []) (102 ∷ 103 ∷ 1 ∷ 4 ∷ 1 ∷ 103 ∷ 1 ∷ 1 ∷ 1 ∷ []);
            credits = 1 ∷ 103 ∷ 1 ∷ 104 ∷ 7 ∷ 7 ∷ 103 ∷ 2 ∷ 7 ∷ [];
            queues = 102 ∷ 1 ∷ 7 ∷ 2 ∷ 103 ∷ 7 ∷ 101 ∷ 2 ∷ 1 ∷ [];
            given = 2 ∷ 1 ∷ 1 ∷ [];
            copy = 1 ∷ 4 ∷ 103 ∷ 1 ∷ 103 ∷ 103 ∷ 101 ∷ 1 ∷ 1 ∷ [];
            flight = 103 ∷ 1 ∷ 3 ∷ 102 ∷ 104 ∷ 103 ∷ 104 ∷ 3 ∷ 7 ∷ 3 ∷ 2 ∷ 1 ∷ 104 ∷ 3 ∷ 1 ∷ 4 ∷ 101 ∷ 1 ∷ [];
          };
      calls =
          start direct 3 3 100000000 plain
          ∷ book_rate 2 3 33333333
          ∷ book_rate 2 3 33333333
          ∷ book_rate 3 2 33333333
          ∷ arrive 2 2 10
          ∷ arrive 3 2 8
          ∷ arrive 2 2 7
          ∷ arrive 3 2 12
          ∷ arrive 3 1 10
          ∷ arrive 3 2 6
          ∷ arrive 2 3 9
          ∷ arrive 1 3 9
          ∷ arrive 1 1 12
          ∷ release_rate 2 3 66666667
          ∷ book_rate 3 1 11111111
          ∷ start direct 0 3 100000000 fine
          ∷ book_rate 1 3 0
          ∷ book 3 1 1
          ∷ tick direct
          ∷ tick direct
          ∷ book_rate 2 2 11111112
          ∷ start direct 3 3 100000001 fine
          ∷ tick direct
          ∷ book_rate 1 3 100000001
          ∷ arrive 2 3 8
          ∷ tick direct
          ∷ tick direct
          ∷ release_rate 2 3 66666666
          ∷ release_rate 3 2 11111112
          ∷ tick direct
          ∷ book 1 1 1
          ∷ tick direct
          ∷ tick direct
          ∷ release_rate 3 1 11111111
          ∷ arrive 3 1 12
          ∷ book 3 3 1
          ∷ tick direct
          ∷ preview rate_release 3 2 22222222
          ∷ preview rate_release 3 2 11111112
          ∷ tick direct
          ∷ tick direct
          ∷ arrive 1 3 11
          ∷ book_rate 2 2 22222223
          ∷ tick direct
          ∷ book_rate 3 4 1
          ∷ release 3 3 2
          ∷ release 1 1 1
          ∷ tick direct
          ∷ arrive 3 4294967297 1
          ∷ tick direct
          ∷ book_rate 1 3 22222223
          ∷ tick direct
          ∷ tick direct
          ∷ preview rate_release 3 3 1
          ∷ tick direct
          ∷ tick direct
          ∷ release_rate 3 1 1
          ∷ tick direct
          ∷ book 1 1 1
          ∷ release 2 2 1
          ∷ arrive 2 1 12
          ∷ book_rate 2 2 11111111
          ∷ tick direct
          ∷ tick direct
          ∷ tick direct
          ∷ [];
      expected =
          claim 1 1 1 0 1 3 0
          ∷ claim 1 1 4 0 1 3 0
          ∷ claim 1 1 7 1 1 3 1
          ∷ claim 1 1 10 1 0 3 1
          ∷ claim 1 1 13 0 0 3 0
          ∷ claim 1 1 16 0 1 3 0
          ∷ claim 1 1 19 0 1 3 0
          ∷ claim 1 1 22 1 1 1 1
          ∷ claim 1 2 1 0 1 0 0
          ∷ claim 1 2 4 0 1 0 0
          ∷ claim 1 2 7 0 2 0 0
          ∷ claim 1 2 10 0 2 0 0
          ∷ claim 1 2 13 0 2 0 0
          ∷ claim 1 2 16 0 3 0 0
          ∷ claim 1 2 19 0 3 0 0
          ∷ claim 1 2 22 0 4 0 0
          ∷ claim 1 3 1 0 2 3 0
          ∷ claim 1 3 4 0 2 3 0
          ∷ claim 1 3 7 0 1 3 0
          ∷ claim 1 3 10 0 2 3 0
          ∷ claim 1 3 13 0 1 3 0
          ∷ claim 1 3 16 1 1 3 1
          ∷ claim 1 3 19 1 1 3 1
          ∷ claim 1 3 22 1 2 1 0
          ∷ claim 2 1 1 0 3 0 0
          ∷ claim 2 1 4 0 3 0 0
          ∷ claim 2 1 7 0 2 0 0
          ∷ claim 2 1 10 0 1 0 0
          ∷ claim 2 1 13 0 1 0 0
          ∷ claim 2 1 16 0 1 0 0
          ∷ claim 2 1 19 0 1 2 0
          ∷ claim 2 1 22 0 2 1 0
          ∷ claim 2 2 1 0 3 3 0
          ∷ claim 2 2 4 0 3 3 0
          ∷ claim 2 2 7 0 1 3 0
          ∷ claim 2 2 10 0 1 3 0
          ∷ claim 2 2 13 1 1 3 1
          ∷ claim 2 2 16 1 1 3 1
          ∷ claim 2 2 19 1 1 3 1
          ∷ claim 2 2 22 1 1 1 1
          ∷ claim 2 3 1 2 0 3 2
          ∷ claim 2 3 4 2 0 3 2
          ∷ claim 2 3 7 0 0 3 0
          ∷ claim 2 3 10 0 1 3 0
          ∷ claim 2 3 13 0 2 3 0
          ∷ claim 2 3 16 0 3 3 0
          ∷ claim 2 3 19 0 3 3 0
          ∷ claim 2 3 22 0 3 1 0
          ∷ claim 3 1 1 1 1 3 1
          ∷ claim 3 1 4 1 1 3 1
          ∷ claim 3 1 7 1 2 3 1
          ∷ claim 3 1 10 0 3 3 0
          ∷ claim 3 1 13 0 2 3 0
          ∷ claim 3 1 16 0 2 3 0
          ∷ claim 3 1 19 0 2 3 0
          ∷ claim 3 1 22 0 3 1 0
          ∷ claim 3 2 1 1 1 3 1
          ∷ claim 3 2 4 1 1 3 1
          ∷ claim 3 2 7 1 1 3 1
          ∷ claim 3 2 10 1 1 3 1
          ∷ claim 3 2 13 1 2 3 1
          ∷ claim 3 2 16 1 2 3 1
          ∷ claim 3 2 19 1 2 3 1
          ∷ claim 3 2 22 1 2 1 0
          ∷ claim 3 3 1 0 4 0 0
          ∷ claim 3 3 4 0 4 0 0
          ∷ claim 3 3 7 0 2 0 0
          ∷ claim 3 3 10 1 1 0 0
          ∷ claim 3 3 13 1 1 0 0
          ∷ claim 3 3 16 1 2 0 0
          ∷ claim 3 3 19 1 2 0 0
          ∷ claim 3 3 22 1 2 0 0
          ∷ [];
      headrooms =
          told 1 1 0 (pos 1)
          ∷ told 1 2 0 (negsuc 0)
          ∷ told 1 3 0 (pos 0)
          ∷ told 2 1 0 (pos 1)
          ∷ told 2 2 0 (pos 1)
          ∷ told 2 3 0 (pos 0)
          ∷ told 3 1 0 (pos 0)
          ∷ told 3 2 0 (pos 0)
          ∷ told 3 3 0 (pos 0)
          ∷ told 4 1 5 (pos 0)
          ∷ told 1 4294967297 5 (pos 0)
          ∷ [];
      previews =
          showing slots_booking 1 1 1 8 3 2
          ∷ showing slots_booking 3 2 2 8 4 4
          ∷ showing rate_booking 1 1 11111111 8 3 2
          ∷ showing rate_booking 2 2 35090164 9 2 3
          ∷ showing slots_release 1 1 1 0 1 0
          ∷ showing slots_release 1 1 1 0 1 0
          ∷ showing rate_release 2 1 1 10 0 0
          ∷ showing rate_release 3 2 48868487 10 0 0
          ∷ showing slots_booking 4 3 1 5 0 0
          ∷ showing rate_release 3 3 100000001 6 0 0
          ∷ [];
    }

pub agrees_6 : first_wrong list_6 ≡ 0
unfolding first_wrong entries apply Direct.start Direct.tick Pipelined.start Pipelined.tick book_words rate_words release_words release_rate_words headroom_refusal Preview.preview arrive_words into_frame sharing_fit booking bookings row_sum column_sum sum first_from some_of word port_word
agrees_6 = refl

pub headroom_6 : first_wrong_headroom list_6 ≡ 0
unfolding first_wrong_headroom final headroom_result pair_headroom headroom_over apply Direct.start Direct.tick Pipelined.start Pipelined.tick book_words rate_words release_words release_rate_words headroom_refusal Preview.preview arrive_words into_frame sharing_fit booking bookings row_sum column_sum sum first_from some_of word port_word
headroom_6 = refl

pub preview_6 : first_wrong_preview list_6 ≡ 0
unfolding first_wrong_preview final apply Direct.start Direct.tick Pipelined.start Pipelined.tick book_words rate_words release_words release_rate_words headroom_refusal Preview.preview arrive_words into_frame sharing_fit booking bookings row_sum column_sum sum first_from some_of word port_word
preview_6 = refl

abbrev list_7 : Case
list_7 =
    record {
      switch =
          record {
            clock = clock_of 3 10001 1 100000001 0;
            book = book_of (101 ∷ 101 ∷ 1 ∷ 103 ∷ 2 ∷ 102 ∷ 1 ∷ 103 ∷ 103 ∷ []) (1 ∷ 4 ∷ 7 ∷ 1 ∷ 102 ∷ 103 ∷ 7 ∷ 2 ∷ 4 ∷ []);
            credits = 4 ∷ 2 ∷ 3 ∷ 1 ∷ 7 ∷ 3 ∷ 101 ∷ 2 ∷ 104 ∷ [];
            queues = 4 ∷ 2 ∷ 102 ∷ 4 ∷ 103 ∷ 102 ∷ 101 ∷ 3 ∷ 103 ∷ [];
            given = 1 ∷ 1 ∷ 7 ∷ [];
            copy = 1 ∷ 104 ∷ 104 ∷ 2 ∷ 2 ∷ 1 ∷ 7 ∷ 4 ∷ 7 ∷ [];
            flight = 2 ∷ 2 ∷ 103 ∷ 3 ∷ 1 ∷ 7 ∷ 104 ∷ 104 ∷ 7 ∷ 103 ∷ 2 ∷ 4 ∷ 1 ∷ 103 ∷ 104 ∷ 101 ∷ 7 ∷ 3 ∷ [];
          };
      calls =
          start pipelined 2 6 1000 fine
          ∷ book_rate 1 1 56
          ∷ book_rate 1 1 56
          ∷ book_rate 1 1 55
          ∷ book 1 2 1
          ∷ arrive 2 2 4
          ∷ arrive 2 1 2
          ∷ arrive 1 1 3
          ∷ arrive 2 2 2
          ∷ arrive 2 1 2
          ∷ arrive 1 2 4
          ∷ book 1 1 2
          ∷ tick pipelined
          ∷ book 3 1 1
          ∷ tick pipelined
          ∷ release_rate 2 1 1
          ∷ book 2 3 1
          ∷ tick pipelined
          ∷ tick pipelined
          ∷ book_rate 1 2 55
          ∷ tick pipelined
          ∷ tick pipelined
          ∷ tick pipelined
          ∷ tick pipelined
          ∷ tick pipelined
          ∷ book 2 1 2
          ∷ tick pipelined
          ∷ arrive 1 1 3
          ∷ book 2 2 1
          ∷ book_rate 1 2 1001
          ∷ tick pipelined
          ∷ release 1 2 1
          ∷ tick pipelined
          ∷ tick pipelined
          ∷ tick pipelined
          ∷ tick pipelined
          ∷ tick pipelined
          ∷ tick pipelined
          ∷ [];
      expected =
          claim 1 1 1 0 0 2 0
          ∷ claim 1 1 7 4 1 2 2
          ∷ claim 1 1 13 4 2 2 2
          ∷ claim 1 2 1 0 0 2 0
          ∷ claim 1 2 7 1 4 3 1
          ∷ claim 1 2 13 2 4 0 0
          ∷ claim 2 1 1 0 0 2 0
          ∷ claim 2 1 7 0 4 5 0
          ∷ claim 2 1 13 0 4 0 0
          ∷ claim 2 2 1 0 0 2 0
          ∷ claim 2 2 7 0 1 6 0
          ∷ claim 2 2 13 0 2 2 0
          ∷ [];
      headrooms =
          told 1 1 0 (pos 1)
          ∷ told 1 2 0 (pos 1)
          ∷ told 2 1 0 (pos 2)
          ∷ told 2 2 0 (pos 5)
          ∷ told 3 1 5 (pos 0)
          ∷ told 1 4294967297 5 (pos 0)
          ∷ [];
      previews =
          showing slots_booking 1 2 2 15 7 3
          ∷ showing slots_booking 1 1 2 15 7 6
          ∷ showing rate_booking 1 2 55 0 5 1
          ∷ showing rate_booking 2 2 468 15 3 4
          ∷ showing slots_release 1 1 1 0 4 3
          ∷ showing slots_release 1 1 3 10 0 0
          ∷ showing rate_release 1 1 166 0 4 3
          ∷ showing rate_release 1 1 173 10 0 0
          ∷ showing slots_booking 3 1 1 5 0 0
          ∷ showing slots_release 1 1 0 6 0 0
          ∷ [];
    }

pub agrees_7 : first_wrong list_7 ≡ 0
unfolding first_wrong entries apply Direct.start Direct.tick Pipelined.start Pipelined.tick book_words rate_words release_words release_rate_words headroom_refusal Preview.preview arrive_words into_frame sharing_fit booking bookings row_sum column_sum sum first_from some_of word port_word
agrees_7 = refl

pub headroom_7 : first_wrong_headroom list_7 ≡ 0
unfolding first_wrong_headroom final headroom_result pair_headroom headroom_over apply Direct.start Direct.tick Pipelined.start Pipelined.tick book_words rate_words release_words release_rate_words headroom_refusal Preview.preview arrive_words into_frame sharing_fit booking bookings row_sum column_sum sum first_from some_of word port_word
headroom_7 = refl

pub preview_7 : first_wrong_preview list_7 ≡ 0
unfolding first_wrong_preview final apply Direct.start Direct.tick Pipelined.start Pipelined.tick book_words rate_words release_words release_rate_words headroom_refusal Preview.preview arrive_words into_frame sharing_fit booking bookings row_sum column_sum sum first_from some_of word port_word
preview_7 = refl

abbrev list_8 : Case
list_8 =
    record {
      switch =
          record {
            clock = clock_of 9 2 0 0 7;
            book = book_of (3 ∷ 104 ∷ 2 ∷ 4 ∷ 101 ∷ 3 ∷ 1 ∷ 2 ∷ 1 ∷ []) (103 ∷ 101 ∷ 103 ∷ 101 ∷ 103 ∷ 3 ∷ 102 ∷ 103 ∷ 2 ∷ []);
            credits = 4 ∷ 2 ∷ 2 ∷ 7 ∷ 103 ∷ 4 ∷ 2 ∷ 4 ∷ 3 ∷ [];
            queues = 3 ∷ 1 ∷ 103 ∷ 1 ∷ 3 ∷ 1 ∷ 103 ∷ 2 ∷ 104 ∷ [];
            given = 7 ∷ 104 ∷ 4 ∷ [];
            copy = 101 ∷ 104 ∷ 104 ∷ 3 ∷ 101 ∷ 101 ∷ 3 ∷ 7 ∷ 101 ∷ [];
            flight = 102 ∷ 2 ∷ 1 ∷ 1 ∷ 103 ∷ 102 ∷ 3 ∷ 1 ∷ 7 ∷ 103 ∷ 101 ∷ 2 ∷ 4 ∷ 101 ∷ 3 ∷ 104 ∷ 103 ∷ 7 ∷ [];
          };
      calls =
          start direct 2 3 1000 fine
          ∷ book_rate 2 2 111
          ∷ book 2 2 1
          ∷ book_rate 1 2 111
          ∷ arrive 1 1 51
          ∷ arrive 1 2 46
          ∷ arrive 2 2 82
          ∷ arrive 1 1 58
          ∷ arrive 2 2 89
          ∷ arrive 2 1 87
          ∷ tick direct
          ∷ tick direct
          ∷ tick direct
          ∷ arrive 2 2 67
          ∷ preview slots_release 2 2 1
          ∷ book 1 2 1
          ∷ tick direct
          ∷ tick direct
          ∷ tick direct
          ∷ preview rate_release 2 1 1
          ∷ book_rate 2 1 223
          ∷ book_rate 1 2 111
          ∷ release_rate 1 2 111
          ∷ tick direct
          ∷ release 2 2 1
          ∷ tick direct
          ∷ tick direct
          ∷ start direct 0 3 1000 plain
          ∷ tick direct
          ∷ book 2 1 1
          ∷ release 2 1 1
          ∷ release_rate 1 1 1
          ∷ tick direct
          ∷ arrive 2 1 66
          ∷ arrive 2 1 52
          ∷ tick direct
          ∷ tick direct
          ∷ [];
      expected =
          claim 1 1 1 0 1 3 0
          ∷ claim 1 1 4 0 1 3 0
          ∷ claim 1 1 7 0 1 3 0
          ∷ claim 1 1 10 0 1 3 0
          ∷ claim 1 1 13 0 1 1 0
          ∷ claim 1 2 1 1 2 3 1
          ∷ claim 1 2 4 1 2 3 1
          ∷ claim 1 2 7 1 2 3 1
          ∷ claim 1 2 10 1 1 3 1
          ∷ claim 1 2 13 1 1 1 1
          ∷ claim 2 1 1 0 2 3 0
          ∷ claim 2 1 4 0 2 3 0
          ∷ claim 2 1 7 0 2 3 0
          ∷ claim 2 1 10 0 1 3 0
          ∷ claim 2 1 13 0 1 1 0
          ∷ claim 2 2 1 2 1 3 2
          ∷ claim 2 2 4 2 1 3 2
          ∷ claim 2 2 7 2 1 3 2
          ∷ claim 2 2 10 1 1 3 1
          ∷ claim 2 2 13 1 1 1 0
          ∷ [];
      headrooms =
          told 1 1 0 (pos 2)
          ∷ told 1 2 0 (pos 1)
          ∷ told 2 1 0 (pos 2)
          ∷ told 2 2 0 (pos 1)
          ∷ told 3 1 5 (pos 0)
          ∷ told 1 0 5 (pos 0)
          ∷ [];
      previews =
          showing slots_booking 2 1 1 0 2 1
          ∷ showing slots_booking 1 2 1 0 2 3
          ∷ showing rate_booking 1 2 333 0 2 3
          ∷ showing rate_booking 1 2 244 0 2 3
          ∷ showing slots_release 1 2 1 10 0 0
          ∷ showing slots_release 1 2 1 10 0 0
          ∷ showing rate_release 2 1 1 10 0 0
          ∷ showing rate_release 2 2 46 0 1 2
          ∷ showing rate_release 3 1 1 5 0 0
          ∷ showing slots_booking 2 1 0 6 0 0
          ∷ [];
    }

pub agrees_8 : first_wrong list_8 ≡ 0
unfolding first_wrong entries apply Direct.start Direct.tick Pipelined.start Pipelined.tick book_words rate_words release_words release_rate_words headroom_refusal Preview.preview arrive_words into_frame sharing_fit booking bookings row_sum column_sum sum first_from some_of word port_word
agrees_8 = refl

pub headroom_8 : first_wrong_headroom list_8 ≡ 0
unfolding first_wrong_headroom final headroom_result pair_headroom headroom_over apply Direct.start Direct.tick Pipelined.start Pipelined.tick book_words rate_words release_words release_rate_words headroom_refusal Preview.preview arrive_words into_frame sharing_fit booking bookings row_sum column_sum sum first_from some_of word port_word
headroom_8 = refl

pub preview_8 : first_wrong_preview list_8 ≡ 0
unfolding first_wrong_preview final apply Direct.start Direct.tick Pipelined.start Pipelined.tick book_words rate_words release_words release_rate_words headroom_refusal Preview.preview arrive_words into_frame sharing_fit booking bookings row_sum column_sum sum first_from some_of word port_word
preview_8 = refl

abbrev list_9 : Case
list_9 =
    record {
      switch =
          record {
            clock = clock_of 9 1 77 0 7;
            book = book_of (2 ∷ 1 ∷ 1 ∷ 101 ∷ 101 ∷ 3 ∷ 2 ∷ 1 ∷ 104 ∷ []) (1 ∷ 1 ∷ 2 ∷ 7 ∷ 101 ∷ 7 ∷ 4 ∷ 2 ∷ 1 ∷ []);
            credits = 7 ∷ 1 ∷ 102 ∷ 3 ∷ 7 ∷ 3 ∷ 7 ∷ 4 ∷ 2 ∷ [];
            queues = 3 ∷ 1 ∷ 104 ∷ 3 ∷ 103 ∷ 2 ∷ 104 ∷ 101 ∷ 2 ∷ [];
            given = 1 ∷ 2 ∷ 1 ∷ [];
            copy = 2 ∷ 1 ∷ 1 ∷ 2 ∷ 4 ∷ 104 ∷ 103 ∷ 1 ∷ 2 ∷ [];
            flight = 101 ∷ 103 ∷ 102 ∷ 2 ∷ 101 ∷ 2 ∷ 1 ∷ 1 ∷ 3 ∷ 2 ∷ 1 ∷ 2 ∷ 3 ∷ 2 ∷ 103 ∷ 4 ∷ 101 ∷ 4 ∷ [];
          };
      calls =
          start pipelined 2 6 100000000 fine
          ∷ book 2 2 1
          ∷ book_rate 2 1 5555555
          ∷ book_rate 2 1 5555555
          ∷ book_rate 2 1 5555555
          ∷ book_rate 2 1 16666666
          ∷ book_rate 1 1 5555555
          ∷ arrive 2 1 8
          ∷ arrive 1 2 10
          ∷ arrive 2 2 11
          ∷ arrive 2 1 9
          ∷ arrive 2 2 7
          ∷ arrive 1 1 9
          ∷ arrive 1 1 10
          ∷ arrive 2 1 65536
          ∷ headroom 4294967297 1
          ∷ arrive 1 2 11
          ∷ book_rate 2 3 1
          ∷ tick pipelined
          ∷ tick pipelined
          ∷ tick pipelined
          ∷ tick pipelined
          ∷ release_rate 2 1 5555556
          ∷ tick pipelined
          ∷ tick pipelined
          ∷ tick pipelined
          ∷ tick pipelined
          ∷ release_rate 1 1 5555556
          ∷ tick pipelined
          ∷ book 2 1 1
          ∷ arrive 2 1 9
          ∷ tick pipelined
          ∷ release 2 1 1
          ∷ tick pipelined
          ∷ preview slots_booking 2 2 1
          ∷ tick pipelined
          ∷ tick pipelined
          ∷ release_rate 2 1 27777776
          ∷ tick pipelined
          ∷ arrive 1 1 7
          ∷ tick pipelined
          ∷ tick pipelined
          ∷ tick pipelined
          ∷ [];
      expected =
          claim 1 1 1 0 0 2 0
          ∷ claim 1 1 7 1 2 6 1
          ∷ claim 1 1 13 1 2 6 1
          ∷ claim 1 2 1 0 0 2 0
          ∷ claim 1 2 7 0 2 6 0
          ∷ claim 1 2 13 0 2 6 0
          ∷ claim 2 1 1 0 0 2 0
          ∷ claim 2 1 7 2 2 6 2
          ∷ claim 2 1 13 2 2 6 2
          ∷ claim 2 2 1 0 0 2 0
          ∷ claim 2 2 7 1 2 6 1
          ∷ claim 2 2 13 1 2 6 1
          ∷ [];
      headrooms =
          told 1 1 0 (pos 3)
          ∷ told 1 2 0 (pos 4)
          ∷ told 2 1 0 (pos 2)
          ∷ told 2 2 0 (pos 3)
          ∷ told 3 1 5 (pos 0)
          ∷ told 1 4294967297 5 (pos 0)
          ∷ [];
      previews =
          showing slots_booking 2 1 1 0 4 4
          ∷ showing slots_booking 1 1 3 15 4 6
          ∷ showing rate_booking 2 1 5555555 0 3 3
          ∷ showing rate_booking 2 2 35278686 15 6 4
          ∷ showing slots_release 2 2 1 0 2 0
          ∷ showing slots_release 2 2 3 10 0 0
          ∷ showing rate_release 1 1 5555556 10 0 0
          ∷ showing rate_release 2 2 44923899 10 0 0
          ∷ showing rate_booking 2 3 1 5 0 0
          ∷ showing rate_booking 2 1 100000001 6 0 0
          ∷ [];
    }

pub agrees_9 : first_wrong list_9 ≡ 0
unfolding first_wrong entries apply Direct.start Direct.tick Pipelined.start Pipelined.tick book_words rate_words release_words release_rate_words headroom_refusal Preview.preview arrive_words into_frame sharing_fit booking bookings row_sum column_sum sum first_from some_of word port_word
agrees_9 = refl

pub headroom_9 : first_wrong_headroom list_9 ≡ 0
unfolding first_wrong_headroom final headroom_result pair_headroom headroom_over apply Direct.start Direct.tick Pipelined.start Pipelined.tick book_words rate_words release_words release_rate_words headroom_refusal Preview.preview arrive_words into_frame sharing_fit booking bookings row_sum column_sum sum first_from some_of word port_word
headroom_9 = refl

pub preview_9 : first_wrong_preview list_9 ≡ 0
unfolding first_wrong_preview final apply Direct.start Direct.tick Pipelined.start Pipelined.tick book_words rate_words release_words release_rate_words headroom_refusal Preview.preview arrive_words into_frame sharing_fit booking bookings row_sum column_sum sum first_from some_of word port_word
preview_9 = refl

abbrev list_10 : Case
list_10 =
    record {
      switch =
          record {
            clock = clock_of 9 10001 77 0 0;
            book = book_of (7 ∷ 2 ∷ 1 ∷ 2 ∷ 4 ∷ 2 ∷ 1 ∷ 3 ∷ 7 ∷ []) (1 ∷ 3 ∷ 4 ∷ 3 ∷ 103 ∷ 104 ∷ 2 ∷ 1 ∷ 104 ∷ []);
            credits = 3 ∷ 2 ∷ 101 ∷ 3 ∷ 101 ∷ 2 ∷ 103 ∷ 1 ∷ 3 ∷ [];
            queues = 1 ∷ 1 ∷ 2 ∷ 104 ∷ 4 ∷ 2 ∷ 104 ∷ 1 ∷ 1 ∷ [];
            given = 102 ∷ 103 ∷ 7 ∷ [];
            copy = 1 ∷ 102 ∷ 102 ∷ 3 ∷ 103 ∷ 104 ∷ 7 ∷ 102 ∷ 1 ∷ [];
            flight = 101 ∷ 101 ∷ 7 ∷ 4 ∷ 1 ∷ 102 ∷ 101 ∷ 104 ∷ 103 ∷ 1 ∷ 102 ∷ 101 ∷ 1 ∷ 3 ∷ 1 ∷ 7 ∷ 7 ∷ 102 ∷ [];
          };
      calls =
          start direct 2 7 1000 plain
          ∷ book_rate 1 2 47
          ∷ book 2 2 1
          ∷ arrive 1 2 1
          ∷ arrive 1 1 1
          ∷ book 2 2 0
          ∷ tick direct
          ∷ tick direct
          ∷ tick direct
          ∷ start direct 2 5 100000000 fine
          ∷ book_rate 1 2 6666666
          ∷ book_rate 1 2 6666667
          ∷ book_rate 1 2 6666666
          ∷ book_rate 1 2 6666666
          ∷ book 1 2 1
          ∷ book_rate 2 2 6666666
          ∷ book_rate 2 2 6666666
          ∷ book_rate 2 2 6666667
          ∷ book_rate 2 2 20000000
          ∷ arrive 2 2 65
          ∷ arrive 2 2 71
          ∷ arrive 1 2 76
          ∷ arrive 2 1 51
          ∷ arrive 2 1 61
          ∷ arrive 2 1 79
          ∷ arrive 2 2 63
          ∷ arrive 1 1 75
          ∷ tick direct
          ∷ book 1 2 2
          ∷ release_rate 2 2 6666666
          ∷ tick direct
          ∷ tick direct
          ∷ tick direct
          ∷ release_rate 1 2 26666666
          ∷ headroom 1 2
          ∷ tick direct
          ∷ arrive 4294967297 1 1
          ∷ tick direct
          ∷ arrive 2 1 64
          ∷ tick direct
          ∷ arrive 2 1 51
          ∷ preview slots_booking 2 1 3
          ∷ book_rate 1 2 6666667
          ∷ tick direct
          ∷ tick direct
          ∷ book 2 2 2
          ∷ tick direct
          ∷ tick direct
          ∷ arrive 2 1 79
          ∷ tick direct
          ∷ book 1 2 1
          ∷ tick direct
          ∷ book_rate 2 1 6666666
          ∷ release 1 2 1
          ∷ tick direct
          ∷ arrive 1 2 70
          ∷ tick direct
          ∷ tick direct
          ∷ tick direct
          ∷ arrive 2 1 69
          ∷ arrive 2 2 88
          ∷ tick direct
          ∷ release 2 1 6
          ∷ tick direct
          ∷ tick direct
          ∷ tick direct
          ∷ tick direct
          ∷ arrive 2 1 85
          ∷ tick direct
          ∷ [];
      expected =
          claim 1 1 1 0 3 5 0
          ∷ claim 1 1 6 0 3 5 0
          ∷ claim 1 1 11 0 3 5 0
          ∷ claim 1 1 16 0 2 5 0
          ∷ claim 1 1 21 0 2 3 0
          ∷ claim 1 2 1 3 2 5 3
          ∷ claim 1 2 6 3 2 5 3
          ∷ claim 1 2 11 3 2 5 3
          ∷ claim 1 2 16 2 2 5 2
          ∷ claim 1 2 21 2 2 3 2
          ∷ claim 2 1 1 0 2 5 0
          ∷ claim 2 1 6 0 2 5 0
          ∷ claim 2 1 11 0 2 5 0
          ∷ claim 2 1 16 0 2 5 0
          ∷ claim 2 1 21 0 2 3 0
          ∷ claim 2 2 1 2 3 5 2
          ∷ claim 2 2 6 2 3 5 2
          ∷ claim 2 2 11 2 3 5 2
          ∷ claim 2 2 16 2 2 5 2
          ∷ claim 2 2 21 2 2 3 1
          ∷ [];
      headrooms =
          told 1 1 0 (pos 3)
          ∷ told 1 2 0 (pos 1)
          ∷ told 2 1 0 (pos 3)
          ∷ told 2 2 0 (pos 1)
          ∷ told 3 1 5 (pos 0)
          ∷ told 1 4294967297 5 (pos 0)
          ∷ [];
      previews =
          showing slots_booking 2 2 1 0 3 5
          ∷ showing slots_booking 1 2 3 15 5 7
          ∷ showing rate_booking 2 2 6666666 0 2 4
          ∷ showing rate_booking 2 2 12843574 0 3 5
          ∷ showing slots_release 2 2 1 10 0 0
          ∷ showing slots_release 2 1 2 10 0 0
          ∷ showing rate_release 1 2 6666666 0 2 4
          ∷ showing rate_release 2 2 5814316 0 2 4
          ∷ showing slots_release 2 0 1 5 0 0
          ∷ showing slots_release 2 1 0 6 0 0
          ∷ [];
    }

pub agrees_10 : first_wrong list_10 ≡ 0
unfolding first_wrong entries apply Direct.start Direct.tick Pipelined.start Pipelined.tick book_words rate_words release_words release_rate_words headroom_refusal Preview.preview arrive_words into_frame sharing_fit booking bookings row_sum column_sum sum first_from some_of word port_word
agrees_10 = refl

pub headroom_10 : first_wrong_headroom list_10 ≡ 0
unfolding first_wrong_headroom final headroom_result pair_headroom headroom_over apply Direct.start Direct.tick Pipelined.start Pipelined.tick book_words rate_words release_words release_rate_words headroom_refusal Preview.preview arrive_words into_frame sharing_fit booking bookings row_sum column_sum sum first_from some_of word port_word
headroom_10 = refl

pub preview_10 : first_wrong_preview list_10 ≡ 0
unfolding first_wrong_preview final apply Direct.start Direct.tick Pipelined.start Pipelined.tick book_words rate_words release_words release_rate_words headroom_refusal Preview.preview arrive_words into_frame sharing_fit booking bookings row_sum column_sum sum first_from some_of word port_word
preview_10 = refl

abbrev list_11 : Case
list_11 =
    record {
      switch =
          record {
            clock = clock_of 3 0 4000000000 0 0;
            book = book_of (104 ∷ 101 ∷ 7 ∷ 1 ∷ 7 ∷ 2 ∷ 1 ∷ 4 ∷ 4 ∷ []) (3 ∷ 102 ∷ 2 ∷ 104 ∷ 2 ∷ 1 ∷ 1 ∷ 102 ∷ 2 ∷ []);
            credits = 2 ∷ 102 ∷ 102 ∷ 2 ∷ 102 ∷ 1 ∷ 101 ∷ 1 ∷ 103 ∷ [];
            queues = 102 ∷ 4 ∷ 2 ∷ 104 ∷ 102 ∷ 4 ∷ 102 ∷ 3 ∷ 103 ∷ [];
            given = 103 ∷ 1 ∷ 103 ∷ [];
            copy = 103 ∷ 7 ∷ 2 ∷ 2 ∷ 102 ∷ 1 ∷ 1 ∷ 104 ∷ 3 ∷ [];
            flight = 1 ∷ 1 ∷ 4 ∷ 102 ∷ 3 ∷ 4 ∷ 101 ∷ 101 ∷ 1 ∷ 2 ∷ 3 ∷ 104 ∷ 103 ∷ 103 ∷ 101 ∷ 2 ∷ 4 ∷ 1 ∷ [];
          };
      calls =
          start pipelined 1 5 100000000 fine
          ∷ book_rate 1 1 6666666
          ∷ book_rate 1 1 6666667
          ∷ arrive 1 1 60
          ∷ arrive 1 1 58
          ∷ release 1 1 1
          ∷ tick pipelined
          ∷ tick pipelined
          ∷ tick pipelined
          ∷ start pipelined 1 5 0 plain
          ∷ book_rate 1 1 1
          ∷ book_rate 1 1 1
          ∷ book_rate 1 1 1
          ∷ arrive 1 1 12
          ∷ tick pipelined
          ∷ preview slots_booking 1 1 1
          ∷ tick pipelined
          ∷ tick pipelined
          ∷ tick pipelined
          ∷ tick pipelined
          ∷ tick pipelined
          ∷ book 1 1 1
          ∷ tick pipelined
          ∷ arrive 1 1 11
          ∷ tick pipelined
          ∷ tick pipelined
          ∷ tick pipelined
          ∷ release_rate 1 1 1
          ∷ tick pipelined
          ∷ tick pipelined
          ∷ [];
      expected =
          claim 1 1 1 0 0 3 0
          ∷ claim 1 1 6 0 0 5 0
          ∷ claim 1 1 11 1 0 3 1
          ∷ [];
      headrooms =
          told 1 1 0 (pos 4)
          ∷ told 2 1 5 (pos 0)
          ∷ told 1 4294967297 5 (pos 0)
          ∷ [];
      previews =
          showing slots_booking 1 1 1 0 2 2
          ∷ showing slots_booking 1 1 3 8 4 4
          ∷ showing rate_booking 1 1 1 6 0 0
          ∷ showing rate_booking 1 1 1 6 0 0
          ∷ showing slots_release 1 1 1 0 0 0
          ∷ showing slots_release 1 1 2 10 0 0
          ∷ showing rate_release 1 1 1 6 0 0
          ∷ showing rate_release 1 1 1 6 0 0
          ∷ showing slots_release 0 1 1 5 0 0
          ∷ showing slots_release 1 1 6 6 0 0
          ∷ [];
    }

pub agrees_11 : first_wrong list_11 ≡ 0
unfolding first_wrong entries apply Direct.start Direct.tick Pipelined.start Pipelined.tick book_words rate_words release_words release_rate_words headroom_refusal Preview.preview arrive_words into_frame sharing_fit booking bookings row_sum column_sum sum first_from some_of word port_word
agrees_11 = refl

pub headroom_11 : first_wrong_headroom list_11 ≡ 0
unfolding first_wrong_headroom final headroom_result pair_headroom headroom_over apply Direct.start Direct.tick Pipelined.start Pipelined.tick book_words rate_words release_words release_rate_words headroom_refusal Preview.preview arrive_words into_frame sharing_fit booking bookings row_sum column_sum sum first_from some_of word port_word
headroom_11 = refl

pub preview_11 : first_wrong_preview list_11 ≡ 0
unfolding first_wrong_preview final apply Direct.start Direct.tick Pipelined.start Pipelined.tick book_words rate_words release_words release_rate_words headroom_refusal Preview.preview arrive_words into_frame sharing_fit booking bookings row_sum column_sum sum first_from some_of word port_word
preview_11 = refl

abbrev list_12 : Case
list_12 =
    record {
      switch =
          record {
            clock = clock_of 3 2 77 1 7;
            book = book_of (3 ∷ 4 ∷ 4 ∷ 1 ∷ 103 ∷ 1 ∷ 7 ∷ 101 ∷ 4 ∷ []) (2 ∷ 1 ∷ 7 ∷ 3 ∷ 102 ∷ 7 ∷ 7 ∷ 101 ∷ 1 ∷ []);
            credits = 103 ∷ 2 ∷ 4 ∷ 2 ∷ 2 ∷ 101 ∷ 3 ∷ 2 ∷ 2 ∷ [];
            queues = 103 ∷ 3 ∷ 4 ∷ 104 ∷ 4 ∷ 7 ∷ 4 ∷ 102 ∷ 1 ∷ [];
            given = 2 ∷ 104 ∷ 101 ∷ [];
            copy = 1 ∷ 102 ∷ 2 ∷ 104 ∷ 101 ∷ 102 ∷ 104 ∷ 103 ∷ 102 ∷ [];
            flight = 2 ∷ 7 ∷ 3 ∷ 102 ∷ 2 ∷ 4 ∷ 4 ∷ 103 ∷ 2 ∷ 4 ∷ 1 ∷ 104 ∷ 4 ∷ 2 ∷ 2 ∷ 102 ∷ 1 ∷ 102 ∷ [];
          };
      calls =
          start direct 1 5 0 fine
          ∷ book_rate 1 1 1
          ∷ arrive 1 1 11
          ∷ tick direct
          ∷ tick direct
          ∷ arrive 2 1 1
          ∷ tick direct
          ∷ headroom 1 1
          ∷ tick direct
          ∷ arrive 1 1 9
          ∷ tick direct
          ∷ headroom 1 1
          ∷ tick direct
          ∷ headroom 1 1
          ∷ tick direct
          ∷ tick direct
          ∷ release_rate 1 1 1
          ∷ release_rate 1 1 1
          ∷ tick direct
          ∷ tick direct
          ∷ tick direct
          ∷ tick direct
          ∷ tick direct
          ∷ arrive 1 1 6
          ∷ release_rate 1 1 1
          ∷ tick direct
          ∷ tick direct
          ∷ tick direct
          ∷ book_rate 1 1 1
          ∷ tick direct
          ∷ tick direct
          ∷ tick direct
          ∷ book 1 1 1
          ∷ tick direct
          ∷ tick direct
          ∷ book_rate 1 1 1
          ∷ arrive 1 1 6
          ∷ arrive 1 1 9
          ∷ tick direct
          ∷ [];
      expected =
          claim 1 1 1 0 0 5 0
          ∷ claim 1 1 6 0 0 5 0
          ∷ claim 1 1 11 0 0 5 0
          ∷ claim 1 1 16 0 0 5 0
          ∷ claim 1 1 21 1 0 2 1
          ∷ [];
      headrooms =
          told 1 1 0 (pos 4)
          ∷ told 2 1 5 (pos 0)
          ∷ told 1 4294967297 5 (pos 0)
          ∷ [];
      previews =
          showing slots_booking 1 1 1 0 2 2
          ∷ showing slots_booking 1 1 2 0 3 3
          ∷ showing rate_booking 1 1 1 6 0 0
          ∷ showing rate_booking 1 1 1 6 0 0
          ∷ showing slots_release 1 1 2 10 0 0
          ∷ showing slots_release 1 1 2 10 0 0
          ∷ showing rate_release 1 1 1 6 0 0
          ∷ showing rate_release 1 1 1 6 0 0
          ∷ showing rate_release 1 0 1 5 0 0
          ∷ showing slots_booking 1 1 0 6 0 0
          ∷ [];
    }

pub agrees_12 : first_wrong list_12 ≡ 0
unfolding first_wrong entries apply Direct.start Direct.tick Pipelined.start Pipelined.tick book_words rate_words release_words release_rate_words headroom_refusal Preview.preview arrive_words into_frame sharing_fit booking bookings row_sum column_sum sum first_from some_of word port_word
agrees_12 = refl

pub headroom_12 : first_wrong_headroom list_12 ≡ 0
unfolding first_wrong_headroom final headroom_result pair_headroom headroom_over apply Direct.start Direct.tick Pipelined.start Pipelined.tick book_words rate_words release_words release_rate_words headroom_refusal Preview.preview arrive_words into_frame sharing_fit booking bookings row_sum column_sum sum first_from some_of word port_word
headroom_12 = refl

pub preview_12 : first_wrong_preview list_12 ≡ 0
unfolding first_wrong_preview final apply Direct.start Direct.tick Pipelined.start Pipelined.tick book_words rate_words release_words release_rate_words headroom_refusal Preview.preview arrive_words into_frame sharing_fit booking bookings row_sum column_sum sum first_from some_of word port_word
preview_12 = refl

abbrev list_13 : Case
list_13 =
    record {
      switch =
          record {
            clock = clock_of 1 1 1 100000001 0;
            book = book_of (104 ∷ 4 ∷ 101 ∷ 102 ∷ 4 ∷ 2 ∷ 101 ∷ 2 ∷ 2 ∷ []) (1 ∷ 103 ∷ 102 ∷ 3 ∷ 3 ∷ 4 ∷ 1 ∷ 103 ∷ 101 ∷ []);
            credits = 2 ∷ 101 ∷ 102 ∷ 104 ∷ 104 ∷ 1 ∷ 1 ∷ 2 ∷ 102 ∷ [];
            queues = 103 ∷ 2 ∷ 2 ∷ 7 ∷ 104 ∷ 1 ∷ 102 ∷ 1 ∷ 2 ∷ [];
            given = 2 ∷ 3 ∷ 3 ∷ [];
            copy = 4 ∷ 1 ∷ 4 ∷ 7 ∷ 1 ∷ 2 ∷ 7 ∷ 2 ∷ 1 ∷ [];
            flight = 1 ∷ 2 ∷ 104 ∷ 104 ∷ 4 ∷ 103 ∷ 7 ∷ 1 ∷ 1 ∷ 101 ∷ 3 ∷ 104 ∷ 4 ∷ 103 ∷ 2 ∷ 2 ∷ 4 ∷ 4 ∷ [];
          };
      calls =
          start pipelined 3 3 100000000 plain
          ∷ book_rate 1 3 11111111
          ∷ book_rate 1 3 33333333
          ∷ book_rate 1 3 22222223
          ∷ book_rate 1 3 33333334
          ∷ book 1 1 1
          ∷ book_rate 1 1 11111111
          ∷ book_rate 1 1 22222222
          ∷ book_rate 1 1 22222223
          ∷ book_rate 1 2 11111112
          ∷ book_rate 1 2 11111111
          ∷ book_rate 1 2 33333334
          ∷ book_rate 3 3 11111111
          ∷ book_rate 3 3 11111112
          ∷ book_rate 3 3 11111112
          ∷ book_rate 3 3 11111112
          ∷ book 2 3 1
          ∷ book_rate 3 1 11111111
          ∷ book_rate 3 1 22222223
          ∷ book_rate 3 1 11111112
          ∷ book_rate 3 1 33333333
          ∷ arrive 3 3 3
          ∷ arrive 1 3 2
          ∷ arrive 1 1 4
          ∷ arrive 2 2 5
          ∷ preview rate_release 2 3 1
          ∷ tick pipelined
          ∷ tick pipelined
          ∷ tick pipelined
          ∷ tick pipelined
          ∷ tick pipelined
          ∷ tick pipelined
          ∷ book_rate 3 2 33333333
          ∷ tick pipelined
          ∷ tick pipelined
          ∷ start pipelined 0 3 100000000 fine
          ∷ release_rate 3 1 11111111
          ∷ tick pipelined
          ∷ tick pipelined
          ∷ tick pipelined
          ∷ [];
      expected =
          claim 1 1 1 0 0 0 0
          ∷ claim 1 1 4 0 0 0 0
          ∷ claim 1 1 7 0 4 3 0
          ∷ claim 1 1 10 0 4 3 0
          ∷ claim 1 2 1 0 0 0 0
          ∷ claim 1 2 4 0 0 0 0
          ∷ claim 1 2 7 0 2 0 0
          ∷ claim 1 2 10 0 2 0 0
          ∷ claim 1 3 1 0 0 0 0
          ∷ claim 1 3 4 0 0 0 0
          ∷ claim 1 3 7 2 0 2 2
          ∷ claim 1 3 10 2 0 0 0
          ∷ claim 2 1 1 0 0 0 0
          ∷ claim 2 1 4 0 0 0 0
          ∷ claim 2 1 7 0 2 0 0
          ∷ claim 2 1 10 0 2 0 0
          ∷ claim 2 2 1 0 0 0 0
          ∷ claim 2 2 4 0 0 0 0
          ∷ claim 2 2 7 0 0 3 0
          ∷ claim 2 2 10 0 0 2 0
          ∷ claim 2 3 1 0 0 0 0
          ∷ claim 2 3 4 0 0 0 0
          ∷ claim 2 3 7 0 2 0 0
          ∷ claim 2 3 10 0 2 0 0
          ∷ claim 3 1 1 0 0 0 0
          ∷ claim 3 1 4 0 0 0 0
          ∷ claim 3 1 7 2 0 0 0
          ∷ claim 3 1 10 2 0 0 0
          ∷ claim 3 2 1 0 0 0 0
          ∷ claim 3 2 4 0 0 0 0
          ∷ claim 3 2 7 0 2 0 0
          ∷ claim 3 2 10 0 2 0 0
          ∷ claim 3 3 1 0 0 0 0
          ∷ claim 3 3 4 0 0 0 0
          ∷ claim 3 3 7 0 4 3 0
          ∷ claim 3 3 10 0 4 0 0
          ∷ [];
      headrooms =
          told 1 1 0 (negsuc 0)
          ∷ told 1 2 0 (pos 1)
          ∷ told 1 3 0 (pos 1)
          ∷ told 2 1 0 (pos 1)
          ∷ told 2 2 0 (pos 3)
          ∷ told 2 3 0 (pos 1)
          ∷ told 3 1 0 (pos 1)
          ∷ told 3 2 0 (pos 1)
          ∷ told 3 3 0 (negsuc 0)
          ∷ told 4 1 5 (pos 0)
          ∷ told 1 4294967297 5 (pos 0)
          ∷ [];
      previews =
          showing slots_booking 3 3 2 8 4 4
          ∷ showing slots_booking 1 3 1 8 3 3
          ∷ showing rate_booking 3 1 11111111 0 2 2
          ∷ showing rate_booking 1 2 17745216 8 3 1
          ∷ showing slots_release 2 1 1 10 0 0
          ∷ showing slots_release 1 2 1 10 0 0
          ∷ showing rate_release 3 1 33333336 10 0 0
          ∷ showing rate_release 3 1 36450413 10 0 0
          ∷ showing slots_booking 4294967297 1 1 5 0 0
          ∷ showing slots_booking 3 1 4 6 0 0
          ∷ [];
    }

pub agrees_13 : first_wrong list_13 ≡ 0
unfolding first_wrong entries apply Direct.start Direct.tick Pipelined.start Pipelined.tick book_words rate_words release_words release_rate_words headroom_refusal Preview.preview arrive_words into_frame sharing_fit booking bookings row_sum column_sum sum first_from some_of word port_word
agrees_13 = refl

pub headroom_13 : first_wrong_headroom list_13 ≡ 0
unfolding first_wrong_headroom final headroom_result pair_headroom headroom_over apply Direct.start Direct.tick Pipelined.start Pipelined.tick book_words rate_words release_words release_rate_words headroom_refusal Preview.preview arrive_words into_frame sharing_fit booking bookings row_sum column_sum sum first_from some_of word port_word
headroom_13 = refl

pub preview_13 : first_wrong_preview list_13 ≡ 0
unfolding first_wrong_preview final apply Direct.start Direct.tick Pipelined.start Pipelined.tick book_words rate_words release_words release_rate_words headroom_refusal Preview.preview arrive_words into_frame sharing_fit booking bookings row_sum column_sum sum first_from some_of word port_word
preview_13 = refl

abbrev list_14 : Case
list_14 =
    record {
      switch =
          record {
            clock = clock_of 2 10001 1 1000 0;
            book = book_of (7 ∷ 2 ∷ 101 ∷ 2 ∷ 4 ∷ 102 ∷ 1 ∷ 1 ∷ 1 ∷ []) (1 ∷ 2 ∷ 101 ∷ 4 ∷ 7 ∷ 2 ∷ 101 ∷ 1 ∷ 2 ∷ []);
            credits = 4 ∷ 7 ∷ 3 ∷ 103 ∷ 104 ∷ 101 ∷ 4 ∷ 4 ∷ 2 ∷ [];
            queues = 4 ∷ 102 ∷ 102 ∷ 4 ∷ 101 ∷ 1 ∷ 2 ∷ 104 ∷ 1 ∷ [];
            given = 2 ∷ 2 ∷ 103 ∷ [];
            copy = 7 ∷ 101 ∷ 2 ∷ 2 ∷ 1 ∷ 101 ∷ 103 ∷ 104 ∷ 1 ∷ [];
            flight = 103 ∷ 1 ∷ 4 ∷ 2 ∷ 1 ∷ 2 ∷ 103 ∷ 3 ∷ 2 ∷ 2 ∷ 1 ∷ 101 ∷ 2 ∷ 103 ∷ 3 ∷ 101 ∷ 7 ∷ 7 ∷ [];
          };
      calls =
          start direct 2 3 0 plain
          ∷ book_rate 2 1 1
          ∷ book_rate 2 1 1
          ∷ book_rate 2 1 1
          ∷ book_rate 2 2 1
          ∷ book_rate 2 2 1
          ∷ book_rate 2 2 1
          ∷ book_rate 2 2 1
          ∷ arrive 1 1 3
          ∷ arrive 1 1 4
          ∷ arrive 2 1 2
          ∷ arrive 2 1 2
          ∷ arrive 1 2 2
          ∷ arrive 1 2 3
          ∷ tick direct
          ∷ arrive 2 1 5
          ∷ book_rate 2 2 1
          ∷ tick direct
          ∷ tick direct
          ∷ tick direct
          ∷ book_rate 2 2 1
          ∷ start direct 2 0 0 fine
          ∷ arrive 1 2 5
          ∷ book 2 1 2
          ∷ tick direct
          ∷ headroom 1 2
          ∷ tick direct
          ∷ release_rate 2 1 1
          ∷ preview slots_release 2 1 1
          ∷ arrive 1 2 5
          ∷ preview slots_booking 1 2 1
          ∷ tick direct
          ∷ arrive 1 2 4
          ∷ arrive 2 2 5
          ∷ preview slots_release 2 1 1
          ∷ preview rate_release 2 2 1
          ∷ tick direct
          ∷ book 1 2 1
          ∷ tick direct
          ∷ tick direct
          ∷ release_rate 1 1 1
          ∷ tick direct
          ∷ book 1 2 1
          ∷ release_rate 1 1 1
          ∷ book 2 1 1
          ∷ tick direct
          ∷ tick direct
          ∷ tick direct
          ∷ release_rate 1 2 1
          ∷ tick direct
          ∷ tick direct
          ∷ tick direct
          ∷ arrive 1 1 3
          ∷ book_rate 1 1 1
          ∷ book_rate 1 1 1
          ∷ tick direct
          ∷ tick direct
          ∷ arrive 2 2 2
          ∷ release_rate 2 2 1
          ∷ tick direct
          ∷ tick direct
          ∷ arrive 2 1 5
          ∷ start direct 5 32 0 fine
          ∷ tick direct
          ∷ tick direct
          ∷ tick direct
          ∷ [];
      expected =
          claim 1 1 1 0 0 3 0
          ∷ claim 1 1 4 0 0 3 0
          ∷ claim 1 1 7 0 2 3 0
          ∷ claim 1 1 10 0 3 3 0
          ∷ claim 1 1 13 0 4 3 0
          ∷ claim 1 1 16 0 4 3 0
          ∷ claim 1 1 19 0 4 3 0
          ∷ claim 1 1 22 0 4 3 0
          ∷ claim 1 2 1 0 0 3 0
          ∷ claim 1 2 4 0 0 3 0
          ∷ claim 1 2 7 0 0 3 0
          ∷ claim 1 2 10 1 0 3 1
          ∷ claim 1 2 13 2 0 3 2
          ∷ claim 1 2 16 2 0 3 2
          ∷ claim 1 2 19 2 0 3 2
          ∷ claim 1 2 22 2 0 3 2
          ∷ claim 2 1 1 0 0 3 0
          ∷ claim 2 1 4 0 0 3 0
          ∷ claim 2 1 7 2 0 3 2
          ∷ claim 2 1 10 2 0 3 2
          ∷ claim 2 1 13 2 0 2 2
          ∷ claim 2 1 16 2 0 0 0
          ∷ claim 2 1 19 2 0 0 0
          ∷ claim 2 1 22 2 0 3 2
          ∷ claim 2 2 1 0 0 0 0
          ∷ claim 2 2 4 0 0 0 0
          ∷ claim 2 2 7 0 2 2 0
          ∷ claim 2 2 10 0 3 3 0
          ∷ claim 2 2 13 0 4 3 0
          ∷ claim 2 2 16 0 4 3 0
          ∷ claim 2 2 19 0 4 3 0
          ∷ claim 2 2 22 0 4 3 0
          ∷ [];
      headrooms =
          told 1 1 0 (negsuc 0)
          ∷ told 1 2 0 (pos 1)
          ∷ told 2 1 0 (pos 1)
          ∷ told 2 2 0 (negsuc 0)
          ∷ told 3 1 5 (pos 0)
          ∷ told 1 0 5 (pos 0)
          ∷ [];
      previews =
          showing slots_booking 2 1 1 8 3 3
          ∷ showing slots_booking 1 1 1 8 3 3
          ∷ showing rate_booking 1 2 1 6 0 0
          ∷ showing rate_booking 2 1 1 6 0 0
          ∷ showing slots_release 2 1 1 0 1 1
          ∷ showing slots_release 1 2 1 0 1 1
          ∷ showing rate_release 2 1 1 6 0 0
          ∷ showing rate_release 1 2 1 6 0 0
          ∷ showing rate_release 3 2 1 5 0 0
          ∷ showing rate_release 1 2 1 6 0 0
          ∷ [];
    }

pub agrees_14 : first_wrong list_14 ≡ 0
unfolding first_wrong entries apply Direct.start Direct.tick Pipelined.start Pipelined.tick book_words rate_words release_words release_rate_words headroom_refusal Preview.preview arrive_words into_frame sharing_fit booking bookings row_sum column_sum sum first_from some_of word port_word
agrees_14 = refl

pub headroom_14 : first_wrong_headroom list_14 ≡ 0
unfolding first_wrong_headroom final headroom_result pair_headroom headroom_over apply Direct.start Direct.tick Pipelined.start Pipelined.tick book_words rate_words release_words release_rate_words headroom_refusal Preview.preview arrive_words into_frame sharing_fit booking bookings row_sum column_sum sum first_from some_of word port_word
headroom_14 = refl

pub preview_14 : first_wrong_preview list_14 ≡ 0
unfolding first_wrong_preview final apply Direct.start Direct.tick Pipelined.start Pipelined.tick book_words rate_words release_words release_rate_words headroom_refusal Preview.preview arrive_words into_frame sharing_fit booking bookings row_sum column_sum sum first_from some_of word port_word
preview_14 = refl

abbrev list_15 : Case
list_15 =
    record {
      switch =
          record {
            clock = clock_of 33 1 1 100000001 7;
            book = book_of (7 ∷ 4 ∷ 103 ∷ 103 ∷ 104 ∷ 2 ∷ 101 ∷ 104 ∷ 2 ∷ []) (4 ∷ 104 ∷ 4 ∷ 7 ∷ 104 ∷ 4 ∷ 7 ∷ 1 ∷ 1 ∷ []);
            credits = 101 ∷ 103 ∷ 2 ∷ 103 ∷ 103 ∷ 2 ∷ 2 ∷ 3 ∷ 1 ∷ [];
            queues = 1 ∷ 104 ∷ 7 ∷ 7 ∷ 104 ∷ 1 ∷ 1 ∷ 104 ∷ 4 ∷ [];
            given = 104 ∷ 4 ∷ 3 ∷ [];
            copy = 1 ∷ 102 ∷ 1 ∷ 3 ∷ 7 ∷ 3 ∷ 2 ∷ 103 ∷ 104 ∷ [];
            flight = 1 ∷ 7 ∷ 2 ∷ 4 ∷ 102 ∷ 2 ∷ 101 ∷ 1 ∷ 7 ∷ 3 ∷ 102 ∷ 104 ∷ 103 ∷ 102 ∷ 103 ∷ 7 ∷ 2 ∷ 7 ∷ [];
          };
      calls =
          start pipelined 3 6 1000 plain
          ∷ book 1 3 1
          ∷ book_rate 1 2 56
          ∷ book_rate 1 2 55
          ∷ book_rate 1 2 166
          ∷ book_rate 1 2 56
          ∷ book_rate 3 2 112
          ∷ book_rate 3 2 111
          ∷ book_rate 3 2 167
          ∷ book_rate 3 2 56
          ∷ book_rate 3 2 56
          ∷ arrive 1 1 54
          ∷ arrive 1 3 69
          ∷ arrive 3 2 74
          ∷ arrive 2 1 59
          ∷ arrive 3 3 69
          ∷ arrive 1 1 53
          ∷ arrive 1 3 75
          ∷ arrive 3 3 60
          ∷ arrive 3 2 80
          ∷ arrive 1 2 75
          ∷ arrive 1 1 78
          ∷ arrive 3 3 62
          ∷ arrive 3 1 47
          ∷ tick pipelined
          ∷ headroom 3 3
          ∷ arrive 1 2 75
          ∷ book 1 2 3
          ∷ tick pipelined
          ∷ release_rate 1 2 55
          ∷ tick pipelined
          ∷ preview rate_release 2 3 1
          ∷ release 0 2 1
          ∷ tick pipelined
          ∷ tick pipelined
          ∷ tick pipelined
          ∷ book_rate 1 3 55
          ∷ start pipelined 25 32 1000 fine
          ∷ book_rate 3 1 56
          ∷ book_rate 1 2 112
          ∷ preview rate_booking 1 2 111
          ∷ arrive 2 1 50
          ∷ book 3 3 1
          ∷ arrive 2 3 75
          ∷ tick pipelined
          ∷ tick pipelined
          ∷ tick pipelined
          ∷ preview rate_release 1 2 278
          ∷ release_rate 3 2 112
          ∷ tick pipelined
          ∷ tick pipelined
          ∷ book_rate 1 2 166
          ∷ tick pipelined
          ∷ tick pipelined
          ∷ tick pipelined
          ∷ tick pipelined
          ∷ preview slots_release 3 3 1
          ∷ tick pipelined
          ∷ release 1 3 2
          ∷ book_rate 1 1 55
          ∷ tick pipelined
          ∷ arrive 1 2 80
          ∷ tick pipelined
          ∷ tick pipelined
          ∷ tick pipelined
          ∷ release_rate 1 2 279
          ∷ release 1 1 0
          ∷ tick pipelined
          ∷ arrive 3 1 83
          ∷ release 3 3 1
          ∷ tick pipelined
          ∷ [];
      expected =
          claim 1 1 1 0 0 0 0
          ∷ claim 1 1 7 0 3 6 0
          ∷ claim 1 1 13 0 4 6 0
          ∷ claim 1 1 19 0 4 5 0
          ∷ claim 1 2 1 0 0 0 0
          ∷ claim 1 2 7 2 2 6 2
          ∷ claim 1 2 13 2 2 6 2
          ∷ claim 1 2 19 2 1 5 2
          ∷ claim 1 3 1 0 0 0 0
          ∷ claim 1 3 7 1 2 6 1
          ∷ claim 1 3 13 1 3 6 1
          ∷ claim 1 3 19 1 3 5 1
          ∷ claim 2 1 1 0 0 0 0
          ∷ claim 2 1 7 0 0 6 0
          ∷ claim 2 1 13 0 1 6 0
          ∷ claim 2 1 19 0 1 5 0
          ∷ claim 2 2 1 0 0 0 0
          ∷ claim 2 2 7 0 3 0 0
          ∷ claim 2 2 13 0 3 0 0
          ∷ claim 2 2 19 0 2 0 0
          ∷ claim 2 3 1 0 0 0 0
          ∷ claim 2 3 7 0 1 1 0
          ∷ claim 2 3 13 0 2 6 0
          ∷ claim 2 3 19 0 2 5 0
          ∷ claim 3 1 1 0 0 0 0
          ∷ claim 3 1 7 0 1 6 0
          ∷ claim 3 1 13 1 2 6 1
          ∷ claim 3 1 19 1 1 5 1
          ∷ claim 3 2 1 0 0 0 0
          ∷ claim 3 2 7 1 2 6 1
          ∷ claim 3 2 13 1 4 6 1
          ∷ claim 3 2 19 0 4 5 0
          ∷ claim 3 3 1 0 0 0 0
          ∷ claim 3 3 7 0 2 6 0
          ∷ claim 3 3 13 1 3 6 1
          ∷ claim 3 3 19 1 2 5 1
          ∷ [];
      headrooms =
          told 1 1 0 (pos 2)
          ∷ told 1 2 0 (pos 3)
          ∷ told 1 3 0 (pos 3)
          ∷ told 2 1 0 (pos 5)
          ∷ told 2 2 0 (pos 4)
          ∷ told 2 3 0 (pos 5)
          ∷ told 3 1 0 (pos 5)
          ∷ told 3 2 0 (pos 3)
          ∷ told 3 3 0 (pos 4)
          ∷ told 4 1 5 (pos 0)
          ∷ told 1 4294967297 5 (pos 0)
          ∷ [];
      previews =
          showing slots_booking 3 3 1 0 2 2
          ∷ showing slots_booking 1 2 1 8 4 3
          ∷ showing rate_booking 3 3 111 0 2 2
          ∷ showing rate_booking 3 3 390 8 4 4
          ∷ showing slots_release 1 3 1 0 2 0
          ∷ showing slots_release 1 3 3 10 0 0
          ∷ showing rate_release 3 1 56 0 0 0
          ∷ showing rate_release 1 2 371 10 0 0
          ∷ showing rate_booking 0 1 1 5 0 0
          ∷ showing rate_release 3 1 0 6 0 0
          ∷ [];
    }

pub agrees_15 : first_wrong list_15 ≡ 0
unfolding first_wrong entries apply Direct.start Direct.tick Pipelined.start Pipelined.tick book_words rate_words release_words release_rate_words headroom_refusal Preview.preview arrive_words into_frame sharing_fit booking bookings row_sum column_sum sum first_from some_of word port_word
agrees_15 = refl

pub headroom_15 : first_wrong_headroom list_15 ≡ 0
unfolding first_wrong_headroom final headroom_result pair_headroom headroom_over apply Direct.start Direct.tick Pipelined.start Pipelined.tick book_words rate_words release_words release_rate_words headroom_refusal Preview.preview arrive_words into_frame sharing_fit booking bookings row_sum column_sum sum first_from some_of word port_word
headroom_15 = refl

pub preview_15 : first_wrong_preview list_15 ≡ 0
unfolding first_wrong_preview final apply Direct.start Direct.tick Pipelined.start Pipelined.tick book_words rate_words release_words release_rate_words headroom_refusal Preview.preview arrive_words into_frame sharing_fit booking bookings row_sum column_sum sum first_from some_of word port_word
preview_15 = refl

abbrev list_16 : Case
list_16 =
    record {
      switch =
          record {
            clock = clock_of 33 5 77 1000 0;
            book = book_of (2 ∷ 1 ∷ 2 ∷ 103 ∷ 102 ∷ 101 ∷ 2 ∷ 1 ∷ 4 ∷ []) (4 ∷ 1 ∷ 3 ∷ 4 ∷ 1 ∷ 101 ∷ 102 ∷ 7 ∷ 1 ∷ []);
            credits = 101 ∷ 4 ∷ 4 ∷ 2 ∷ 4 ∷ 104 ∷ 3 ∷ 102 ∷ 3 ∷ [];
            queues = 1 ∷ 7 ∷ 2 ∷ 101 ∷ 103 ∷ 7 ∷ 102 ∷ 2 ∷ 102 ∷ [];
            given = 3 ∷ 103 ∷ 104 ∷ [];
            copy = 2 ∷ 101 ∷ 2 ∷ 7 ∷ 4 ∷ 103 ∷ 102 ∷ 1 ∷ 2 ∷ [];
            flight = 4 ∷ 2 ∷ 101 ∷ 1 ∷ 104 ∷ 102 ∷ 7 ∷ 101 ∷ 1 ∷ 1 ∷ 1 ∷ 103 ∷ 7 ∷ 102 ∷ 104 ∷ 103 ∷ 3 ∷ 103 ∷ [];
          };
      calls =
          start direct 1 5 0 fine
          ∷ book_rate 1 1 1
          ∷ book_rate 1 1 1
          ∷ book_rate 1 1 1
          ∷ book_rate 1 1 1
          ∷ arrive 1 1 65
          ∷ release 1 1 1
          ∷ tick direct
          ∷ tick direct
          ∷ tick direct
          ∷ tick direct
          ∷ tick direct
          ∷ tick direct
          ∷ tick direct
          ∷ tick direct
          ∷ tick direct
          ∷ tick direct
          ∷ tick direct
          ∷ book 1 1 1
          ∷ tick direct
          ∷ arrive 4294967297 1 1
          ∷ arrive 1 1 57
          ∷ release_rate 1 1 1
          ∷ tick direct
          ∷ release_rate 1 1 1
          ∷ tick direct
          ∷ tick direct
          ∷ book_rate 1 1 1
          ∷ book 1 1 1
          ∷ tick direct
          ∷ preview rate_release 1 1 1
          ∷ tick direct
          ∷ tick direct
          ∷ tick direct
          ∷ tick direct
          ∷ tick direct
          ∷ [];
      expected =
          claim 1 1 1 0 0 5 0
          ∷ claim 1 1 6 0 0 5 0
          ∷ claim 1 1 11 0 0 5 0
          ∷ claim 1 1 16 2 0 5 2
          ∷ claim 1 1 21 2 0 1 1
          ∷ [];
      headrooms =
          told 1 1 0 (pos 3)
          ∷ told 2 1 5 (pos 0)
          ∷ told 1 0 5 (pos 0)
          ∷ [];
      previews =
          showing slots_booking 1 1 1 0 3 3
          ∷ showing slots_booking 1 1 2 0 4 4
          ∷ showing rate_booking 1 1 1 6 0 0
          ∷ showing rate_booking 1 1 1 6 0 0
          ∷ showing slots_release 1 1 1 0 1 1
          ∷ showing slots_release 1 1 3 10 0 0
          ∷ showing rate_release 1 1 1 6 0 0
          ∷ showing rate_release 1 1 1 6 0 0
          ∷ showing rate_release 2 1 1 5 0 0
          ∷ showing rate_release 1 1 0 6 0 0
          ∷ [];
    }

pub agrees_16 : first_wrong list_16 ≡ 0
unfolding first_wrong entries apply Direct.start Direct.tick Pipelined.start Pipelined.tick book_words rate_words release_words release_rate_words headroom_refusal Preview.preview arrive_words into_frame sharing_fit booking bookings row_sum column_sum sum first_from some_of word port_word
agrees_16 = refl

pub headroom_16 : first_wrong_headroom list_16 ≡ 0
unfolding first_wrong_headroom final headroom_result pair_headroom headroom_over apply Direct.start Direct.tick Pipelined.start Pipelined.tick book_words rate_words release_words release_rate_words headroom_refusal Preview.preview arrive_words into_frame sharing_fit booking bookings row_sum column_sum sum first_from some_of word port_word
headroom_16 = refl

pub preview_16 : first_wrong_preview list_16 ≡ 0
unfolding first_wrong_preview final apply Direct.start Direct.tick Pipelined.start Pipelined.tick book_words rate_words release_words release_rate_words headroom_refusal Preview.preview arrive_words into_frame sharing_fit booking bookings row_sum column_sum sum first_from some_of word port_word
preview_16 = refl

abbrev list_17 : Case
list_17 =
    record {
      switch =
          record {
            clock = clock_of 3 5 1 100000001 0;
            book = book_of (2 ∷ 101 ∷ 7 ∷ 104 ∷ 1 ∷ 104 ∷ 4 ∷ 104 ∷ 1 ∷ []) (101 ∷ 2 ∷ 3 ∷ 4 ∷ 104 ∷ 2 ∷ 7 ∷ 4 ∷ 7 ∷ []);
            credits = 7 ∷ 2 ∷ 103 ∷ 103 ∷ 104 ∷ 1 ∷ 4 ∷ 1 ∷ 1 ∷ [];
            queues = 1 ∷ 103 ∷ 101 ∷ 1 ∷ 102 ∷ 104 ∷ 4 ∷ 1 ∷ 7 ∷ [];
            given = 104 ∷ 1 ∷ 7 ∷ [];
            copy = 4 ∷ 2 ∷ 102 ∷ 101 ∷ 2 ∷ 102 ∷ 101 ∷ 7 ∷ 102 ∷ [];
            flight = 4 ∷ 3 ∷ 4 ∷ 102 ∷ 2 ∷ 4 ∷ 103 ∷ 104 ∷ 102 ∷ 3 ∷ 102 ∷ 1 ∷ 1 ∷ 7 ∷ 7 ∷ 1 ∷ 1 ∷ 2 ∷ [];
          };
      calls =
          start pipelined 2 7 1000 plain
          ∷ book_rate 2 2 48
          ∷ book_rate 2 2 48
          ∷ book_rate 2 2 47
          ∷ book_rate 2 1 142
          ∷ book_rate 2 1 96
          ∷ book_rate 2 1 48
          ∷ book_rate 2 1 142
          ∷ arrive 1 1 65535
          ∷ arrive 1 1 65535
          ∷ arrive 1 1 65535
          ∷ arrive 1 1 65535
          ∷ arrive 1 1 65535
          ∷ arrive 1 1 65535
          ∷ arrive 1 1 65535
          ∷ arrive 1 1 65535
          ∷ arrive 1 1 65535
          ∷ arrive 1 1 65535
          ∷ arrive 1 1 65535
          ∷ arrive 1 1 65535
          ∷ arrive 1 1 65535
          ∷ arrive 1 1 65535
          ∷ arrive 1 1 65535
          ∷ arrive 1 1 16976
          ∷ arrive 1 1 16975
          ∷ arrive 1 1 1
          ∷ arrive 1 2 4
          ∷ arrive 1 1 3
          ∷ release_rate 2 2 143
          ∷ tick pipelined
          ∷ arrive 2 2 5
          ∷ release_rate 2 1 95
          ∷ tick pipelined
          ∷ tick pipelined
          ∷ start pipelined 1 2 100000000 plain
          ∷ book_rate 1 1 16666666
          ∷ arrive 1 1 65535
          ∷ arrive 1 1 65535
          ∷ arrive 1 1 65535
          ∷ arrive 1 1 65535
          ∷ arrive 1 1 65535
          ∷ arrive 1 1 65535
          ∷ arrive 1 1 65535
          ∷ arrive 1 1 65535
          ∷ arrive 1 1 65535
          ∷ arrive 1 1 65535
          ∷ arrive 1 1 65535
          ∷ arrive 1 1 65535
          ∷ arrive 1 1 65535
          ∷ arrive 1 1 65535
          ∷ arrive 1 1 65535
          ∷ arrive 1 1 16976
          ∷ arrive 1 1 16975
          ∷ arrive 1 1 1
          ∷ arrive 1 1 7
          ∷ arrive 1 1 65536
          ∷ tick pipelined
          ∷ tick pipelined
          ∷ tick pipelined
          ∷ release_rate 1 1 16666666
          ∷ release_rate 1 1 1
          ∷ tick pipelined
          ∷ arrive 1 1 10
          ∷ arrive 1 1 11
          ∷ tick pipelined
          ∷ arrive 1 1 8
          ∷ tick pipelined
          ∷ arrive 1 1 8
          ∷ tick pipelined
          ∷ book_rate 1 1 33333333
          ∷ tick pipelined
          ∷ book_rate 1 1 16666666
          ∷ release 1 1 1
          ∷ tick pipelined
          ∷ preview slots_release 1 1 1
          ∷ tick pipelined
          ∷ arrive 1 1 6
          ∷ release_rate 1 1 50000000
          ∷ preview slots_release 1 1 1
          ∷ tick pipelined
          ∷ headroom 1 1
          ∷ release 1 1 1
          ∷ tick pipelined
          ∷ tick pipelined
          ∷ headroom 1 1
          ∷ book 1 1 1
          ∷ release_rate 1 1 50000000
          ∷ book 1 1 1
          ∷ arrive 1 1 8
          ∷ tick pipelined
          ∷ release_rate 1 1 16666666
          ∷ tick pipelined
          ∷ [];
      expected =
          claim 1 1 1 0 0 0 0
          ∷ claim 1 1 3 1 0 2 1
          ∷ claim 1 1 5 1 0 2 1
          ∷ claim 1 1 7 0 0 2 0
          ∷ claim 1 1 9 0 0 2 0
          ∷ claim 1 1 11 1 0 2 1
          ∷ claim 1 1 13 1 0 2 1
          ∷ claim 1 1 15 1 0 2 1
          ∷ [];
      headrooms =
          told 1 1 0 (pos 1)
          ∷ told 2 1 5 (pos 0)
          ∷ told 1 0 5 (pos 0)
          ∷ [];
      previews =
          showing slots_booking 1 1 1 8 2 2
          ∷ showing slots_booking 1 1 1 8 2 2
          ∷ showing rate_booking 1 1 16666666 0 1 1
          ∷ showing rate_booking 1 1 17395377 8 2 2
          ∷ showing slots_release 1 1 1 10 0 0
          ∷ showing slots_release 1 1 1 10 0 0
          ∷ showing rate_release 1 1 16666667 0 1 1
          ∷ showing rate_release 1 1 28158294 0 1 1
          ∷ showing rate_booking 1 2 1 5 0 0
          ∷ showing rate_release 1 1 100000001 6 0 0
          ∷ [];
    }

pub agrees_17 : first_wrong list_17 ≡ 0
unfolding first_wrong entries apply Direct.start Direct.tick Pipelined.start Pipelined.tick book_words rate_words release_words release_rate_words headroom_refusal Preview.preview arrive_words into_frame sharing_fit booking bookings row_sum column_sum sum first_from some_of word port_word
agrees_17 = refl

pub headroom_17 : first_wrong_headroom list_17 ≡ 0
unfolding first_wrong_headroom final headroom_result pair_headroom headroom_over apply Direct.start Direct.tick Pipelined.start Pipelined.tick book_words rate_words release_words release_rate_words headroom_refusal Preview.preview arrive_words into_frame sharing_fit booking bookings row_sum column_sum sum first_from some_of word port_word
headroom_17 = refl

pub preview_17 : first_wrong_preview list_17 ≡ 0
unfolding first_wrong_preview final apply Direct.start Direct.tick Pipelined.start Pipelined.tick book_words rate_words release_words release_rate_words headroom_refusal Preview.preview arrive_words into_frame sharing_fit booking bookings row_sum column_sum sum first_from some_of word port_word
preview_17 = refl

abbrev list_18 : Case
list_18 =
    record {
      switch =
          record {
            clock = clock_of 9 5 0 0 0;
            book = book_of (1 ∷ 102 ∷ 101 ∷ 7 ∷ 1 ∷ 3 ∷ 2 ∷ 101 ∷ 4 ∷ []) (101 ∷ 7 ∷ 103 ∷ 103 ∷ 1 ∷ 102 ∷ 1 ∷ 2 ∷ 1 ∷ []);
            credits = 104 ∷ 101 ∷ 101 ∷ 104 ∷ 4 ∷ 101 ∷ 1 ∷ 2 ∷ 7 ∷ [];
            queues = 101 ∷ 2 ∷ 104 ∷ 1 ∷ 104 ∷ 104 ∷ 2 ∷ 2 ∷ 4 ∷ [];
            given = 3 ∷ 3 ∷ 1 ∷ [];
            copy = 1 ∷ 104 ∷ 1 ∷ 3 ∷ 1 ∷ 4 ∷ 4 ∷ 104 ∷ 2 ∷ [];
            flight = 4 ∷ 1 ∷ 2 ∷ 3 ∷ 2 ∷ 1 ∷ 103 ∷ 4 ∷ 1 ∷ 102 ∷ 4 ∷ 104 ∷ 103 ∷ 1 ∷ 101 ∷ 1 ∷ 3 ∷ 2 ∷ [];
          };
      calls =
          start direct 2 4 99999999 plain
          ∷ book_rate 2 2 8333333
          ∷ book_rate 2 1 24999999
          ∷ book_rate 2 2 8333334
          ∷ book_rate 2 2 16666667
          ∷ arrive 1 2 61
          ∷ arrive 1 1 84
          ∷ arrive 2 2 56
          ∷ tick direct
          ∷ tick direct
          ∷ release_rate 2 1 25000000
          ∷ release_rate 1 1 1
          ∷ arrive 2 1 0
          ∷ book_rate 1 3 1
          ∷ book 2 2 1
          ∷ preview slots_release 2 1 1
          ∷ headroom 2 4294967297
          ∷ tick direct
          ∷ start direct 2 4 1000 plain
          ∷ book 2 1 1
          ∷ book_rate 2 1 83
          ∷ book_rate 2 1 250
          ∷ book_rate 1 2 166
          ∷ book_rate 1 2 84
          ∷ book_rate 1 2 83
          ∷ book_rate 2 1 83
          ∷ book_rate 2 1 83
          ∷ book_rate 2 1 167
          ∷ book_rate 2 1 167
          ∷ arrive 2 1 1
          ∷ arrive 1 1 2
          ∷ start direct 2 0 1000 fine
          ∷ tick direct
          ∷ headroom 2 1
          ∷ book_rate 2 2 84
          ∷ tick direct
          ∷ tick direct
          ∷ release_rate 1 2 334
          ∷ book_rate 1 1 83
          ∷ preview rate_booking 1 2 83
          ∷ arrive 1 1 1
          ∷ arrive 1 1 1
          ∷ tick direct
          ∷ book 1 2 1
          ∷ arrive 1 1 1
          ∷ preview rate_release 2 1 83
          ∷ tick direct
          ∷ tick direct
          ∷ book 1 2 2
          ∷ tick direct
          ∷ arrive 1 1 1
          ∷ tick direct
          ∷ release_rate 2 1 250
          ∷ preview slots_release 2 1 1
          ∷ tick direct
          ∷ tick direct
          ∷ arrive 1 2 1
          ∷ arrive 1 1 2
          ∷ tick direct
          ∷ tick direct
          ∷ tick direct
          ∷ start direct 2 10001 1000 fine
          ∷ book 1 0 1
          ∷ headroom 2 2
          ∷ tick direct
          ∷ tick direct
          ∷ [];
      expected =
          claim 1 1 1 0 4 4 0
          ∷ claim 1 1 5 0 4 3 0
          ∷ claim 1 1 9 0 4 2 0
          ∷ claim 1 1 13 0 4 1 0
          ∷ claim 1 2 1 2 0 0 0
          ∷ claim 1 2 5 2 0 0 0
          ∷ claim 1 2 9 2 0 1 1
          ∷ claim 1 2 13 2 0 0 0
          ∷ claim 2 1 1 2 0 1 1
          ∷ claim 2 1 5 2 0 0 0
          ∷ claim 2 1 9 2 0 0 0
          ∷ claim 2 1 13 2 0 0 0
          ∷ claim 2 2 1 0 4 0 0
          ∷ claim 2 2 5 0 4 0 0
          ∷ claim 2 2 9 0 4 0 0
          ∷ claim 2 2 13 0 4 0 0
          ∷ [];
      headrooms =
          told 1 1 0 (pos 0)
          ∷ told 1 2 0 (pos 2)
          ∷ told 2 1 0 (pos 2)
          ∷ told 2 2 0 (pos 0)
          ∷ told 3 1 5 (pos 0)
          ∷ told 1 4294967297 5 (pos 0)
          ∷ [];
      previews =
          showing slots_booking 2 1 2 8 4 4
          ∷ showing slots_booking 2 1 1 8 3 3
          ∷ showing rate_booking 2 2 83 8 3 3
          ∷ showing rate_booking 1 1 33 8 3 3
          ∷ showing slots_release 2 1 1 0 1 1
          ∷ showing slots_release 2 1 1 0 1 1
          ∷ showing rate_release 2 2 1 10 0 0
          ∷ showing rate_release 2 2 393 10 0 0
          ∷ showing rate_booking 0 1 1 5 0 0
          ∷ showing rate_release 2 1 0 6 0 0
          ∷ [];
    }

pub agrees_18 : first_wrong list_18 ≡ 0
unfolding first_wrong entries apply Direct.start Direct.tick Pipelined.start Pipelined.tick book_words rate_words release_words release_rate_words headroom_refusal Preview.preview arrive_words into_frame sharing_fit booking bookings row_sum column_sum sum first_from some_of word port_word
agrees_18 = refl

pub headroom_18 : first_wrong_headroom list_18 ≡ 0
unfolding first_wrong_headroom final headroom_result pair_headroom headroom_over apply Direct.start Direct.tick Pipelined.start Pipelined.tick book_words rate_words release_words release_rate_words headroom_refusal Preview.preview arrive_words into_frame sharing_fit booking bookings row_sum column_sum sum first_from some_of word port_word
headroom_18 = refl

pub preview_18 : first_wrong_preview list_18 ≡ 0
unfolding first_wrong_preview final apply Direct.start Direct.tick Pipelined.start Pipelined.tick book_words rate_words release_words release_rate_words headroom_refusal Preview.preview arrive_words into_frame sharing_fit booking bookings row_sum column_sum sum first_from some_of word port_word
preview_18 = refl

abbrev list_19 : Case
list_19 =
    record {
      switch =
          record {
            clock = clock_of 0 0 77 1 7;
            book = book_of (3 ∷ 101 ∷ 104 ∷ 1 ∷ 4 ∷ 7 ∷ 2 ∷ 2 ∷ 102 ∷ []) (103 ∷ 2 ∷ 102 ∷ 101 ∷ 101 ∷ 2 ∷ 101 ∷ 103 ∷ 1 ∷ []);
            credits = 2 ∷ 4 ∷ 104 ∷ 103 ∷ 2 ∷ 102 ∷ 1 ∷ 1 ∷ 1 ∷ [];
            queues = 3 ∷ 104 ∷ 1 ∷ 103 ∷ 3 ∷ 102 ∷ 1 ∷ 7 ∷ 2 ∷ [];
            given = 1 ∷ 103 ∷ 103 ∷ [];
            copy = 101 ∷ 102 ∷ 101 ∷ 2 ∷ 1 ∷ 4 ∷ 1 ∷ 102 ∷ 4 ∷ [];
            flight = 4 ∷ 102 ∷ 2 ∷ 1 ∷ 7 ∷ 1 ∷ 103 ∷ 103 ∷ 104 ∷ 2 ∷ 3 ∷ 4 ∷ 3 ∷ 104 ∷ 104 ∷ 101 ∷ 7 ∷ 102 ∷ [];
          };
      calls =
          start pipelined 3 7 0 fine
          ∷ book_rate 1 3 1
          ∷ book_rate 1 3 1
          ∷ book_rate 1 3 1
          ∷ book_rate 1 3 1
          ∷ book_rate 2 2 1
          ∷ book_rate 2 2 1
          ∷ book_rate 2 2 1
          ∷ book_rate 1 2 1
          ∷ book_rate 1 2 1
          ∷ book_rate 1 2 1
          ∷ book_rate 3 1 1
          ∷ book_rate 3 1 1
          ∷ book_rate 3 1 1
          ∷ book_rate 1 1 1
          ∷ book_rate 2 1 1
          ∷ book 2 3 1
          ∷ arrive 2 2 72
          ∷ arrive 1 1 51
          ∷ arrive 2 1 88
          ∷ arrive 3 3 79
          ∷ arrive 2 3 49
          ∷ arrive 1 3 59
          ∷ headroom 2 3
          ∷ tick pipelined
          ∷ tick pipelined
          ∷ headroom 3 1
          ∷ start pipelined 3 2 0 plain
          ∷ tick pipelined
          ∷ tick pipelined
          ∷ arrive 2 1 61
          ∷ arrive 3 1 69
          ∷ tick pipelined
          ∷ arrive 1 2 0
          ∷ book 1 1 1
          ∷ tick pipelined
          ∷ release 2 4294967297 1
          ∷ tick pipelined
          ∷ tick pipelined
          ∷ book_rate 0 2 1
          ∷ tick pipelined
          ∷ book_rate 2 2 1
          ∷ preview rate_release 1 2 1
          ∷ arrive 3 3 73
          ∷ start pipelined 3 7 100000001 plain
          ∷ tick pipelined
          ∷ release 1 1 1
          ∷ tick pipelined
          ∷ tick pipelined
          ∷ tick pipelined
          ∷ arrive 1 3 80
          ∷ arrive 3 1 61
          ∷ book 2 2 1
          ∷ tick pipelined
          ∷ tick pipelined
          ∷ release 2 3 1
          ∷ arrive 1 1 60
          ∷ book_rate 4294967297 2 1
          ∷ release_rate 1 3 1
          ∷ tick pipelined
          ∷ preview rate_booking 1 3 1
          ∷ arrive 3 3 75
          ∷ tick pipelined
          ∷ tick pipelined
          ∷ headroom 3 1
          ∷ arrive 3 3 58
          ∷ tick pipelined
          ∷ arrive 1 2 71
          ∷ tick pipelined
          ∷ [];
      expected =
          claim 1 1 1 0 0 1 0
          ∷ claim 1 1 8 0 0 7 0
          ∷ claim 1 1 15 1 0 7 1
          ∷ claim 1 2 1 0 0 0 0
          ∷ claim 1 2 8 0 0 0 0
          ∷ claim 1 2 15 0 1 0 0
          ∷ claim 1 3 1 0 0 1 0
          ∷ claim 1 3 8 0 1 7 0
          ∷ claim 1 3 15 0 2 7 0
          ∷ claim 2 1 1 0 0 1 0
          ∷ claim 2 1 8 0 1 7 0
          ∷ claim 2 1 15 0 2 7 0
          ∷ claim 2 2 1 0 0 1 0
          ∷ claim 2 2 8 0 1 7 0
          ∷ claim 2 2 15 0 1 7 0
          ∷ claim 2 3 1 0 0 1 0
          ∷ claim 2 3 8 1 0 7 1
          ∷ claim 2 3 15 1 0 7 1
          ∷ claim 3 1 1 0 0 0 0
          ∷ claim 3 1 8 0 0 6 0
          ∷ claim 3 1 15 0 1 7 0
          ∷ claim 3 2 1 0 0 0 0
          ∷ claim 3 2 8 0 0 0 0
          ∷ claim 3 2 15 0 0 0 0
          ∷ claim 3 3 1 0 0 1 0
          ∷ claim 3 3 8 0 1 7 0
          ∷ claim 3 3 15 0 1 7 0
          ∷ [];
      headrooms =
          told 1 1 0 (pos 7)
          ∷ told 1 2 0 (pos 6)
          ∷ told 1 3 0 (pos 7)
          ∷ told 2 1 0 (pos 6)
          ∷ told 2 2 0 (pos 6)
          ∷ told 2 3 0 (pos 6)
          ∷ told 3 1 0 (pos 7)
          ∷ told 3 2 0 (pos 6)
          ∷ told 3 3 0 (pos 7)
          ∷ told 4 1 5 (pos 0)
          ∷ told 1 0 5 (pos 0)
          ∷ [];
      previews =
          showing slots_booking 1 2 1 0 1 2
          ∷ showing slots_booking 1 2 3 0 3 4
          ∷ showing rate_booking 1 3 1 6 0 0
          ∷ showing rate_booking 1 2 1 6 0 0
          ∷ showing slots_release 2 2 1 0 0 0
          ∷ showing slots_release 2 2 4 10 0 0
          ∷ showing rate_release 3 1 1 6 0 0
          ∷ showing rate_release 2 1 1 6 0 0
          ∷ showing slots_booking 2 0 1 5 0 0
          ∷ showing rate_release 2 3 0 6 0 0
          ∷ [];
    }

pub agrees_19 : first_wrong list_19 ≡ 0
unfolding first_wrong entries apply Direct.start Direct.tick Pipelined.start Pipelined.tick book_words rate_words release_words release_rate_words headroom_refusal Preview.preview arrive_words into_frame sharing_fit booking bookings row_sum column_sum sum first_from some_of word port_word
agrees_19 = refl

pub headroom_19 : first_wrong_headroom list_19 ≡ 0
unfolding first_wrong_headroom final headroom_result pair_headroom headroom_over apply Direct.start Direct.tick Pipelined.start Pipelined.tick book_words rate_words release_words release_rate_words headroom_refusal Preview.preview arrive_words into_frame sharing_fit booking bookings row_sum column_sum sum first_from some_of word port_word
headroom_19 = refl

pub preview_19 : first_wrong_preview list_19 ≡ 0
unfolding first_wrong_preview final apply Direct.start Direct.tick Pipelined.start Pipelined.tick book_words rate_words release_words release_rate_words headroom_refusal Preview.preview arrive_words into_frame sharing_fit booking bookings row_sum column_sum sum first_from some_of word port_word
preview_19 = refl

abbrev list_20 : Case
list_20 =
    record {
      switch =
          record {
            clock = clock_of 0 2 1 0 0;
            book = book_of (101 ∷ 7 ∷ 1 ∷ 2 ∷ 1 ∷ 101 ∷ 2 ∷ 7 ∷ 4 ∷ []) (1 ∷ 1 ∷ 3 ∷ 1 ∷ 102 ∷ 101 ∷ 102 ∷ 101 ∷ 1 ∷ []);
            credits = 4 ∷ 101 ∷ 7 ∷ 101 ∷ 2 ∷ 2 ∷ 1 ∷ 4 ∷ 101 ∷ [];
            queues = 1 ∷ 2 ∷ 102 ∷ 103 ∷ 2 ∷ 102 ∷ 4 ∷ 2 ∷ 103 ∷ [];
            given = 1 ∷ 7 ∷ 4 ∷ [];
            copy = 101 ∷ 1 ∷ 1 ∷ 1 ∷ 3 ∷ 103 ∷ 101 ∷ 101 ∷ 101 ∷ [];
            flight = 104 ∷ 104 ∷ 104 ∷ 103 ∷ 102 ∷ 1 ∷ 2 ∷ 102 ∷ 2 ∷ 7 ∷ 7 ∷ 7 ∷ 104 ∷ 3 ∷ 2 ∷ 1 ∷ 103 ∷ 104 ∷ [];
          };
      calls =
          start direct 1 3 0 fine
          ∷ book_rate 1 1 1
          ∷ book_rate 1 1 1
          ∷ book_rate 1 1 1
          ∷ arrive 1 1 2
          ∷ tick direct
          ∷ tick direct
          ∷ tick direct
          ∷ arrive 1 1 4
          ∷ tick direct
          ∷ arrive 1 1 5
          ∷ tick direct
          ∷ tick direct
          ∷ tick direct
          ∷ release 1 1 2
          ∷ tick direct
          ∷ tick direct
          ∷ tick direct
          ∷ preview slots_booking 1 1 1
          ∷ book 1 1 1
          ∷ tick direct
          ∷ tick direct
          ∷ preview rate_release 1 1 1
          ∷ tick direct
          ∷ arrive 1 1 2
          ∷ tick direct
          ∷ preview rate_booking 1 1 1
          ∷ tick direct
          ∷ release 1 1 1
          ∷ tick direct
          ∷ [];
      expected =
          claim 1 1 1 0 0 2 0
          ∷ claim 1 1 4 0 0 3 0
          ∷ claim 1 1 7 0 0 3 0
          ∷ claim 1 1 10 0 0 3 0
          ∷ claim 1 1 13 1 0 2 1
          ∷ claim 1 1 16 0 0 0 0
          ∷ [];
      headrooms =
          told 1 1 0 (pos 3)
          ∷ told 2 1 5 (pos 0)
          ∷ told 1 4294967297 5 (pos 0)
          ∷ [];
      previews =
          showing slots_booking 1 1 1 0 1 1
          ∷ showing slots_booking 1 1 2 0 2 2
          ∷ showing rate_booking 1 1 1 6 0 0
          ∷ showing rate_booking 1 1 1 6 0 0
          ∷ showing slots_release 1 1 1 10 0 0
          ∷ showing slots_release 1 1 2 10 0 0
          ∷ showing rate_release 1 1 1 6 0 0
          ∷ showing rate_release 1 1 1 6 0 0
          ∷ showing rate_release 0 1 1 5 0 0
          ∷ showing rate_booking 1 1 1 6 0 0
          ∷ [];
    }

pub agrees_20 : first_wrong list_20 ≡ 0
unfolding first_wrong entries apply Direct.start Direct.tick Pipelined.start Pipelined.tick book_words rate_words release_words release_rate_words headroom_refusal Preview.preview arrive_words into_frame sharing_fit booking bookings row_sum column_sum sum first_from some_of word port_word
agrees_20 = refl

pub headroom_20 : first_wrong_headroom list_20 ≡ 0
unfolding first_wrong_headroom final headroom_result pair_headroom headroom_over apply Direct.start Direct.tick Pipelined.start Pipelined.tick book_words rate_words release_words release_rate_words headroom_refusal Preview.preview arrive_words into_frame sharing_fit booking bookings row_sum column_sum sum first_from some_of word port_word
headroom_20 = refl

pub preview_20 : first_wrong_preview list_20 ≡ 0
unfolding first_wrong_preview final apply Direct.start Direct.tick Pipelined.start Pipelined.tick book_words rate_words release_words release_rate_words headroom_refusal Preview.preview arrive_words into_frame sharing_fit booking bookings row_sum column_sum sum first_from some_of word port_word
preview_20 = refl

abbrev list_21 : Case
list_21 =
    record {
      switch =
          record {
            clock = clock_of 1 10001 0 1 0;
            book = book_of (102 ∷ 103 ∷ 102 ∷ 2 ∷ 2 ∷ 2 ∷ 3 ∷ 2 ∷ 1 ∷ []) (1 ∷ 104 ∷ 101 ∷ 102 ∷ 3 ∷ 102 ∷ 101 ∷ 1 ∷ 103 ∷ []);
            credits = 104 ∷ 4 ∷ 1 ∷ 2 ∷ 3 ∷ 2 ∷ 4 ∷ 104 ∷ 102 ∷ [];
            queues = 4 ∷ 7 ∷ 2 ∷ 104 ∷ 104 ∷ 101 ∷ 102 ∷ 2 ∷ 103 ∷ [];
            given = 7 ∷ 4 ∷ 3 ∷ [];
            copy = 104 ∷ 2 ∷ 2 ∷ 1 ∷ 102 ∷ 1 ∷ 4 ∷ 1 ∷ 1 ∷ [];
            flight = 1 ∷ 103 ∷ 7 ∷ 1 ∷ 1 ∷ 1 ∷ 4 ∷ 104 ∷ 1 ∷ 2 ∷ 101 ∷ 3 ∷ 4 ∷ 4 ∷ 2 ∷ 7 ∷ 101 ∷ 2 ∷ [];
          };
      calls =
          start pipelined 3 4 100000000 plain
          ∷ book_rate 2 2 8333333
          ∷ book_rate 2 2 8333334
          ∷ book_rate 1 3 8333333
          ∷ book_rate 1 3 8333333
          ∷ book_rate 2 2 8333333
          ∷ book_rate 2 2 8333333
          ∷ book_rate 3 2 16666666
          ∷ book_rate 3 2 8333333
          ∷ book_rate 3 2 8333334
          ∷ book_rate 1 2 8333333
          ∷ book 1 1 1
          ∷ arrive 1 3 2
          ∷ arrive 3 1 2
          ∷ arrive 1 2 1
          ∷ arrive 3 1 1
          ∷ arrive 3 2 2
          ∷ arrive 1 1 1
          ∷ arrive 2 1 2
          ∷ arrive 1 3 1
          ∷ arrive 1 2 2
          ∷ arrive 1 2 2
          ∷ arrive 2 1 1
          ∷ arrive 2 1 2
          ∷ tick pipelined
          ∷ arrive 1 1 1
          ∷ book_rate 2 2 16666666
          ∷ book_rate 2 3 8333333
          ∷ release 4 2 1
          ∷ headroom 4294967297 1
          ∷ tick pipelined
          ∷ book_rate 3 3 100000001
          ∷ arrive 1 1 2
          ∷ tick pipelined
          ∷ tick pipelined
          ∷ tick pipelined
          ∷ arrive 2 3 2
          ∷ tick pipelined
          ∷ tick pipelined
          ∷ book 2 1 1
          ∷ release_rate 3 2 0
          ∷ tick pipelined
          ∷ book_rate 1 3 25000000
          ∷ tick pipelined
          ∷ release_rate 2 3 0
          ∷ book_rate 3 3 8333333
          ∷ arrive 2 3 2
          ∷ tick pipelined
          ∷ arrive 1 2 1
          ∷ tick pipelined
          ∷ arrive 4 3 1
          ∷ release_rate 2 3 1
          ∷ preview rate_release 1 3 8333333
          ∷ tick pipelined
          ∷ tick pipelined
          ∷ release 1 1 1
          ∷ preview rate_release 3 3 8333333
          ∷ tick pipelined
          ∷ tick pipelined
          ∷ tick pipelined
          ∷ tick pipelined
          ∷ preview slots_booking 1 2 1
          ∷ tick pipelined
          ∷ arrive 2 2 2
          ∷ arrive 2 2 1
          ∷ tick pipelined
          ∷ tick pipelined
          ∷ tick pipelined
          ∷ arrive 3 2 1
          ∷ book_rate 1 1 0
          ∷ book 3 2 2
          ∷ arrive 2 2 2
          ∷ headroom 2 3
          ∷ arrive 3 1 2
          ∷ release_rate 2 2 8333333
          ∷ tick pipelined
          ∷ [];
      expected =
          claim 1 1 1 0 0 0 0
          ∷ claim 1 1 5 0 0 2 0
          ∷ claim 1 1 9 1 1 4 1
          ∷ claim 1 1 13 1 1 1 1
          ∷ claim 1 1 17 1 1 0 0
          ∷ claim 1 1 21 0 1 0 0
          ∷ claim 1 2 1 0 0 0 0
          ∷ claim 1 2 5 0 0 2 0
          ∷ claim 1 2 9 0 4 4 0
          ∷ claim 1 2 13 0 4 4 0
          ∷ claim 1 2 17 0 4 3 0
          ∷ claim 1 2 21 0 3 0 0
          ∷ claim 1 3 1 0 0 0 0
          ∷ claim 1 3 5 0 0 2 0
          ∷ claim 1 3 9 1 1 4 1
          ∷ claim 1 3 13 1 1 2 1
          ∷ claim 1 3 17 1 2 0 0
          ∷ claim 1 3 21 1 1 0 0
          ∷ claim 2 1 1 0 0 0 0
          ∷ claim 2 1 5 0 0 2 0
          ∷ claim 2 1 9 0 3 4 0
          ∷ claim 2 1 13 0 3 2 0
          ∷ claim 2 1 17 0 3 0 0
          ∷ claim 2 1 21 0 2 0 0
          ∷ claim 2 2 1 0 0 0 0
          ∷ claim 2 2 5 0 0 0 0
          ∷ claim 2 2 9 2 0 0 0
          ∷ claim 2 2 13 2 0 0 0
          ∷ claim 2 2 17 2 0 0 0
          ∷ claim 2 2 21 2 0 0 0
          ∷ claim 2 3 1 0 0 0 0
          ∷ claim 2 3 5 0 0 0 0
          ∷ claim 2 3 9 0 3 2 0
          ∷ claim 2 3 13 0 3 4 0
          ∷ claim 2 3 17 0 4 2 0
          ∷ claim 2 3 21 0 4 0 0
          ∷ claim 3 1 1 0 0 0 0
          ∷ claim 3 1 5 0 0 2 0
          ∷ claim 3 1 9 0 1 4 0
          ∷ claim 3 1 13 0 1 4 0
          ∷ claim 3 1 17 0 2 2 0
          ∷ claim 3 1 21 0 1 0 0
          ∷ claim 3 2 1 0 0 0 0
          ∷ claim 3 2 5 0 0 2 0
          ∷ claim 3 2 9 0 2 1 0
          ∷ claim 3 2 13 0 2 0 0
          ∷ claim 3 2 17 0 3 0 0
          ∷ claim 3 2 21 0 3 0 0
          ∷ claim 3 3 1 0 0 0 0
          ∷ claim 3 3 5 0 0 0 0
          ∷ claim 3 3 9 0 1 0 0
          ∷ claim 3 3 13 0 1 0 0
          ∷ claim 3 3 17 1 1 0 0
          ∷ claim 3 3 21 1 1 0 0
          ∷ [];
      headrooms =
          told 1 1 0 (pos 3)
          ∷ told 1 2 0 (pos 1)
          ∷ told 1 3 0 (pos 2)
          ∷ told 2 1 0 (pos 2)
          ∷ told 2 2 0 (pos 2)
          ∷ told 2 3 0 (pos 0)
          ∷ told 3 1 0 (pos 3)
          ∷ told 3 2 0 (pos 1)
          ∷ told 3 3 0 (pos 2)
          ∷ told 4 1 5 (pos 0)
          ∷ told 1 4294967297 5 (pos 0)
          ∷ [];
      previews =
          showing slots_booking 1 2 2 8 3 4
          ∷ showing slots_booking 1 3 2 8 3 4
          ∷ showing rate_booking 2 2 16666666 8 3 3
          ∷ showing rate_booking 1 2 49573456 8 3 4
          ∷ showing slots_release 2 1 1 10 0 0
          ∷ showing slots_release 2 1 1 10 0 0
          ∷ showing rate_release 3 3 8333333 0 0 1
          ∷ showing rate_release 3 3 13679897 10 0 0
          ∷ showing slots_booking 1 0 1 5 0 0
          ∷ showing slots_release 1 2 5 6 0 0
          ∷ [];
    }

pub agrees_21 : first_wrong list_21 ≡ 0
unfolding first_wrong entries apply Direct.start Direct.tick Pipelined.start Pipelined.tick book_words rate_words release_words release_rate_words headroom_refusal Preview.preview arrive_words into_frame sharing_fit booking bookings row_sum column_sum sum first_from some_of word port_word
agrees_21 = refl

pub headroom_21 : first_wrong_headroom list_21 ≡ 0
unfolding first_wrong_headroom final headroom_result pair_headroom headroom_over apply Direct.start Direct.tick Pipelined.start Pipelined.tick book_words rate_words release_words release_rate_words headroom_refusal Preview.preview arrive_words into_frame sharing_fit booking bookings row_sum column_sum sum first_from some_of word port_word
headroom_21 = refl

pub preview_21 : first_wrong_preview list_21 ≡ 0
unfolding first_wrong_preview final apply Direct.start Direct.tick Pipelined.start Pipelined.tick book_words rate_words release_words release_rate_words headroom_refusal Preview.preview arrive_words into_frame sharing_fit booking bookings row_sum column_sum sum first_from some_of word port_word
preview_21 = refl

abbrev list_22 : Case
list_22 =
    record {
      switch =
          record {
            clock = clock_of 2 1 77 1000 7;
            book = book_of (102 ∷ 2 ∷ 7 ∷ 4 ∷ 7 ∷ 101 ∷ 103 ∷ 7 ∷ 101 ∷ []) (103 ∷ 2 ∷ 2 ∷ 7 ∷ 101 ∷ 1 ∷ 102 ∷ 104 ∷ 102 ∷ []);
            credits = 3 ∷ 1 ∷ 101 ∷ 4 ∷ 7 ∷ 101 ∷ 104 ∷ 4 ∷ 2 ∷ [];
            queues = 1 ∷ 1 ∷ 1 ∷ 103 ∷ 1 ∷ 102 ∷ 2 ∷ 3 ∷ 2 ∷ [];
            given = 3 ∷ 2 ∷ 7 ∷ [];
            copy = 4 ∷ 1 ∷ 7 ∷ 7 ∷ 104 ∷ 2 ∷ 2 ∷ 2 ∷ 102 ∷ [];
            flight = 2 ∷ 7 ∷ 104 ∷ 7 ∷ 4 ∷ 103 ∷ 3 ∷ 3 ∷ 4 ∷ 2 ∷ 103 ∷ 2 ∷ 1 ∷ 104 ∷ 101 ∷ 3 ∷ 104 ∷ 103 ∷ [];
          };
      calls =
          start direct 3 1 7 fine
          ∷ book_rate 2 1 7
          ∷ book_rate 2 1 3
          ∷ book_rate 3 2 2
          ∷ book_rate 3 2 2
          ∷ book_rate 2 2 2
          ∷ book_rate 2 2 3
          ∷ book_rate 2 2 5
          ∷ book_rate 1 2 2
          ∷ book_rate 1 2 3
          ∷ book_rate 1 2 7
          ∷ book_rate 1 2 3
          ∷ book_rate 3 3 2
          ∷ book_rate 3 3 3
          ∷ book_rate 3 3 7
          ∷ book_rate 2 3 4
          ∷ book_rate 2 3 4
          ∷ arrive 2 3 65535
          ∷ arrive 2 3 65535
          ∷ arrive 2 3 65535
          ∷ arrive 2 3 65535
          ∷ arrive 2 3 65535
          ∷ arrive 2 3 65535
          ∷ arrive 2 3 65535
          ∷ arrive 2 3 65535
          ∷ arrive 2 3 65535
          ∷ arrive 2 3 65535
          ∷ arrive 2 3 65535
          ∷ arrive 2 3 65535
          ∷ arrive 2 3 65535
          ∷ arrive 2 3 65535
          ∷ arrive 2 3 65535
          ∷ arrive 2 3 16976
          ∷ arrive 2 3 16975
          ∷ arrive 2 3 1
          ∷ arrive 2 3 10
          ∷ arrive 3 2 10
          ∷ arrive 1 3 10
          ∷ arrive 3 2 7
          ∷ arrive 2 2 12
          ∷ arrive 3 1 11
          ∷ arrive 2 2 11
          ∷ preview rate_release 2 1 7
          ∷ preview rate_booking 3 2 3
          ∷ arrive 2 1 11
          ∷ tick direct
          ∷ release_rate 3 3 1
          ∷ tick direct
          ∷ tick direct
          ∷ tick direct
          ∷ arrive 3 3 8
          ∷ tick direct
          ∷ arrive 2 3 6
          ∷ arrive 1 2 7
          ∷ tick direct
          ∷ preview rate_release 2 3 1
          ∷ release 3 2 1
          ∷ tick direct
          ∷ book_rate 2 4 1
          ∷ release_rate 1 3 1
          ∷ arrive 1 2 9
          ∷ arrive 2 2 6
          ∷ tick direct
          ∷ book_rate 2 1 4
          ∷ arrive 3 1 7
          ∷ preview slots_booking 1 3 1
          ∷ release_rate 3 2 5
          ∷ tick direct
          ∷ tick direct
          ∷ preview rate_booking 2 3 2
          ∷ arrive 2 1 9
          ∷ preview slots_release 1 1 0
          ∷ tick direct
          ∷ [];
      expected =
          claim 1 1 1 0 1 0 0
          ∷ claim 1 1 2 0 1 0 0
          ∷ claim 1 1 3 0 1 0 0
          ∷ claim 1 1 4 0 1 0 0
          ∷ claim 1 1 5 0 1 0 0
          ∷ claim 1 1 6 0 1 0 0
          ∷ claim 1 1 7 0 1 0 0
          ∷ claim 1 1 8 0 1 0 0
          ∷ claim 1 1 9 0 1 0 0
          ∷ claim 1 1 10 0 1 0 0
          ∷ claim 1 1 11 0 1 0 0
          ∷ claim 1 2 1 0 1 0 0
          ∷ claim 1 2 2 0 1 0 0
          ∷ claim 1 2 3 0 1 0 0
          ∷ claim 1 2 4 0 1 0 0
          ∷ claim 1 2 5 0 1 0 0
          ∷ claim 1 2 6 0 1 1 0
          ∷ claim 1 2 7 0 1 1 0
          ∷ claim 1 2 8 0 1 1 0
          ∷ claim 1 2 9 0 1 1 0
          ∷ claim 1 2 10 0 1 1 0
          ∷ claim 1 2 11 0 1 1 0
          ∷ claim 1 3 1 0 0 1 0
          ∷ claim 1 3 2 0 0 1 0
          ∷ claim 1 3 3 0 0 1 0
          ∷ claim 1 3 4 0 0 1 0
          ∷ claim 1 3 5 0 0 1 0
          ∷ claim 1 3 6 0 0 1 0
          ∷ claim 1 3 7 0 0 1 0
          ∷ claim 1 3 8 0 0 1 0
          ∷ claim 1 3 9 0 0 1 0
          ∷ claim 1 3 10 0 0 1 0
          ∷ claim 1 3 11 0 0 0 0
          ∷ claim 2 1 1 1 0 1 1
          ∷ claim 2 1 2 1 0 1 1
          ∷ claim 2 1 3 1 0 1 1
          ∷ claim 2 1 4 1 0 1 1
          ∷ claim 2 1 5 1 0 1 1
          ∷ claim 2 1 6 1 0 1 1
          ∷ claim 2 1 7 1 0 1 1
          ∷ claim 2 1 8 1 0 1 1
          ∷ claim 2 1 9 1 0 1 1
          ∷ claim 2 1 10 1 0 1 1
          ∷ claim 2 1 11 1 0 1 1
          ∷ claim 2 2 1 0 2 1 0
          ∷ claim 2 2 2 0 2 1 0
          ∷ claim 2 2 3 0 2 1 0
          ∷ claim 2 2 4 0 2 1 0
          ∷ claim 2 2 5 0 2 1 0
          ∷ claim 2 2 6 0 2 1 0
          ∷ claim 2 2 7 0 2 1 0
          ∷ claim 2 2 8 0 2 1 0
          ∷ claim 2 2 9 0 2 1 0
          ∷ claim 2 2 10 0 2 1 0
          ∷ claim 2 2 11 0 2 1 0
          ∷ claim 2 3 1 0 1 1 0
          ∷ claim 2 3 2 0 1 1 0
          ∷ claim 2 3 3 0 1 1 0
          ∷ claim 2 3 4 0 1 1 0
          ∷ claim 2 3 5 0 1 1 0
          ∷ claim 2 3 6 0 1 1 0
          ∷ claim 2 3 7 0 1 1 0
          ∷ claim 2 3 8 0 1 1 0
          ∷ claim 2 3 9 0 1 1 0
          ∷ claim 2 3 10 0 1 1 0
          ∷ claim 2 3 11 0 1 1 0
          ∷ claim 3 1 1 0 2 1 0
          ∷ claim 3 1 2 0 2 1 0
          ∷ claim 3 1 3 0 2 1 0
          ∷ claim 3 1 4 0 2 1 0
          ∷ claim 3 1 5 0 2 1 0
          ∷ claim 3 1 6 0 2 1 0
          ∷ claim 3 1 7 0 2 1 0
          ∷ claim 3 1 8 0 2 1 0
          ∷ claim 3 1 9 0 2 1 0
          ∷ claim 3 1 10 0 2 1 0
          ∷ claim 3 1 11 0 2 1 0
          ∷ claim 3 2 1 1 0 1 1
          ∷ claim 3 2 2 1 0 1 1
          ∷ claim 3 2 3 1 0 1 1
          ∷ claim 3 2 4 1 0 1 1
          ∷ claim 3 2 5 1 0 1 1
          ∷ claim 3 2 6 1 0 1 1
          ∷ claim 3 2 7 1 0 1 1
          ∷ claim 3 2 8 1 0 1 1
          ∷ claim 3 2 9 1 0 1 1
          ∷ claim 3 2 10 1 0 1 1
          ∷ claim 3 2 11 1 0 1 1
          ∷ claim 3 3 1 0 1 0 0
          ∷ claim 3 3 2 0 1 0 0
          ∷ claim 3 3 3 0 1 0 0
          ∷ claim 3 3 4 0 1 0 0
          ∷ claim 3 3 5 0 1 1 0
          ∷ claim 3 3 6 0 1 1 0
          ∷ claim 3 3 7 0 1 1 0
          ∷ claim 3 3 8 0 1 1 0
          ∷ claim 3 3 9 0 1 1 0
          ∷ claim 3 3 10 0 1 1 0
          ∷ claim 3 3 11 0 1 1 0
          ∷ [];
      headrooms =
          told 1 1 0 (pos 0)
          ∷ told 1 2 0 (pos 0)
          ∷ told 1 3 0 (pos 1)
          ∷ told 2 1 0 (pos 0)
          ∷ told 2 2 0 (negsuc 0)
          ∷ told 2 3 0 (pos 0)
          ∷ told 3 1 0 (negsuc 0)
          ∷ told 3 2 0 (pos 0)
          ∷ told 3 3 0 (pos 0)
          ∷ told 4 1 5 (pos 0)
          ∷ told 1 0 5 (pos 0)
          ∷ [];
      previews =
          showing slots_booking 1 1 1 15 1 2
          ∷ showing slots_booking 3 2 1 15 2 2
          ∷ showing rate_booking 3 1 2 15 2 2
          ∷ showing rate_booking 3 2 2 0 1 1
          ∷ showing slots_release 3 2 1 10 0 0
          ∷ showing slots_release 2 2 1 10 0 0
          ∷ showing rate_release 3 2 4 0 0 0
          ∷ showing rate_release 2 1 3 0 1 1
          ∷ showing slots_release 4294967297 3 1 5 0 0
          ∷ showing slots_booking 3 3 2 6 0 0
          ∷ [];
    }

pub agrees_22 : first_wrong list_22 ≡ 0
unfolding first_wrong entries apply Direct.start Direct.tick Pipelined.start Pipelined.tick book_words rate_words release_words release_rate_words headroom_refusal Preview.preview arrive_words into_frame sharing_fit booking bookings row_sum column_sum sum first_from some_of word port_word
agrees_22 = refl

pub headroom_22 : first_wrong_headroom list_22 ≡ 0
unfolding first_wrong_headroom final headroom_result pair_headroom headroom_over apply Direct.start Direct.tick Pipelined.start Pipelined.tick book_words rate_words release_words release_rate_words headroom_refusal Preview.preview arrive_words into_frame sharing_fit booking bookings row_sum column_sum sum first_from some_of word port_word
headroom_22 = refl

pub preview_22 : first_wrong_preview list_22 ≡ 0
unfolding first_wrong_preview final apply Direct.start Direct.tick Pipelined.start Pipelined.tick book_words rate_words release_words release_rate_words headroom_refusal Preview.preview arrive_words into_frame sharing_fit booking bookings row_sum column_sum sum first_from some_of word port_word
preview_22 = refl

abbrev list_23 : Case
list_23 =
    record {
      switch =
          record {
            clock = clock_of 9 10001 0 100000001 0;
            book = book_of (2 ∷ 3 ∷ 103 ∷ 103 ∷ 102 ∷ 3 ∷ 104 ∷ 1 ∷ 101 ∷ []) (4 ∷ 104 ∷ 102 ∷ 102 ∷ 102 ∷ 4 ∷ 2 ∷ 1 ∷ 2 ∷ []);
            credits = 7 ∷ 1 ∷ 1 ∷ 2 ∷ 1 ∷ 3 ∷ 101 ∷ 101 ∷ 1 ∷ [];
            queues = 101 ∷ 1 ∷ 1 ∷ 7 ∷ 2 ∷ 7 ∷ 103 ∷ 2 ∷ 4 ∷ [];
            given = 1 ∷ 103 ∷ 1 ∷ [];
            copy = 3 ∷ 4 ∷ 104 ∷ 101 ∷ 2 ∷ 2 ∷ 101 ∷ 4 ∷ 3 ∷ [];
            flight = 2 ∷ 104 ∷ 101 ∷ 2 ∷ 104 ∷ 104 ∷ 3 ∷ 7 ∷ 1 ∷ 4 ∷ 4 ∷ 1 ∷ 7 ∷ 101 ∷ 104 ∷ 104 ∷ 2 ∷ 1 ∷ [];
          };
      calls =
          start pipelined 2 2 1000 plain
          ∷ book_rate 2 2 166
          ∷ book_rate 2 2 166
          ∷ book_rate 2 2 333
          ∷ book_rate 2 2 167
          ∷ book_rate 2 1 167
          ∷ book_rate 2 1 166
          ∷ arrive 1 1 5
          ∷ arrive 2 1 2
          ∷ book_rate 1 1 167
          ∷ tick pipelined
          ∷ arrive 2 1 3
          ∷ release_rate 1 1 167
          ∷ arrive 1 2 5
          ∷ tick pipelined
          ∷ arrive 1 2 3
          ∷ arrive 2 1 4
          ∷ headroom 2 1
          ∷ release_rate 2 2 334
          ∷ release 2 2 1
          ∷ tick pipelined
          ∷ tick pipelined
          ∷ arrive 2 1 2
          ∷ book_rate 2 2 166
          ∷ tick pipelined
          ∷ release 1 2 1
          ∷ tick pipelined
          ∷ tick pipelined
          ∷ arrive 1 1 5
          ∷ release_rate 1 2 1
          ∷ arrive 2 2 3
          ∷ tick pipelined
          ∷ start pipelined 7 32 1000 fine
          ∷ arrive 1 2 4
          ∷ tick pipelined
          ∷ release_rate 2 2 331
          ∷ arrive 1 1 3
          ∷ tick pipelined
          ∷ [];
      expected =
          claim 1 1 1 0 0 0 0
          ∷ claim 1 1 3 0 0 0 0
          ∷ claim 1 1 5 1 0 2 1
          ∷ claim 1 1 7 0 0 2 0
          ∷ claim 1 1 9 0 0 2 0
          ∷ claim 1 1 11 0 0 1 0
          ∷ claim 1 2 1 0 0 0 0
          ∷ claim 1 2 3 0 0 0 0
          ∷ claim 1 2 5 0 2 1 0
          ∷ claim 1 2 7 0 1 2 0
          ∷ claim 1 2 9 0 1 2 0
          ∷ claim 1 2 11 0 1 1 0
          ∷ claim 2 1 1 0 0 0 0
          ∷ claim 2 1 3 0 0 0 0
          ∷ claim 2 1 5 0 2 2 0
          ∷ claim 2 1 7 0 1 2 0
          ∷ claim 2 1 9 0 1 2 0
          ∷ claim 2 1 11 0 1 1 0
          ∷ claim 2 2 1 0 0 0 0
          ∷ claim 2 2 3 0 0 0 0
          ∷ claim 2 2 5 1 0 0 0
          ∷ claim 2 2 7 1 0 0 0
          ∷ claim 2 2 9 1 0 0 0
          ∷ claim 2 2 11 1 0 1 1
          ∷ [];
      headrooms =
          told 1 1 0 (pos 2)
          ∷ told 1 2 0 (pos 2)
          ∷ told 2 1 0 (pos 2)
          ∷ told 2 2 0 (pos 2)
          ∷ told 3 1 5 (pos 0)
          ∷ told 1 4294967297 5 (pos 0)
          ∷ [];
      previews =
          showing slots_booking 2 2 1 0 1 1
          ∷ showing slots_booking 2 1 1 0 1 1
          ∷ showing rate_booking 1 1 167 0 1 1
          ∷ showing rate_booking 2 1 138 0 1 1
          ∷ showing slots_release 1 2 1 10 0 0
          ∷ showing slots_release 1 1 1 10 0 0
          ∷ showing rate_release 2 1 1 10 0 0
          ∷ showing rate_release 1 2 393 10 0 0
          ∷ showing slots_booking 0 2 1 5 0 0
          ∷ showing slots_release 1 2 3 6 0 0
          ∷ [];
    }

pub agrees_23 : first_wrong list_23 ≡ 0
unfolding first_wrong entries apply Direct.start Direct.tick Pipelined.start Pipelined.tick book_words rate_words release_words release_rate_words headroom_refusal Preview.preview arrive_words into_frame sharing_fit booking bookings row_sum column_sum sum first_from some_of word port_word
agrees_23 = refl

pub headroom_23 : first_wrong_headroom list_23 ≡ 0
unfolding first_wrong_headroom final headroom_result pair_headroom headroom_over apply Direct.start Direct.tick Pipelined.start Pipelined.tick book_words rate_words release_words release_rate_words headroom_refusal Preview.preview arrive_words into_frame sharing_fit booking bookings row_sum column_sum sum first_from some_of word port_word
headroom_23 = refl

pub preview_23 : first_wrong_preview list_23 ≡ 0
unfolding first_wrong_preview final apply Direct.start Direct.tick Pipelined.start Pipelined.tick book_words rate_words release_words release_rate_words headroom_refusal Preview.preview arrive_words into_frame sharing_fit booking bookings row_sum column_sum sum first_from some_of word port_word
preview_23 = refl

abbrev list_24 : Case
list_24 =
    record {
      switch =
          record {
            clock = clock_of 0 0 77 100000001 7;
            book = book_of (7 ∷ 103 ∷ 7 ∷ 4 ∷ 102 ∷ 4 ∷ 2 ∷ 1 ∷ 4 ∷ []) (103 ∷ 1 ∷ 4 ∷ 1 ∷ 7 ∷ 103 ∷ 102 ∷ 2 ∷ 104 ∷ []);
            credits = 102 ∷ 101 ∷ 7 ∷ 4 ∷ 7 ∷ 7 ∷ 7 ∷ 4 ∷ 1 ∷ [];
            queues = 2 ∷ 104 ∷ 1 ∷ 3 ∷ 4 ∷ 103 ∷ 2 ∷ 2 ∷ 3 ∷ [];
            given = 3 ∷ 4 ∷ 1 ∷ [];
            copy = 1 ∷ 2 ∷ 1 ∷ 4 ∷ 102 ∷ 4 ∷ 4 ∷ 7 ∷ 1 ∷ [];
            flight = 2 ∷ 104 ∷ 7 ∷ 103 ∷ 101 ∷ 101 ∷ 2 ∷ 104 ∷ 101 ∷ 101 ∷ 1 ∷ 3 ∷ 1 ∷ 1 ∷ 7 ∷ 1 ∷ 7 ∷ 4 ∷ [];
          };
      calls =
          start direct 3 4 99999999 plain
          ∷ book_rate 1 1 8333333
          ∷ book_rate 1 1 8333333
          ∷ book 1 2 1
          ∷ book 1 1 1
          ∷ book_rate 3 2 8333333
          ∷ book_rate 3 2 8333333
          ∷ book_rate 3 2 16666666
          ∷ book_rate 3 2 8333333
          ∷ book_rate 3 2 8333333
          ∷ book 1 2 2
          ∷ book_rate 3 3 8333334
          ∷ book_rate 2 1 8333333
          ∷ book_rate 2 1 8333333
          ∷ arrive 2 2 65535
          ∷ arrive 2 2 65535
          ∷ arrive 2 2 65535
          ∷ arrive 2 2 65535
          ∷ arrive 2 2 65535
          ∷ arrive 2 2 65535
          ∷ arrive 2 2 65535
          ∷ arrive 2 2 65535
          ∷ arrive 2 2 65535
          ∷ arrive 2 2 65535
          ∷ arrive 2 2 65535
          ∷ arrive 2 2 65535
          ∷ arrive 2 2 65535
          ∷ arrive 2 2 65535
          ∷ arrive 2 2 65535
          ∷ arrive 2 2 16976
          ∷ arrive 2 2 16975
          ∷ arrive 2 2 1
          ∷ arrive 1 1 70
          ∷ arrive 3 1 63
          ∷ arrive 3 3 68
          ∷ arrive 3 2 80
          ∷ arrive 1 3 61
          ∷ arrive 1 1 76
          ∷ arrive 3 1 56
          ∷ arrive 2 1 66
          ∷ arrive 1 3 66
          ∷ arrive 3 1 89
          ∷ arrive 1 3 48
          ∷ arrive 1 3 63
          ∷ arrive 3 3 51
          ∷ arrive 2 2 48
          ∷ arrive 1 2 54
          ∷ preview rate_booking 1 3 24999999
          ∷ book_rate 2 3 8333333
          ∷ tick direct
          ∷ release_rate 1 1 16666667
          ∷ tick direct
          ∷ arrive 2 1 58
          ∷ tick direct
          ∷ arrive 3 3 55
          ∷ tick direct
          ∷ tick direct
          ∷ arrive 1 1 65536
          ∷ tick direct
          ∷ book_rate 1 2 8333333
          ∷ arrive 3 3 45
          ∷ arrive 2 1 56
          ∷ arrive 3 2 77
          ∷ arrive 1 1 64
          ∷ release_rate 2 1 8333333
          ∷ release 3 2 5
          ∷ headroom 3 1
          ∷ arrive 2 3 70
          ∷ tick direct
          ∷ tick direct
          ∷ book 2 3 1
          ∷ tick direct
          ∷ tick direct
          ∷ tick direct
          ∷ tick direct
          ∷ tick direct
          ∷ tick direct
          ∷ tick direct
          ∷ arrive 1 1 46
          ∷ headroom 3 1
          ∷ tick direct
          ∷ book 3 2 1
          ∷ release 1 2 1
          ∷ tick direct
          ∷ tick direct
          ∷ headroom 1 1
          ∷ tick direct
          ∷ tick direct
          ∷ preview slots_booking 1 3 1
          ∷ tick direct
          ∷ tick direct
          ∷ [];
      expected =
          claim 1 1 1 1 2 4 1
          ∷ claim 1 1 5 1 2 4 1
          ∷ claim 1 1 9 1 2 4 1
          ∷ claim 1 1 13 1 2 4 1
          ∷ claim 1 1 17 1 1 4 1
          ∷ claim 1 1 21 1 1 2 1
          ∷ claim 1 2 1 1 2 4 1
          ∷ claim 1 2 5 1 2 4 1
          ∷ claim 1 2 9 1 2 4 1
          ∷ claim 1 2 13 1 2 4 1
          ∷ claim 1 2 17 0 2 4 0
          ∷ claim 1 2 21 0 2 2 0
          ∷ claim 1 3 1 0 4 4 0
          ∷ claim 1 3 5 0 4 4 0
          ∷ claim 1 3 9 0 4 4 0
          ∷ claim 1 3 13 0 4 4 0
          ∷ claim 1 3 17 0 3 4 0
          ∷ claim 1 3 21 0 3 2 0
          ∷ claim 2 1 1 1 2 4 1
          ∷ claim 2 1 5 1 2 4 1
          ∷ claim 2 1 9 1 2 4 1
          ∷ claim 2 1 13 1 2 4 1
          ∷ claim 2 1 17 1 2 4 1
          ∷ claim 2 1 21 1 2 2 1
          ∷ claim 2 2 1 0 4 4 0
          ∷ claim 2 2 5 0 4 4 0
          ∷ claim 2 2 9 0 4 4 0
          ∷ claim 2 2 13 0 4 4 0
          ∷ claim 2 2 17 0 3 4 0
          ∷ claim 2 2 21 0 3 2 0
          ∷ claim 2 3 1 1 2 0 0
          ∷ claim 2 3 5 1 2 2 1
          ∷ claim 2 3 9 1 2 4 1
          ∷ claim 2 3 13 1 2 4 1
          ∷ claim 2 3 17 1 2 4 1
          ∷ claim 2 3 21 1 2 2 1
          ∷ claim 3 1 1 0 4 4 0
          ∷ claim 3 1 5 0 4 4 0
          ∷ claim 3 1 9 0 4 4 0
          ∷ claim 3 1 13 0 4 4 0
          ∷ claim 3 1 17 0 4 4 0
          ∷ claim 3 1 21 0 4 2 0
          ∷ claim 3 2 1 1 2 4 1
          ∷ claim 3 2 5 1 2 4 1
          ∷ claim 3 2 9 1 2 4 1
          ∷ claim 3 2 13 1 2 4 1
          ∷ claim 3 2 17 1 1 4 1
          ∷ claim 3 2 21 1 1 2 1
          ∷ claim 3 3 1 1 2 4 1
          ∷ claim 3 3 5 1 2 4 1
          ∷ claim 3 3 9 1 2 4 1
          ∷ claim 3 3 13 1 2 4 1
          ∷ claim 3 3 17 1 2 4 1
          ∷ claim 3 3 21 1 2 2 1
          ∷ [];
      headrooms =
          told 1 1 0 (pos 2)
          ∷ told 1 2 0 (pos 2)
          ∷ told 1 3 0 (pos 1)
          ∷ told 2 1 0 (pos 1)
          ∷ told 2 2 0 (pos 1)
          ∷ told 2 3 0 (pos 1)
          ∷ told 3 1 0 (pos 0)
          ∷ told 3 2 0 (pos 2)
          ∷ told 3 3 0 (pos 1)
          ∷ told 4 1 5 (pos 0)
          ∷ told 1 0 5 (pos 0)
          ∷ [];
      previews =
          showing slots_booking 1 3 1 9 2 3
          ∷ showing slots_booking 3 1 1 8 3 3
          ∷ showing rate_booking 1 3 16666666 9 2 3
          ∷ showing rate_booking 1 3 20194268 9 2 3
          ∷ showing slots_release 1 2 1 10 0 0
          ∷ showing slots_release 3 3 2 10 0 0
          ∷ showing rate_release 1 1 8333334 0 1 2
          ∷ showing rate_release 3 2 28504894 10 0 0
          ∷ showing rate_release 4294967297 1 1 5 0 0
          ∷ showing rate_booking 3 1 100000000 6 0 0
          ∷ [];
    }

pub agrees_24 : first_wrong list_24 ≡ 0
unfolding first_wrong entries apply Direct.start Direct.tick Pipelined.start Pipelined.tick book_words rate_words release_words release_rate_words headroom_refusal Preview.preview arrive_words into_frame sharing_fit booking bookings row_sum column_sum sum first_from some_of word port_word
agrees_24 = refl

pub headroom_24 : first_wrong_headroom list_24 ≡ 0
unfolding first_wrong_headroom final headroom_result pair_headroom headroom_over apply Direct.start Direct.tick Pipelined.start Pipelined.tick book_words rate_words release_words release_rate_words headroom_refusal Preview.preview arrive_words into_frame sharing_fit booking bookings row_sum column_sum sum first_from some_of word port_word
headroom_24 = refl

pub preview_24 : first_wrong_preview list_24 ≡ 0
unfolding first_wrong_preview final apply Direct.start Direct.tick Pipelined.start Pipelined.tick book_words rate_words release_words release_rate_words headroom_refusal Preview.preview arrive_words into_frame sharing_fit booking bookings row_sum column_sum sum first_from some_of word port_word
preview_24 = refl

abbrev list_25 : Case
list_25 =
    record {
      switch =
          record {
            clock = clock_of 3 0 1 1 0;
            book = book_of (2 ∷ 2 ∷ 103 ∷ 103 ∷ 1 ∷ 101 ∷ 2 ∷ 2 ∷ 101 ∷ []) (1 ∷ 103 ∷ 102 ∷ 7 ∷ 1 ∷ 104 ∷ 101 ∷ 4 ∷ 2 ∷ []);
            credits = 3 ∷ 4 ∷ 1 ∷ 3 ∷ 102 ∷ 3 ∷ 2 ∷ 4 ∷ 3 ∷ [];
            queues = 4 ∷ 102 ∷ 103 ∷ 2 ∷ 4 ∷ 1 ∷ 1 ∷ 3 ∷ 7 ∷ [];
            given = 4 ∷ 2 ∷ 4 ∷ [];
            copy = 1 ∷ 104 ∷ 101 ∷ 2 ∷ 102 ∷ 1 ∷ 3 ∷ 3 ∷ 104 ∷ [];
            flight = 102 ∷ 2 ∷ 103 ∷ 7 ∷ 4 ∷ 102 ∷ 2 ∷ 102 ∷ 7 ∷ 103 ∷ 3 ∷ 3 ∷ 103 ∷ 1 ∷ 102 ∷ 3 ∷ 2 ∷ 104 ∷ [];
          };
      calls =
          start pipelined 3 5 0 fine
          ∷ book_rate 2 2 1
          ∷ book_rate 2 2 1
          ∷ book_rate 2 2 1
          ∷ book 3 1 2
          ∷ book_rate 3 3 1
          ∷ book_rate 3 3 1
          ∷ book_rate 3 3 1
          ∷ arrive 1 3 6
          ∷ arrive 3 2 6
          ∷ arrive 3 3 6
          ∷ arrive 3 1 11
          ∷ arrive 1 3 7
          ∷ arrive 2 2 11
          ∷ arrive 1 2 9
          ∷ arrive 1 2 8
          ∷ arrive 2 3 10
          ∷ arrive 2 1 7
          ∷ arrive 3 3 7
          ∷ arrive 2 2 9
          ∷ arrive 2 1 7
          ∷ arrive 2 2 10
          ∷ arrive 1 2 7
          ∷ arrive 3 1 9
          ∷ headroom 1 3
          ∷ tick pipelined
          ∷ release_rate 1 3 1
          ∷ tick pipelined
          ∷ arrive 2 1 7
          ∷ tick pipelined
          ∷ arrive 1 1 12
          ∷ tick pipelined
          ∷ tick pipelined
          ∷ arrive 3 1 11
          ∷ headroom 1 3
          ∷ tick pipelined
          ∷ tick pipelined
          ∷ tick pipelined
          ∷ start pipelined 3 5 100000001 plain
          ∷ book_rate 2 2 1
          ∷ tick pipelined
          ∷ tick pipelined
          ∷ tick pipelined
          ∷ arrive 3 3 12
          ∷ arrive 2 3 10
          ∷ tick pipelined
          ∷ tick pipelined
          ∷ book 1 1 1
          ∷ tick pipelined
          ∷ tick pipelined
          ∷ arrive 1 2 8
          ∷ tick pipelined
          ∷ tick pipelined
          ∷ tick pipelined
          ∷ headroom 1 4
          ∷ tick pipelined
          ∷ book_rate 2 3 1
          ∷ arrive 2 3 7
          ∷ release 2 1 1
          ∷ tick pipelined
          ∷ [];
      expected =
          claim 1 1 1 0 0 0 0
          ∷ claim 1 1 6 0 0 1 0
          ∷ claim 1 1 11 0 2 5 0
          ∷ claim 1 1 16 0 2 5 0
          ∷ claim 1 1 21 1 2 1 1
          ∷ claim 1 2 1 0 0 0 0
          ∷ claim 1 2 6 0 0 4 0
          ∷ claim 1 2 11 0 0 5 0
          ∷ claim 1 2 16 0 0 5 0
          ∷ claim 1 2 21 0 1 1 0
          ∷ claim 1 3 1 0 0 0 0
          ∷ claim 1 3 6 0 0 4 0
          ∷ claim 1 3 11 0 0 5 0
          ∷ claim 1 3 16 0 0 5 0
          ∷ claim 1 3 21 0 1 1 0
          ∷ claim 2 1 1 0 0 0 0
          ∷ claim 2 1 6 0 0 4 0
          ∷ claim 2 1 11 0 2 5 0
          ∷ claim 2 1 16 0 2 5 0
          ∷ claim 2 1 21 0 3 1 0
          ∷ claim 2 2 1 0 0 0 0
          ∷ claim 2 2 6 0 0 4 0
          ∷ claim 2 2 11 0 0 5 0
          ∷ claim 2 2 16 0 0 5 0
          ∷ claim 2 2 21 0 0 1 0
          ∷ claim 2 3 1 0 0 0 0
          ∷ claim 2 3 6 0 0 4 0
          ∷ claim 2 3 11 0 0 5 0
          ∷ claim 2 3 16 0 0 5 0
          ∷ claim 2 3 21 0 0 1 0
          ∷ claim 3 1 1 0 0 0 0
          ∷ claim 3 1 6 0 0 4 0
          ∷ claim 3 1 11 2 0 5 2
          ∷ claim 3 1 16 2 0 5 2
          ∷ claim 3 1 21 2 1 1 0
          ∷ claim 3 2 1 0 0 0 0
          ∷ claim 3 2 6 0 0 4 0
          ∷ claim 3 2 11 0 2 5 0
          ∷ claim 3 2 16 0 2 5 0
          ∷ claim 3 2 21 0 2 1 0
          ∷ claim 3 3 1 0 0 0 0
          ∷ claim 3 3 6 0 0 4 0
          ∷ claim 3 3 11 0 2 5 0
          ∷ claim 3 3 16 0 2 5 0
          ∷ claim 3 3 21 0 2 1 0
          ∷ [];
      headrooms =
          told 1 1 0 (pos 2)
          ∷ told 1 2 0 (pos 4)
          ∷ told 1 3 0 (pos 4)
          ∷ told 2 1 0 (pos 2)
          ∷ told 2 2 0 (pos 5)
          ∷ told 2 3 0 (pos 5)
          ∷ told 3 1 0 (pos 2)
          ∷ told 3 2 0 (pos 3)
          ∷ told 3 3 0 (pos 3)
          ∷ told 4 1 5 (pos 0)
          ∷ told 1 0 5 (pos 0)
          ∷ [];
      previews =
          showing slots_booking 3 1 1 0 3 4
          ∷ showing slots_booking 3 2 1 0 3 1
          ∷ showing rate_booking 1 3 1 6 0 0
          ∷ showing rate_booking 1 3 1 6 0 0
          ∷ showing slots_release 3 1 1 0 1 2
          ∷ showing slots_release 1 1 3 10 0 0
          ∷ showing rate_release 1 2 1 6 0 0
          ∷ showing rate_release 3 1 1 6 0 0
          ∷ showing slots_booking 0 2 1 5 0 0
          ∷ showing slots_booking 2 2 0 6 0 0
          ∷ [];
    }

pub agrees_25 : first_wrong list_25 ≡ 0
unfolding first_wrong entries apply Direct.start Direct.tick Pipelined.start Pipelined.tick book_words rate_words release_words release_rate_words headroom_refusal Preview.preview arrive_words into_frame sharing_fit booking bookings row_sum column_sum sum first_from some_of word port_word
agrees_25 = refl

pub headroom_25 : first_wrong_headroom list_25 ≡ 0
unfolding first_wrong_headroom final headroom_result pair_headroom headroom_over apply Direct.start Direct.tick Pipelined.start Pipelined.tick book_words rate_words release_words release_rate_words headroom_refusal Preview.preview arrive_words into_frame sharing_fit booking bookings row_sum column_sum sum first_from some_of word port_word
headroom_25 = refl

pub preview_25 : first_wrong_preview list_25 ≡ 0
unfolding first_wrong_preview final apply Direct.start Direct.tick Pipelined.start Pipelined.tick book_words rate_words release_words release_rate_words headroom_refusal Preview.preview arrive_words into_frame sharing_fit booking bookings row_sum column_sum sum first_from some_of word port_word
preview_25 = refl

abbrev list_26 : Case
list_26 =
    record {
      switch =
          record {
            clock = clock_of 9 2 5 0 0;
            book = book_of (1 ∷ 7 ∷ 1 ∷ 103 ∷ 1 ∷ 102 ∷ 103 ∷ 101 ∷ 101 ∷ []) (3 ∷ 101 ∷ 2 ∷ 101 ∷ 4 ∷ 101 ∷ 4 ∷ 102 ∷ 2 ∷ []);
            credits = 2 ∷ 7 ∷ 104 ∷ 1 ∷ 3 ∷ 3 ∷ 101 ∷ 1 ∷ 3 ∷ [];
            queues = 3 ∷ 103 ∷ 104 ∷ 4 ∷ 7 ∷ 1 ∷ 1 ∷ 104 ∷ 103 ∷ [];
            given = 104 ∷ 2 ∷ 102 ∷ [];
            copy = 101 ∷ 103 ∷ 102 ∷ 1 ∷ 1 ∷ 4 ∷ 3 ∷ 3 ∷ 104 ∷ [];
            flight = 101 ∷ 2 ∷ 1 ∷ 103 ∷ 101 ∷ 3 ∷ 7 ∷ 2 ∷ 4 ∷ 103 ∷ 104 ∷ 103 ∷ 4 ∷ 101 ∷ 7 ∷ 2 ∷ 101 ∷ 4 ∷ [];
          };
      calls =
          start direct 1 2 7 fine
          ∷ book 1 1 1
          ∷ arrive 1 1 65535
          ∷ arrive 1 1 65535
          ∷ arrive 1 1 65535
          ∷ arrive 1 1 65535
          ∷ arrive 1 1 65535
          ∷ arrive 1 1 65535
          ∷ arrive 1 1 65535
          ∷ arrive 1 1 65535
          ∷ arrive 1 1 65535
          ∷ arrive 1 1 65535
          ∷ arrive 1 1 65535
          ∷ arrive 1 1 65535
          ∷ arrive 1 1 65535
          ∷ arrive 1 1 65535
          ∷ arrive 1 1 65535
          ∷ arrive 1 1 16976
          ∷ arrive 1 1 16975
          ∷ arrive 1 1 1
          ∷ arrive 1 1 5
          ∷ tick direct
          ∷ tick direct
          ∷ tick direct
          ∷ book_rate 1 1 3
          ∷ preview slots_booking 1 1 1
          ∷ tick direct
          ∷ book_rate 1 1 1
          ∷ tick direct
          ∷ arrive 1 1 4
          ∷ tick direct
          ∷ tick direct
          ∷ tick direct
          ∷ tick direct
          ∷ release 1 1 1
          ∷ preview slots_release 1 1 1
          ∷ release_rate 1 1 1
          ∷ arrive 1 1 4
          ∷ arrive 1 2 1
          ∷ start direct 1 2 100000001 plain
          ∷ release_rate 1 1 1
          ∷ book 1 1 1
          ∷ release 1 1 1
          ∷ tick direct
          ∷ arrive 1 1 5
          ∷ arrive 1 1 2
          ∷ release_rate 1 1 1
          ∷ tick direct
          ∷ arrive 1 1 3
          ∷ tick direct
          ∷ tick direct
          ∷ tick direct
          ∷ arrive 1 1 4
          ∷ tick direct
          ∷ preview slots_booking 1 1 1
          ∷ tick direct
          ∷ tick direct
          ∷ arrive 1 1 4
          ∷ preview rate_booking 1 1 1
          ∷ tick direct
          ∷ tick direct
          ∷ tick direct
          ∷ [];
      expected =
          claim 1 1 1 1 0 2 1
          ∷ claim 1 1 3 1 0 2 1
          ∷ claim 1 1 5 2 0 2 2
          ∷ claim 1 1 7 2 0 2 2
          ∷ claim 1 1 9 2 0 2 2
          ∷ claim 1 1 11 0 0 2 0
          ∷ claim 1 1 13 0 0 2 0
          ∷ claim 1 1 15 0 0 2 0
          ∷ claim 1 1 17 0 0 2 0
          ∷ claim 1 1 19 0 0 2 0
          ∷ [];
      headrooms =
          told 1 1 0 (pos 2)
          ∷ told 2 1 5 (pos 0)
          ∷ told 1 0 5 (pos 0)
          ∷ [];
      previews =
          showing slots_booking 1 1 1 0 1 1
          ∷ showing slots_booking 1 1 1 0 1 1
          ∷ showing rate_booking 1 1 3 0 1 1
          ∷ showing rate_booking 1 1 1 0 1 1
          ∷ showing slots_release 1 1 1 10 0 0
          ∷ showing slots_release 1 1 1 10 0 0
          ∷ showing rate_release 1 1 1 10 0 0
          ∷ showing rate_release 1 1 2 10 0 0
          ∷ showing slots_release 2 1 1 5 0 0
          ∷ showing rate_booking 1 1 8 6 0 0
          ∷ [];
    }

pub agrees_26 : first_wrong list_26 ≡ 0
unfolding first_wrong entries apply Direct.start Direct.tick Pipelined.start Pipelined.tick book_words rate_words release_words release_rate_words headroom_refusal Preview.preview arrive_words into_frame sharing_fit booking bookings row_sum column_sum sum first_from some_of word port_word
agrees_26 = refl

pub headroom_26 : first_wrong_headroom list_26 ≡ 0
unfolding first_wrong_headroom final headroom_result pair_headroom headroom_over apply Direct.start Direct.tick Pipelined.start Pipelined.tick book_words rate_words release_words release_rate_words headroom_refusal Preview.preview arrive_words into_frame sharing_fit booking bookings row_sum column_sum sum first_from some_of word port_word
headroom_26 = refl

pub preview_26 : first_wrong_preview list_26 ≡ 0
unfolding first_wrong_preview final apply Direct.start Direct.tick Pipelined.start Pipelined.tick book_words rate_words release_words release_rate_words headroom_refusal Preview.preview arrive_words into_frame sharing_fit booking bookings row_sum column_sum sum first_from some_of word port_word
preview_26 = refl

abbrev list_27 : Case
list_27 =
    record {
      switch =
          record {
            clock = clock_of 9 10001 77 1000 7;
            book = book_of (101 ∷ 104 ∷ 1 ∷ 3 ∷ 104 ∷ 101 ∷ 3 ∷ 102 ∷ 101 ∷ []) (2 ∷ 1 ∷ 3 ∷ 102 ∷ 7 ∷ 2 ∷ 3 ∷ 102 ∷ 2 ∷ []);
            credits = 104 ∷ 103 ∷ 4 ∷ 102 ∷ 101 ∷ 3 ∷ 4 ∷ 7 ∷ 1 ∷ [];
            queues = 2 ∷ 3 ∷ 1 ∷ 104 ∷ 4 ∷ 104 ∷ 4 ∷ 2 ∷ 1 ∷ [];
            given = 2 ∷ 1 ∷ 102 ∷ [];
            copy = 4 ∷ 102 ∷ 2 ∷ 2 ∷ 101 ∷ 101 ∷ 1 ∷ 101 ∷ 2 ∷ [];
            flight = 7 ∷ 3 ∷ 103 ∷ 4 ∷ 1 ∷ 104 ∷ 1 ∷ 4 ∷ 2 ∷ 7 ∷ 101 ∷ 1 ∷ 7 ∷ 104 ∷ 2 ∷ 4 ∷ 3 ∷ 102 ∷ [];
          };
      calls =
          start pipelined 2 7 1000 plain
          ∷ book 1 1 1
          ∷ book_rate 2 2 47
          ∷ book_rate 2 2 47
          ∷ book 1 1 1
          ∷ book_rate 1 1 48
          ∷ book_rate 1 1 47
          ∷ book_rate 1 1 143
          ∷ book_rate 1 1 48
          ∷ arrive 2 1 71
          ∷ arrive 2 1 53
          ∷ arrive 2 2 73
          ∷ arrive 1 2 53
          ∷ arrive 2 2 74
          ∷ release 1 1 1
          ∷ headroom 2 1
          ∷ tick pipelined
          ∷ tick pipelined
          ∷ release 1 1 1
          ∷ tick pipelined
          ∷ headroom 1 1
          ∷ tick pipelined
          ∷ tick pipelined
          ∷ release_rate 2 1 1
          ∷ tick pipelined
          ∷ tick pipelined
          ∷ preview slots_release 2 2 1
          ∷ tick pipelined
          ∷ tick pipelined
          ∷ arrive 2 2 75
          ∷ book_rate 2 2 48
          ∷ release_rate 2 1 1001
          ∷ tick pipelined
          ∷ book 1 2 1
          ∷ arrive 2 1 49
          ∷ book_rate 2 1 47
          ∷ tick pipelined
          ∷ book_rate 2 1 47
          ∷ tick pipelined
          ∷ release_rate 2 2 142
          ∷ release_rate 2 2 0
          ∷ release 1 2 1
          ∷ tick pipelined
          ∷ tick pipelined
          ∷ release_rate 2 1 94
          ∷ book 2 2 8
          ∷ tick pipelined
          ∷ tick pipelined
          ∷ tick pipelined
          ∷ tick pipelined
          ∷ tick pipelined
          ∷ tick pipelined
          ∷ tick pipelined
          ∷ [];
      expected =
          claim 1 1 1 0 0 0 0
          ∷ claim 1 1 8 2 0 0 0
          ∷ claim 1 1 15 2 2 0 0
          ∷ claim 1 1 22 2 0 0 0
          ∷ claim 1 2 1 0 0 3 0
          ∷ claim 1 2 8 0 3 7 0
          ∷ claim 1 2 15 1 3 7 1
          ∷ claim 1 2 22 0 2 1 0
          ∷ claim 2 1 1 0 0 3 0
          ∷ claim 2 1 8 0 3 7 0
          ∷ claim 2 1 15 1 3 7 1
          ∷ claim 2 1 22 0 2 1 0
          ∷ claim 2 2 1 0 0 3 0
          ∷ claim 2 2 8 1 0 7 1
          ∷ claim 2 2 15 1 2 7 1
          ∷ claim 2 2 22 0 0 1 0
          ∷ [];
      headrooms =
          told 1 1 0 (pos 5)
          ∷ told 1 2 0 (pos 5)
          ∷ told 2 1 0 (pos 5)
          ∷ told 2 2 0 (pos 7)
          ∷ told 3 1 5 (pos 0)
          ∷ told 1 0 5 (pos 0)
          ∷ [];
      previews =
          showing slots_booking 1 2 1 0 3 1
          ∷ showing slots_booking 1 2 3 8 5 3
          ∷ showing rate_booking 2 2 95 0 1 1
          ∷ showing rate_booking 2 2 33 0 1 1
          ∷ showing slots_release 2 1 1 10 0 0
          ∷ showing slots_release 2 1 1 10 0 0
          ∷ showing rate_release 2 2 1 10 0 0
          ∷ showing rate_release 1 1 151 0 1 1
          ∷ showing slots_booking 3 1 1 5 0 0
          ∷ showing rate_booking 1 1 1001 6 0 0
          ∷ [];
    }

pub agrees_27 : first_wrong list_27 ≡ 0
unfolding first_wrong entries apply Direct.start Direct.tick Pipelined.start Pipelined.tick book_words rate_words release_words release_rate_words headroom_refusal Preview.preview arrive_words into_frame sharing_fit booking bookings row_sum column_sum sum first_from some_of word port_word
agrees_27 = refl

pub headroom_27 : first_wrong_headroom list_27 ≡ 0
unfolding first_wrong_headroom final headroom_result pair_headroom headroom_over apply Direct.start Direct.tick Pipelined.start Pipelined.tick book_words rate_words release_words release_rate_words headroom_refusal Preview.preview arrive_words into_frame sharing_fit booking bookings row_sum column_sum sum first_from some_of word port_word
headroom_27 = refl

pub preview_27 : first_wrong_preview list_27 ≡ 0
unfolding first_wrong_preview final apply Direct.start Direct.tick Pipelined.start Pipelined.tick book_words rate_words release_words release_rate_words headroom_refusal Preview.preview arrive_words into_frame sharing_fit booking bookings row_sum column_sum sum first_from some_of word port_word
preview_27 = refl

abbrev list_28 : Case
list_28 =
    record {
      switch =
          record {
            clock = clock_of 9 1 5 1 0;
            book = book_of (1 ∷ 1 ∷ 101 ∷ 4 ∷ 2 ∷ 2 ∷ 3 ∷ 104 ∷ 102 ∷ []) (4 ∷ 2 ∷ 1 ∷ 1 ∷ 7 ∷ 2 ∷ 2 ∷ 102 ∷ 103 ∷ []);
            credits = 102 ∷ 2 ∷ 1 ∷ 7 ∷ 2 ∷ 7 ∷ 2 ∷ 2 ∷ 102 ∷ [];
            queues = 4 ∷ 2 ∷ 2 ∷ 7 ∷ 2 ∷ 103 ∷ 101 ∷ 101 ∷ 2 ∷ [];
            given = 1 ∷ 4 ∷ 3 ∷ [];
            copy = 2 ∷ 2 ∷ 101 ∷ 103 ∷ 1 ∷ 7 ∷ 1 ∷ 1 ∷ 2 ∷ [];
            flight = 102 ∷ 2 ∷ 1 ∷ 2 ∷ 3 ∷ 103 ∷ 1 ∷ 1 ∷ 103 ∷ 103 ∷ 104 ∷ 101 ∷ 104 ∷ 104 ∷ 4 ∷ 102 ∷ 2 ∷ 7 ∷ [];
          };
      calls =
          start direct 1 5 99999999 fine
          ∷ book_rate 1 1 6666666
          ∷ book_rate 1 1 13333333
          ∷ arrive 1 1 1
          ∷ book_rate 1 1 13333334
          ∷ preview rate_release 1 1 6666666
          ∷ tick direct
          ∷ tick direct
          ∷ tick direct
          ∷ arrive 1 0 1
          ∷ release_rate 1 1 6666666
          ∷ tick direct
          ∷ tick direct
          ∷ arrive 1 1 1
          ∷ headroom 1 1
          ∷ tick direct
          ∷ tick direct
          ∷ tick direct
          ∷ tick direct
          ∷ release 1 1 2
          ∷ tick direct
          ∷ tick direct
          ∷ book 1 1 3
          ∷ tick direct
          ∷ tick direct
          ∷ tick direct
          ∷ arrive 1 1 1
          ∷ tick direct
          ∷ tick direct
          ∷ tick direct
          ∷ preview rate_release 1 1 6666666
          ∷ tick direct
          ∷ [];
      expected =
          claim 1 1 1 2 0 1 1
          ∷ claim 1 1 6 2 0 1 1
          ∷ claim 1 1 11 2 0 1 1
          ∷ claim 1 1 16 5 0 0 0
          ∷ [];
      headrooms =
          told 1 1 0 (pos 0)
          ∷ told 2 1 5 (pos 0)
          ∷ told 1 0 5 (pos 0)
          ∷ [];
      previews =
          showing slots_booking 1 1 1 15 6 6
          ∷ showing slots_booking 1 1 1 15 6 6
          ∷ showing rate_booking 1 1 6666667 0 5 5
          ∷ showing rate_booking 1 1 18199318 15 6 6
          ∷ showing slots_release 1 1 1 0 4 4
          ∷ showing slots_release 1 1 3 0 2 2
          ∷ showing rate_release 1 1 6666666 0 5 5
          ∷ showing rate_release 1 1 35519189 10 0 0
          ∷ showing rate_booking 0 1 1 5 0 0
          ∷ showing rate_booking 1 1 100000000 6 0 0
          ∷ [];
    }

pub agrees_28 : first_wrong list_28 ≡ 0
unfolding first_wrong entries apply Direct.start Direct.tick Pipelined.start Pipelined.tick book_words rate_words release_words release_rate_words headroom_refusal Preview.preview arrive_words into_frame sharing_fit booking bookings row_sum column_sum sum first_from some_of word port_word
agrees_28 = refl

pub headroom_28 : first_wrong_headroom list_28 ≡ 0
unfolding first_wrong_headroom final headroom_result pair_headroom headroom_over apply Direct.start Direct.tick Pipelined.start Pipelined.tick book_words rate_words release_words release_rate_words headroom_refusal Preview.preview arrive_words into_frame sharing_fit booking bookings row_sum column_sum sum first_from some_of word port_word
headroom_28 = refl

pub preview_28 : first_wrong_preview list_28 ≡ 0
unfolding first_wrong_preview final apply Direct.start Direct.tick Pipelined.start Pipelined.tick book_words rate_words release_words release_rate_words headroom_refusal Preview.preview arrive_words into_frame sharing_fit booking bookings row_sum column_sum sum first_from some_of word port_word
preview_28 = refl

abbrev list_29 : Case
list_29 =
    record {
      switch =
          record {
            clock = clock_of 2 1 0 0 0;
            book = book_of (2 ∷ 2 ∷ 103 ∷ 7 ∷ 2 ∷ 1 ∷ 101 ∷ 3 ∷ 103 ∷ []) (2 ∷ 3 ∷ 2 ∷ 102 ∷ 1 ∷ 102 ∷ 7 ∷ 2 ∷ 104 ∷ []);
            credits = 1 ∷ 103 ∷ 101 ∷ 1 ∷ 7 ∷ 3 ∷ 7 ∷ 2 ∷ 7 ∷ [];
            queues = 1 ∷ 3 ∷ 4 ∷ 2 ∷ 3 ∷ 103 ∷ 2 ∷ 1 ∷ 2 ∷ [];
            given = 1 ∷ 3 ∷ 104 ∷ [];
            copy = 3 ∷ 2 ∷ 2 ∷ 104 ∷ 4 ∷ 2 ∷ 1 ∷ 7 ∷ 1 ∷ [];
            flight = 4 ∷ 102 ∷ 104 ∷ 1 ∷ 1 ∷ 101 ∷ 1 ∷ 101 ∷ 103 ∷ 102 ∷ 104 ∷ 2 ∷ 4 ∷ 103 ∷ 2 ∷ 1 ∷ 4 ∷ 1 ∷ [];
          };
      calls =
          start pipelined 1 7 7 fine
          ∷ book_rate 1 1 1
          ∷ arrive 1 1 6
          ∷ tick pipelined
          ∷ preview slots_release 1 1 4
          ∷ arrive 1 1 10
          ∷ preview slots_booking 1 1 1
          ∷ tick pipelined
          ∷ tick pipelined
          ∷ tick pipelined
          ∷ start pipelined 2 3 1000 fine
          ∷ book 2 2 1
          ∷ book 2 2 1
          ∷ book_rate 2 1 111
          ∷ book_rate 2 1 111
          ∷ book_rate 2 1 112
          ∷ book_rate 2 1 222
          ∷ book_rate 1 1 222
          ∷ book_rate 1 1 111
          ∷ book_rate 1 1 111
          ∷ arrive 2 1 1
          ∷ arrive 1 2 2
          ∷ arrive 1 1 1
          ∷ arrive 2 1 2
          ∷ arrive 1 2 2
          ∷ arrive 2 1 1
          ∷ tick pipelined
          ∷ arrive 1 2 1
          ∷ tick pipelined
          ∷ book_rate 1 2 111
          ∷ book 2 1 1
          ∷ preview rate_release 2 1 222
          ∷ tick pipelined
          ∷ tick pipelined
          ∷ tick pipelined
          ∷ tick pipelined
          ∷ tick pipelined
          ∷ tick pipelined
          ∷ tick pipelined
          ∷ preview slots_booking 2 1 4
          ∷ release_rate 1 4294967297 1
          ∷ tick pipelined
          ∷ book 1 1 1
          ∷ tick pipelined
          ∷ book 1 2 1
          ∷ tick pipelined
          ∷ tick pipelined
          ∷ preview rate_release 1 1 1
          ∷ book 1 2 1
          ∷ tick pipelined
          ∷ arrive 2 2 1
          ∷ arrive 0 2 1
          ∷ book 2 1 1
          ∷ arrive 1 1 2
          ∷ tick pipelined
          ∷ tick pipelined
          ∷ arrive 1 2 2
          ∷ tick pipelined
          ∷ [];
      expected =
          claim 1 1 1 0 0 0 0
          ∷ claim 1 1 4 0 0 1 0
          ∷ claim 1 1 7 0 1 0 0
          ∷ claim 1 1 10 0 1 0 0
          ∷ claim 1 1 13 0 1 0 0
          ∷ claim 1 1 16 0 1 0 0
          ∷ claim 1 2 1 0 0 0 0
          ∷ claim 1 2 4 0 0 2 0
          ∷ claim 1 2 7 0 2 3 0
          ∷ claim 1 2 10 0 2 1 0
          ∷ claim 1 2 13 0 2 0 0
          ∷ claim 1 2 16 0 2 0 0
          ∷ claim 2 1 1 0 0 0 0
          ∷ claim 2 1 4 0 0 2 0
          ∷ claim 2 1 7 1 2 2 1
          ∷ claim 2 1 10 1 2 0 0
          ∷ claim 2 1 13 1 2 0 0
          ∷ claim 2 1 16 1 2 0 0
          ∷ claim 2 2 1 0 0 0 0
          ∷ claim 2 2 4 0 0 0 0
          ∷ claim 2 2 7 2 1 0 0
          ∷ claim 2 2 10 2 1 0 0
          ∷ claim 2 2 13 2 1 0 0
          ∷ claim 2 2 16 2 1 1 1
          ∷ [];
      headrooms =
          told 1 1 0 (pos 2)
          ∷ told 1 2 0 (pos 1)
          ∷ told 2 1 0 (pos 0)
          ∷ told 2 2 0 (pos 0)
          ∷ told 3 1 5 (pos 0)
          ∷ told 1 4294967297 5 (pos 0)
          ∷ [];
      previews =
          showing slots_booking 2 2 1 15 4 3
          ∷ showing slots_booking 2 1 1 15 4 2
          ∷ showing rate_booking 2 1 111 0 3 1
          ∷ showing rate_booking 1 1 468 15 2 3
          ∷ showing slots_release 2 2 1 0 2 1
          ∷ showing slots_release 2 2 2 0 1 0
          ∷ showing rate_release 2 1 222 0 2 0
          ∷ showing rate_release 2 1 214 0 3 1
          ∷ showing slots_booking 4294967297 2 1 5 0 0
          ∷ showing slots_release 2 2 0 6 0 0
          ∷ [];
    }

pub agrees_29 : first_wrong list_29 ≡ 0
unfolding first_wrong entries apply Direct.start Direct.tick Pipelined.start Pipelined.tick book_words rate_words release_words release_rate_words headroom_refusal Preview.preview arrive_words into_frame sharing_fit booking bookings row_sum column_sum sum first_from some_of word port_word
agrees_29 = refl

pub headroom_29 : first_wrong_headroom list_29 ≡ 0
unfolding first_wrong_headroom final headroom_result pair_headroom headroom_over apply Direct.start Direct.tick Pipelined.start Pipelined.tick book_words rate_words release_words release_rate_words headroom_refusal Preview.preview arrive_words into_frame sharing_fit booking bookings row_sum column_sum sum first_from some_of word port_word
headroom_29 = refl

pub preview_29 : first_wrong_preview list_29 ≡ 0
unfolding first_wrong_preview final apply Direct.start Direct.tick Pipelined.start Pipelined.tick book_words rate_words release_words release_rate_words headroom_refusal Preview.preview arrive_words into_frame sharing_fit booking bookings row_sum column_sum sum first_from some_of word port_word
preview_29 = refl

abbrev list_30 : Case
list_30 =
    record {
      switch =
          record {
            clock = clock_of 2 5 1 100000001 7;
            book = book_of (2 ∷ 7 ∷ 101 ∷ 2 ∷ 4 ∷ 1 ∷ 7 ∷ 103 ∷ 7 ∷ []) (3 ∷ 102 ∷ 101 ∷ 102 ∷ 103 ∷ 1 ∷ 104 ∷ 1 ∷ 2 ∷ []);
            credits = 103 ∷ 3 ∷ 103 ∷ 102 ∷ 2 ∷ 1 ∷ 103 ∷ 3 ∷ 4 ∷ [];
            queues = 101 ∷ 104 ∷ 2 ∷ 2 ∷ 2 ∷ 103 ∷ 103 ∷ 103 ∷ 102 ∷ [];
            given = 2 ∷ 4 ∷ 1 ∷ [];
            copy = 103 ∷ 104 ∷ 3 ∷ 1 ∷ 7 ∷ 102 ∷ 101 ∷ 4 ∷ 7 ∷ [];
            flight = 4 ∷ 2 ∷ 4 ∷ 103 ∷ 7 ∷ 103 ∷ 4 ∷ 7 ∷ 3 ∷ 1 ∷ 3 ∷ 102 ∷ 103 ∷ 103 ∷ 1 ∷ 4 ∷ 104 ∷ 103 ∷ [];
          };
      calls =
          start direct 2 1 100000000 plain
          ∷ book_rate 1 1 33333334
          ∷ book_rate 2 1 100000000
          ∷ book_rate 2 1 66666667
          ∷ book_rate 2 1 33333333
          ∷ book_rate 2 1 33333333
          ∷ book_rate 2 1 33333333
          ∷ book_rate 2 1 33333334
          ∷ book_rate 2 1 33333334
          ∷ book_rate 2 1 33333333
          ∷ book_rate 1 2 33333333
          ∷ book_rate 1 2 33333333
          ∷ book_rate 1 2 33333333
          ∷ book_rate 1 2 33333333
          ∷ arrive 2 1 87
          ∷ arrive 2 2 72
          ∷ arrive 2 2 68
          ∷ arrive 1 2 81
          ∷ arrive 1 2 76
          ∷ arrive 1 2 46
          ∷ arrive 1 1 56
          ∷ book_rate 1 2 33333333
          ∷ tick direct
          ∷ book 1 1 1
          ∷ book_rate 1 1 100000000
          ∷ tick direct
          ∷ arrive 2 2 60
          ∷ tick direct
          ∷ tick direct
          ∷ tick direct
          ∷ book_rate 2 2 66666666
          ∷ tick direct
          ∷ tick direct
          ∷ tick direct
          ∷ tick direct
          ∷ tick direct
          ∷ tick direct
          ∷ preview rate_release 1 1 33333333
          ∷ tick direct
          ∷ tick direct
          ∷ tick direct
          ∷ preview rate_release 2 2 33333334
          ∷ tick direct
          ∷ release 4294967297 1 1
          ∷ book 2 1 1
          ∷ book_rate 1 2 33333333
          ∷ tick direct
          ∷ tick direct
          ∷ tick direct
          ∷ tick direct
          ∷ tick direct
          ∷ book 2 1 2
          ∷ book 2 2 1
          ∷ tick direct
          ∷ [];
      expected =
          claim 1 1 1 1 0 1 1
          ∷ claim 1 1 2 1 0 1 1
          ∷ claim 1 1 3 1 0 1 1
          ∷ claim 1 1 4 1 0 1 1
          ∷ claim 1 1 5 1 0 1 1
          ∷ claim 1 1 6 1 0 1 1
          ∷ claim 1 1 7 1 0 1 1
          ∷ claim 1 1 8 1 0 1 1
          ∷ claim 1 1 9 1 0 1 1
          ∷ claim 1 1 10 1 0 1 1
          ∷ claim 1 1 11 1 0 1 1
          ∷ claim 1 1 12 1 0 1 1
          ∷ claim 1 1 13 1 0 1 1
          ∷ claim 1 1 14 1 0 1 1
          ∷ claim 1 1 15 1 0 1 1
          ∷ claim 1 1 16 1 0 1 1
          ∷ claim 1 1 17 1 0 1 1
          ∷ claim 1 1 18 1 0 1 1
          ∷ claim 1 1 19 1 0 1 1
          ∷ claim 1 1 20 1 0 1 1
          ∷ claim 1 1 21 1 0 1 1
          ∷ claim 1 2 1 0 1 1 0
          ∷ claim 1 2 2 0 1 1 0
          ∷ claim 1 2 3 0 1 1 0
          ∷ claim 1 2 4 0 1 1 0
          ∷ claim 1 2 5 0 1 1 0
          ∷ claim 1 2 6 0 2 1 0
          ∷ claim 1 2 7 0 2 1 0
          ∷ claim 1 2 8 0 2 1 0
          ∷ claim 1 2 9 0 2 1 0
          ∷ claim 1 2 10 0 2 1 0
          ∷ claim 1 2 11 0 2 1 0
          ∷ claim 1 2 12 0 2 1 0
          ∷ claim 1 2 13 0 2 1 0
          ∷ claim 1 2 14 0 2 1 0
          ∷ claim 1 2 15 0 2 1 0
          ∷ claim 1 2 16 0 2 1 0
          ∷ claim 1 2 17 0 2 1 0
          ∷ claim 1 2 18 0 2 1 0
          ∷ claim 1 2 19 0 2 1 0
          ∷ claim 1 2 20 0 2 1 0
          ∷ claim 1 2 21 0 2 1 0
          ∷ claim 2 1 1 0 1 1 0
          ∷ claim 2 1 2 0 1 1 0
          ∷ claim 2 1 3 0 1 1 0
          ∷ claim 2 1 4 0 1 1 0
          ∷ claim 2 1 5 0 1 1 0
          ∷ claim 2 1 6 0 2 1 0
          ∷ claim 2 1 7 0 2 1 0
          ∷ claim 2 1 8 0 2 1 0
          ∷ claim 2 1 9 0 2 1 0
          ∷ claim 2 1 10 0 2 1 0
          ∷ claim 2 1 11 0 2 1 0
          ∷ claim 2 1 12 0 2 1 0
          ∷ claim 2 1 13 0 2 1 0
          ∷ claim 2 1 14 0 2 1 0
          ∷ claim 2 1 15 0 2 1 0
          ∷ claim 2 1 16 0 2 1 0
          ∷ claim 2 1 17 0 2 1 0
          ∷ claim 2 1 18 0 2 1 0
          ∷ claim 2 1 19 0 2 1 0
          ∷ claim 2 1 20 0 2 1 0
          ∷ claim 2 1 21 0 2 1 0
          ∷ claim 2 2 1 0 0 1 0
          ∷ claim 2 2 2 0 0 1 0
          ∷ claim 2 2 3 0 0 1 0
          ∷ claim 2 2 4 0 0 1 0
          ∷ claim 2 2 5 0 0 1 0
          ∷ claim 2 2 6 1 0 1 1
          ∷ claim 2 2 7 1 0 1 1
          ∷ claim 2 2 8 1 0 1 1
          ∷ claim 2 2 9 1 0 1 1
          ∷ claim 2 2 10 1 0 1 1
          ∷ claim 2 2 11 1 0 1 1
          ∷ claim 2 2 12 1 0 1 1
          ∷ claim 2 2 13 1 0 1 1
          ∷ claim 2 2 14 1 0 1 1
          ∷ claim 2 2 15 1 0 1 1
          ∷ claim 2 2 16 1 0 1 1
          ∷ claim 2 2 17 1 0 1 1
          ∷ claim 2 2 18 1 0 1 1
          ∷ claim 2 2 19 1 0 1 1
          ∷ claim 2 2 20 1 0 1 1
          ∷ claim 2 2 21 1 0 1 1
          ∷ [];
      headrooms =
          told 1 1 0 (pos 0)
          ∷ told 1 2 0 (negsuc 0)
          ∷ told 2 1 0 (negsuc 0)
          ∷ told 2 2 0 (pos 0)
          ∷ told 3 1 5 (pos 0)
          ∷ told 1 0 5 (pos 0)
          ∷ [];
      previews =
          showing slots_booking 1 2 1 8 2 2
          ∷ showing slots_booking 1 2 1 8 2 2
          ∷ showing rate_booking 2 2 66666667 8 2 2
          ∷ showing rate_booking 2 2 6954169 0 1 1
          ∷ showing slots_release 1 2 1 10 0 0
          ∷ showing slots_release 2 1 1 10 0 0
          ∷ showing rate_release 2 2 66666666 0 0 0
          ∷ showing rate_release 1 2 27713500 10 0 0
          ∷ showing rate_booking 1 0 1 5 0 0
          ∷ showing rate_release 1 2 100000001 6 0 0
          ∷ [];
    }

pub agrees_30 : first_wrong list_30 ≡ 0
unfolding first_wrong entries apply Direct.start Direct.tick Pipelined.start Pipelined.tick book_words rate_words release_words release_rate_words headroom_refusal Preview.preview arrive_words into_frame sharing_fit booking bookings row_sum column_sum sum first_from some_of word port_word
agrees_30 = refl

pub headroom_30 : first_wrong_headroom list_30 ≡ 0
unfolding first_wrong_headroom final headroom_result pair_headroom headroom_over apply Direct.start Direct.tick Pipelined.start Pipelined.tick book_words rate_words release_words release_rate_words headroom_refusal Preview.preview arrive_words into_frame sharing_fit booking bookings row_sum column_sum sum first_from some_of word port_word
headroom_30 = refl

pub preview_30 : first_wrong_preview list_30 ≡ 0
unfolding first_wrong_preview final apply Direct.start Direct.tick Pipelined.start Pipelined.tick book_words rate_words release_words release_rate_words headroom_refusal Preview.preview arrive_words into_frame sharing_fit booking bookings row_sum column_sum sum first_from some_of word port_word
preview_30 = refl

abbrev list_31 : Case
list_31 =
    record {
      switch =
          record {
            clock = clock_of 0 0 77 1 7;
            book = book_of (2 ∷ 3 ∷ 7 ∷ 1 ∷ 102 ∷ 4 ∷ 2 ∷ 1 ∷ 3 ∷ []) (103 ∷ 104 ∷ 1 ∷ 1 ∷ 7 ∷ 1 ∷ 101 ∷ 103 ∷ 4 ∷ []);
            credits = 3 ∷ 2 ∷ 2 ∷ 101 ∷ 101 ∷ 2 ∷ 1 ∷ 103 ∷ 3 ∷ [];
            queues = 102 ∷ 101 ∷ 3 ∷ 1 ∷ 102 ∷ 3 ∷ 3 ∷ 3 ∷ 4 ∷ [];
            given = 7 ∷ 1 ∷ 3 ∷ [];
            copy = 102 ∷ 1 ∷ 104 ∷ 101 ∷ 3 ∷ 2 ∷ 1 ∷ 1 ∷ 1 ∷ [];
            flight = 7 ∷ 3 ∷ 7 ∷ 7 ∷ 1 ∷ 101 ∷ 101 ∷ 3 ∷ 103 ∷ 2 ∷ 104 ∷ 102 ∷ 7 ∷ 103 ∷ 102 ∷ 4 ∷ 102 ∷ 1 ∷ [];
          };
      calls =
          start pipelined 3 6 1000 plain
          ∷ book 1 2 3
          ∷ book_rate 1 3 112
          ∷ book_rate 1 3 111
          ∷ book 3 1 1
          ∷ book_rate 1 1 55
          ∷ book_rate 1 1 111
          ∷ arrive 1 2 84
          ∷ arrive 2 3 62
          ∷ arrive 2 2 57
          ∷ arrive 3 3 90
          ∷ arrive 1 3 47
          ∷ tick pipelined
          ∷ preview slots_booking 1 2 1
          ∷ tick pipelined
          ∷ arrive 3 1 59
          ∷ arrive 3 3 48
          ∷ tick pipelined
          ∷ arrive 3 3 46
          ∷ tick pipelined
          ∷ release 1 2 1
          ∷ tick pipelined
          ∷ tick pipelined
          ∷ tick pipelined
          ∷ book_rate 1 3 55
          ∷ arrive 1 2 66
          ∷ tick pipelined
          ∷ tick pipelined
          ∷ book_rate 3 2 55
          ∷ tick pipelined
          ∷ tick pipelined
          ∷ headroom 3 1
          ∷ arrive 2 2 85
          ∷ tick pipelined
          ∷ arrive 3 2 62
          ∷ tick pipelined
          ∷ arrive 1 3 49
          ∷ tick pipelined
          ∷ tick pipelined
          ∷ arrive 1 2 56
          ∷ book_rate 3 3 56
          ∷ tick pipelined
          ∷ tick pipelined
          ∷ tick pipelined
          ∷ book_rate 1 2 55
          ∷ arrive 2 1 48
          ∷ arrive 2 2 79
          ∷ book_rate 1 2 111
          ∷ tick pipelined
          ∷ tick pipelined
          ∷ headroom 1 3
          ∷ tick pipelined
          ∷ tick pipelined
          ∷ arrive 1 1 79
          ∷ preview slots_release 1 2 1
          ∷ tick pipelined
          ∷ [];
      expected =
          claim 1 1 1 0 0 0 0
          ∷ claim 1 1 7 0 4 0 0
          ∷ claim 1 1 13 0 3 0 0
          ∷ claim 1 1 19 0 4 0 0
          ∷ claim 1 2 1 0 0 0 0
          ∷ claim 1 2 7 3 0 6 3
          ∷ claim 1 2 13 2 0 6 2
          ∷ claim 1 2 19 2 2 6 2
          ∷ claim 1 3 1 0 0 0 0
          ∷ claim 1 3 7 0 3 6 0
          ∷ claim 1 3 13 0 2 6 0
          ∷ claim 1 3 19 1 2 6 1
          ∷ claim 2 1 1 0 0 0 0
          ∷ claim 2 1 7 0 1 0 0
          ∷ claim 2 1 13 0 1 0 0
          ∷ claim 2 1 19 0 1 1 0
          ∷ claim 2 2 1 0 0 0 0
          ∷ claim 2 2 7 0 3 6 0
          ∷ claim 2 2 13 0 2 6 0
          ∷ claim 2 2 19 0 3 6 0
          ∷ claim 2 3 1 0 0 0 0
          ∷ claim 2 3 7 0 0 6 0
          ∷ claim 2 3 13 0 0 6 0
          ∷ claim 2 3 19 0 1 6 0
          ∷ claim 3 1 1 0 0 0 0
          ∷ claim 3 1 7 1 0 6 1
          ∷ claim 3 1 13 1 0 6 1
          ∷ claim 3 1 19 1 1 6 1
          ∷ claim 3 2 1 0 0 0 0
          ∷ claim 3 2 7 0 4 0 0
          ∷ claim 3 2 13 0 3 2 0
          ∷ claim 3 2 19 1 3 6 1
          ∷ claim 3 3 1 0 0 0 0
          ∷ claim 3 3 7 0 1 6 0
          ∷ claim 3 3 13 0 1 6 0
          ∷ claim 3 3 19 0 3 6 0
          ∷ [];
      headrooms =
          told 1 1 0 (pos 2)
          ∷ told 1 2 0 (pos 2)
          ∷ told 1 3 0 (pos 2)
          ∷ told 2 1 0 (pos 5)
          ∷ told 2 2 0 (pos 3)
          ∷ told 2 3 0 (pos 4)
          ∷ told 3 1 0 (pos 3)
          ∷ told 3 2 0 (pos 1)
          ∷ told 3 3 0 (pos 2)
          ∷ told 4 1 5 (pos 0)
          ∷ told 1 0 5 (pos 0)
          ∷ [];
      previews =
          showing slots_booking 1 1 1 8 4 2
          ∷ showing slots_booking 2 2 2 9 2 5
          ∷ showing rate_booking 1 2 166 8 4 4
          ∷ showing rate_booking 2 1 54 0 1 2
          ∷ showing slots_release 3 3 1 10 0 0
          ∷ showing slots_release 1 2 3 10 0 0
          ∷ showing rate_release 2 3 1 10 0 0
          ∷ showing rate_release 3 3 303 10 0 0
          ∷ showing rate_booking 4 2 1 5 0 0
          ∷ showing slots_booking 2 2 0 6 0 0
          ∷ [];
    }

pub agrees_31 : first_wrong list_31 ≡ 0
unfolding first_wrong entries apply Direct.start Direct.tick Pipelined.start Pipelined.tick book_words rate_words release_words release_rate_words headroom_refusal Preview.preview arrive_words into_frame sharing_fit booking bookings row_sum column_sum sum first_from some_of word port_word
agrees_31 = refl

pub headroom_31 : first_wrong_headroom list_31 ≡ 0
unfolding first_wrong_headroom final headroom_result pair_headroom headroom_over apply Direct.start Direct.tick Pipelined.start Pipelined.tick book_words rate_words release_words release_rate_words headroom_refusal Preview.preview arrive_words into_frame sharing_fit booking bookings row_sum column_sum sum first_from some_of word port_word
headroom_31 = refl

pub preview_31 : first_wrong_preview list_31 ≡ 0
unfolding first_wrong_preview final apply Direct.start Direct.tick Pipelined.start Pipelined.tick book_words rate_words release_words release_rate_words headroom_refusal Preview.preview arrive_words into_frame sharing_fit booking bookings row_sum column_sum sum first_from some_of word port_word
preview_31 = refl

abbrev list_32 : Case
list_32 =
    record {
      switch =
          record {
            clock = clock_of 1 2 4000000000 100000001 7;
            book = book_of (101 ∷ 103 ∷ 4 ∷ 4 ∷ 3 ∷ 2 ∷ 1 ∷ 2 ∷ 2 ∷ []) (103 ∷ 102 ∷ 3 ∷ 2 ∷ 1 ∷ 4 ∷ 102 ∷ 2 ∷ 3 ∷ []);
            credits = 7 ∷ 2 ∷ 103 ∷ 2 ∷ 2 ∷ 2 ∷ 104 ∷ 2 ∷ 101 ∷ [];
            queues = 101 ∷ 101 ∷ 4 ∷ 102 ∷ 103 ∷ 4 ∷ 101 ∷ 3 ∷ 101 ∷ [];
            given = 104 ∷ 104 ∷ 101 ∷ [];
            copy = 101 ∷ 3 ∷ 101 ∷ 2 ∷ 2 ∷ 102 ∷ 1 ∷ 2 ∷ 4 ∷ [];
            flight = 7 ∷ 2 ∷ 1 ∷ 101 ∷ 2 ∷ 104 ∷ 4 ∷ 3 ∷ 4 ∷ 102 ∷ 2 ∷ 103 ∷ 102 ∷ 7 ∷ 7 ∷ 102 ∷ 102 ∷ 1 ∷ [];
          };
      calls =
          start direct 1 4 100000000 fine
          ∷ book_rate 1 1 25000000
          ∷ book_rate 1 1 25000000
          ∷ arrive 1 1 11
          ∷ headroom 2 1
          ∷ tick direct
          ∷ release_rate 1 1 8333333
          ∷ headroom 1 1
          ∷ tick direct
          ∷ tick direct
          ∷ tick direct
          ∷ headroom 2 1
          ∷ release 1 1 1
          ∷ tick direct
          ∷ arrive 1 1 11
          ∷ arrive 1 1 9
          ∷ tick direct
          ∷ tick direct
          ∷ tick direct
          ∷ tick direct
          ∷ book 1 1 1
          ∷ release_rate 1 1 41666668
          ∷ book 1 1 1
          ∷ preview slots_booking 1 1 1
          ∷ tick direct
          ∷ tick direct
          ∷ tick direct
          ∷ [];
      expected =
          claim 1 1 1 2 0 4 2
          ∷ claim 1 1 5 2 0 4 2
          ∷ claim 1 1 9 2 0 4 2
          ∷ [];
      headrooms =
          told 1 1 0 (pos 0)
          ∷ told 2 1 5 (pos 0)
          ∷ told 1 0 5 (pos 0)
          ∷ [];
      previews =
          showing slots_booking 1 1 1 15 5 5
          ∷ showing slots_booking 1 1 2 15 6 6
          ∷ showing rate_booking 1 1 16666667 15 5 5
          ∷ showing rate_booking 1 1 47682604 15 6 6
          ∷ showing slots_release 1 1 2 0 2 2
          ∷ showing slots_release 1 1 1 0 3 3
          ∷ showing rate_release 1 1 41666668 10 0 0
          ∷ showing rate_release 1 1 20767822 0 3 3
          ∷ showing slots_booking 1 2 1 5 0 0
          ∷ showing rate_booking 1 1 100000001 6 0 0
          ∷ [];
    }

pub agrees_32 : first_wrong list_32 ≡ 0
unfolding first_wrong entries apply Direct.start Direct.tick Pipelined.start Pipelined.tick book_words rate_words release_words release_rate_words headroom_refusal Preview.preview arrive_words into_frame sharing_fit booking bookings row_sum column_sum sum first_from some_of word port_word
agrees_32 = refl

pub headroom_32 : first_wrong_headroom list_32 ≡ 0
unfolding first_wrong_headroom final headroom_result pair_headroom headroom_over apply Direct.start Direct.tick Pipelined.start Pipelined.tick book_words rate_words release_words release_rate_words headroom_refusal Preview.preview arrive_words into_frame sharing_fit booking bookings row_sum column_sum sum first_from some_of word port_word
headroom_32 = refl

pub preview_32 : first_wrong_preview list_32 ≡ 0
unfolding first_wrong_preview final apply Direct.start Direct.tick Pipelined.start Pipelined.tick book_words rate_words release_words release_rate_words headroom_refusal Preview.preview arrive_words into_frame sharing_fit booking bookings row_sum column_sum sum first_from some_of word port_word
preview_32 = refl

abbrev list_33 : Case
list_33 =
    record {
      switch =
          record {
            clock = clock_of 0 5 77 100000001 7;
            book = book_of (102 ∷ 1 ∷ 7 ∷ 104 ∷ 1 ∷ 2 ∷ 103 ∷ 102 ∷ 2 ∷ []) (1 ∷ 101 ∷ 3 ∷ 4 ∷ 102 ∷ 102 ∷ 2 ∷ 1 ∷ 1 ∷ []);
            credits = 4 ∷ 103 ∷ 1 ∷ 3 ∷ 1 ∷ 2 ∷ 7 ∷ 2 ∷ 1 ∷ [];
            queues = 103 ∷ 7 ∷ 2 ∷ 103 ∷ 4 ∷ 104 ∷ 2 ∷ 103 ∷ 104 ∷ [];
            given = 103 ∷ 2 ∷ 3 ∷ [];
            copy = 102 ∷ 102 ∷ 2 ∷ 101 ∷ 2 ∷ 2 ∷ 102 ∷ 2 ∷ 3 ∷ [];
            flight = 102 ∷ 7 ∷ 103 ∷ 103 ∷ 104 ∷ 102 ∷ 3 ∷ 3 ∷ 1 ∷ 2 ∷ 1 ∷ 101 ∷ 2 ∷ 2 ∷ 3 ∷ 1 ∷ 103 ∷ 104 ∷ [];
          };
      calls =
          start pipelined 2 5 1000 plain
          ∷ book_rate 2 2 66
          ∷ book_rate 2 2 66
          ∷ book 2 1 1
          ∷ book_rate 1 1 134
          ∷ book_rate 1 1 201
          ∷ arrive 2 2 46
          ∷ arrive 2 1 59
          ∷ arrive 1 2 70
          ∷ arrive 1 2 83
          ∷ arrive 1 1 88
          ∷ book 2 2 3
          ∷ arrive 1 1 58
          ∷ release_rate 1 1 134
          ∷ release_rate 1 1 66
          ∷ book 2 2 1
          ∷ start pipelined 33 5 1000 fine
          ∷ release 2 2 1
          ∷ tick pipelined
          ∷ tick pipelined
          ∷ tick pipelined
          ∷ arrive 1 0 1
          ∷ tick pipelined
          ∷ tick pipelined
          ∷ tick pipelined
          ∷ headroom 1 3
          ∷ tick pipelined
          ∷ tick pipelined
          ∷ tick pipelined
          ∷ book 2 1 1
          ∷ release 2 1 3
          ∷ release_rate 1 1 133
          ∷ release 1 2 1
          ∷ tick pipelined
          ∷ tick pipelined
          ∷ arrive 2 1 85
          ∷ tick pipelined
          ∷ tick pipelined
          ∷ tick pipelined
          ∷ [];
      expected =
          claim 1 1 1 0 0 1 0
          ∷ claim 1 1 6 1 1 5 1
          ∷ claim 1 1 11 1 1 5 1
          ∷ claim 1 2 1 0 0 1 0
          ∷ claim 1 2 6 0 2 5 0
          ∷ claim 1 2 11 0 2 5 0
          ∷ claim 2 1 1 0 0 1 0
          ∷ claim 2 1 6 1 2 5 1
          ∷ claim 2 1 11 1 2 5 1
          ∷ claim 2 2 1 0 0 1 0
          ∷ claim 2 2 6 1 1 5 1
          ∷ claim 2 2 11 1 1 5 1
          ∷ [];
      headrooms =
          told 1 1 0 (pos 2)
          ∷ told 1 2 0 (pos 3)
          ∷ told 2 1 0 (pos 1)
          ∷ told 2 2 0 (pos 2)
          ∷ told 3 1 5 (pos 0)
          ∷ told 1 0 5 (pos 0)
          ∷ [];
      previews =
          showing slots_booking 1 2 1 0 2 2
          ∷ showing slots_booking 1 2 1 0 2 2
          ∷ showing rate_booking 2 2 66 0 3 1
          ∷ showing rate_booking 1 1 280 9 2 4
          ∷ showing slots_release 2 1 1 0 2 2
          ∷ showing slots_release 2 1 1 0 2 2
          ∷ showing rate_release 1 2 1 10 0 0
          ∷ showing rate_release 2 2 198 10 0 0
          ∷ showing slots_release 1 3 1 5 0 0
          ∷ showing slots_booking 1 2 6 6 0 0
          ∷ [];
    }

pub agrees_33 : first_wrong list_33 ≡ 0
unfolding first_wrong entries apply Direct.start Direct.tick Pipelined.start Pipelined.tick book_words rate_words release_words release_rate_words headroom_refusal Preview.preview arrive_words into_frame sharing_fit booking bookings row_sum column_sum sum first_from some_of word port_word
agrees_33 = refl

pub headroom_33 : first_wrong_headroom list_33 ≡ 0
unfolding first_wrong_headroom final headroom_result pair_headroom headroom_over apply Direct.start Direct.tick Pipelined.start Pipelined.tick book_words rate_words release_words release_rate_words headroom_refusal Preview.preview arrive_words into_frame sharing_fit booking bookings row_sum column_sum sum first_from some_of word port_word
headroom_33 = refl

pub preview_33 : first_wrong_preview list_33 ≡ 0
unfolding first_wrong_preview final apply Direct.start Direct.tick Pipelined.start Pipelined.tick book_words rate_words release_words release_rate_words headroom_refusal Preview.preview arrive_words into_frame sharing_fit booking bookings row_sum column_sum sum first_from some_of word port_word
preview_33 = refl

abbrev list_34 : Case
list_34 =
    record {
      switch =
          record {
            clock = clock_of 33 5 5 100000001 7;
            book = book_of (1 ∷ 4 ∷ 1 ∷ 2 ∷ 2 ∷ 104 ∷ 102 ∷ 3 ∷ 2 ∷ []) (3 ∷ 101 ∷ 2 ∷ 101 ∷ 7 ∷ 102 ∷ 101 ∷ 3 ∷ 104 ∷ []);
            credits = 103 ∷ 104 ∷ 2 ∷ 3 ∷ 3 ∷ 1 ∷ 4 ∷ 101 ∷ 2 ∷ [];
            queues = 1 ∷ 101 ∷ 1 ∷ 2 ∷ 3 ∷ 101 ∷ 2 ∷ 1 ∷ 1 ∷ [];
            given = 102 ∷ 104 ∷ 2 ∷ [];
            copy = 7 ∷ 1 ∷ 1 ∷ 3 ∷ 7 ∷ 3 ∷ 2 ∷ 1 ∷ 4 ∷ [];
            flight = 1 ∷ 103 ∷ 7 ∷ 4 ∷ 101 ∷ 2 ∷ 1 ∷ 2 ∷ 1 ∷ 102 ∷ 2 ∷ 104 ∷ 102 ∷ 2 ∷ 2 ∷ 102 ∷ 104 ∷ 1 ∷ [];
          };
      calls =
          start direct 3 7 1000 plain
          ∷ book 3 3 1
          ∷ book 3 2 1
          ∷ book_rate 2 1 48
          ∷ book_rate 2 1 48
          ∷ book_rate 2 1 47
          ∷ book_rate 2 1 95
          ∷ book_rate 2 1 95
          ∷ book_rate 2 1 47
          ∷ book_rate 2 1 47
          ∷ book_rate 2 1 96
          ∷ book_rate 2 1 47
          ∷ book_rate 2 1 47
          ∷ book_rate 2 1 48
          ∷ book_rate 3 1 47
          ∷ book_rate 3 1 47
          ∷ book_rate 3 1 96
          ∷ book_rate 3 1 142
          ∷ book 1 1 1
          ∷ arrive 3 2 2
          ∷ arrive 1 1 2
          ∷ arrive 3 3 4
          ∷ book 3 3 1
          ∷ arrive 1 1 4
          ∷ tick direct
          ∷ headroom 2 3
          ∷ release_rate 2 2 1
          ∷ arrive 1 1 5
          ∷ tick direct
          ∷ release_rate 2 1 47
          ∷ tick direct
          ∷ preview rate_booking 2 1 47
          ∷ tick direct
          ∷ tick direct
          ∷ tick direct
          ∷ tick direct
          ∷ arrive 3 3 5
          ∷ tick direct
          ∷ tick direct
          ∷ tick direct
          ∷ [];
      expected =
          claim 1 1 1 0 4 7 0
          ∷ claim 1 1 8 0 4 3 0
          ∷ claim 1 2 1 0 1 0 0
          ∷ claim 1 2 8 0 1 0 0
          ∷ claim 1 3 1 0 2 0 0
          ∷ claim 1 3 8 0 2 0 0
          ∷ claim 2 1 1 4 0 0 0
          ∷ claim 2 1 8 4 0 0 0
          ∷ claim 2 2 1 0 5 0 0
          ∷ claim 2 2 8 0 5 0 0
          ∷ claim 2 3 1 0 6 0 0
          ∷ claim 2 3 8 0 6 0 0
          ∷ claim 3 1 1 0 7 0 0
          ∷ claim 3 1 8 0 7 0 0
          ∷ claim 3 2 1 1 2 4 1
          ∷ claim 3 2 8 1 2 0 0
          ∷ claim 3 3 1 2 1 6 2
          ∷ claim 3 3 8 2 1 3 2
          ∷ [];
      headrooms =
          told 1 1 0 (pos 3)
          ∷ told 1 2 0 (pos 6)
          ∷ told 1 3 0 (pos 5)
          ∷ told 2 1 0 (pos 3)
          ∷ told 2 2 0 (pos 2)
          ∷ told 2 3 0 (pos 1)
          ∷ told 3 1 0 (pos 0)
          ∷ told 3 2 0 (pos 4)
          ∷ told 3 3 0 (pos 4)
          ∷ told 4 1 5 (pos 0)
          ∷ told 1 4294967297 5 (pos 0)
          ∷ [];
      previews =
          showing slots_booking 2 1 1 8 5 5
          ∷ showing slots_booking 1 1 4 9 4 8
          ∷ showing rate_booking 2 3 95 8 5 3
          ∷ showing rate_booking 1 2 120 0 1 2
          ∷ showing slots_release 3 2 1 0 2 0
          ∷ showing slots_release 3 2 4 10 0 0
          ∷ showing rate_release 2 1 523 0 0 0
          ∷ showing rate_release 2 1 295 0 2 2
          ∷ showing rate_booking 4 3 1 5 0 0
          ∷ showing slots_release 3 3 8 6 0 0
          ∷ [];
    }

pub agrees_34 : first_wrong list_34 ≡ 0
unfolding first_wrong entries apply Direct.start Direct.tick Pipelined.start Pipelined.tick book_words rate_words release_words release_rate_words headroom_refusal Preview.preview arrive_words into_frame sharing_fit booking bookings row_sum column_sum sum first_from some_of word port_word
agrees_34 = refl

pub headroom_34 : first_wrong_headroom list_34 ≡ 0
unfolding first_wrong_headroom final headroom_result pair_headroom headroom_over apply Direct.start Direct.tick Pipelined.start Pipelined.tick book_words rate_words release_words release_rate_words headroom_refusal Preview.preview arrive_words into_frame sharing_fit booking bookings row_sum column_sum sum first_from some_of word port_word
headroom_34 = refl

pub preview_34 : first_wrong_preview list_34 ≡ 0
unfolding first_wrong_preview final apply Direct.start Direct.tick Pipelined.start Pipelined.tick book_words rate_words release_words release_rate_words headroom_refusal Preview.preview arrive_words into_frame sharing_fit booking bookings row_sum column_sum sum first_from some_of word port_word
preview_34 = refl

abbrev list_35 : Case
list_35 =
    record {
      switch =
          record {
            clock = clock_of 3 10001 5 1 7;
            book = book_of (104 ∷ 1 ∷ 101 ∷ 1 ∷ 1 ∷ 7 ∷ 4 ∷ 102 ∷ 2 ∷ []) (2 ∷ 102 ∷ 7 ∷ 101 ∷ 104 ∷ 7 ∷ 1 ∷ 1 ∷ 102 ∷ []);
            credits = 1 ∷ 2 ∷ 101 ∷ 102 ∷ 102 ∷ 2 ∷ 1 ∷ 3 ∷ 1 ∷ [];
            queues = 104 ∷ 7 ∷ 1 ∷ 101 ∷ 103 ∷ 1 ∷ 101 ∷ 2 ∷ 1 ∷ [];
            given = 1 ∷ 2 ∷ 101 ∷ [];
            copy = 2 ∷ 1 ∷ 2 ∷ 3 ∷ 2 ∷ 1 ∷ 104 ∷ 1 ∷ 3 ∷ [];
            flight = 2 ∷ 2 ∷ 4 ∷ 101 ∷ 2 ∷ 102 ∷ 3 ∷ 4 ∷ 4 ∷ 1 ∷ 103 ∷ 103 ∷ 101 ∷ 101 ∷ 2 ∷ 4 ∷ 2 ∷ 7 ∷ [];
          };
      calls =
          start pipelined 3 3 100000000 fine
          ∷ book 1 2 1
          ∷ book_rate 2 1 11111111
          ∷ book_rate 2 1 33333334
          ∷ book_rate 2 1 33333333
          ∷ book_rate 2 1 22222223
          ∷ book_rate 3 3 11111111
          ∷ book_rate 3 3 33333334
          ∷ book_rate 3 3 11111111
          ∷ book_rate 3 3 11111112
          ∷ book_rate 2 2 11111111
          ∷ book_rate 2 2 11111111
          ∷ book_rate 2 2 11111111
          ∷ book_rate 2 2 22222222
          ∷ arrive 1 1 80
          ∷ arrive 3 1 88
          ∷ arrive 3 2 76
          ∷ arrive 3 1 66
          ∷ arrive 3 2 70
          ∷ arrive 3 3 59
          ∷ arrive 2 3 61
          ∷ arrive 3 3 80
          ∷ arrive 3 1 69
          ∷ arrive 3 1 57
          ∷ arrive 1 3 78
          ∷ arrive 2 3 48
          ∷ arrive 1 1 83
          ∷ arrive 2 2 89
          ∷ tick pipelined
          ∷ preview slots_booking 2 1 1
          ∷ book_rate 2 2 11111111
          ∷ book 3 2 1
          ∷ book 3 2 1
          ∷ tick pipelined
          ∷ tick pipelined
          ∷ arrive 2 2 82
          ∷ arrive 3 3 47
          ∷ arrive 2 3 86
          ∷ tick pipelined
          ∷ preview rate_release 2 1 77777779
          ∷ start pipelined 13 32 100000000 plain
          ∷ arrive 2 2 85
          ∷ tick pipelined
          ∷ tick pipelined
          ∷ tick pipelined
          ∷ headroom 3 2
          ∷ tick pipelined
          ∷ arrive 3 1 70
          ∷ book_rate 3 1 0
          ∷ tick pipelined
          ∷ tick pipelined
          ∷ preview slots_booking 1 2 1
          ∷ arrive 3 3 56
          ∷ tick pipelined
          ∷ tick pipelined
          ∷ tick pipelined
          ∷ arrive 3 2 87
          ∷ tick pipelined
          ∷ book_rate 1 1 22222223
          ∷ book_rate 1 2 22222222
          ∷ preview rate_release 1 2 22222222
          ∷ tick pipelined
          ∷ tick pipelined
          ∷ tick pipelined
          ∷ [];
      expected =
          claim 1 1 1 0 0 0 0
          ∷ claim 1 1 4 0 0 0 0
          ∷ claim 1 1 7 0 4 3 0
          ∷ claim 1 1 10 0 4 3 0
          ∷ claim 1 1 13 0 4 3 0
          ∷ claim 1 1 16 0 4 3 0
          ∷ claim 1 2 1 0 0 0 0
          ∷ claim 1 2 4 0 0 0 0
          ∷ claim 1 2 7 1 0 0 0
          ∷ claim 1 2 10 1 0 0 0
          ∷ claim 1 2 13 1 0 0 0
          ∷ claim 1 2 16 1 0 0 0
          ∷ claim 1 3 1 0 0 0 0
          ∷ claim 1 3 4 0 0 0 0
          ∷ claim 1 3 7 0 4 3 0
          ∷ claim 1 3 10 0 4 3 0
          ∷ claim 1 3 13 0 4 3 0
          ∷ claim 1 3 16 0 4 3 0
          ∷ claim 2 1 1 0 0 0 0
          ∷ claim 2 1 4 0 0 0 0
          ∷ claim 2 1 7 3 0 0 0
          ∷ claim 2 1 10 3 0 0 0
          ∷ claim 2 1 13 3 0 0 0
          ∷ claim 2 1 16 3 0 0 0
          ∷ claim 2 2 1 0 0 0 0
          ∷ claim 2 2 4 0 0 0 0
          ∷ claim 2 2 7 0 4 3 0
          ∷ claim 2 2 10 0 4 3 0
          ∷ claim 2 2 13 0 4 3 0
          ∷ claim 2 2 16 0 4 3 0
          ∷ claim 2 3 1 0 0 0 0
          ∷ claim 2 3 4 0 0 0 0
          ∷ claim 2 3 7 0 6 3 0
          ∷ claim 2 3 10 0 6 3 0
          ∷ claim 2 3 13 0 6 3 0
          ∷ claim 2 3 16 0 6 3 0
          ∷ claim 3 1 1 0 0 0 0
          ∷ claim 3 1 4 0 0 0 0
          ∷ claim 3 1 7 0 6 3 0
          ∷ claim 3 1 10 0 6 3 0
          ∷ claim 3 1 13 0 6 3 0
          ∷ claim 3 1 16 0 6 3 0
          ∷ claim 3 2 1 0 0 0 0
          ∷ claim 3 2 4 0 0 0 0
          ∷ claim 3 2 7 0 4 3 0
          ∷ claim 3 2 10 0 4 3 0
          ∷ claim 3 2 13 0 4 3 0
          ∷ claim 3 2 16 0 4 3 0
          ∷ claim 3 3 1 0 0 0 0
          ∷ claim 3 3 4 0 0 0 0
          ∷ claim 3 3 7 3 0 3 3
          ∷ claim 3 3 10 3 0 3 3
          ∷ claim 3 3 13 3 0 3 3
          ∷ claim 3 3 16 3 0 3 3
          ∷ [];
      headrooms =
          told 1 1 0 (negsuc 1)
          ∷ told 1 2 0 (pos 1)
          ∷ told 1 3 0 (negsuc 1)
          ∷ told 2 1 0 (pos 0)
          ∷ told 2 2 0 (negsuc 1)
          ∷ told 2 3 0 (negsuc 2)
          ∷ told 3 1 0 (negsuc 2)
          ∷ told 3 2 0 (negsuc 1)
          ∷ told 3 3 0 (pos 0)
          ∷ told 4 1 5 (pos 0)
          ∷ told 1 0 5 (pos 0)
          ∷ [];
      previews =
          showing slots_booking 2 1 1 15 4 4
          ∷ showing slots_booking 2 1 2 15 5 5
          ∷ showing rate_booking 1 1 11111112 15 3 4
          ∷ showing rate_booking 1 3 1135379 15 3 4
          ∷ showing slots_release 1 2 2 10 0 0
          ∷ showing slots_release 1 2 1 0 1 1
          ∷ showing rate_release 3 3 22222223 0 2 2
          ∷ showing rate_release 2 1 28697220 0 2 2
          ∷ showing rate_release 0 1 1 5 0 0
          ∷ showing slots_release 1 1 4 6 0 0
          ∷ [];
    }

pub agrees_35 : first_wrong list_35 ≡ 0
unfolding first_wrong entries apply Direct.start Direct.tick Pipelined.start Pipelined.tick book_words rate_words release_words release_rate_words headroom_refusal Preview.preview arrive_words into_frame sharing_fit booking bookings row_sum column_sum sum first_from some_of word port_word
agrees_35 = refl

pub headroom_35 : first_wrong_headroom list_35 ≡ 0
unfolding first_wrong_headroom final headroom_result pair_headroom headroom_over apply Direct.start Direct.tick Pipelined.start Pipelined.tick book_words rate_words release_words release_rate_words headroom_refusal Preview.preview arrive_words into_frame sharing_fit booking bookings row_sum column_sum sum first_from some_of word port_word
headroom_35 = refl

pub preview_35 : first_wrong_preview list_35 ≡ 0
unfolding first_wrong_preview final apply Direct.start Direct.tick Pipelined.start Pipelined.tick book_words rate_words release_words release_rate_words headroom_refusal Preview.preview arrive_words into_frame sharing_fit booking bookings row_sum column_sum sum first_from some_of word port_word
preview_35 = refl

abbrev list_36 : Case
list_36 =
    record {
      switch =
          record {
            clock = clock_of 33 5 1 0 0;
            book = book_of (1 ∷ 3 ∷ 101 ∷ 2 ∷ 101 ∷ 7 ∷ 7 ∷ 104 ∷ 7 ∷ []) (103 ∷ 3 ∷ 104 ∷ 2 ∷ 7 ∷ 4 ∷ 2 ∷ 4 ∷ 7 ∷ []);
            credits = 103 ∷ 1 ∷ 104 ∷ 102 ∷ 1 ∷ 104 ∷ 3 ∷ 2 ∷ 1 ∷ [];
            queues = 101 ∷ 2 ∷ 103 ∷ 7 ∷ 102 ∷ 4 ∷ 3 ∷ 103 ∷ 104 ∷ [];
            given = 3 ∷ 7 ∷ 1 ∷ [];
            copy = 104 ∷ 101 ∷ 4 ∷ 101 ∷ 102 ∷ 2 ∷ 2 ∷ 103 ∷ 7 ∷ [];
            flight = 104 ∷ 4 ∷ 4 ∷ 103 ∷ 7 ∷ 101 ∷ 3 ∷ 2 ∷ 103 ∷ 4 ∷ 3 ∷ 102 ∷ 1 ∷ 2 ∷ 2 ∷ 101 ∷ 3 ∷ 4 ∷ [];
          };
      calls =
          start direct 3 3 100000000 plain
          ∷ book 2 2 1
          ∷ book_rate 2 3 11111111
          ∷ book 2 1 1
          ∷ book_rate 2 2 11111111
          ∷ book_rate 2 2 11111111
          ∷ book_rate 1 3 22222223
          ∷ arrive 2 2 6
          ∷ arrive 1 2 12
          ∷ arrive 3 3 11
          ∷ arrive 2 3 9
          ∷ arrive 2 2 6
          ∷ arrive 3 2 9
          ∷ arrive 3 3 11
          ∷ arrive 3 1 12
          ∷ arrive 2 3 9
          ∷ arrive 3 1 12
          ∷ arrive 2 1 8
          ∷ tick direct
          ∷ tick direct
          ∷ headroom 1 3
          ∷ tick direct
          ∷ start direct 2 3 100000000 fine
          ∷ book_rate 2 2 22222222
          ∷ book 2 2 1
          ∷ arrive 1 2 74
          ∷ arrive 1 2 80
          ∷ arrive 1 2 49
          ∷ arrive 1 1 46
          ∷ arrive 1 1 46
          ∷ arrive 2 1 57
          ∷ tick direct
          ∷ preview rate_booking 2 1 11111111
          ∷ arrive 2 2 82
          ∷ tick direct
          ∷ tick direct
          ∷ preview rate_booking 2 2 11111111
          ∷ tick direct
          ∷ headroom 1 2
          ∷ tick direct
          ∷ tick direct
          ∷ release_rate 2 2 22222222
          ∷ preview rate_release 1 1 1
          ∷ tick direct
          ∷ tick direct
          ∷ tick direct
          ∷ arrive 2 2 85
          ∷ tick direct
          ∷ tick direct
          ∷ book_rate 1 2 11111111
          ∷ tick direct
          ∷ tick direct
          ∷ tick direct
          ∷ tick direct
          ∷ tick direct
          ∷ tick direct
          ∷ tick direct
          ∷ preview rate_release 1 2 11111111
          ∷ tick direct
          ∷ tick direct
          ∷ arrive 1 1 47
          ∷ release_rate 1 2 11111111
          ∷ start direct 2 3 100000001 plain
          ∷ release_rate 1 2 1
          ∷ arrive 1 2 57
          ∷ tick direct
          ∷ tick direct
          ∷ [];
      expected =
          claim 1 1 1 0 0 3 0
          ∷ claim 1 1 4 0 0 3 0
          ∷ claim 1 1 7 0 0 3 0
          ∷ claim 1 1 10 0 0 3 0
          ∷ claim 1 1 13 0 1 3 0
          ∷ claim 1 1 16 0 1 3 0
          ∷ claim 1 1 19 0 1 3 0
          ∷ claim 1 1 22 0 0 1 0
          ∷ claim 1 2 1 0 2 3 0
          ∷ claim 1 2 4 0 2 3 0
          ∷ claim 1 2 7 0 1 3 0
          ∷ claim 1 2 10 0 1 3 0
          ∷ claim 1 2 13 1 1 3 1
          ∷ claim 1 2 16 1 1 3 1
          ∷ claim 1 2 19 1 1 3 1
          ∷ claim 1 2 22 0 1 1 0
          ∷ claim 2 1 1 0 2 3 0
          ∷ claim 2 1 4 0 2 3 0
          ∷ claim 2 1 7 0 1 3 0
          ∷ claim 2 1 10 0 1 3 0
          ∷ claim 2 1 13 0 1 3 0
          ∷ claim 2 1 16 0 1 3 0
          ∷ claim 2 1 19 0 1 3 0
          ∷ claim 2 1 22 0 1 1 0
          ∷ claim 2 2 1 2 0 2 2
          ∷ claim 2 2 4 2 0 3 2
          ∷ claim 2 2 7 1 0 3 1
          ∷ claim 2 2 10 1 0 3 1
          ∷ claim 2 2 13 1 1 3 1
          ∷ claim 2 2 16 1 1 3 1
          ∷ claim 2 2 19 1 1 3 1
          ∷ claim 2 2 22 1 0 1 1
          ∷ [];
      headrooms =
          told 1 1 0 (pos 3)
          ∷ told 1 2 0 (pos 2)
          ∷ told 2 1 0 (pos 2)
          ∷ told 2 2 0 (pos 2)
          ∷ told 3 1 5 (pos 0)
          ∷ told 1 4294967297 5 (pos 0)
          ∷ [];
      previews =
          showing slots_booking 2 2 1 0 2 2
          ∷ showing slots_booking 2 1 2 0 3 2
          ∷ showing rate_booking 2 2 11111111 0 2 2
          ∷ showing rate_booking 1 1 34402162 0 2 2
          ∷ showing slots_release 2 2 2 10 0 0
          ∷ showing slots_release 2 2 2 10 0 0
          ∷ showing rate_release 2 1 1 10 0 0
          ∷ showing rate_release 1 1 46916582 10 0 0
          ∷ showing slots_booking 2 4294967297 1 5 0 0
          ∷ showing rate_booking 2 1 0 6 0 0
          ∷ [];
    }

pub agrees_36 : first_wrong list_36 ≡ 0
unfolding first_wrong entries apply Direct.start Direct.tick Pipelined.start Pipelined.tick book_words rate_words release_words release_rate_words headroom_refusal Preview.preview arrive_words into_frame sharing_fit booking bookings row_sum column_sum sum first_from some_of word port_word
agrees_36 = refl

pub headroom_36 : first_wrong_headroom list_36 ≡ 0
unfolding first_wrong_headroom final headroom_result pair_headroom headroom_over apply Direct.start Direct.tick Pipelined.start Pipelined.tick book_words rate_words release_words release_rate_words headroom_refusal Preview.preview arrive_words into_frame sharing_fit booking bookings row_sum column_sum sum first_from some_of word port_word
headroom_36 = refl

pub preview_36 : first_wrong_preview list_36 ≡ 0
unfolding first_wrong_preview final apply Direct.start Direct.tick Pipelined.start Pipelined.tick book_words rate_words release_words release_rate_words headroom_refusal Preview.preview arrive_words into_frame sharing_fit booking bookings row_sum column_sum sum first_from some_of word port_word
preview_36 = refl

abbrev list_37 : Case
list_37 =
    record {
      switch =
          record {
            clock = clock_of 33 2 1 1 7;
            book = book_of (2 ∷ 4 ∷ 3 ∷ 7 ∷ 103 ∷ 2 ∷ 2 ∷ 3 ∷ 102 ∷ []) (7 ∷ 1 ∷ 1 ∷ 1 ∷ 7 ∷ 1 ∷ 103 ∷ 2 ∷ 1 ∷ []);
            credits = 103 ∷ 102 ∷ 104 ∷ 103 ∷ 4 ∷ 2 ∷ 3 ∷ 2 ∷ 1 ∷ [];
            queues = 7 ∷ 4 ∷ 2 ∷ 7 ∷ 103 ∷ 104 ∷ 2 ∷ 2 ∷ 104 ∷ [];
            given = 102 ∷ 4 ∷ 1 ∷ [];
            copy = 3 ∷ 2 ∷ 4 ∷ 104 ∷ 2 ∷ 1 ∷ 104 ∷ 102 ∷ 102 ∷ [];
            flight = 104 ∷ 4 ∷ 2 ∷ 104 ∷ 4 ∷ 2 ∷ 101 ∷ 4 ∷ 101 ∷ 101 ∷ 4 ∷ 4 ∷ 4 ∷ 2 ∷ 101 ∷ 102 ∷ 3 ∷ 101 ∷ [];
          };
      calls =
          start pipelined 2 7 0 plain
          ∷ book_rate 2 2 1
          ∷ book_rate 2 1 1
          ∷ book_rate 2 1 1
          ∷ book_rate 2 1 1
          ∷ arrive 2 1 4
          ∷ arrive 2 2 5
          ∷ arrive 2 1 4
          ∷ arrive 2 2 4
          ∷ arrive 1 1 2
          ∷ arrive 2 1 4
          ∷ preview rate_release 2 2 1
          ∷ release_rate 1 2 1
          ∷ headroom 2 1
          ∷ release_rate 2 2 1
          ∷ tick pipelined
          ∷ tick pipelined
          ∷ tick pipelined
          ∷ tick pipelined
          ∷ start pipelined 1 4 1000 fine
          ∷ book_rate 1 1 84
          ∷ arrive 1 1 2
          ∷ tick pipelined
          ∷ tick pipelined
          ∷ arrive 1 1 1
          ∷ release 1 1 1
          ∷ tick pipelined
          ∷ book 1 1 1
          ∷ tick pipelined
          ∷ tick pipelined
          ∷ release_rate 1 1 85
          ∷ tick pipelined
          ∷ release_rate 1 1 83
          ∷ tick pipelined
          ∷ tick pipelined
          ∷ headroom 1 1
          ∷ arrive 1 1 2
          ∷ arrive 1 1 1
          ∷ tick pipelined
          ∷ tick pipelined
          ∷ tick pipelined
          ∷ tick pipelined
          ∷ tick pipelined
          ∷ tick pipelined
          ∷ arrive 1 1 2
          ∷ arrive 1 1 1
          ∷ arrive 1 1 1
          ∷ release 1 1 1
          ∷ release_rate 1 1 1
          ∷ tick pipelined
          ∷ tick pipelined
          ∷ arrive 1 1 1
          ∷ arrive 1 1 1
          ∷ tick pipelined
          ∷ arrive 1 1 2
          ∷ tick pipelined
          ∷ preview slots_booking 1 1 1
          ∷ book 1 1 1
          ∷ tick pipelined
          ∷ start pipelined 0 4 1000 plain
          ∷ book 1 1 1
          ∷ preview slots_release 1 1 1
          ∷ release_rate 1 1 1
          ∷ tick pipelined
          ∷ [];
      expected =
          claim 1 1 1 0 0 2 0
          ∷ claim 1 1 5 1 0 1 1
          ∷ claim 1 1 9 2 0 2 2
          ∷ claim 1 1 13 2 0 0 0
          ∷ claim 1 1 17 0 0 4 0
          ∷ claim 1 1 21 1 0 1 1
          ∷ [];
      headrooms =
          told 1 1 0 (pos 2)
          ∷ told 2 1 5 (pos 0)
          ∷ told 1 0 5 (pos 0)
          ∷ [];
      previews =
          showing slots_booking 1 1 1 0 3 3
          ∷ showing slots_booking 1 1 2 0 4 4
          ∷ showing rate_booking 1 1 83 0 3 3
          ∷ showing rate_booking 1 1 26 0 3 3
          ∷ showing slots_release 1 1 1 0 1 1
          ∷ showing slots_release 1 1 1 0 1 1
          ∷ showing rate_release 1 1 1 10 0 0
          ∷ showing rate_release 1 1 386 10 0 0
          ∷ showing rate_release 2 1 1 5 0 0
          ∷ showing rate_release 1 1 1001 6 0 0
          ∷ [];
    }

pub agrees_37 : first_wrong list_37 ≡ 0
unfolding first_wrong entries apply Direct.start Direct.tick Pipelined.start Pipelined.tick book_words rate_words release_words release_rate_words headroom_refusal Preview.preview arrive_words into_frame sharing_fit booking bookings row_sum column_sum sum first_from some_of word port_word
agrees_37 = refl

pub headroom_37 : first_wrong_headroom list_37 ≡ 0
unfolding first_wrong_headroom final headroom_result pair_headroom headroom_over apply Direct.start Direct.tick Pipelined.start Pipelined.tick book_words rate_words release_words release_rate_words headroom_refusal Preview.preview arrive_words into_frame sharing_fit booking bookings row_sum column_sum sum first_from some_of word port_word
headroom_37 = refl

pub preview_37 : first_wrong_preview list_37 ≡ 0
unfolding first_wrong_preview final apply Direct.start Direct.tick Pipelined.start Pipelined.tick book_words rate_words release_words release_rate_words headroom_refusal Preview.preview arrive_words into_frame sharing_fit booking bookings row_sum column_sum sum first_from some_of word port_word
preview_37 = refl

abbrev list_38 : Case
list_38 =
    record {
      switch =
          record {
            clock = clock_of 0 1 5 1 0;
            book = book_of (2 ∷ 2 ∷ 103 ∷ 102 ∷ 2 ∷ 103 ∷ 101 ∷ 1 ∷ 2 ∷ []) (1 ∷ 2 ∷ 1 ∷ 1 ∷ 103 ∷ 102 ∷ 3 ∷ 102 ∷ 2 ∷ []);
            credits = 4 ∷ 4 ∷ 1 ∷ 1 ∷ 104 ∷ 4 ∷ 2 ∷ 4 ∷ 102 ∷ [];
            queues = 3 ∷ 4 ∷ 7 ∷ 4 ∷ 7 ∷ 103 ∷ 103 ∷ 2 ∷ 102 ∷ [];
            given = 104 ∷ 1 ∷ 1 ∷ [];
            copy = 104 ∷ 101 ∷ 7 ∷ 1 ∷ 7 ∷ 103 ∷ 101 ∷ 4 ∷ 4 ∷ [];
            flight = 3 ∷ 4 ∷ 103 ∷ 102 ∷ 104 ∷ 2 ∷ 2 ∷ 1 ∷ 7 ∷ 3 ∷ 2 ∷ 104 ∷ 2 ∷ 1 ∷ 2 ∷ 2 ∷ 7 ∷ 3 ∷ [];
          };
      calls =
          start direct 3 3 7 plain
          ∷ book 1 3 2
          ∷ book_rate 2 2 2
          ∷ book_rate 2 2 1
          ∷ book_rate 2 2 1
          ∷ book_rate 1 1 3
          ∷ book_rate 1 1 1
          ∷ book_rate 3 3 1
          ∷ book_rate 3 3 1
          ∷ book_rate 3 3 1
          ∷ book_rate 3 3 2
          ∷ book_rate 3 1 2
          ∷ book 2 3 1
          ∷ book_rate 3 3 1
          ∷ book_rate 3 3 2
          ∷ book_rate 3 3 1
          ∷ book_rate 3 3 1
          ∷ book_rate 3 3 1
          ∷ book_rate 1 2 1
          ∷ book_rate 1 2 1
          ∷ book_rate 1 2 1
          ∷ book_rate 1 2 1
          ∷ arrive 2 1 6
          ∷ arrive 2 2 12
          ∷ arrive 2 2 10
          ∷ arrive 3 3 11
          ∷ release_rate 2 2 2
          ∷ preview rate_booking 1 3 1
          ∷ arrive 2 1 10
          ∷ tick direct
          ∷ release 1 3 1
          ∷ book 1 1 1
          ∷ tick direct
          ∷ tick direct
          ∷ arrive 1 1 9
          ∷ tick direct
          ∷ tick direct
          ∷ tick direct
          ∷ release 1 3 1
          ∷ tick direct
          ∷ tick direct
          ∷ tick direct
          ∷ tick direct
          ∷ arrive 2 1 9
          ∷ headroom 2 2
          ∷ headroom 1 2
          ∷ book_rate 2 2 1
          ∷ tick direct
          ∷ tick direct
          ∷ release_rate 2 2 1
          ∷ book 1 2 1
          ∷ book 2 2 1
          ∷ tick direct
          ∷ preview slots_booking 1 1 1
          ∷ release_rate 3 1 1
          ∷ tick direct
          ∷ tick direct
          ∷ tick direct
          ∷ book_rate 2 3 1
          ∷ book 2 1 1
          ∷ tick direct
          ∷ tick direct
          ∷ tick direct
          ∷ arrive 3 2 6
          ∷ release_rate 2 3 1
          ∷ tick direct
          ∷ [];
      expected =
          claim 1 1 1 0 3 0 0
          ∷ claim 1 1 4 1 2 3 1
          ∷ claim 1 1 7 1 1 3 1
          ∷ claim 1 1 10 1 1 3 1
          ∷ claim 1 1 13 1 2 0 0
          ∷ claim 1 1 16 1 2 0 0
          ∷ claim 1 1 19 1 2 0 0
          ∷ claim 1 2 1 0 3 0 0
          ∷ claim 1 2 4 0 3 0 0
          ∷ claim 1 2 7 0 2 0 0
          ∷ claim 1 2 10 0 2 0 0
          ∷ claim 1 2 13 1 2 0 0
          ∷ claim 1 2 16 1 2 0 0
          ∷ claim 1 2 19 1 2 0 0
          ∷ claim 1 3 1 2 0 0 0
          ∷ claim 1 3 4 1 1 0 0
          ∷ claim 1 3 7 0 1 0 0
          ∷ claim 1 3 10 0 1 0 0
          ∷ claim 1 3 13 0 2 0 0
          ∷ claim 1 3 16 0 2 0 0
          ∷ claim 1 3 19 0 3 0 0
          ∷ claim 2 1 1 0 2 3 0
          ∷ claim 2 1 4 0 3 3 0
          ∷ claim 2 1 7 0 3 3 0
          ∷ claim 2 1 10 0 3 3 0
          ∷ claim 2 1 13 0 3 3 0
          ∷ claim 2 1 16 0 3 3 0
          ∷ claim 2 1 19 0 4 2 0
          ∷ claim 2 2 1 1 0 3 1
          ∷ claim 2 2 4 1 0 3 1
          ∷ claim 2 2 7 1 0 3 1
          ∷ claim 2 2 10 1 0 3 1
          ∷ claim 2 2 13 1 1 3 1
          ∷ claim 2 2 16 1 1 3 1
          ∷ claim 2 2 19 1 2 2 1
          ∷ claim 2 3 1 0 3 0 0
          ∷ claim 2 3 4 0 2 0 0
          ∷ claim 2 3 7 0 1 0 0
          ∷ claim 2 3 10 0 1 0 0
          ∷ claim 2 3 13 0 1 0 0
          ∷ claim 2 3 16 0 1 0 0
          ∷ claim 2 3 19 1 1 0 0
          ∷ claim 3 1 1 1 0 0 0
          ∷ claim 3 1 4 1 1 0 0
          ∷ claim 3 1 7 1 1 0 0
          ∷ claim 3 1 10 1 1 0 0
          ∷ claim 3 1 13 1 1 0 0
          ∷ claim 3 1 16 1 1 0 0
          ∷ claim 3 1 19 1 1 0 0
          ∷ claim 3 2 1 0 2 0 0
          ∷ claim 3 2 4 0 2 0 0
          ∷ claim 3 2 7 0 2 0 0
          ∷ claim 3 2 10 0 2 0 0
          ∷ claim 3 2 13 0 3 0 0
          ∷ claim 3 2 16 0 3 0 0
          ∷ claim 3 2 19 0 3 1 0
          ∷ claim 3 3 1 0 3 3 0
          ∷ claim 3 3 4 0 2 3 0
          ∷ claim 3 3 7 0 1 3 0
          ∷ claim 3 3 10 0 1 2 0
          ∷ claim 3 3 13 0 1 0 0
          ∷ claim 3 3 16 0 1 0 0
          ∷ claim 3 3 19 0 2 0 0
          ∷ [];
      headrooms =
          told 1 1 0 (pos 0)
          ∷ told 1 2 0 (pos 0)
          ∷ told 1 3 0 (pos 1)
          ∷ told 2 1 0 (pos 0)
          ∷ told 2 2 0 (pos 1)
          ∷ told 2 3 0 (pos 2)
          ∷ told 3 1 0 (pos 1)
          ∷ told 3 2 0 (pos 0)
          ∷ told 3 3 0 (pos 2)
          ∷ told 4 1 5 (pos 0)
          ∷ told 1 4294967297 5 (pos 0)
          ∷ [];
      previews =
          showing slots_booking 1 3 1 8 3 1
          ∷ showing slots_booking 2 2 1 9 2 3
          ∷ showing rate_booking 1 3 1 8 3 1
          ∷ showing rate_booking 2 2 2 9 2 3
          ∷ showing slots_release 1 2 2 10 0 0
          ∷ showing slots_release 2 2 2 10 0 0
          ∷ showing rate_release 3 1 1 0 0 1
          ∷ showing rate_release 2 2 4 10 0 0
          ∷ showing rate_release 3 4294967297 1 5 0 0
          ∷ showing rate_booking 3 1 0 6 0 0
          ∷ [];
    }

pub agrees_38 : first_wrong list_38 ≡ 0
unfolding first_wrong entries apply Direct.start Direct.tick Pipelined.start Pipelined.tick book_words rate_words release_words release_rate_words headroom_refusal Preview.preview arrive_words into_frame sharing_fit booking bookings row_sum column_sum sum first_from some_of word port_word
agrees_38 = refl

pub headroom_38 : first_wrong_headroom list_38 ≡ 0
unfolding first_wrong_headroom final headroom_result pair_headroom headroom_over apply Direct.start Direct.tick Pipelined.start Pipelined.tick book_words rate_words release_words release_rate_words headroom_refusal Preview.preview arrive_words into_frame sharing_fit booking bookings row_sum column_sum sum first_from some_of word port_word
headroom_38 = refl

pub preview_38 : first_wrong_preview list_38 ≡ 0
unfolding first_wrong_preview final apply Direct.start Direct.tick Pipelined.start Pipelined.tick book_words rate_words release_words release_rate_words headroom_refusal Preview.preview arrive_words into_frame sharing_fit booking bookings row_sum column_sum sum first_from some_of word port_word
preview_38 = refl

abbrev list_39 : Case
list_39 =
    record {
      switch =
          record {
            clock = clock_of 2 0 0 1 0;
            book = book_of (2 ∷ 1 ∷ 2 ∷ 2 ∷ 103 ∷ 104 ∷ 1 ∷ 104 ∷ 7 ∷ []) (1 ∷ 2 ∷ 4 ∷ 102 ∷ 2 ∷ 102 ∷ 102 ∷ 2 ∷ 3 ∷ []);
            credits = 4 ∷ 104 ∷ 2 ∷ 2 ∷ 1 ∷ 3 ∷ 104 ∷ 103 ∷ 2 ∷ [];
            queues = 2 ∷ 3 ∷ 3 ∷ 1 ∷ 3 ∷ 102 ∷ 101 ∷ 101 ∷ 101 ∷ [];
            given = 103 ∷ 101 ∷ 102 ∷ [];
            copy = 1 ∷ 104 ∷ 1 ∷ 2 ∷ 1 ∷ 2 ∷ 102 ∷ 1 ∷ 102 ∷ [];
            flight = 104 ∷ 4 ∷ 102 ∷ 1 ∷ 102 ∷ 103 ∷ 104 ∷ 102 ∷ 102 ∷ 104 ∷ 104 ∷ 3 ∷ 104 ∷ 104 ∷ 2 ∷ 1 ∷ 103 ∷ 4 ∷ [];
          };
      calls =
          start pipelined 1 2 100000000 fine
          ∷ book_rate 1 1 16666666
          ∷ book_rate 1 1 50000000
          ∷ arrive 1 1 4
          ∷ preview slots_booking 1 1 1
          ∷ preview slots_release 1 1 1
          ∷ tick pipelined
          ∷ tick pipelined
          ∷ release_rate 1 1 16666666
          ∷ tick pipelined
          ∷ release_rate 1 1 50000000
          ∷ tick pipelined
          ∷ tick pipelined
          ∷ release_rate 1 1 1
          ∷ tick pipelined
          ∷ tick pipelined
          ∷ tick pipelined
          ∷ headroom 1 1
          ∷ tick pipelined
          ∷ arrive 1 1 5
          ∷ arrive 1 1 3
          ∷ arrive 1 1 4
          ∷ headroom 1 1
          ∷ headroom 1 1
          ∷ tick pipelined
          ∷ tick pipelined
          ∷ tick pipelined
          ∷ release_rate 1 1 1
          ∷ preview rate_booking 1 1 16666667
          ∷ book_rate 1 1 50000001
          ∷ tick pipelined
          ∷ release_rate 1 1 16666667
          ∷ tick pipelined
          ∷ headroom 1 1
          ∷ release 1 1 1
          ∷ tick pipelined
          ∷ arrive 1 1 3
          ∷ tick pipelined
          ∷ tick pipelined
          ∷ tick pipelined
          ∷ [];
      expected =
          claim 1 1 1 0 0 0 0
          ∷ claim 1 1 3 2 0 2 2
          ∷ claim 1 1 5 1 0 1 1
          ∷ claim 1 1 7 0 0 0 0
          ∷ claim 1 1 9 0 0 0 0
          ∷ claim 1 1 11 0 0 1 0
          ∷ claim 1 1 13 0 0 2 0
          ∷ claim 1 1 15 2 0 2 2
          ∷ claim 1 1 17 1 0 2 1
          ∷ claim 1 1 19 1 0 1 1
          ∷ [];
      headrooms =
          told 1 1 0 (pos 1)
          ∷ told 2 1 5 (pos 0)
          ∷ told 1 0 5 (pos 0)
          ∷ [];
      previews =
          showing slots_booking 1 1 1 0 2 2
          ∷ showing slots_booking 1 1 1 0 2 2
          ∷ showing rate_booking 1 1 16666666 0 1 1
          ∷ showing rate_booking 1 1 14970072 0 1 1
          ∷ showing slots_release 1 1 1 10 0 0
          ∷ showing slots_release 1 1 1 10 0 0
          ∷ showing rate_release 1 1 33333335 10 0 0
          ∷ showing rate_release 1 1 9484555 0 1 1
          ∷ showing rate_booking 0 1 1 5 0 0
          ∷ showing slots_release 1 1 3 6 0 0
          ∷ [];
    }

pub agrees_39 : first_wrong list_39 ≡ 0
unfolding first_wrong entries apply Direct.start Direct.tick Pipelined.start Pipelined.tick book_words rate_words release_words release_rate_words headroom_refusal Preview.preview arrive_words into_frame sharing_fit booking bookings row_sum column_sum sum first_from some_of word port_word
agrees_39 = refl

pub headroom_39 : first_wrong_headroom list_39 ≡ 0
unfolding first_wrong_headroom final headroom_result pair_headroom headroom_over apply Direct.start Direct.tick Pipelined.start Pipelined.tick book_words rate_words release_words release_rate_words headroom_refusal Preview.preview arrive_words into_frame sharing_fit booking bookings row_sum column_sum sum first_from some_of word port_word
headroom_39 = refl

pub preview_39 : first_wrong_preview list_39 ≡ 0
unfolding first_wrong_preview final apply Direct.start Direct.tick Pipelined.start Pipelined.tick book_words rate_words release_words release_rate_words headroom_refusal Preview.preview arrive_words into_frame sharing_fit booking bookings row_sum column_sum sum first_from some_of word port_word
preview_39 = refl

abbrev list_40 : Case
list_40 =
    record {
      switch =
          record {
            clock = clock_of 9 1 0 0 7;
            book = book_of (1 ∷ 102 ∷ 2 ∷ 103 ∷ 7 ∷ 3 ∷ 4 ∷ 4 ∷ 2 ∷ []) (101 ∷ 103 ∷ 4 ∷ 101 ∷ 1 ∷ 102 ∷ 1 ∷ 4 ∷ 101 ∷ []);
            credits = 102 ∷ 3 ∷ 104 ∷ 2 ∷ 102 ∷ 104 ∷ 104 ∷ 102 ∷ 2 ∷ [];
            queues = 1 ∷ 3 ∷ 103 ∷ 1 ∷ 101 ∷ 1 ∷ 1 ∷ 1 ∷ 4 ∷ [];
            given = 104 ∷ 2 ∷ 102 ∷ [];
            copy = 4 ∷ 7 ∷ 2 ∷ 103 ∷ 102 ∷ 2 ∷ 4 ∷ 4 ∷ 103 ∷ [];
            flight = 103 ∷ 1 ∷ 101 ∷ 104 ∷ 4 ∷ 1 ∷ 7 ∷ 103 ∷ 7 ∷ 3 ∷ 1 ∷ 2 ∷ 4 ∷ 2 ∷ 7 ∷ 103 ∷ 103 ∷ 104 ∷ [];
          };
      calls =
          start direct 3 6 1000 plain
          ∷ book_rate 3 2 55
          ∷ book_rate 3 2 55
          ∷ book_rate 3 3 55
          ∷ book_rate 2 1 55
          ∷ book_rate 2 1 55
          ∷ book_rate 2 1 55
          ∷ book_rate 2 1 55
          ∷ book_rate 3 2 55
          ∷ book_rate 3 2 55
          ∷ book_rate 2 2 167
          ∷ book_rate 2 2 56
          ∷ book_rate 2 2 55
          ∷ book_rate 2 2 112
          ∷ book_rate 2 3 111
          ∷ arrive 1 1 4
          ∷ arrive 1 1 3
          ∷ arrive 2 3 2
          ∷ arrive 3 3 3
          ∷ arrive 3 2 4
          ∷ arrive 2 2 3
          ∷ arrive 3 3 65536
          ∷ tick direct
          ∷ book_rate 2 2 56
          ∷ arrive 3 1 5
          ∷ tick direct
          ∷ tick direct
          ∷ release 3 0 1
          ∷ arrive 1 1 3
          ∷ tick direct
          ∷ tick direct
          ∷ tick direct
          ∷ tick direct
          ∷ tick direct
          ∷ tick direct
          ∷ tick direct
          ∷ preview slots_release 1 2 1
          ∷ preview slots_booking 1 2 1
          ∷ release_rate 1 3 1
          ∷ book 2 3 3
          ∷ tick direct
          ∷ tick direct
          ∷ tick direct
          ∷ [];
      expected =
          claim 1 1 1 0 2 6 0
          ∷ claim 1 1 7 0 2 4 0
          ∷ claim 1 1 13 0 2 0 0
          ∷ claim 1 2 1 0 3 0 0
          ∷ claim 1 2 7 0 3 0 0
          ∷ claim 1 2 13 0 3 0 0
          ∷ claim 1 3 1 0 1 0 0
          ∷ claim 1 3 7 0 1 0 0
          ∷ claim 1 3 13 0 1 0 0
          ∷ claim 2 1 1 2 1 0 0
          ∷ claim 2 1 7 2 1 0 0
          ∷ claim 2 1 13 2 1 0 0
          ∷ claim 2 2 1 1 4 5 1
          ∷ claim 2 2 7 1 4 0 0
          ∷ claim 2 2 13 1 4 0 0
          ∷ claim 2 3 1 0 4 3 0
          ∷ claim 2 3 7 0 4 0 0
          ∷ claim 2 3 13 0 4 0 0
          ∷ claim 3 1 1 0 5 5 0
          ∷ claim 3 1 7 0 5 6 0
          ∷ claim 3 1 13 0 5 1 0
          ∷ claim 3 2 1 2 2 6 2
          ∷ claim 3 2 7 2 2 1 1
          ∷ claim 3 2 13 2 2 0 0
          ∷ claim 3 3 1 1 2 5 1
          ∷ claim 3 3 7 1 2 0 0
          ∷ claim 3 3 13 1 2 0 0
          ∷ [];
      headrooms =
          told 1 1 0 (pos 4)
          ∷ told 1 2 0 (pos 3)
          ∷ told 1 3 0 (pos 5)
          ∷ told 2 1 0 (pos 3)
          ∷ told 2 2 0 (pos 1)
          ∷ told 2 3 0 (pos 2)
          ∷ told 3 1 0 (pos 1)
          ∷ told 3 2 0 (pos 2)
          ∷ told 3 3 0 (pos 3)
          ∷ told 4 1 5 (pos 0)
          ∷ told 1 4294967297 5 (pos 0)
          ∷ [];
      previews =
          showing slots_booking 1 2 1 9 1 4
          ∷ showing slots_booking 1 1 1 0 1 3
          ∷ showing rate_booking 2 1 56 0 3 2
          ∷ showing rate_booking 3 1 140 8 4 3
          ∷ showing slots_release 3 3 3 10 0 0
          ∷ showing slots_release 2 3 2 10 0 0
          ∷ showing rate_release 3 2 166 0 2 2
          ∷ showing rate_release 3 2 161 0 2 2
          ∷ showing slots_release 2 4294967297 1 5 0 0
          ∷ showing rate_release 2 1 1001 6 0 0
          ∷ [];
    }

pub agrees_40 : first_wrong list_40 ≡ 0
unfolding first_wrong entries apply Direct.start Direct.tick Pipelined.start Pipelined.tick book_words rate_words release_words release_rate_words headroom_refusal Preview.preview arrive_words into_frame sharing_fit booking bookings row_sum column_sum sum first_from some_of word port_word
agrees_40 = refl

pub headroom_40 : first_wrong_headroom list_40 ≡ 0
unfolding first_wrong_headroom final headroom_result pair_headroom headroom_over apply Direct.start Direct.tick Pipelined.start Pipelined.tick book_words rate_words release_words release_rate_words headroom_refusal Preview.preview arrive_words into_frame sharing_fit booking bookings row_sum column_sum sum first_from some_of word port_word
headroom_40 = refl

pub preview_40 : first_wrong_preview list_40 ≡ 0
unfolding first_wrong_preview final apply Direct.start Direct.tick Pipelined.start Pipelined.tick book_words rate_words release_words release_rate_words headroom_refusal Preview.preview arrive_words into_frame sharing_fit booking bookings row_sum column_sum sum first_from some_of word port_word
preview_40 = refl

abbrev list_41 : Case
list_41 =
    record {
      switch =
          record {
            clock = clock_of 3 0 4000000000 100000001 7;
            book = book_of (2 ∷ 7 ∷ 3 ∷ 104 ∷ 1 ∷ 3 ∷ 104 ∷ 3 ∷ 4 ∷ []) (2 ∷ 103 ∷ 3 ∷ 1 ∷ 2 ∷ 103 ∷ 3 ∷ 101 ∷ 4 ∷ []);
            credits = 1 ∷ 101 ∷ 102 ∷ 101 ∷ 4 ∷ 104 ∷ 1 ∷ 2 ∷ 1 ∷ [];
            queues = 1 ∷ 102 ∷ 4 ∷ 2 ∷ 7 ∷ 3 ∷ 103 ∷ 102 ∷ 102 ∷ [];
            given = 3 ∷ 101 ∷ 104 ∷ [];
            copy = 102 ∷ 7 ∷ 3 ∷ 2 ∷ 1 ∷ 101 ∷ 1 ∷ 1 ∷ 4 ∷ [];
            flight = 7 ∷ 2 ∷ 102 ∷ 104 ∷ 1 ∷ 7 ∷ 102 ∷ 1 ∷ 102 ∷ 102 ∷ 7 ∷ 1 ∷ 7 ∷ 2 ∷ 4 ∷ 102 ∷ 3 ∷ 101 ∷ [];
          };
      calls =
          start pipelined 3 4 1000 fine
          ∷ book 3 3 1
          ∷ book 2 2 1
          ∷ book 3 2 1
          ∷ book_rate 3 2 83
          ∷ arrive 1 3 7
          ∷ arrive 1 3 7
          ∷ arrive 2 1 6
          ∷ release_rate 3 2 83
          ∷ release 0 3 1
          ∷ preview rate_release 2 3 1
          ∷ tick pipelined
          ∷ arrive 3 2 11
          ∷ tick pipelined
          ∷ arrive 3 3 7
          ∷ preview slots_release 3 2 1
          ∷ arrive 2 2 9
          ∷ arrive 3 1 8
          ∷ release_rate 3 2 1
          ∷ tick pipelined
          ∷ tick pipelined
          ∷ tick pipelined
          ∷ tick pipelined
          ∷ tick pipelined
          ∷ tick pipelined
          ∷ tick pipelined
          ∷ release 2 2 1
          ∷ arrive 2 2 8
          ∷ tick pipelined
          ∷ arrive 3 1 12
          ∷ book_rate 1 2 250
          ∷ tick pipelined
          ∷ tick pipelined
          ∷ book_rate 3 1 83
          ∷ tick pipelined
          ∷ arrive 3 2 7
          ∷ arrive 1 3 9
          ∷ preview slots_release 3 2 1
          ∷ tick pipelined
          ∷ tick pipelined
          ∷ release_rate 1 1 1001
          ∷ tick pipelined
          ∷ book 2 1 1
          ∷ book 1 3 1
          ∷ arrive 3 2 10
          ∷ start pipelined 31 32 1000 plain
          ∷ book_rate 1 1 251
          ∷ arrive 3 1 11
          ∷ arrive 3 2 10
          ∷ book 3 3 1
          ∷ tick pipelined
          ∷ [];
      expected =
          claim 1 1 1 0 0 0 0
          ∷ claim 1 1 5 0 0 0 0
          ∷ claim 1 1 9 0 0 0 0
          ∷ claim 1 1 13 0 0 0 0
          ∷ claim 1 1 17 0 1 0 0
          ∷ claim 1 2 1 0 0 0 0
          ∷ claim 1 2 5 0 0 0 0
          ∷ claim 1 2 9 0 2 0 0
          ∷ claim 1 2 13 0 2 0 0
          ∷ claim 1 2 17 1 1 0 0
          ∷ claim 1 3 1 0 0 0 0
          ∷ claim 1 3 5 0 0 2 0
          ∷ claim 1 3 9 0 1 4 0
          ∷ claim 1 3 13 0 1 4 0
          ∷ claim 1 3 17 0 2 2 0
          ∷ claim 2 1 1 0 0 0 0
          ∷ claim 2 1 5 0 0 2 0
          ∷ claim 2 1 9 0 1 4 0
          ∷ claim 2 1 13 0 1 4 0
          ∷ claim 2 1 17 0 0 1 0
          ∷ claim 2 2 1 0 0 0 0
          ∷ claim 2 2 5 0 0 1 0
          ∷ claim 2 2 9 1 1 4 1
          ∷ claim 2 2 13 1 1 4 1
          ∷ claim 2 2 17 0 2 2 0
          ∷ claim 2 3 1 0 0 0 0
          ∷ claim 2 3 5 0 0 0 0
          ∷ claim 2 3 9 0 2 0 0
          ∷ claim 2 3 13 0 2 0 0
          ∷ claim 2 3 17 0 1 0 0
          ∷ claim 3 1 1 0 0 0 0
          ∷ claim 3 1 5 0 0 2 0
          ∷ claim 3 1 9 0 2 4 0
          ∷ claim 3 1 13 0 2 4 0
          ∷ claim 3 1 17 0 2 2 0
          ∷ claim 3 2 1 0 0 0 0
          ∷ claim 3 2 5 0 0 2 0
          ∷ claim 3 2 9 1 2 4 1
          ∷ claim 3 2 13 1 2 4 1
          ∷ claim 3 2 17 1 2 2 1
          ∷ claim 3 3 1 0 0 0 0
          ∷ claim 3 3 5 0 0 2 0
          ∷ claim 3 3 9 1 1 4 1
          ∷ claim 3 3 13 1 1 4 1
          ∷ claim 3 3 17 1 1 2 1
          ∷ [];
      headrooms =
          told 1 1 0 (pos 0)
          ∷ told 1 2 0 (pos 1)
          ∷ told 1 3 0 (pos 1)
          ∷ told 2 1 0 (pos 2)
          ∷ told 2 2 0 (pos 1)
          ∷ told 2 3 0 (pos 1)
          ∷ told 3 1 0 (pos 0)
          ∷ told 3 2 0 (pos 0)
          ∷ told 3 3 0 (pos 0)
          ∷ told 4 1 5 (pos 0)
          ∷ told 1 0 5 (pos 0)
          ∷ [];
      previews =
          showing slots_booking 1 3 1 15 3 3
          ∷ showing slots_booking 1 3 1 15 3 3
          ∷ showing rate_booking 2 3 84 15 2 3
          ∷ showing rate_booking 3 3 112 15 4 3
          ∷ showing slots_release 2 1 1 0 0 1
          ∷ showing slots_release 1 3 1 0 1 1
          ∷ showing rate_release 3 3 1 10 0 0
          ∷ showing rate_release 2 1 308 10 0 0
          ∷ showing slots_booking 4 1 1 5 0 0
          ∷ showing slots_booking 3 1 0 6 0 0
          ∷ [];
    }

pub agrees_41 : first_wrong list_41 ≡ 0
unfolding first_wrong entries apply Direct.start Direct.tick Pipelined.start Pipelined.tick book_words rate_words release_words release_rate_words headroom_refusal Preview.preview arrive_words into_frame sharing_fit booking bookings row_sum column_sum sum first_from some_of word port_word
agrees_41 = refl

pub headroom_41 : first_wrong_headroom list_41 ≡ 0
unfolding first_wrong_headroom final headroom_result pair_headroom headroom_over apply Direct.start Direct.tick Pipelined.start Pipelined.tick book_words rate_words release_words release_rate_words headroom_refusal Preview.preview arrive_words into_frame sharing_fit booking bookings row_sum column_sum sum first_from some_of word port_word
headroom_41 = refl

pub preview_41 : first_wrong_preview list_41 ≡ 0
unfolding first_wrong_preview final apply Direct.start Direct.tick Pipelined.start Pipelined.tick book_words rate_words release_words release_rate_words headroom_refusal Preview.preview arrive_words into_frame sharing_fit booking bookings row_sum column_sum sum first_from some_of word port_word
preview_41 = refl

abbrev list_42 : Case
list_42 =
    record {
      switch =
          record {
            clock = clock_of 1 1 77 0 7;
            book = book_of (2 ∷ 103 ∷ 101 ∷ 2 ∷ 104 ∷ 104 ∷ 2 ∷ 3 ∷ 102 ∷ []) (3 ∷ 104 ∷ 4 ∷ 1 ∷ 103 ∷ 3 ∷ 2 ∷ 101 ∷ 7 ∷ []);
            credits = 3 ∷ 102 ∷ 2 ∷ 4 ∷ 1 ∷ 104 ∷ 104 ∷ 104 ∷ 1 ∷ [];
            queues = 3 ∷ 1 ∷ 3 ∷ 102 ∷ 2 ∷ 102 ∷ 104 ∷ 101 ∷ 102 ∷ [];
            given = 2 ∷ 102 ∷ 3 ∷ [];
            copy = 102 ∷ 2 ∷ 1 ∷ 2 ∷ 101 ∷ 101 ∷ 103 ∷ 7 ∷ 3 ∷ [];
            flight = 7 ∷ 7 ∷ 7 ∷ 102 ∷ 102 ∷ 102 ∷ 7 ∷ 7 ∷ 103 ∷ 104 ∷ 101 ∷ 101 ∷ 1 ∷ 4 ∷ 3 ∷ 103 ∷ 2 ∷ 102 ∷ [];
          };
      calls =
          start direct 2 3 100000000 fine
          ∷ book 1 1 1
          ∷ book_rate 2 1 33333333
          ∷ book_rate 2 1 11111112
          ∷ arrive 2 2 9
          ∷ arrive 1 1 8
          ∷ tick direct
          ∷ arrive 2 1 6
          ∷ tick direct
          ∷ book 1 1 1
          ∷ book_rate 1 2 11111112
          ∷ tick direct
          ∷ tick direct
          ∷ tick direct
          ∷ tick direct
          ∷ headroom 1 1
          ∷ tick direct
          ∷ book_rate 1 1 11111112
          ∷ headroom 2 1
          ∷ arrive 2 1 9
          ∷ tick direct
          ∷ book 2 2 1
          ∷ preview slots_release 1 1 1
          ∷ tick direct
          ∷ tick direct
          ∷ release_rate 2 1 11111111
          ∷ tick direct
          ∷ arrive 2 2 11
          ∷ tick direct
          ∷ [];
      expected =
          claim 1 1 1 1 2 3 1
          ∷ claim 1 1 4 1 2 3 1
          ∷ claim 1 1 7 1 2 3 1
          ∷ claim 1 1 10 1 2 3 1
          ∷ claim 1 2 1 0 1 0 0
          ∷ claim 1 2 4 0 1 0 0
          ∷ claim 1 2 7 0 1 0 0
          ∷ claim 1 2 10 0 1 0 0
          ∷ claim 2 1 1 2 1 2 2
          ∷ claim 2 1 4 2 1 3 2
          ∷ claim 2 1 7 2 1 3 2
          ∷ claim 2 1 10 2 1 3 2
          ∷ claim 2 2 1 0 2 3 0
          ∷ claim 2 2 4 0 2 3 0
          ∷ claim 2 2 7 0 2 3 0
          ∷ claim 2 2 10 0 2 3 0
          ∷ [];
      headrooms =
          told 1 1 0 (pos 0)
          ∷ told 1 2 0 (pos 2)
          ∷ told 2 1 0 (pos 0)
          ∷ told 2 2 0 (pos 1)
          ∷ told 3 1 5 (pos 0)
          ∷ told 1 0 5 (pos 0)
          ∷ [];
      previews =
          showing slots_booking 2 1 1 15 3 4
          ∷ showing slots_booking 2 2 1 15 3 1
          ∷ showing rate_booking 1 1 11111112 15 2 4
          ∷ showing rate_booking 2 2 16941374 15 3 1
          ∷ showing slots_release 1 1 1 0 0 2
          ∷ showing slots_release 1 1 2 10 0 0
          ∷ showing rate_release 2 1 33333334 0 0 1
          ∷ showing rate_release 2 1 35855913 10 0 0
          ∷ showing slots_booking 3 1 1 5 0 0
          ∷ showing rate_booking 2 1 100000001 6 0 0
          ∷ [];
    }

pub agrees_42 : first_wrong list_42 ≡ 0
unfolding first_wrong entries apply Direct.start Direct.tick Pipelined.start Pipelined.tick book_words rate_words release_words release_rate_words headroom_refusal Preview.preview arrive_words into_frame sharing_fit booking bookings row_sum column_sum sum first_from some_of word port_word
agrees_42 = refl

pub headroom_42 : first_wrong_headroom list_42 ≡ 0
unfolding first_wrong_headroom final headroom_result pair_headroom headroom_over apply Direct.start Direct.tick Pipelined.start Pipelined.tick book_words rate_words release_words release_rate_words headroom_refusal Preview.preview arrive_words into_frame sharing_fit booking bookings row_sum column_sum sum first_from some_of word port_word
headroom_42 = refl

pub preview_42 : first_wrong_preview list_42 ≡ 0
unfolding first_wrong_preview final apply Direct.start Direct.tick Pipelined.start Pipelined.tick book_words rate_words release_words release_rate_words headroom_refusal Preview.preview arrive_words into_frame sharing_fit booking bookings row_sum column_sum sum first_from some_of word port_word
preview_42 = refl

abbrev list_43 : Case
list_43 =
    record {
      switch =
          record {
            clock = clock_of 9 5 5 100000001 0;
            book = book_of (4 ∷ 1 ∷ 2 ∷ 103 ∷ 1 ∷ 4 ∷ 1 ∷ 4 ∷ 103 ∷ []) (3 ∷ 3 ∷ 4 ∷ 2 ∷ 102 ∷ 1 ∷ 102 ∷ 101 ∷ 4 ∷ []);
            credits = 1 ∷ 104 ∷ 104 ∷ 102 ∷ 7 ∷ 1 ∷ 101 ∷ 104 ∷ 3 ∷ [];
            queues = 102 ∷ 102 ∷ 101 ∷ 1 ∷ 103 ∷ 1 ∷ 7 ∷ 103 ∷ 3 ∷ [];
            given = 4 ∷ 102 ∷ 4 ∷ [];
            copy = 1 ∷ 103 ∷ 4 ∷ 3 ∷ 3 ∷ 103 ∷ 101 ∷ 3 ∷ 4 ∷ [];
            flight = 7 ∷ 102 ∷ 1 ∷ 7 ∷ 102 ∷ 103 ∷ 102 ∷ 103 ∷ 3 ∷ 102 ∷ 2 ∷ 2 ∷ 4 ∷ 2 ∷ 4 ∷ 2 ∷ 104 ∷ 4 ∷ [];
          };
      calls =
          start pipelined 3 7 1000 fine
          ∷ book_rate 3 3 47
          ∷ book_rate 3 3 47
          ∷ book_rate 3 3 96
          ∷ book 2 3 1
          ∷ book_rate 1 2 96
          ∷ book_rate 3 3 48
          ∷ book 3 2 1
          ∷ book_rate 3 2 142
          ∷ book_rate 3 2 143
          ∷ book_rate 1 3 47
          ∷ book_rate 1 3 47
          ∷ book_rate 1 3 142
          ∷ arrive 2 1 3
          ∷ arrive 2 3 3
          ∷ arrive 1 2 3
          ∷ arrive 3 1 4
          ∷ arrive 3 2 3
          ∷ arrive 2 3 4
          ∷ arrive 1 1 3
          ∷ arrive 2 1 5
          ∷ arrive 3 3 5
          ∷ arrive 2 3 4
          ∷ arrive 3 2 2
          ∷ arrive 1 3 5
          ∷ arrive 1 3 2
          ∷ arrive 2 2 4
          ∷ arrive 3 3 5
          ∷ book 3 3 1
          ∷ tick pipelined
          ∷ tick pipelined
          ∷ release_rate 3 2 285
          ∷ tick pipelined
          ∷ tick pipelined
          ∷ tick pipelined
          ∷ release_rate 1 3 95
          ∷ tick pipelined
          ∷ tick pipelined
          ∷ release 2 3 1
          ∷ book_rate 0 1 1
          ∷ tick pipelined
          ∷ tick pipelined
          ∷ release_rate 1 3 94
          ∷ arrive 2 2 65536
          ∷ release 3 2 1
          ∷ tick pipelined
          ∷ tick pipelined
          ∷ tick pipelined
          ∷ tick pipelined
          ∷ tick pipelined
          ∷ tick pipelined
          ∷ tick pipelined
          ∷ book_rate 2 1 0
          ∷ arrive 1 1 5
          ∷ tick pipelined
          ∷ arrive 3 2 4
          ∷ tick pipelined
          ∷ arrive 2 3 4
          ∷ tick pipelined
          ∷ headroom 1 3
          ∷ preview rate_release 1 2 47
          ∷ tick pipelined
          ∷ preview rate_release 2 1 0
          ∷ tick pipelined
          ∷ tick pipelined
          ∷ tick pipelined
          ∷ [];
      expected =
          claim 1 1 1 0 0 1 0
          ∷ claim 1 1 8 0 2 7 0
          ∷ claim 1 1 15 0 2 0 0
          ∷ claim 1 1 22 0 1 2 0
          ∷ claim 1 2 1 0 0 1 0
          ∷ claim 1 2 8 1 4 7 1
          ∷ claim 1 2 15 1 2 1 1
          ∷ claim 1 2 22 1 0 0 0
          ∷ claim 1 3 1 0 0 1 0
          ∷ claim 1 3 8 1 4 7 1
          ∷ claim 1 3 15 1 3 7 1
          ∷ claim 1 3 22 0 3 1 0
          ∷ claim 2 1 1 0 0 1 0
          ∷ claim 2 1 8 0 1 7 0
          ∷ claim 2 1 15 0 0 7 0
          ∷ claim 2 1 22 0 0 0 0
          ∷ claim 2 2 1 0 0 1 0
          ∷ claim 2 2 8 0 5 7 0
          ∷ claim 2 2 15 0 2 6 0
          ∷ claim 2 2 22 0 1 0 0
          ∷ claim 2 3 1 0 0 1 0
          ∷ claim 2 3 8 1 3 7 1
          ∷ claim 2 3 15 0 3 7 0
          ∷ claim 2 3 22 0 2 3 0
          ∷ claim 3 1 1 0 0 1 0
          ∷ claim 3 1 8 0 5 7 0
          ∷ claim 3 1 15 0 3 7 0
          ∷ claim 3 1 22 0 2 3 0
          ∷ claim 3 2 1 0 0 1 0
          ∷ claim 3 2 8 3 3 7 3
          ∷ claim 3 2 15 1 3 2 1
          ∷ claim 3 2 22 0 3 3 0
          ∷ claim 3 3 1 0 0 1 0
          ∷ claim 3 3 8 2 5 7 2
          ∷ claim 3 3 15 2 2 7 2
          ∷ claim 3 3 22 2 0 3 2
          ∷ [];
      headrooms =
          told 1 1 0 (pos 6)
          ∷ told 1 2 0 (pos 6)
          ∷ told 1 3 0 (pos 4)
          ∷ told 2 1 0 (pos 7)
          ∷ told 2 2 0 (pos 6)
          ∷ told 2 3 0 (pos 5)
          ∷ told 3 1 0 (pos 5)
          ∷ told 3 2 0 (pos 4)
          ∷ told 3 3 0 (pos 5)
          ∷ told 4 1 5 (pos 0)
          ∷ told 1 4294967297 5 (pos 0)
          ∷ [];
      previews =
          showing slots_booking 2 1 2 0 2 2
          ∷ showing slots_booking 2 2 2 0 2 3
          ∷ showing rate_booking 2 2 95 0 1 2
          ∷ showing rate_booking 1 2 358 0 4 4
          ∷ showing slots_release 3 3 1 10 0 0
          ∷ showing slots_release 2 3 4 10 0 0
          ∷ showing rate_release 3 3 47 0 2 2
          ∷ showing rate_release 3 3 465 10 0 0
          ∷ showing rate_release 1 4 1 5 0 0
          ∷ showing slots_booking 1 1 8 6 0 0
          ∷ [];
    }

pub agrees_43 : first_wrong list_43 ≡ 0
unfolding first_wrong entries apply Direct.start Direct.tick Pipelined.start Pipelined.tick book_words rate_words release_words release_rate_words headroom_refusal Preview.preview arrive_words into_frame sharing_fit booking bookings row_sum column_sum sum first_from some_of word port_word
agrees_43 = refl

pub headroom_43 : first_wrong_headroom list_43 ≡ 0
unfolding first_wrong_headroom final headroom_result pair_headroom headroom_over apply Direct.start Direct.tick Pipelined.start Pipelined.tick book_words rate_words release_words release_rate_words headroom_refusal Preview.preview arrive_words into_frame sharing_fit booking bookings row_sum column_sum sum first_from some_of word port_word
headroom_43 = refl

pub preview_43 : first_wrong_preview list_43 ≡ 0
unfolding first_wrong_preview final apply Direct.start Direct.tick Pipelined.start Pipelined.tick book_words rate_words release_words release_rate_words headroom_refusal Preview.preview arrive_words into_frame sharing_fit booking bookings row_sum column_sum sum first_from some_of word port_word
preview_43 = refl

abbrev list_44 : Case
list_44 =
    record {
      switch =
          record {
            clock = clock_of 3 0 5 1000 7;
            book = book_of (2 ∷ 1 ∷ 3 ∷ 102 ∷ 4 ∷ 101 ∷ 1 ∷ 1 ∷ 2 ∷ []) (3 ∷ 1 ∷ 3 ∷ 2 ∷ 104 ∷ 102 ∷ 3 ∷ 4 ∷ 2 ∷ []);
            credits = 103 ∷ 4 ∷ 102 ∷ 102 ∷ 4 ∷ 1 ∷ 7 ∷ 103 ∷ 2 ∷ [];
            queues = 104 ∷ 101 ∷ 2 ∷ 101 ∷ 101 ∷ 103 ∷ 103 ∷ 2 ∷ 4 ∷ [];
            given = 7 ∷ 2 ∷ 7 ∷ [];
            copy = 1 ∷ 104 ∷ 1 ∷ 101 ∷ 2 ∷ 4 ∷ 7 ∷ 102 ∷ 104 ∷ [];
            flight = 101 ∷ 1 ∷ 2 ∷ 101 ∷ 7 ∷ 104 ∷ 101 ∷ 2 ∷ 104 ∷ 4 ∷ 2 ∷ 102 ∷ 103 ∷ 104 ∷ 3 ∷ 7 ∷ 1 ∷ 2 ∷ [];
          };
      calls =
          start direct 1 4 1000 fine
          ∷ book_rate 1 1 166
          ∷ book_rate 1 1 83
          ∷ book_rate 1 1 83
          ∷ book_rate 1 1 250
          ∷ arrive 1 1 8
          ∷ arrive 1 1 7
          ∷ tick direct
          ∷ tick direct
          ∷ book_rate 1 1 166
          ∷ tick direct
          ∷ tick direct
          ∷ tick direct
          ∷ start direct 3 7 1000 fine
          ∷ book_rate 2 2 143
          ∷ book_rate 2 2 47
          ∷ book_rate 2 2 47
          ∷ book_rate 2 2 47
          ∷ book_rate 1 2 142
          ∷ book_rate 1 2 48
          ∷ book_rate 2 1 95
          ∷ book_rate 2 1 47
          ∷ book_rate 3 3 142
          ∷ book_rate 3 3 142
          ∷ arrive 3 2 5
          ∷ arrive 3 2 4
          ∷ arrive 2 1 3
          ∷ arrive 2 2 4
          ∷ arrive 1 1 3
          ∷ arrive 2 2 2
          ∷ tick direct
          ∷ arrive 1 0 1
          ∷ book 2 1 1
          ∷ tick direct
          ∷ release_rate 3 3 284
          ∷ release 2 1 2
          ∷ tick direct
          ∷ tick direct
          ∷ book 3 2 8
          ∷ tick direct
          ∷ tick direct
          ∷ book 3 2 1
          ∷ book 2 2 1
          ∷ tick direct
          ∷ tick direct
          ∷ arrive 3 3 4
          ∷ tick direct
          ∷ tick direct
          ∷ book 1 2 0
          ∷ headroom 3 1
          ∷ tick direct
          ∷ arrive 3 3 5
          ∷ release_rate 1 2 190
          ∷ release_rate 2 1 142
          ∷ tick direct
          ∷ arrive 3 2 4
          ∷ release_rate 2 3 1
          ∷ tick direct
          ∷ book 3 3 1
          ∷ book 1 1 1
          ∷ start direct 0 7 1000 plain
          ∷ arrive 3 2 5
          ∷ tick direct
          ∷ tick direct
          ∷ tick direct
          ∷ release 2 4294967297 1
          ∷ preview rate_release 2 2 48
          ∷ tick direct
          ∷ arrive 3 1 4
          ∷ tick direct
          ∷ tick direct
          ∷ tick direct
          ∷ arrive 1 2 3
          ∷ tick direct
          ∷ tick direct
          ∷ book_rate 1 1 142
          ∷ tick direct
          ∷ tick direct
          ∷ [];
      expected =
          claim 1 1 1 0 3 4 0
          ∷ claim 1 1 8 0 4 0 0
          ∷ claim 1 1 15 1 1 0 0
          ∷ claim 1 1 22 1 1 0 0
          ∷ claim 1 2 1 2 2 0 0
          ∷ claim 1 2 8 2 3 0 0
          ∷ claim 1 2 15 0 4 1 0
          ∷ claim 1 2 22 0 4 3 0
          ∷ claim 1 3 1 0 4 0 0
          ∷ claim 1 3 8 0 2 0 0
          ∷ claim 1 3 15 0 2 0 0
          ∷ claim 1 3 22 0 2 0 0
          ∷ claim 2 1 1 1 2 7 1
          ∷ claim 2 1 8 2 2 0 0
          ∷ claim 2 1 15 1 3 0 0
          ∷ claim 2 1 22 1 3 0 0
          ∷ claim 2 2 1 2 3 7 2
          ∷ claim 2 2 8 2 5 2 2
          ∷ claim 2 2 15 2 2 0 0
          ∷ claim 2 2 22 2 2 0 0
          ∷ claim 2 3 1 0 5 0 0
          ∷ claim 2 3 8 0 4 0 0
          ∷ claim 2 3 15 0 4 0 0
          ∷ claim 2 3 22 0 4 0 0
          ∷ claim 3 1 1 0 3 0 0
          ∷ claim 3 1 8 0 3 0 0
          ∷ claim 3 1 15 0 4 4 0
          ∷ claim 3 1 22 0 4 3 0
          ∷ claim 3 2 1 0 6 7 0
          ∷ claim 3 2 8 1 4 7 1
          ∷ claim 3 2 15 1 3 7 1
          ∷ claim 3 2 22 1 3 3 1
          ∷ claim 3 3 1 2 0 0 0
          ∷ claim 3 3 8 0 1 6 0
          ∷ claim 3 3 15 1 1 7 1
          ∷ claim 3 3 22 1 1 3 1
          ∷ [];
      headrooms =
          told 1 1 0 (pos 4)
          ∷ told 1 2 0 (pos 2)
          ∷ told 1 3 0 (pos 4)
          ∷ told 2 1 0 (pos 2)
          ∷ told 2 2 0 (pos 3)
          ∷ told 2 3 0 (pos 3)
          ∷ told 3 1 0 (pos 2)
          ∷ told 3 2 0 (pos 3)
          ∷ told 3 3 0 (pos 5)
          ∷ told 4 1 5 (pos 0)
          ∷ told 1 4294967297 5 (pos 0)
          ∷ [];
      previews =
          showing slots_booking 3 2 1 0 3 4
          ∷ showing slots_booking 1 3 2 0 4 3
          ∷ showing rate_booking 2 3 142 0 4 2
          ∷ showing rate_booking 3 3 88 0 3 2
          ∷ showing slots_release 1 1 1 0 1 2
          ∷ showing slots_release 3 3 4 10 0 0
          ∷ showing rate_release 2 1 1 10 0 0
          ∷ showing rate_release 1 1 314 10 0 0
          ∷ showing slots_release 4 1 1 5 0 0
          ∷ showing slots_booking 1 1 0 6 0 0
          ∷ [];
    }

pub agrees_44 : first_wrong list_44 ≡ 0
unfolding first_wrong entries apply Direct.start Direct.tick Pipelined.start Pipelined.tick book_words rate_words release_words release_rate_words headroom_refusal Preview.preview arrive_words into_frame sharing_fit booking bookings row_sum column_sum sum first_from some_of word port_word
agrees_44 = refl

pub headroom_44 : first_wrong_headroom list_44 ≡ 0
unfolding first_wrong_headroom final headroom_result pair_headroom headroom_over apply Direct.start Direct.tick Pipelined.start Pipelined.tick book_words rate_words release_words release_rate_words headroom_refusal Preview.preview arrive_words into_frame sharing_fit booking bookings row_sum column_sum sum first_from some_of word port_word
headroom_44 = refl

pub preview_44 : first_wrong_preview list_44 ≡ 0
unfolding first_wrong_preview final apply Direct.start Direct.tick Pipelined.start Pipelined.tick book_words rate_words release_words release_rate_words headroom_refusal Preview.preview arrive_words into_frame sharing_fit booking bookings row_sum column_sum sum first_from some_of word port_word
preview_44 = refl

abbrev list_45 : Case
list_45 =
    record {
      switch =
          record {
            clock = clock_of 9 5 1 0 0;
            book = book_of (1 ∷ 4 ∷ 102 ∷ 104 ∷ 104 ∷ 101 ∷ 103 ∷ 3 ∷ 2 ∷ []) (103 ∷ 7 ∷ 2 ∷ 3 ∷ 101 ∷ 2 ∷ 102 ∷ 1 ∷ 7 ∷ []);
            credits = 3 ∷ 1 ∷ 7 ∷ 104 ∷ 103 ∷ 7 ∷ 2 ∷ 101 ∷ 2 ∷ [];
            queues = 102 ∷ 104 ∷ 2 ∷ 1 ∷ 2 ∷ 7 ∷ 7 ∷ 3 ∷ 7 ∷ [];
            given = 103 ∷ 1 ∷ 4 ∷ [];
            copy = 103 ∷ 1 ∷ 1 ∷ 102 ∷ 101 ∷ 3 ∷ 2 ∷ 7 ∷ 101 ∷ [];
            flight = 1 ∷ 104 ∷ 104 ∷ 102 ∷ 7 ∷ 103 ∷ 7 ∷ 2 ∷ 1 ∷ 7 ∷ 102 ∷ 103 ∷ 104 ∷ 101 ∷ 1 ∷ 104 ∷ 104 ∷ 1 ∷ [];
          };
      calls =
          start pipelined 3 3 99999999 fine
          ∷ book_rate 2 3 22222222
          ∷ book_rate 2 3 11111111
          ∷ book_rate 2 3 11111111
          ∷ book_rate 2 2 11111111
          ∷ book_rate 2 2 22222223
          ∷ book 1 2 1
          ∷ book_rate 1 2 11111111
          ∷ book_rate 1 2 11111112
          ∷ book_rate 1 2 11111112
          ∷ book_rate 1 2 33333334
          ∷ book 2 2 1
          ∷ book_rate 1 1 11111112
          ∷ book_rate 1 1 11111111
          ∷ book_rate 1 1 11111112
          ∷ book 2 3 1
          ∷ book_rate 3 2 11111111
          ∷ book_rate 3 2 11111112
          ∷ arrive 2 2 60
          ∷ arrive 2 3 82
          ∷ arrive 1 2 68
          ∷ arrive 1 1 68
          ∷ arrive 3 2 83
          ∷ arrive 3 2 47
          ∷ arrive 1 1 80
          ∷ arrive 3 3 55
          ∷ arrive 1 1 62
          ∷ arrive 1 1 82
          ∷ arrive 3 3 45
          ∷ arrive 1 3 82
          ∷ arrive 2 1 64
          ∷ arrive 3 2 76
          ∷ tick pipelined
          ∷ preview slots_release 2 2 1
          ∷ headroom 3 3
          ∷ arrive 2 1 90
          ∷ tick pipelined
          ∷ preview slots_booking 3 2 1
          ∷ arrive 3 1 53
          ∷ preview slots_release 3 1 1
          ∷ tick pipelined
          ∷ headroom 3 1
          ∷ tick pipelined
          ∷ tick pipelined
          ∷ tick pipelined
          ∷ release_rate 2 2 11111111
          ∷ book 1 2 1
          ∷ tick pipelined
          ∷ arrive 2 1 68
          ∷ preview slots_release 2 1 1
          ∷ arrive 3 3 84
          ∷ tick pipelined
          ∷ book_rate 2 2 33333334
          ∷ release 1 2 1
          ∷ tick pipelined
          ∷ headroom 1 3
          ∷ tick pipelined
          ∷ book_rate 2 2 11111112
          ∷ tick pipelined
          ∷ tick pipelined
          ∷ book_rate 3 2 11111111
          ∷ release_rate 1 1 22222222
          ∷ book_rate 3 2 11111111
          ∷ tick pipelined
          ∷ tick pipelined
          ∷ tick pipelined
          ∷ [];
      expected =
          claim 1 1 1 0 0 0 0
          ∷ claim 1 1 4 0 0 0 0
          ∷ claim 1 1 7 2 0 3 2
          ∷ claim 1 1 10 2 0 3 2
          ∷ claim 1 1 13 2 1 3 2
          ∷ claim 1 1 16 2 0 1 1
          ∷ claim 1 2 1 0 0 0 0
          ∷ claim 1 2 4 0 0 0 0
          ∷ claim 1 2 7 0 3 3 0
          ∷ claim 1 2 10 0 3 3 0
          ∷ claim 1 2 13 1 2 3 1
          ∷ claim 1 2 16 0 2 1 0
          ∷ claim 1 3 1 0 0 0 0
          ∷ claim 1 3 4 0 0 0 0
          ∷ claim 1 3 7 0 4 3 0
          ∷ claim 1 3 10 0 4 3 0
          ∷ claim 1 3 13 0 5 3 0
          ∷ claim 1 3 16 0 4 1 0
          ∷ claim 2 1 1 0 0 0 0
          ∷ claim 2 1 4 0 0 0 0
          ∷ claim 2 1 7 0 5 3 0
          ∷ claim 2 1 10 0 5 3 0
          ∷ claim 2 1 13 0 4 3 0
          ∷ claim 2 1 16 0 4 1 0
          ∷ claim 2 2 1 0 0 0 0
          ∷ claim 2 2 4 0 0 0 0
          ∷ claim 2 2 7 1 2 3 1
          ∷ claim 2 2 10 1 2 3 1
          ∷ claim 2 2 13 0 3 3 0
          ∷ claim 2 2 16 0 2 1 0
          ∷ claim 2 3 1 0 0 0 0
          ∷ claim 2 3 4 0 0 0 0
          ∷ claim 2 3 7 2 1 3 2
          ∷ claim 2 3 10 2 1 3 2
          ∷ claim 2 3 13 2 0 3 2
          ∷ claim 2 3 16 2 0 1 1
          ∷ claim 3 1 1 0 0 0 0
          ∷ claim 3 1 4 0 0 0 0
          ∷ claim 3 1 7 0 2 3 0
          ∷ claim 3 1 10 0 2 3 0
          ∷ claim 3 1 13 0 2 3 0
          ∷ claim 3 1 16 0 2 1 0
          ∷ claim 3 2 1 0 0 0 0
          ∷ claim 3 2 4 0 0 0 0
          ∷ claim 3 2 7 0 1 3 0
          ∷ claim 3 2 10 0 1 3 0
          ∷ claim 3 2 13 0 1 3 0
          ∷ claim 3 2 16 0 0 1 0
          ∷ claim 3 3 1 0 0 0 0
          ∷ claim 3 3 4 0 0 0 0
          ∷ claim 3 3 7 0 2 3 0
          ∷ claim 3 3 10 0 2 3 0
          ∷ claim 3 3 13 0 2 3 0
          ∷ claim 3 3 16 0 2 1 0
          ∷ [];
      headrooms =
          told 1 1 0 (pos 2)
          ∷ told 1 2 0 (pos 1)
          ∷ told 1 3 0 (pos 0)
          ∷ told 2 1 0 (negsuc 0)
          ∷ told 2 2 0 (pos 0)
          ∷ told 2 3 0 (pos 0)
          ∷ told 3 1 0 (pos 2)
          ∷ told 3 2 0 (pos 2)
          ∷ told 3 3 0 (pos 1)
          ∷ told 4 1 5 (pos 0)
          ∷ told 1 4294967297 5 (pos 0)
          ∷ [];
      previews =
          showing slots_booking 1 3 1 15 2 3
          ∷ showing slots_booking 1 3 1 15 2 3
          ∷ showing rate_booking 2 3 33333333 15 4 3
          ∷ showing rate_booking 1 1 40085113 0 2 2
          ∷ showing slots_release 3 1 1 10 0 0
          ∷ showing slots_release 2 3 2 10 0 0
          ∷ showing rate_release 3 3 1 10 0 0
          ∷ showing rate_release 1 1 499693 0 1 1
          ∷ showing rate_release 0 2 1 5 0 0
          ∷ showing slots_release 2 2 0 6 0 0
          ∷ [];
    }

pub agrees_45 : first_wrong list_45 ≡ 0
unfolding first_wrong entries apply Direct.start Direct.tick Pipelined.start Pipelined.tick book_words rate_words release_words release_rate_words headroom_refusal Preview.preview arrive_words into_frame sharing_fit booking bookings row_sum column_sum sum first_from some_of word port_word
agrees_45 = refl

pub headroom_45 : first_wrong_headroom list_45 ≡ 0
unfolding first_wrong_headroom final headroom_result pair_headroom headroom_over apply Direct.start Direct.tick Pipelined.start Pipelined.tick book_words rate_words release_words release_rate_words headroom_refusal Preview.preview arrive_words into_frame sharing_fit booking bookings row_sum column_sum sum first_from some_of word port_word
headroom_45 = refl

pub preview_45 : first_wrong_preview list_45 ≡ 0
unfolding first_wrong_preview final apply Direct.start Direct.tick Pipelined.start Pipelined.tick book_words rate_words release_words release_rate_words headroom_refusal Preview.preview arrive_words into_frame sharing_fit booking bookings row_sum column_sum sum first_from some_of word port_word
preview_45 = refl

abbrev list_46 : Case
list_46 =
    record {
      switch =
          record {
            clock = clock_of 3 5 0 1 7;
            book = book_of (104 ∷ 103 ∷ 3 ∷ 102 ∷ 1 ∷ 1 ∷ 2 ∷ 104 ∷ 104 ∷ []) (3 ∷ 102 ∷ 101 ∷ 4 ∷ 2 ∷ 4 ∷ 102 ∷ 7 ∷ 103 ∷ []);
            credits = 2 ∷ 1 ∷ 102 ∷ 103 ∷ 7 ∷ 1 ∷ 3 ∷ 4 ∷ 1 ∷ [];
            queues = 1 ∷ 102 ∷ 4 ∷ 103 ∷ 104 ∷ 3 ∷ 2 ∷ 2 ∷ 2 ∷ [];
            given = 7 ∷ 2 ∷ 103 ∷ [];
            copy = 7 ∷ 1 ∷ 104 ∷ 2 ∷ 101 ∷ 103 ∷ 1 ∷ 2 ∷ 102 ∷ [];
            flight = 104 ∷ 1 ∷ 102 ∷ 2 ∷ 101 ∷ 103 ∷ 2 ∷ 3 ∷ 102 ∷ 102 ∷ 2 ∷ 2 ∷ 4 ∷ 7 ∷ 1 ∷ 101 ∷ 101 ∷ 3 ∷ [];
          };
      calls =
          start direct 2 3 99999999 plain
          ∷ book_rate 2 1 11111111
          ∷ book_rate 2 1 11111112
          ∷ book_rate 2 1 22222222
          ∷ book_rate 1 1 22222223
          ∷ book_rate 1 1 22222223
          ∷ arrive 2 2 6
          ∷ arrive 1 1 12
          ∷ arrive 1 1 10
          ∷ arrive 1 2 7
          ∷ arrive 2 1 10
          ∷ arrive 2 2 8
          ∷ arrive 2 1 8
          ∷ arrive 2 1 9
          ∷ headroom 1 2
          ∷ tick direct
          ∷ book 2 1 1
          ∷ tick direct
          ∷ arrive 2 2 9
          ∷ tick direct
          ∷ arrive 1 1 10
          ∷ release_rate 2 1 11111111
          ∷ release 1 1 1
          ∷ arrive 2 2 9
          ∷ tick direct
          ∷ arrive 2 2 11
          ∷ tick direct
          ∷ tick direct
          ∷ tick direct
          ∷ tick direct
          ∷ tick direct
          ∷ preview slots_booking 1 2 1
          ∷ tick direct
          ∷ book_rate 2 2 11111112
          ∷ tick direct
          ∷ book_rate 2 1 11111111
          ∷ arrive 2 1 8
          ∷ tick direct
          ∷ book_rate 1 1 33333333
          ∷ tick direct
          ∷ tick direct
          ∷ [];
      expected =
          claim 1 1 1 0 2 3 0
          ∷ claim 1 1 4 0 2 3 0
          ∷ claim 1 1 7 0 2 3 0
          ∷ claim 1 1 10 0 2 3 0
          ∷ claim 1 1 13 0 2 2 0
          ∷ claim 1 2 1 0 0 3 0
          ∷ claim 1 2 4 0 0 3 0
          ∷ claim 1 2 7 0 0 3 0
          ∷ claim 1 2 10 0 0 1 0
          ∷ claim 1 2 13 0 0 0 0
          ∷ claim 2 1 1 2 0 3 2
          ∷ claim 2 1 4 2 0 3 2
          ∷ claim 2 1 7 2 0 3 2
          ∷ claim 2 1 10 2 0 3 2
          ∷ claim 2 1 13 2 0 2 2
          ∷ claim 2 2 1 0 2 3 0
          ∷ claim 2 2 4 0 2 3 0
          ∷ claim 2 2 7 0 2 3 0
          ∷ claim 2 2 10 0 2 3 0
          ∷ claim 2 2 13 0 2 2 0
          ∷ [];
      headrooms =
          told 1 1 0 (pos 1)
          ∷ told 1 2 0 (pos 3)
          ∷ told 2 1 0 (pos 1)
          ∷ told 2 2 0 (pos 1)
          ∷ told 3 1 5 (pos 0)
          ∷ told 1 4294967297 5 (pos 0)
          ∷ [];
      previews =
          showing slots_booking 2 1 1 8 3 3
          ∷ showing slots_booking 2 2 1 8 3 1
          ∷ showing rate_booking 2 2 33333333 8 3 1
          ∷ showing rate_booking 2 1 20598756 0 2 2
          ∷ showing slots_release 1 2 1 10 0 0
          ∷ showing slots_release 1 1 1 10 0 0
          ∷ showing rate_release 2 1 11111112 0 1 1
          ∷ showing rate_release 2 1 1644953 0 2 2
          ∷ showing rate_booking 1 0 1 5 0 0
          ∷ showing slots_booking 1 1 0 6 0 0
          ∷ [];
    }

pub agrees_46 : first_wrong list_46 ≡ 0
unfolding first_wrong entries apply Direct.start Direct.tick Pipelined.start Pipelined.tick book_words rate_words release_words release_rate_words headroom_refusal Preview.preview arrive_words into_frame sharing_fit booking bookings row_sum column_sum sum first_from some_of word port_word
agrees_46 = refl

pub headroom_46 : first_wrong_headroom list_46 ≡ 0
unfolding first_wrong_headroom final headroom_result pair_headroom headroom_over apply Direct.start Direct.tick Pipelined.start Pipelined.tick book_words rate_words release_words release_rate_words headroom_refusal Preview.preview arrive_words into_frame sharing_fit booking bookings row_sum column_sum sum first_from some_of word port_word
headroom_46 = refl

pub preview_46 : first_wrong_preview list_46 ≡ 0
unfolding first_wrong_preview final apply Direct.start Direct.tick Pipelined.start Pipelined.tick book_words rate_words release_words release_rate_words headroom_refusal Preview.preview arrive_words into_frame sharing_fit booking bookings row_sum column_sum sum first_from some_of word port_word
preview_46 = refl

abbrev list_47 : Case
list_47 =
    record {
      switch =
          record {
            clock = clock_of 3 1 4000000000 1000 7;
            book = book_of (102 ∷ 7 ∷ 1 ∷ 104 ∷ 7 ∷ 103 ∷ 2 ∷ 7 ∷ 102 ∷ []) (2 ∷ 3 ∷ 103 ∷ 104 ∷ 3 ∷ 2 ∷ 101 ∷ 3 ∷ 104 ∷ []);
            credits = 2 ∷ 103 ∷ 104 ∷ 4 ∷ 101 ∷ 104 ∷ 101 ∷ 1 ∷ 104 ∷ [];
            queues = 7 ∷ 103 ∷ 2 ∷ 3 ∷ 2 ∷ 104 ∷ 103 ∷ 102 ∷ 104 ∷ [];
            given = 2 ∷ 1 ∷ 2 ∷ [];
            copy = 1 ∷ 3 ∷ 1 ∷ 7 ∷ 104 ∷ 1 ∷ 101 ∷ 7 ∷ 102 ∷ [];
            flight = 2 ∷ 102 ∷ 102 ∷ 104 ∷ 4 ∷ 2 ∷ 104 ∷ 1 ∷ 102 ∷ 1 ∷ 103 ∷ 102 ∷ 2 ∷ 102 ∷ 1 ∷ 104 ∷ 2 ∷ 1 ∷ [];
          };
      calls =
          start pipelined 3 4 1000 fine
          ∷ book_rate 2 1 251
          ∷ book_rate 2 1 84
          ∷ book_rate 1 2 83
          ∷ book_rate 1 2 84
          ∷ book_rate 1 2 83
          ∷ book_rate 1 2 166
          ∷ book 2 1 1
          ∷ book 3 2 1
          ∷ book 1 2 1
          ∷ book_rate 2 2 83
          ∷ book_rate 1 1 83
          ∷ book_rate 1 1 83
          ∷ book_rate 1 1 84
          ∷ book_rate 1 1 83
          ∷ book_rate 3 3 83
          ∷ arrive 2 3 80
          ∷ arrive 2 1 61
          ∷ arrive 3 2 45
          ∷ arrive 2 1 51
          ∷ arrive 2 3 85
          ∷ arrive 3 2 57
          ∷ arrive 3 2 76
          ∷ arrive 2 2 82
          ∷ arrive 1 2 85
          ∷ arrive 3 2 87
          ∷ book 1 1 5
          ∷ release 3 2 1
          ∷ tick pipelined
          ∷ tick pipelined
          ∷ book 2 1 1
          ∷ release_rate 1 2 83
          ∷ tick pipelined
          ∷ tick pipelined
          ∷ preview slots_release 2 1 1
          ∷ arrive 1 1 0
          ∷ tick pipelined
          ∷ arrive 2 1 56
          ∷ tick pipelined
          ∷ tick pipelined
          ∷ release_rate 2 1 83
          ∷ arrive 1 2 77
          ∷ tick pipelined
          ∷ tick pipelined
          ∷ arrive 1 3 49
          ∷ arrive 3 3 64
          ∷ tick pipelined
          ∷ release_rate 3 0 1
          ∷ tick pipelined
          ∷ preview rate_release 2 2 1001
          ∷ tick pipelined
          ∷ tick pipelined
          ∷ tick pipelined
          ∷ book 2 1 1
          ∷ preview rate_release 2 1 252
          ∷ arrive 3 3 78
          ∷ book_rate 2 3 84
          ∷ book_rate 2 1 83
          ∷ tick pipelined
          ∷ arrive 1 3 59
          ∷ tick pipelined
          ∷ start pipelined 0 4 1000 plain
          ∷ preview rate_release 1 2 166
          ∷ book_rate 1 3 84
          ∷ start pipelined 33 4 1000 plain
          ∷ tick pipelined
          ∷ release_rate 1 2 334
          ∷ tick pipelined
          ∷ tick pipelined
          ∷ arrive 1 2 49
          ∷ tick pipelined
          ∷ tick pipelined
          ∷ release_rate 2 1 83
          ∷ arrive 2 2 71
          ∷ tick pipelined
          ∷ tick pipelined
          ∷ [];
      expected =
          claim 1 1 1 0 0 0 0
          ∷ claim 1 1 5 0 0 0 0
          ∷ claim 1 1 9 0 7 0 0
          ∷ claim 1 1 13 0 7 0 0
          ∷ claim 1 1 17 0 7 0 0
          ∷ claim 1 1 21 0 7 0 0
          ∷ claim 1 2 1 0 0 0 0
          ∷ claim 1 2 5 0 0 2 0
          ∷ claim 1 2 9 3 0 4 3
          ∷ claim 1 2 13 3 0 4 3
          ∷ claim 1 2 17 3 0 4 3
          ∷ claim 1 2 21 3 0 4 3
          ∷ claim 1 3 1 0 0 0 0
          ∷ claim 1 3 5 0 0 0 0
          ∷ claim 1 3 9 0 3 0 0
          ∷ claim 1 3 13 0 3 1 0
          ∷ claim 1 3 17 0 3 4 0
          ∷ claim 1 3 21 0 3 4 0
          ∷ claim 2 1 1 0 0 0 0
          ∷ claim 2 1 5 0 0 2 0
          ∷ claim 2 1 9 4 0 4 4
          ∷ claim 2 1 13 4 0 4 4
          ∷ claim 2 1 17 4 0 4 4
          ∷ claim 2 1 21 4 0 4 4
          ∷ claim 2 2 1 0 0 0 0
          ∷ claim 2 2 5 0 0 2 0
          ∷ claim 2 2 9 0 7 4 0
          ∷ claim 2 2 13 0 7 4 0
          ∷ claim 2 2 17 0 7 4 0
          ∷ claim 2 2 21 0 7 4 0
          ∷ claim 2 3 1 0 0 0 0
          ∷ claim 2 3 5 0 0 2 0
          ∷ claim 2 3 9 0 4 4 0
          ∷ claim 2 3 13 0 4 4 0
          ∷ claim 2 3 17 0 4 4 0
          ∷ claim 2 3 21 0 4 4 0
          ∷ claim 3 1 1 0 0 0 0
          ∷ claim 3 1 5 0 0 0 0
          ∷ claim 3 1 9 0 4 0 0
          ∷ claim 3 1 13 0 4 0 0
          ∷ claim 3 1 17 0 4 0 0
          ∷ claim 3 1 21 0 4 0 0
          ∷ claim 3 2 1 0 0 0 0
          ∷ claim 3 2 5 0 0 2 0
          ∷ claim 3 2 9 0 3 4 0
          ∷ claim 3 2 13 0 3 4 0
          ∷ claim 3 2 17 0 3 4 0
          ∷ claim 3 2 21 0 3 4 0
          ∷ claim 3 3 1 0 0 0 0
          ∷ claim 3 3 5 0 0 0 0
          ∷ claim 3 3 9 0 0 0 0
          ∷ claim 3 3 13 0 0 3 0
          ∷ claim 3 3 17 0 0 4 0
          ∷ claim 3 3 21 0 0 4 0
          ∷ [];
      headrooms =
          told 1 1 0 (negsuc 3)
          ∷ told 1 2 0 (pos 0)
          ∷ told 1 3 0 (pos 0)
          ∷ told 2 1 0 (pos 0)
          ∷ told 2 2 0 (negsuc 2)
          ∷ told 2 3 0 (negsuc 0)
          ∷ told 3 1 0 (pos 0)
          ∷ told 3 2 0 (pos 1)
          ∷ told 3 3 0 (pos 3)
          ∷ told 4 1 5 (pos 0)
          ∷ told 1 4294967297 5 (pos 0)
          ∷ [];
      previews =
          showing slots_booking 3 1 1 15 1 5
          ∷ showing slots_booking 1 1 2 15 6 6
          ∷ showing rate_booking 1 3 83 0 4 1
          ∷ showing rate_booking 2 3 410 15 6 3
          ∷ showing slots_release 1 2 1 0 3 2
          ∷ showing slots_release 2 1 1 0 3 3
          ∷ showing rate_release 1 2 333 0 2 1
          ∷ showing rate_release 1 2 182 0 3 2
          ∷ showing rate_booking 4 3 1 5 0 0
          ∷ showing slots_booking 1 3 0 6 0 0
          ∷ [];
    }

pub agrees_47 : first_wrong list_47 ≡ 0
unfolding first_wrong entries apply Direct.start Direct.tick Pipelined.start Pipelined.tick book_words rate_words release_words release_rate_words headroom_refusal Preview.preview arrive_words into_frame sharing_fit booking bookings row_sum column_sum sum first_from some_of word port_word
agrees_47 = refl

pub headroom_47 : first_wrong_headroom list_47 ≡ 0
unfolding first_wrong_headroom final headroom_result pair_headroom headroom_over apply Direct.start Direct.tick Pipelined.start Pipelined.tick book_words rate_words release_words release_rate_words headroom_refusal Preview.preview arrive_words into_frame sharing_fit booking bookings row_sum column_sum sum first_from some_of word port_word
headroom_47 = refl

pub preview_47 : first_wrong_preview list_47 ≡ 0
unfolding first_wrong_preview final apply Direct.start Direct.tick Pipelined.start Pipelined.tick book_words rate_words release_words release_rate_words headroom_refusal Preview.preview arrive_words into_frame sharing_fit booking bookings row_sum column_sum sum first_from some_of word port_word
preview_47 = refl

abbrev list_48 : Case
list_48 =
    record {
      switch =
          record {
            clock = clock_of 33 10001 4000000000 100000001 7;
            book = book_of (7 ∷ 2 ∷ 102 ∷ 1 ∷ 3 ∷ 101 ∷ 101 ∷ 1 ∷ 101 ∷ []) (2 ∷ 102 ∷ 1 ∷ 1 ∷ 1 ∷ 1 ∷ 104 ∷ 2 ∷ 2 ∷ []);
            credits = 4 ∷ 4 ∷ 101 ∷ 4 ∷ 7 ∷ 1 ∷ 103 ∷ 1 ∷ 4 ∷ [];
            queues = 4 ∷ 1 ∷ 102 ∷ 1 ∷ 103 ∷ 2 ∷ 103 ∷ 1 ∷ 3 ∷ [];
            given = 103 ∷ 3 ∷ 104 ∷ [];
            copy = 7 ∷ 104 ∷ 102 ∷ 4 ∷ 104 ∷ 2 ∷ 1 ∷ 3 ∷ 104 ∷ [];
            flight = 101 ∷ 1 ∷ 1 ∷ 4 ∷ 1 ∷ 3 ∷ 1 ∷ 101 ∷ 4 ∷ 104 ∷ 7 ∷ 4 ∷ 3 ∷ 102 ∷ 101 ∷ 1 ∷ 4 ∷ 103 ∷ [];
          };
      calls =
          start direct 1 7 100000000 plain
          ∷ book 1 1 1
          ∷ arrive 1 1 1
          ∷ arrive 1 1 2
          ∷ tick direct
          ∷ tick direct
          ∷ tick direct
          ∷ tick direct
          ∷ start direct 3 6 0 fine
          ∷ book_rate 2 1 1
          ∷ book_rate 2 2 1
          ∷ book_rate 2 2 1
          ∷ book_rate 2 2 1
          ∷ book_rate 2 2 1
          ∷ book_rate 1 1 1
          ∷ book_rate 2 3 1
          ∷ book_rate 2 3 1
          ∷ book_rate 2 3 1
          ∷ book_rate 2 1 1
          ∷ book_rate 2 1 1
          ∷ arrive 2 2 3
          ∷ arrive 3 3 4
          ∷ arrive 1 2 4
          ∷ arrive 2 1 5
          ∷ arrive 1 2 5
          ∷ arrive 3 2 3
          ∷ arrive 2 2 5
          ∷ arrive 3 2 3
          ∷ arrive 2 1 3
          ∷ arrive 2 3 4
          ∷ arrive 2 2 4
          ∷ arrive 1 2 4
          ∷ release_rate 3 1 1
          ∷ tick direct
          ∷ arrive 3 1 3
          ∷ book 1 0 1
          ∷ release_rate 2 2 1
          ∷ tick direct
          ∷ arrive 2 3 3
          ∷ book 1 1 1
          ∷ tick direct
          ∷ release_rate 3 2 1
          ∷ tick direct
          ∷ tick direct
          ∷ release_rate 2 2 1
          ∷ book 3 1 1
          ∷ book_rate 1 2 1
          ∷ release 1 1 2
          ∷ tick direct
          ∷ tick direct
          ∷ tick direct
          ∷ release 3 1 1
          ∷ preview slots_release 1 1 1
          ∷ release_rate 1 2 1
          ∷ book 1 1 1
          ∷ tick direct
          ∷ release_rate 2 2 1
          ∷ arrive 3 3 2
          ∷ tick direct
          ∷ release_rate 3 1 1
          ∷ release 4 1 1
          ∷ preview rate_booking 1 1 1
          ∷ tick direct
          ∷ preview slots_booking 3 1 1
          ∷ arrive 1 1 2
          ∷ arrive 1 1 4
          ∷ tick direct
          ∷ preview rate_booking 3 2 1
          ∷ headroom 2 2
          ∷ tick direct
          ∷ preview slots_booking 1 1 3
          ∷ preview slots_release 1 3 1
          ∷ tick direct
          ∷ tick direct
          ∷ tick direct
          ∷ headroom 3 1
          ∷ release_rate 2 2 1
          ∷ tick direct
          ∷ [];
      expected =
          claim 1 1 1 0 0 0 0
          ∷ claim 1 1 7 1 1 1 1
          ∷ claim 1 1 13 2 0 5 2
          ∷ claim 1 2 1 0 0 6 0
          ∷ claim 1 2 7 0 1 6 0
          ∷ claim 1 2 13 0 2 5 0
          ∷ claim 1 3 1 0 0 0 0
          ∷ claim 1 3 7 0 1 0 0
          ∷ claim 1 3 13 0 2 0 0
          ∷ claim 2 1 1 0 0 6 0
          ∷ claim 2 1 7 0 2 6 0
          ∷ claim 2 1 13 0 2 5 0
          ∷ claim 2 2 1 0 0 6 0
          ∷ claim 2 2 7 0 0 6 0
          ∷ claim 2 2 13 0 0 5 0
          ∷ claim 2 3 1 0 0 6 0
          ∷ claim 2 3 7 0 0 6 0
          ∷ claim 2 3 13 0 0 3 0
          ∷ claim 3 1 1 0 0 5 0
          ∷ claim 3 1 7 1 1 0 0
          ∷ claim 3 1 13 0 2 0 0
          ∷ claim 3 2 1 0 0 6 0
          ∷ claim 3 2 7 0 1 6 0
          ∷ claim 3 2 13 0 0 5 0
          ∷ claim 3 3 1 0 0 6 0
          ∷ claim 3 3 7 0 1 4 0
          ∷ claim 3 3 13 0 0 0 0
          ∷ [];
      headrooms =
          told 1 1 0 (pos 4)
          ∷ told 1 2 0 (pos 4)
          ∷ told 1 3 0 (pos 4)
          ∷ told 2 1 0 (pos 4)
          ∷ told 2 2 0 (pos 6)
          ∷ told 2 3 0 (pos 6)
          ∷ told 3 1 0 (pos 4)
          ∷ told 3 2 0 (pos 6)
          ∷ told 3 3 0 (pos 6)
          ∷ told 4 1 5 (pos 0)
          ∷ told 1 0 5 (pos 0)
          ∷ [];
      previews =
          showing slots_booking 1 1 1 0 3 3
          ∷ showing slots_booking 1 1 1 0 3 3
          ∷ showing rate_booking 1 2 1 6 0 0
          ∷ showing rate_booking 3 2 1 6 0 0
          ∷ showing slots_release 1 1 1 0 1 1
          ∷ showing slots_release 1 1 3 10 0 0
          ∷ showing rate_release 2 3 1 6 0 0
          ∷ showing rate_release 1 1 1 6 0 0
          ∷ showing slots_booking 2 0 1 5 0 0
          ∷ showing rate_release 2 2 0 6 0 0
          ∷ [];
    }

pub agrees_48 : first_wrong list_48 ≡ 0
unfolding first_wrong entries apply Direct.start Direct.tick Pipelined.start Pipelined.tick book_words rate_words release_words release_rate_words headroom_refusal Preview.preview arrive_words into_frame sharing_fit booking bookings row_sum column_sum sum first_from some_of word port_word
agrees_48 = refl

pub headroom_48 : first_wrong_headroom list_48 ≡ 0
unfolding first_wrong_headroom final headroom_result pair_headroom headroom_over apply Direct.start Direct.tick Pipelined.start Pipelined.tick book_words rate_words release_words release_rate_words headroom_refusal Preview.preview arrive_words into_frame sharing_fit booking bookings row_sum column_sum sum first_from some_of word port_word
headroom_48 = refl

pub preview_48 : first_wrong_preview list_48 ≡ 0
unfolding first_wrong_preview final apply Direct.start Direct.tick Pipelined.start Pipelined.tick book_words rate_words release_words release_rate_words headroom_refusal Preview.preview arrive_words into_frame sharing_fit booking bookings row_sum column_sum sum first_from some_of word port_word
preview_48 = refl

abbrev list_49 : Case
list_49 =
    record {
      switch =
          record {
            clock = clock_of 0 1 77 1000 7;
            book = book_of (101 ∷ 102 ∷ 102 ∷ 101 ∷ 103 ∷ 103 ∷ 103 ∷ 102 ∷ 3 ∷ []) (101 ∷ 1 ∷ 1 ∷ 2 ∷ 103 ∷ 104 ∷ 2 ∷ 2 ∷ 104 ∷ []);
            credits = 102 ∷ 101 ∷ 1 ∷ 2 ∷ 103 ∷ 1 ∷ 103 ∷ 101 ∷ 2 ∷ [];
            queues = 1 ∷ 1 ∷ 1 ∷ 1 ∷ 2 ∷ 3 ∷ 2 ∷ 101 ∷ 1 ∷ [];
            given = 4 ∷ 101 ∷ 1 ∷ [];
            copy = 104 ∷ 7 ∷ 2 ∷ 1 ∷ 101 ∷ 2 ∷ 104 ∷ 1 ∷ 4 ∷ [];
            flight = 4 ∷ 101 ∷ 101 ∷ 1 ∷ 4 ∷ 101 ∷ 1 ∷ 1 ∷ 4 ∷ 104 ∷ 1 ∷ 102 ∷ 104 ∷ 101 ∷ 2 ∷ 1 ∷ 2 ∷ 1 ∷ [];
          };
      calls =
          start pipelined 2 4 100000000 plain
          ∷ book_rate 1 1 16666666
          ∷ book_rate 1 1 8333333
          ∷ book_rate 1 1 16666666
          ∷ book_rate 1 1 25000001
          ∷ book_rate 1 1 8333334
          ∷ book_rate 1 2 8333333
          ∷ book_rate 1 2 16666666
          ∷ book_rate 1 2 8333333
          ∷ arrive 2 1 4
          ∷ arrive 1 1 5
          ∷ arrive 2 2 3
          ∷ arrive 2 2 5
          ∷ headroom 1 1
          ∷ release_rate 1 1 8333333
          ∷ tick pipelined
          ∷ book 2 2 1
          ∷ tick pipelined
          ∷ tick pipelined
          ∷ tick pipelined
          ∷ book 1 1 1
          ∷ tick pipelined
          ∷ tick pipelined
          ∷ tick pipelined
          ∷ book 2 1 2
          ∷ arrive 2 1 3
          ∷ tick pipelined
          ∷ arrive 1 1 3
          ∷ tick pipelined
          ∷ headroom 1 1
          ∷ tick pipelined
          ∷ [];
      expected =
          claim 1 1 1 0 0 0 0
          ∷ claim 1 1 5 2 0 4 2
          ∷ claim 1 1 9 2 0 1 1
          ∷ claim 1 2 1 0 0 0 0
          ∷ claim 1 2 5 0 2 0 0
          ∷ claim 1 2 9 0 3 0 0
          ∷ claim 2 1 1 0 0 0 0
          ∷ claim 2 1 5 0 2 4 0
          ∷ claim 2 1 9 0 3 3 0
          ∷ claim 2 2 1 0 0 0 0
          ∷ claim 2 2 5 0 0 4 0
          ∷ claim 2 2 9 1 0 3 1
          ∷ [];
      headrooms =
          told 1 1 0 (pos 2)
          ∷ told 1 2 0 (pos 1)
          ∷ told 2 1 0 (pos 1)
          ∷ told 2 2 0 (pos 3)
          ∷ told 3 1 5 (pos 0)
          ∷ told 1 4294967297 5 (pos 0)
          ∷ [];
      previews =
          showing slots_booking 1 2 1 8 3 2
          ∷ showing slots_booking 2 2 2 8 3 3
          ∷ showing rate_booking 1 2 8333334 8 3 2
          ∷ showing rate_booking 1 1 9174303 8 3 3
          ∷ showing slots_release 2 2 1 0 0 0
          ∷ showing slots_release 2 2 1 0 0 0
          ∷ showing rate_release 1 2 1 10 0 0
          ∷ showing rate_release 1 1 49154627 10 0 0
          ∷ showing slots_booking 0 1 1 5 0 0
          ∷ showing rate_booking 1 1 0 6 0 0
          ∷ [];
    }

pub agrees_49 : first_wrong list_49 ≡ 0
unfolding first_wrong entries apply Direct.start Direct.tick Pipelined.start Pipelined.tick book_words rate_words release_words release_rate_words headroom_refusal Preview.preview arrive_words into_frame sharing_fit booking bookings row_sum column_sum sum first_from some_of word port_word
agrees_49 = refl

pub headroom_49 : first_wrong_headroom list_49 ≡ 0
unfolding first_wrong_headroom final headroom_result pair_headroom headroom_over apply Direct.start Direct.tick Pipelined.start Pipelined.tick book_words rate_words release_words release_rate_words headroom_refusal Preview.preview arrive_words into_frame sharing_fit booking bookings row_sum column_sum sum first_from some_of word port_word
headroom_49 = refl

pub preview_49 : first_wrong_preview list_49 ≡ 0
unfolding first_wrong_preview final apply Direct.start Direct.tick Pipelined.start Pipelined.tick book_words rate_words release_words release_rate_words headroom_refusal Preview.preview arrive_words into_frame sharing_fit booking bookings row_sum column_sum sum first_from some_of word port_word
preview_49 = refl

abbrev list_50 : Case
list_50 =
    record {
      switch =
          record {
            clock = clock_of 3 2 77 0 0;
            book = book_of (1 ∷ 1 ∷ 4 ∷ 1 ∷ 2 ∷ 3 ∷ 4 ∷ 103 ∷ 103 ∷ []) (101 ∷ 2 ∷ 3 ∷ 2 ∷ 2 ∷ 2 ∷ 102 ∷ 1 ∷ 1 ∷ []);
            credits = 1 ∷ 3 ∷ 3 ∷ 2 ∷ 104 ∷ 2 ∷ 1 ∷ 2 ∷ 7 ∷ [];
            queues = 2 ∷ 1 ∷ 4 ∷ 102 ∷ 1 ∷ 2 ∷ 2 ∷ 7 ∷ 102 ∷ [];
            given = 4 ∷ 101 ∷ 7 ∷ [];
            copy = 104 ∷ 4 ∷ 1 ∷ 1 ∷ 103 ∷ 2 ∷ 4 ∷ 7 ∷ 2 ∷ [];
            flight = 1 ∷ 101 ∷ 103 ∷ 4 ∷ 4 ∷ 103 ∷ 101 ∷ 7 ∷ 7 ∷ 3 ∷ 1 ∷ 4 ∷ 1 ∷ 101 ∷ 2 ∷ 103 ∷ 7 ∷ 2 ∷ [];
          };
      calls =
          start direct 3 2 1000 fine
          ∷ book_rate 1 3 500
          ∷ book_rate 1 3 501
          ∷ book 2 3 1
          ∷ book_rate 1 2 166
          ∷ book_rate 3 1 500
          ∷ arrive 3 2 5
          ∷ arrive 3 2 4
          ∷ arrive 1 3 3
          ∷ arrive 1 1 4
          ∷ arrive 1 3 2
          ∷ arrive 1 3 3
          ∷ arrive 3 2 2
          ∷ arrive 1 1 5
          ∷ arrive 1 1 3
          ∷ arrive 3 3 4
          ∷ arrive 1 2 2
          ∷ tick direct
          ∷ preview slots_release 1 1 1
          ∷ book 1 2 1
          ∷ tick direct
          ∷ arrive 1 3 3
          ∷ arrive 3 1 3
          ∷ tick direct
          ∷ start direct 3 6 99999999 plain
          ∷ book_rate 2 1 16666667
          ∷ book_rate 2 1 5555555
          ∷ book_rate 2 1 5555555
          ∷ book_rate 2 1 16666667
          ∷ book 1 2 1
          ∷ book_rate 1 2 5555555
          ∷ book_rate 1 2 5555556
          ∷ book_rate 3 2 5555556
          ∷ book_rate 2 2 5555556
          ∷ book_rate 2 2 11111111
          ∷ book_rate 2 2 5555556
          ∷ arrive 2 2 47
          ∷ arrive 3 2 76
          ∷ arrive 2 1 66
          ∷ arrive 2 3 85
          ∷ arrive 1 1 77
          ∷ tick direct
          ∷ tick direct
          ∷ book 1 1 3
          ∷ arrive 2 1 78
          ∷ tick direct
          ∷ tick direct
          ∷ release_rate 2 1 5555555
          ∷ tick direct
          ∷ arrive 4 1 1
          ∷ tick direct
          ∷ arrive 2 1 47
          ∷ book_rate 3 3 5555556
          ∷ headroom 1 2
          ∷ tick direct
          ∷ arrive 1 2 51
          ∷ book_rate 3 1 11111111
          ∷ headroom 3 4
          ∷ tick direct
          ∷ tick direct
          ∷ release_rate 3 3 5555555
          ∷ preview rate_release 2 1 38888889
          ∷ tick direct
          ∷ book 2 3 7
          ∷ book_rate 2 2 5555555
          ∷ tick direct
          ∷ tick direct
          ∷ book_rate 3 2 11111111
          ∷ arrive 3 1 87
          ∷ arrive 1 3 64
          ∷ book 2 2 1
          ∷ release_rate 3 2 5555557
          ∷ book_rate 2 1 16666666
          ∷ arrive 1 2 87
          ∷ arrive 2 1 56
          ∷ arrive 2 2 57
          ∷ tick direct
          ∷ tick direct
          ∷ tick direct
          ∷ headroom 1 3
          ∷ arrive 2 3 86
          ∷ tick direct
          ∷ [];
      expected =
          claim 1 1 1 0 5 6 0
          ∷ claim 1 1 7 0 5 6 0
          ∷ claim 1 1 13 0 5 4 0
          ∷ claim 1 2 1 2 1 0 0
          ∷ claim 1 2 7 2 1 5 2
          ∷ claim 1 2 13 2 1 4 2
          ∷ claim 1 3 1 0 2 0 0
          ∷ claim 1 3 7 0 3 0 0
          ∷ claim 1 3 13 0 3 4 0
          ∷ claim 2 1 1 3 0 6 3
          ∷ claim 2 1 7 3 0 6 3
          ∷ claim 2 1 13 3 0 4 3
          ∷ claim 2 2 1 0 6 6 0
          ∷ claim 2 2 7 0 6 6 0
          ∷ claim 2 2 13 0 6 4 0
          ∷ claim 2 3 1 0 3 6 0
          ∷ claim 2 3 7 0 4 6 0
          ∷ claim 2 3 13 0 4 4 0
          ∷ claim 3 1 1 0 4 0 0
          ∷ claim 3 1 7 0 5 0 0
          ∷ claim 3 1 13 0 5 4 0
          ∷ claim 3 2 1 1 2 6 1
          ∷ claim 3 2 7 1 3 6 1
          ∷ claim 3 2 13 1 3 4 1
          ∷ claim 3 3 1 0 1 0 0
          ∷ claim 3 3 7 1 1 0 0
          ∷ claim 3 3 13 1 1 0 0
          ∷ [];
      headrooms =
          told 1 1 0 (pos 1)
          ∷ told 1 2 0 (pos 3)
          ∷ told 1 3 0 (pos 3)
          ∷ told 2 1 0 (pos 3)
          ∷ told 2 2 0 (pos 0)
          ∷ told 2 3 0 (pos 2)
          ∷ told 3 1 0 (pos 1)
          ∷ told 3 2 0 (pos 2)
          ∷ told 3 3 0 (pos 4)
          ∷ told 4 1 5 (pos 0)
          ∷ told 1 0 5 (pos 0)
          ∷ [];
      previews =
          showing slots_booking 3 3 1 0 3 2
          ∷ showing slots_booking 2 3 2 8 5 3
          ∷ showing rate_booking 3 2 5555555 0 2 3
          ∷ showing rate_booking 3 1 34096752 8 5 6
          ∷ showing slots_release 1 2 1 0 1 2
          ∷ showing slots_release 2 2 1 10 0 0
          ∷ showing rate_release 2 2 1 10 0 0
          ∷ showing rate_release 2 1 10405920 0 2 2
          ∷ showing slots_booking 4 3 1 5 0 0
          ∷ showing slots_booking 1 3 7 6 0 0
          ∷ [];
    }

pub agrees_50 : first_wrong list_50 ≡ 0
unfolding first_wrong entries apply Direct.start Direct.tick Pipelined.start Pipelined.tick book_words rate_words release_words release_rate_words headroom_refusal Preview.preview arrive_words into_frame sharing_fit booking bookings row_sum column_sum sum first_from some_of word port_word
agrees_50 = refl

pub headroom_50 : first_wrong_headroom list_50 ≡ 0
unfolding first_wrong_headroom final headroom_result pair_headroom headroom_over apply Direct.start Direct.tick Pipelined.start Pipelined.tick book_words rate_words release_words release_rate_words headroom_refusal Preview.preview arrive_words into_frame sharing_fit booking bookings row_sum column_sum sum first_from some_of word port_word
headroom_50 = refl

pub preview_50 : first_wrong_preview list_50 ≡ 0
unfolding first_wrong_preview final apply Direct.start Direct.tick Pipelined.start Pipelined.tick book_words rate_words release_words release_rate_words headroom_refusal Preview.preview arrive_words into_frame sharing_fit booking bookings row_sum column_sum sum first_from some_of word port_word
preview_50 = refl

abbrev list_51 : Case
list_51 =
    record {
      switch =
          record {
            clock = clock_of 9 1 4000000000 0 7;
            book = book_of (2 ∷ 2 ∷ 4 ∷ 2 ∷ 1 ∷ 3 ∷ 2 ∷ 2 ∷ 2 ∷ []) (103 ∷ 1 ∷ 104 ∷ 102 ∷ 1 ∷ 1 ∷ 1 ∷ 1 ∷ 101 ∷ []);
            credits = 7 ∷ 102 ∷ 4 ∷ 2 ∷ 4 ∷ 7 ∷ 1 ∷ 2 ∷ 7 ∷ [];
            queues = 2 ∷ 4 ∷ 103 ∷ 2 ∷ 1 ∷ 102 ∷ 102 ∷ 1 ∷ 101 ∷ [];
            given = 102 ∷ 7 ∷ 1 ∷ [];
            copy = 7 ∷ 102 ∷ 101 ∷ 2 ∷ 4 ∷ 103 ∷ 3 ∷ 3 ∷ 102 ∷ [];
            flight = 3 ∷ 7 ∷ 103 ∷ 1 ∷ 4 ∷ 101 ∷ 4 ∷ 2 ∷ 2 ∷ 7 ∷ 1 ∷ 2 ∷ 2 ∷ 2 ∷ 3 ∷ 2 ∷ 102 ∷ 7 ∷ [];
          };
      calls =
          start pipelined 2 7 100000000 fine
          ∷ book_rate 2 2 4761904
          ∷ book_rate 2 2 4761904
          ∷ book_rate 2 1 9523809
          ∷ arrive 1 1 2
          ∷ arrive 1 2 5
          ∷ tick pipelined
          ∷ book_rate 2 2 9523810
          ∷ tick pipelined
          ∷ tick pipelined
          ∷ release_rate 2 2 19047619
          ∷ book 2 1 1
          ∷ tick pipelined
          ∷ arrive 2 1 3
          ∷ tick pipelined
          ∷ book 1 1 1
          ∷ headroom 2 1
          ∷ release 1 1 1
          ∷ tick pipelined
          ∷ tick pipelined
          ∷ tick pipelined
          ∷ book 2 1 8
          ∷ tick pipelined
          ∷ release_rate 1 1 1
          ∷ preview rate_release 2 2 19047619
          ∷ arrive 2 2 3
          ∷ book 1 2 1
          ∷ tick pipelined
          ∷ release 1 2 1
          ∷ tick pipelined
          ∷ tick pipelined
          ∷ [];
      expected =
          claim 1 1 1 0 0 3 0
          ∷ claim 1 1 8 0 2 0 0
          ∷ claim 1 2 1 0 0 3 0
          ∷ claim 1 2 8 0 2 4 0
          ∷ claim 2 1 1 0 0 0 0
          ∷ claim 2 1 8 2 2 2 2
          ∷ claim 2 2 1 0 0 0 0
          ∷ claim 2 2 8 2 2 1 1
          ∷ [];
      headrooms =
          told 1 1 0 (pos 5)
          ∷ told 1 2 0 (pos 5)
          ∷ told 2 1 0 (pos 3)
          ∷ told 2 2 0 (pos 3)
          ∷ told 3 1 5 (pos 0)
          ∷ told 1 0 5 (pos 0)
          ∷ [];
      previews =
          showing slots_booking 2 2 1 0 5 3
          ∷ showing slots_booking 2 2 2 0 6 4
          ∷ showing rate_booking 2 2 4761904 0 4 2
          ∷ showing rate_booking 2 2 20731331 0 5 3
          ∷ showing slots_release 2 1 2 10 0 0
          ∷ showing slots_release 2 1 3 10 0 0
          ∷ showing rate_release 1 1 1 10 0 0
          ∷ showing rate_release 2 1 8653355 0 4 2
          ∷ showing slots_booking 3 1 1 5 0 0
          ∷ showing slots_release 2 1 0 6 0 0
          ∷ [];
    }

pub agrees_51 : first_wrong list_51 ≡ 0
unfolding first_wrong entries apply Direct.start Direct.tick Pipelined.start Pipelined.tick book_words rate_words release_words release_rate_words headroom_refusal Preview.preview arrive_words into_frame sharing_fit booking bookings row_sum column_sum sum first_from some_of word port_word
agrees_51 = refl

pub headroom_51 : first_wrong_headroom list_51 ≡ 0
unfolding first_wrong_headroom final headroom_result pair_headroom headroom_over apply Direct.start Direct.tick Pipelined.start Pipelined.tick book_words rate_words release_words release_rate_words headroom_refusal Preview.preview arrive_words into_frame sharing_fit booking bookings row_sum column_sum sum first_from some_of word port_word
headroom_51 = refl

pub preview_51 : first_wrong_preview list_51 ≡ 0
unfolding first_wrong_preview final apply Direct.start Direct.tick Pipelined.start Pipelined.tick book_words rate_words release_words release_rate_words headroom_refusal Preview.preview arrive_words into_frame sharing_fit booking bookings row_sum column_sum sum first_from some_of word port_word
preview_51 = refl

abbrev list_52 : Case
list_52 =
    record {
      switch =
          record {
            clock = clock_of 2 5 4000000000 100000001 7;
            book = book_of (2 ∷ 104 ∷ 102 ∷ 1 ∷ 2 ∷ 2 ∷ 1 ∷ 102 ∷ 101 ∷ []) (2 ∷ 1 ∷ 3 ∷ 104 ∷ 104 ∷ 101 ∷ 1 ∷ 103 ∷ 3 ∷ []);
            credits = 4 ∷ 104 ∷ 4 ∷ 1 ∷ 2 ∷ 104 ∷ 2 ∷ 103 ∷ 1 ∷ [];
            queues = 101 ∷ 4 ∷ 4 ∷ 1 ∷ 2 ∷ 4 ∷ 2 ∷ 7 ∷ 2 ∷ [];
            given = 2 ∷ 102 ∷ 101 ∷ [];
            copy = 101 ∷ 104 ∷ 102 ∷ 2 ∷ 2 ∷ 101 ∷ 104 ∷ 1 ∷ 104 ∷ [];
            flight = 7 ∷ 102 ∷ 2 ∷ 3 ∷ 1 ∷ 102 ∷ 1 ∷ 4 ∷ 3 ∷ 2 ∷ 104 ∷ 104 ∷ 4 ∷ 7 ∷ 2 ∷ 2 ∷ 7 ∷ 104 ∷ [];
          };
      calls =
          start direct 1 3 1000 fine
          ∷ book 1 1 1
          ∷ arrive 1 1 1
          ∷ arrive 1 1 2
          ∷ tick direct
          ∷ book_rate 1 1 112
          ∷ tick direct
          ∷ tick direct
          ∷ arrive 1 1 1
          ∷ book 1 1 4
          ∷ tick direct
          ∷ tick direct
          ∷ arrive 1 1 1
          ∷ tick direct
          ∷ release_rate 1 1 112
          ∷ tick direct
          ∷ release_rate 1 1 1
          ∷ release_rate 1 1 1
          ∷ tick direct
          ∷ book_rate 1 1 333
          ∷ tick direct
          ∷ tick direct
          ∷ release_rate 1 1 111
          ∷ tick direct
          ∷ release 1 1 2
          ∷ tick direct
          ∷ tick direct
          ∷ tick direct
          ∷ preview rate_release 1 1 222
          ∷ tick direct
          ∷ book_rate 1 1 112
          ∷ release_rate 1 1 335
          ∷ tick direct
          ∷ book_rate 1 1 1001
          ∷ start direct 0 3 1000 plain
          ∷ preview slots_release 1 1 2
          ∷ tick direct
          ∷ arrive 1 1 1
          ∷ tick direct
          ∷ [];
      expected =
          claim 1 1 1 1 0 3 1
          ∷ claim 1 1 4 2 0 2 2
          ∷ claim 1 1 7 1 0 0 0
          ∷ claim 1 1 10 2 0 0 0
          ∷ claim 1 1 13 2 0 0 0
          ∷ claim 1 1 16 3 0 1 1
          ∷ [];
      headrooms =
          told 1 1 0 (pos 0)
          ∷ told 2 1 5 (pos 0)
          ∷ told 1 0 5 (pos 0)
          ∷ [];
      previews =
          showing slots_booking 1 1 1 15 4 4
          ∷ showing slots_booking 1 1 2 15 5 5
          ∷ showing rate_booking 1 1 334 15 4 4
          ∷ showing rate_booking 1 1 473 15 4 4
          ∷ showing slots_release 1 1 1 0 2 2
          ∷ showing slots_release 1 1 2 10 0 0
          ∷ showing rate_release 1 1 111 0 2 2
          ∷ showing rate_release 1 1 178 0 2 2
          ∷ showing slots_booking 1 0 1 5 0 0
          ∷ showing slots_release 1 1 4 6 0 0
          ∷ [];
    }

pub agrees_52 : first_wrong list_52 ≡ 0
unfolding first_wrong entries apply Direct.start Direct.tick Pipelined.start Pipelined.tick book_words rate_words release_words release_rate_words headroom_refusal Preview.preview arrive_words into_frame sharing_fit booking bookings row_sum column_sum sum first_from some_of word port_word
agrees_52 = refl

pub headroom_52 : first_wrong_headroom list_52 ≡ 0
unfolding first_wrong_headroom final headroom_result pair_headroom headroom_over apply Direct.start Direct.tick Pipelined.start Pipelined.tick book_words rate_words release_words release_rate_words headroom_refusal Preview.preview arrive_words into_frame sharing_fit booking bookings row_sum column_sum sum first_from some_of word port_word
headroom_52 = refl

pub preview_52 : first_wrong_preview list_52 ≡ 0
unfolding first_wrong_preview final apply Direct.start Direct.tick Pipelined.start Pipelined.tick book_words rate_words release_words release_rate_words headroom_refusal Preview.preview arrive_words into_frame sharing_fit booking bookings row_sum column_sum sum first_from some_of word port_word
preview_52 = refl

abbrev list_53 : Case
list_53 =
    record {
      switch =
          record {
            clock = clock_of 9 2 0 1000 7;
            book = book_of (3 ∷ 102 ∷ 2 ∷ 1 ∷ 2 ∷ 1 ∷ 7 ∷ 7 ∷ 101 ∷ []) (2 ∷ 7 ∷ 3 ∷ 2 ∷ 2 ∷ 101 ∷ 101 ∷ 2 ∷ 4 ∷ []);
            credits = 1 ∷ 104 ∷ 4 ∷ 7 ∷ 103 ∷ 1 ∷ 101 ∷ 2 ∷ 2 ∷ [];
            queues = 104 ∷ 1 ∷ 1 ∷ 102 ∷ 102 ∷ 101 ∷ 1 ∷ 4 ∷ 1 ∷ [];
            given = 2 ∷ 7 ∷ 1 ∷ [];
            copy = 101 ∷ 104 ∷ 102 ∷ 1 ∷ 3 ∷ 3 ∷ 2 ∷ 102 ∷ 102 ∷ [];
            flight = 103 ∷ 4 ∷ 102 ∷ 2 ∷ 7 ∷ 1 ∷ 1 ∷ 7 ∷ 3 ∷ 3 ∷ 1 ∷ 7 ∷ 102 ∷ 104 ∷ 2 ∷ 7 ∷ 7 ∷ 2 ∷ [];
          };
      calls =
          start pipelined 2 3 99999999 plain
          ∷ book 2 2 1
          ∷ book 2 2 1
          ∷ book_rate 2 2 22222222
          ∷ book_rate 2 2 11111111
          ∷ book_rate 1 1 11111112
          ∷ book_rate 1 1 11111112
          ∷ book_rate 1 1 11111111
          ∷ arrive 1 1 2
          ∷ arrive 1 2 2
          ∷ arrive 1 1 1
          ∷ tick pipelined
          ∷ headroom 1 1
          ∷ book 2 2 1
          ∷ headroom 2 2
          ∷ tick pipelined
          ∷ book 2 1 1
          ∷ book_rate 2 1 11111112
          ∷ release_rate 2 4294967297 1
          ∷ tick pipelined
          ∷ tick pipelined
          ∷ arrive 1 2 1
          ∷ arrive 2 1 1
          ∷ tick pipelined
          ∷ arrive 2 1 1
          ∷ tick pipelined
          ∷ preview slots_booking 1 2 1
          ∷ book 2 1 1
          ∷ tick pipelined
          ∷ preview rate_release 1 1 33333336
          ∷ book_rate 2 1 11111111
          ∷ arrive 2 2 1
          ∷ tick pipelined
          ∷ release 1 2 1
          ∷ arrive 1 2 2
          ∷ preview slots_booking 2 1 1
          ∷ release 2 2 1
          ∷ tick pipelined
          ∷ tick pipelined
          ∷ release_rate 1 1 11111111
          ∷ arrive 2 2 1
          ∷ tick pipelined
          ∷ [];
      expected =
          claim 1 1 1 0 0 0 0
          ∷ claim 1 1 4 0 0 2 0
          ∷ claim 1 1 7 2 0 2 2
          ∷ claim 1 1 10 2 0 0 0
          ∷ claim 1 2 1 0 0 0 0
          ∷ claim 1 2 4 0 0 2 0
          ∷ claim 1 2 7 0 4 2 0
          ∷ claim 1 2 10 0 4 2 0
          ∷ claim 2 1 1 0 0 0 0
          ∷ claim 2 1 4 0 0 0 0
          ∷ claim 2 1 7 0 4 2 0
          ∷ claim 2 1 10 0 4 2 0
          ∷ claim 2 2 1 0 0 0 0
          ∷ claim 2 2 4 0 0 0 0
          ∷ claim 2 2 7 2 0 0 0
          ∷ claim 2 2 10 2 0 1 1
          ∷ [];
      headrooms =
          told 1 1 0 (pos 2)
          ∷ told 1 2 0 (pos 1)
          ∷ told 2 1 0 (pos 1)
          ∷ told 2 2 0 (pos 2)
          ∷ told 3 1 5 (pos 0)
          ∷ told 1 4294967297 5 (pos 0)
          ∷ [];
      previews =
          showing slots_booking 1 2 1 0 2 2
          ∷ showing slots_booking 1 1 1 0 2 2
          ∷ showing rate_booking 1 2 11111112 0 2 2
          ∷ showing rate_booking 2 1 20649657 0 2 2
          ∷ showing slots_release 2 2 1 0 0 0
          ∷ showing slots_release 2 2 1 0 0 0
          ∷ showing rate_release 1 1 22222224 0 0 0
          ∷ showing rate_release 1 1 5706914 0 1 1
          ∷ showing rate_release 3 2 1 5 0 0
          ∷ showing rate_release 1 2 0 6 0 0
          ∷ [];
    }

pub agrees_53 : first_wrong list_53 ≡ 0
unfolding first_wrong entries apply Direct.start Direct.tick Pipelined.start Pipelined.tick book_words rate_words release_words release_rate_words headroom_refusal Preview.preview arrive_words into_frame sharing_fit booking bookings row_sum column_sum sum first_from some_of word port_word
agrees_53 = refl

pub headroom_53 : first_wrong_headroom list_53 ≡ 0
unfolding first_wrong_headroom final headroom_result pair_headroom headroom_over apply Direct.start Direct.tick Pipelined.start Pipelined.tick book_words rate_words release_words release_rate_words headroom_refusal Preview.preview arrive_words into_frame sharing_fit booking bookings row_sum column_sum sum first_from some_of word port_word
headroom_53 = refl

pub preview_53 : first_wrong_preview list_53 ≡ 0
unfolding first_wrong_preview final apply Direct.start Direct.tick Pipelined.start Pipelined.tick book_words rate_words release_words release_rate_words headroom_refusal Preview.preview arrive_words into_frame sharing_fit booking bookings row_sum column_sum sum first_from some_of word port_word
preview_53 = refl

abbrev list_54 : Case
list_54 =
    record {
      switch =
          record {
            clock = clock_of 3 1 4000000000 1000 7;
            book = book_of (104 ∷ 1 ∷ 104 ∷ 104 ∷ 102 ∷ 7 ∷ 4 ∷ 102 ∷ 7 ∷ []) (1 ∷ 2 ∷ 4 ∷ 1 ∷ 1 ∷ 7 ∷ 103 ∷ 2 ∷ 2 ∷ []);
            credits = 104 ∷ 1 ∷ 2 ∷ 102 ∷ 1 ∷ 2 ∷ 7 ∷ 1 ∷ 7 ∷ [];
            queues = 103 ∷ 104 ∷ 102 ∷ 2 ∷ 102 ∷ 2 ∷ 104 ∷ 103 ∷ 3 ∷ [];
            given = 104 ∷ 1 ∷ 7 ∷ [];
            copy = 102 ∷ 1 ∷ 104 ∷ 1 ∷ 1 ∷ 3 ∷ 101 ∷ 7 ∷ 2 ∷ [];
            flight = 101 ∷ 1 ∷ 1 ∷ 3 ∷ 4 ∷ 104 ∷ 1 ∷ 3 ∷ 4 ∷ 101 ∷ 1 ∷ 7 ∷ 2 ∷ 1 ∷ 2 ∷ 2 ∷ 101 ∷ 2 ∷ [];
          };
      calls =
          start direct 3 4 99999999 plain
          ∷ book 1 1 1
          ∷ book_rate 3 1 24999999
          ∷ book_rate 3 1 16666667
          ∷ book_rate 2 3 8333333
          ∷ book_rate 1 1 24999999
          ∷ book_rate 1 1 8333334
          ∷ book_rate 1 1 8333333
          ∷ arrive 1 2 4
          ∷ arrive 2 3 3
          ∷ arrive 2 3 4
          ∷ tick direct
          ∷ tick direct
          ∷ tick direct
          ∷ tick direct
          ∷ preview slots_release 1 1 1
          ∷ tick direct
          ∷ tick direct
          ∷ start direct 3 0 99999999 fine
          ∷ release_rate 2 3 8333333
          ∷ tick direct
          ∷ tick direct
          ∷ release_rate 4294967297 3 1
          ∷ tick direct
          ∷ tick direct
          ∷ tick direct
          ∷ preview slots_release 1 1 1
          ∷ tick direct
          ∷ arrive 2 1 2
          ∷ tick direct
          ∷ arrive 3 1 3
          ∷ tick direct
          ∷ tick direct
          ∷ tick direct
          ∷ tick direct
          ∷ book_rate 1 3 8333334
          ∷ preview rate_release 1 3 8333333
          ∷ arrive 3 1 4
          ∷ book 1 1 2
          ∷ tick direct
          ∷ tick direct
          ∷ arrive 3 3 2
          ∷ tick direct
          ∷ preview slots_release 1 1 1
          ∷ preview slots_booking 2 3 1
          ∷ arrive 1 2 5
          ∷ book_rate 1 2 8333334
          ∷ tick direct
          ∷ arrive 3 3 3
          ∷ release_rate 3 1 8333333
          ∷ tick direct
          ∷ arrive 3 3 5
          ∷ tick direct
          ∷ tick direct
          ∷ [];
      expected =
          claim 1 1 1 1 1 0 0
          ∷ claim 1 1 5 1 1 0 0
          ∷ claim 1 1 9 1 1 0 0
          ∷ claim 1 1 13 1 1 0 0
          ∷ claim 1 1 17 1 1 0 0
          ∷ claim 1 1 21 1 2 0 0
          ∷ claim 1 2 1 0 1 4 0
          ∷ claim 1 2 5 0 1 0 0
          ∷ claim 1 2 9 0 1 0 0
          ∷ claim 1 2 13 0 1 0 0
          ∷ claim 1 2 17 0 1 0 0
          ∷ claim 1 2 21 0 2 4 0
          ∷ claim 1 3 1 0 2 0 0
          ∷ claim 1 3 5 0 2 0 0
          ∷ claim 1 3 9 0 1 0 0
          ∷ claim 1 3 13 0 1 0 0
          ∷ claim 1 3 17 0 1 0 0
          ∷ claim 1 3 21 1 1 0 0
          ∷ claim 2 1 1 0 3 0 0
          ∷ claim 2 1 5 0 3 0 0
          ∷ claim 2 1 9 0 2 0 0
          ∷ claim 2 1 13 0 2 3 0
          ∷ claim 2 1 17 0 2 0 0
          ∷ claim 2 1 21 0 2 0 0
          ∷ claim 2 2 1 0 1 0 0
          ∷ claim 2 2 5 0 1 0 0
          ∷ claim 2 2 9 0 0 0 0
          ∷ claim 2 2 13 0 0 0 0
          ∷ claim 2 2 17 0 0 0 0
          ∷ claim 2 2 21 0 0 0 0
          ∷ claim 2 3 1 1 0 4 1
          ∷ claim 2 3 5 1 0 3 1
          ∷ claim 2 3 9 0 0 0 0
          ∷ claim 2 3 13 0 0 0 0
          ∷ claim 2 3 17 0 0 0 0
          ∷ claim 2 3 21 0 1 0 0
          ∷ claim 3 1 1 1 1 0 0
          ∷ claim 3 1 5 1 1 0 0
          ∷ claim 3 1 9 1 1 0 0
          ∷ claim 3 1 13 1 1 3 1
          ∷ claim 3 1 17 1 1 4 1
          ∷ claim 3 1 21 1 1 3 1
          ∷ claim 3 2 1 0 1 0 0
          ∷ claim 3 2 5 0 1 0 0
          ∷ claim 3 2 9 0 1 0 0
          ∷ claim 3 2 13 0 1 0 0
          ∷ claim 3 2 17 0 1 0 0
          ∷ claim 3 2 21 0 1 0 0
          ∷ claim 3 3 1 0 2 0 0
          ∷ claim 3 3 5 0 2 0 0
          ∷ claim 3 3 9 0 1 0 0
          ∷ claim 3 3 13 0 1 0 0
          ∷ claim 3 3 17 0 1 1 0
          ∷ claim 3 3 21 0 2 4 0
          ∷ [];
      headrooms =
          told 1 1 0 (pos 1)
          ∷ told 1 2 0 (pos 2)
          ∷ told 1 3 0 (pos 2)
          ∷ told 2 1 0 (pos 2)
          ∷ told 2 2 0 (pos 4)
          ∷ told 2 3 0 (pos 3)
          ∷ told 3 1 0 (pos 2)
          ∷ told 3 2 0 (pos 3)
          ∷ told 3 3 0 (pos 2)
          ∷ told 4 1 5 (pos 0)
          ∷ told 1 0 5 (pos 0)
          ∷ [];
      previews =
          showing slots_booking 3 2 1 0 2 1
          ∷ showing slots_booking 2 2 1 0 1 1
          ∷ showing rate_booking 3 1 25000000 9 2 3
          ∷ showing rate_booking 2 3 45080749 9 2 3
          ∷ showing slots_release 1 1 1 0 1 1
          ∷ showing slots_release 2 2 1 10 0 0
          ∷ showing rate_release 3 1 16666666 0 0 1
          ∷ showing rate_release 3 1 23344421 10 0 0
          ∷ showing slots_release 0 2 1 5 0 0
          ∷ showing slots_booking 1 2 0 6 0 0
          ∷ [];
    }

pub agrees_54 : first_wrong list_54 ≡ 0
unfolding first_wrong entries apply Direct.start Direct.tick Pipelined.start Pipelined.tick book_words rate_words release_words release_rate_words headroom_refusal Preview.preview arrive_words into_frame sharing_fit booking bookings row_sum column_sum sum first_from some_of word port_word
agrees_54 = refl

pub headroom_54 : first_wrong_headroom list_54 ≡ 0
unfolding first_wrong_headroom final headroom_result pair_headroom headroom_over apply Direct.start Direct.tick Pipelined.start Pipelined.tick book_words rate_words release_words release_rate_words headroom_refusal Preview.preview arrive_words into_frame sharing_fit booking bookings row_sum column_sum sum first_from some_of word port_word
headroom_54 = refl

pub preview_54 : first_wrong_preview list_54 ≡ 0
unfolding first_wrong_preview final apply Direct.start Direct.tick Pipelined.start Pipelined.tick book_words rate_words release_words release_rate_words headroom_refusal Preview.preview arrive_words into_frame sharing_fit booking bookings row_sum column_sum sum first_from some_of word port_word
preview_54 = refl

abbrev list_55 : Case
list_55 =
    record {
      switch =
          record {
            clock = clock_of 0 1 5 0 7;
            book = book_of (3 ∷ 1 ∷ 104 ∷ 1 ∷ 2 ∷ 2 ∷ 2 ∷ 7 ∷ 1 ∷ []) (103 ∷ 2 ∷ 7 ∷ 4 ∷ 2 ∷ 101 ∷ 104 ∷ 2 ∷ 1 ∷ []);
            credits = 1 ∷ 4 ∷ 2 ∷ 7 ∷ 7 ∷ 102 ∷ 1 ∷ 7 ∷ 102 ∷ [];
            queues = 102 ∷ 1 ∷ 2 ∷ 3 ∷ 7 ∷ 4 ∷ 3 ∷ 4 ∷ 7 ∷ [];
            given = 2 ∷ 102 ∷ 103 ∷ [];
            copy = 1 ∷ 102 ∷ 1 ∷ 101 ∷ 103 ∷ 7 ∷ 103 ∷ 1 ∷ 103 ∷ [];
            flight = 1 ∷ 2 ∷ 101 ∷ 1 ∷ 7 ∷ 7 ∷ 7 ∷ 1 ∷ 7 ∷ 2 ∷ 104 ∷ 1 ∷ 4 ∷ 102 ∷ 101 ∷ 101 ∷ 102 ∷ 103 ∷ [];
          };
      calls =
          start pipelined 3 7 100000000 plain
          ∷ book_rate 1 1 4761905
          ∷ book_rate 1 1 4761904
          ∷ book_rate 1 1 9523809
          ∷ book_rate 2 2 4761905
          ∷ book_rate 1 3 4761904
          ∷ book_rate 1 3 4761904
          ∷ book_rate 1 3 14285714
          ∷ arrive 1 1 11
          ∷ arrive 3 1 11
          ∷ arrive 1 1 12
          ∷ arrive 3 3 12
          ∷ arrive 1 2 9
          ∷ arrive 3 2 12
          ∷ arrive 1 3 12
          ∷ arrive 1 1 7
          ∷ arrive 1 3 6
          ∷ arrive 2 3 7
          ∷ arrive 3 2 6
          ∷ arrive 3 3 9
          ∷ arrive 2 3 6
          ∷ arrive 3 1 11
          ∷ arrive 2 2 7
          ∷ arrive 3 2 8
          ∷ arrive 2 2 12
          ∷ arrive 2 2 11
          ∷ preview slots_release 2 3 1
          ∷ tick pipelined
          ∷ tick pipelined
          ∷ tick pipelined
          ∷ release_rate 1 1 9523809
          ∷ release_rate 2 1 1
          ∷ tick pipelined
          ∷ tick pipelined
          ∷ release_rate 1 1 9523810
          ∷ tick pipelined
          ∷ book_rate 1 3 14285714
          ∷ book 1 1 1
          ∷ tick pipelined
          ∷ release_rate 3 1 1
          ∷ arrive 2 3 11
          ∷ tick pipelined
          ∷ tick pipelined
          ∷ tick pipelined
          ∷ release_rate 2 2 4761904
          ∷ arrive 2 3 12
          ∷ release_rate 1 3 14285715
          ∷ tick pipelined
          ∷ headroom 3 3
          ∷ arrive 2 2 10
          ∷ preview rate_release 1 3 23809521
          ∷ tick pipelined
          ∷ release_rate 1 3 23809522
          ∷ tick pipelined
          ∷ book_rate 1 2 4761904
          ∷ tick pipelined
          ∷ headroom 1 1
          ∷ tick pipelined
          ∷ tick pipelined
          ∷ arrive 3 3 7
          ∷ tick pipelined
          ∷ preview slots_booking 1 3 4
          ∷ book_rate 1 2 4761905
          ∷ tick pipelined
          ∷ tick pipelined
          ∷ tick pipelined
          ∷ [];
      expected =
          claim 1 1 1 0 0 1 0
          ∷ claim 1 1 8 2 2 7 2
          ∷ claim 1 1 15 1 3 7 1
          ∷ claim 1 2 1 0 0 1 0
          ∷ claim 1 2 8 0 5 7 0
          ∷ claim 1 2 15 0 5 7 0
          ∷ claim 1 3 1 0 0 1 0
          ∷ claim 1 3 8 2 2 7 2
          ∷ claim 1 3 15 3 1 7 3
          ∷ claim 2 1 1 0 0 0 0
          ∷ claim 2 1 8 0 3 0 0
          ∷ claim 2 1 15 0 2 0 0
          ∷ claim 2 2 1 0 0 1 0
          ∷ claim 2 2 8 1 0 7 1
          ∷ claim 2 2 15 1 0 7 1
          ∷ claim 2 3 1 0 0 1 0
          ∷ claim 2 3 8 0 3 7 0
          ∷ claim 2 3 15 0 4 7 0
          ∷ claim 3 1 1 0 0 1 0
          ∷ claim 3 1 8 0 2 7 0
          ∷ claim 3 1 15 0 1 7 0
          ∷ claim 3 2 1 0 0 1 0
          ∷ claim 3 2 8 0 1 7 0
          ∷ claim 3 2 15 0 1 7 0
          ∷ claim 3 3 1 0 0 1 0
          ∷ claim 3 3 8 0 2 7 0
          ∷ claim 3 3 15 0 3 7 0
          ∷ [];
      headrooms =
          told 1 1 0 (pos 3)
          ∷ told 1 2 0 (pos 2)
          ∷ told 1 3 0 (pos 3)
          ∷ told 2 1 0 (pos 5)
          ∷ told 2 2 0 (pos 5)
          ∷ told 2 3 0 (pos 4)
          ∷ told 3 1 0 (pos 6)
          ∷ told 3 2 0 (pos 5)
          ∷ told 3 3 0 (pos 5)
          ∷ told 4 1 5 (pos 0)
          ∷ told 1 4294967297 5 (pos 0)
          ∷ [];
      previews =
          showing slots_booking 2 3 4 8 5 6
          ∷ showing slots_booking 1 3 3 8 7 5
          ∷ showing rate_booking 3 3 4761905 0 1 3
          ∷ showing rate_booking 1 1 44393614 8 7 4
          ∷ showing slots_release 1 3 1 10 0 0
          ∷ showing slots_release 1 3 2 10 0 0
          ∷ showing rate_release 3 2 1 10 0 0
          ∷ showing rate_release 3 3 28688595 10 0 0
          ∷ showing slots_booking 1 4 1 5 0 0
          ∷ showing rate_release 1 1 0 6 0 0
          ∷ [];
    }

pub agrees_55 : first_wrong list_55 ≡ 0
unfolding first_wrong entries apply Direct.start Direct.tick Pipelined.start Pipelined.tick book_words rate_words release_words release_rate_words headroom_refusal Preview.preview arrive_words into_frame sharing_fit booking bookings row_sum column_sum sum first_from some_of word port_word
agrees_55 = refl

pub headroom_55 : first_wrong_headroom list_55 ≡ 0
unfolding first_wrong_headroom final headroom_result pair_headroom headroom_over apply Direct.start Direct.tick Pipelined.start Pipelined.tick book_words rate_words release_words release_rate_words headroom_refusal Preview.preview arrive_words into_frame sharing_fit booking bookings row_sum column_sum sum first_from some_of word port_word
headroom_55 = refl

pub preview_55 : first_wrong_preview list_55 ≡ 0
unfolding first_wrong_preview final apply Direct.start Direct.tick Pipelined.start Pipelined.tick book_words rate_words release_words release_rate_words headroom_refusal Preview.preview arrive_words into_frame sharing_fit booking bookings row_sum column_sum sum first_from some_of word port_word
preview_55 = refl

abbrev list_56 : Case
list_56 =
    record {
      switch =
          record {
            clock = clock_of 33 2 0 1000 0;
            book = book_of (1 ∷ 7 ∷ 1 ∷ 3 ∷ 2 ∷ 1 ∷ 104 ∷ 4 ∷ 2 ∷ []) (1 ∷ 1 ∷ 2 ∷ 1 ∷ 103 ∷ 4 ∷ 103 ∷ 103 ∷ 7 ∷ []);
            credits = 103 ∷ 102 ∷ 7 ∷ 2 ∷ 2 ∷ 1 ∷ 102 ∷ 1 ∷ 1 ∷ [];
            queues = 2 ∷ 4 ∷ 104 ∷ 101 ∷ 2 ∷ 1 ∷ 4 ∷ 4 ∷ 7 ∷ [];
            given = 1 ∷ 1 ∷ 101 ∷ [];
            copy = 1 ∷ 102 ∷ 4 ∷ 2 ∷ 2 ∷ 1 ∷ 1 ∷ 4 ∷ 2 ∷ [];
            flight = 2 ∷ 2 ∷ 3 ∷ 2 ∷ 4 ∷ 2 ∷ 103 ∷ 104 ∷ 2 ∷ 7 ∷ 7 ∷ 4 ∷ 3 ∷ 2 ∷ 103 ∷ 3 ∷ 2 ∷ 1 ∷ [];
          };
      calls =
          start direct 2 4 7 fine
          ∷ book_rate 2 1 1
          ∷ book_rate 2 1 1
          ∷ book_rate 2 1 2
          ∷ book_rate 2 1 1
          ∷ book_rate 2 2 1
          ∷ book_rate 2 2 1
          ∷ book_rate 2 2 2
          ∷ arrive 1 1 80
          ∷ arrive 2 2 45
          ∷ arrive 1 2 57
          ∷ arrive 2 1 63
          ∷ arrive 2 1 61
          ∷ arrive 1 1 70
          ∷ tick direct
          ∷ book_rate 2 1 1
          ∷ preview slots_booking 1 1 2
          ∷ arrive 1 2 86
          ∷ arrive 2 2 85
          ∷ preview slots_release 2 2 1
          ∷ tick direct
          ∷ tick direct
          ∷ tick direct
          ∷ release 1 1 1
          ∷ tick direct
          ∷ tick direct
          ∷ release_rate 2 2 2
          ∷ release_rate 2 2 1
          ∷ tick direct
          ∷ headroom 2 2
          ∷ tick direct
          ∷ tick direct
          ∷ tick direct
          ∷ book_rate 1 2 1
          ∷ tick direct
          ∷ tick direct
          ∷ headroom 1 2
          ∷ tick direct
          ∷ tick direct
          ∷ [];
      expected =
          claim 1 1 1 0 3 4 0
          ∷ claim 1 1 5 0 3 4 0
          ∷ claim 1 1 9 0 3 4 0
          ∷ claim 1 1 13 0 4 2 0
          ∷ claim 1 2 1 0 1 4 0
          ∷ claim 1 2 5 0 1 4 0
          ∷ claim 1 2 9 0 0 4 0
          ∷ claim 1 2 13 1 0 2 1
          ∷ claim 2 1 1 3 1 4 3
          ∷ claim 2 1 5 3 1 4 3
          ∷ claim 2 1 9 3 0 4 3
          ∷ claim 2 1 13 3 0 2 2
          ∷ claim 2 2 1 1 3 4 1
          ∷ claim 2 2 5 1 3 4 1
          ∷ claim 2 2 9 0 3 4 0
          ∷ claim 2 2 13 0 4 2 0
          ∷ [];
      headrooms =
          told 1 1 0 (pos 0)
          ∷ told 1 2 0 (pos 3)
          ∷ told 2 1 0 (pos 1)
          ∷ told 2 2 0 (pos 0)
          ∷ told 3 1 5 (pos 0)
          ∷ told 1 4294967297 5 (pos 0)
          ∷ [];
      previews =
          showing slots_booking 2 1 1 0 4 4
          ∷ showing slots_booking 2 2 1 15 4 2
          ∷ showing rate_booking 1 2 1 0 2 2
          ∷ showing rate_booking 2 2 2 15 5 3
          ∷ showing slots_release 1 1 2 10 0 0
          ∷ showing slots_release 1 2 2 10 0 0
          ∷ showing rate_release 1 2 1 0 0 0
          ∷ showing rate_release 1 2 1 0 0 0
          ∷ showing slots_booking 1 4294967297 1 5 0 0
          ∷ showing rate_release 1 2 8 6 0 0
          ∷ [];
    }

pub agrees_56 : first_wrong list_56 ≡ 0
unfolding first_wrong entries apply Direct.start Direct.tick Pipelined.start Pipelined.tick book_words rate_words release_words release_rate_words headroom_refusal Preview.preview arrive_words into_frame sharing_fit booking bookings row_sum column_sum sum first_from some_of word port_word
agrees_56 = refl

pub headroom_56 : first_wrong_headroom list_56 ≡ 0
unfolding first_wrong_headroom final headroom_result pair_headroom headroom_over apply Direct.start Direct.tick Pipelined.start Pipelined.tick book_words rate_words release_words release_rate_words headroom_refusal Preview.preview arrive_words into_frame sharing_fit booking bookings row_sum column_sum sum first_from some_of word port_word
headroom_56 = refl

pub preview_56 : first_wrong_preview list_56 ≡ 0
unfolding first_wrong_preview final apply Direct.start Direct.tick Pipelined.start Pipelined.tick book_words rate_words release_words release_rate_words headroom_refusal Preview.preview arrive_words into_frame sharing_fit booking bookings row_sum column_sum sum first_from some_of word port_word
preview_56 = refl

abbrev list_57 : Case
list_57 =
    record {
      switch =
          record {
            clock = clock_of 1 10001 4000000000 0 7;
            book = book_of (101 ∷ 102 ∷ 3 ∷ 2 ∷ 1 ∷ 101 ∷ 3 ∷ 104 ∷ 104 ∷ []) (102 ∷ 7 ∷ 1 ∷ 2 ∷ 4 ∷ 101 ∷ 101 ∷ 1 ∷ 7 ∷ []);
            credits = 2 ∷ 7 ∷ 3 ∷ 7 ∷ 1 ∷ 1 ∷ 4 ∷ 4 ∷ 102 ∷ [];
            queues = 3 ∷ 2 ∷ 101 ∷ 104 ∷ 7 ∷ 4 ∷ 102 ∷ 7 ∷ 7 ∷ [];
            given = 102 ∷ 3 ∷ 4 ∷ [];
            copy = 102 ∷ 2 ∷ 1 ∷ 2 ∷ 104 ∷ 104 ∷ 7 ∷ 2 ∷ 3 ∷ [];
            flight = 2 ∷ 2 ∷ 4 ∷ 2 ∷ 7 ∷ 103 ∷ 1 ∷ 4 ∷ 7 ∷ 1 ∷ 4 ∷ 3 ∷ 1 ∷ 102 ∷ 4 ∷ 2 ∷ 2 ∷ 1 ∷ [];
          };
      calls =
          start pipelined 3 3 100000000 plain
          ∷ book 2 2 1
          ∷ book_rate 3 3 22222222
          ∷ book_rate 1 2 11111111
          ∷ book_rate 1 2 11111111
          ∷ book_rate 1 2 22222222
          ∷ book_rate 1 2 11111111
          ∷ book_rate 1 2 11111111
          ∷ book 1 3 1
          ∷ arrive 2 3 3
          ∷ arrive 2 3 4
          ∷ arrive 3 1 5
          ∷ arrive 1 1 2
          ∷ arrive 1 1 4
          ∷ arrive 1 2 4
          ∷ book_rate 2 1 11111111
          ∷ tick pipelined
          ∷ release_rate 4 1 1
          ∷ tick pipelined
          ∷ tick pipelined
          ∷ preview rate_release 3 3 11111112
          ∷ tick pipelined
          ∷ tick pipelined
          ∷ tick pipelined
          ∷ tick pipelined
          ∷ tick pipelined
          ∷ tick pipelined
          ∷ tick pipelined
          ∷ tick pipelined
          ∷ preview slots_release 1 3 1
          ∷ book 2 3 2
          ∷ preview slots_booking 1 1 4
          ∷ preview slots_booking 2 3 1
          ∷ headroom 3 3
          ∷ tick pipelined
          ∷ release_rate 3 3 22222222
          ∷ tick pipelined
          ∷ tick pipelined
          ∷ tick pipelined
          ∷ tick pipelined
          ∷ [];
      expected =
          claim 1 1 1 0 0 0 0
          ∷ claim 1 1 4 0 0 0 0
          ∷ claim 1 1 7 0 3 3 0
          ∷ claim 1 1 10 0 3 3 0
          ∷ claim 1 1 13 0 3 3 0
          ∷ claim 1 1 16 0 3 1 0
          ∷ claim 1 2 1 0 0 0 0
          ∷ claim 1 2 4 0 0 0 0
          ∷ claim 1 2 7 1 2 3 1
          ∷ claim 1 2 10 1 2 3 1
          ∷ claim 1 2 13 1 2 0 0
          ∷ claim 1 2 16 1 2 0 0
          ∷ claim 1 3 1 0 0 0 0
          ∷ claim 1 3 4 0 0 0 0
          ∷ claim 1 3 7 1 2 0 0
          ∷ claim 1 3 10 1 2 0 0
          ∷ claim 1 3 13 1 2 0 0
          ∷ claim 1 3 16 1 2 0 0
          ∷ claim 2 1 1 0 0 0 0
          ∷ claim 2 1 4 0 0 0 0
          ∷ claim 2 1 7 1 1 0 0
          ∷ claim 2 1 10 1 1 0 0
          ∷ claim 2 1 13 1 1 0 0
          ∷ claim 2 1 16 1 1 0 0
          ∷ claim 2 2 1 0 0 0 0
          ∷ claim 2 2 4 0 0 0 0
          ∷ claim 2 2 7 1 2 0 0
          ∷ claim 2 2 10 1 2 0 0
          ∷ claim 2 2 13 1 2 0 0
          ∷ claim 2 2 16 1 2 0 0
          ∷ claim 2 3 1 0 0 0 0
          ∷ claim 2 3 4 0 0 0 0
          ∷ claim 2 3 7 0 4 3 0
          ∷ claim 2 3 10 0 4 3 0
          ∷ claim 2 3 13 0 4 1 0
          ∷ claim 2 3 16 0 4 0 0
          ∷ claim 3 1 1 0 0 0 0
          ∷ claim 3 1 4 0 0 0 0
          ∷ claim 3 1 7 0 2 3 0
          ∷ claim 3 1 10 0 2 3 0
          ∷ claim 3 1 13 0 2 3 0
          ∷ claim 3 1 16 0 2 2 0
          ∷ claim 3 2 1 0 0 0 0
          ∷ claim 3 2 4 0 0 0 0
          ∷ claim 3 2 7 0 3 0 0
          ∷ claim 3 2 10 0 3 0 0
          ∷ claim 3 2 13 0 3 0 0
          ∷ claim 3 2 16 0 3 0 0
          ∷ claim 3 3 1 0 0 0 0
          ∷ claim 3 3 4 0 0 0 0
          ∷ claim 3 3 7 1 1 0 0
          ∷ claim 3 3 10 1 1 0 0
          ∷ claim 3 3 13 1 1 0 0
          ∷ claim 3 3 16 1 1 0 0
          ∷ [];
      headrooms =
          told 1 1 0 (pos 0)
          ∷ told 1 2 0 (pos 0)
          ∷ told 1 3 0 (pos 1)
          ∷ told 2 1 0 (pos 1)
          ∷ told 2 2 0 (pos 0)
          ∷ told 2 3 0 (pos 0)
          ∷ told 3 1 0 (pos 2)
          ∷ told 3 2 0 (pos 1)
          ∷ told 3 3 0 (pos 2)
          ∷ told 4 1 5 (pos 0)
          ∷ told 1 4294967297 5 (pos 0)
          ∷ [];
      previews =
          showing slots_booking 3 2 1 9 1 3
          ∷ showing slots_booking 2 3 2 8 4 3
          ∷ showing rate_booking 2 1 11111111 0 2 1
          ∷ showing rate_booking 3 3 37598545 9 2 3
          ∷ showing slots_release 2 2 1 0 1 1
          ∷ showing slots_release 2 2 1 0 1 1
          ∷ showing rate_release 2 1 11111111 0 1 0
          ∷ showing rate_release 1 2 31017795 0 2 2
          ∷ showing slots_release 3 4 1 5 0 0
          ∷ showing rate_booking 3 1 0 6 0 0
          ∷ [];
    }

pub agrees_57 : first_wrong list_57 ≡ 0
unfolding first_wrong entries apply Direct.start Direct.tick Pipelined.start Pipelined.tick book_words rate_words release_words release_rate_words headroom_refusal Preview.preview arrive_words into_frame sharing_fit booking bookings row_sum column_sum sum first_from some_of word port_word
agrees_57 = refl

pub headroom_57 : first_wrong_headroom list_57 ≡ 0
unfolding first_wrong_headroom final headroom_result pair_headroom headroom_over apply Direct.start Direct.tick Pipelined.start Pipelined.tick book_words rate_words release_words release_rate_words headroom_refusal Preview.preview arrive_words into_frame sharing_fit booking bookings row_sum column_sum sum first_from some_of word port_word
headroom_57 = refl

pub preview_57 : first_wrong_preview list_57 ≡ 0
unfolding first_wrong_preview final apply Direct.start Direct.tick Pipelined.start Pipelined.tick book_words rate_words release_words release_rate_words headroom_refusal Preview.preview arrive_words into_frame sharing_fit booking bookings row_sum column_sum sum first_from some_of word port_word
preview_57 = refl

abbrev list_58 : Case
list_58 =
    record {
      switch =
          record {
            clock = clock_of 2 0 5 1000 0;
            book = book_of (3 ∷ 7 ∷ 102 ∷ 2 ∷ 1 ∷ 1 ∷ 1 ∷ 101 ∷ 7 ∷ []) (3 ∷ 103 ∷ 101 ∷ 1 ∷ 3 ∷ 102 ∷ 7 ∷ 104 ∷ 102 ∷ []);
            credits = 2 ∷ 7 ∷ 102 ∷ 104 ∷ 102 ∷ 4 ∷ 2 ∷ 1 ∷ 4 ∷ [];
            queues = 104 ∷ 2 ∷ 2 ∷ 1 ∷ 4 ∷ 101 ∷ 3 ∷ 102 ∷ 103 ∷ [];
            given = 2 ∷ 1 ∷ 102 ∷ [];
            copy = 2 ∷ 2 ∷ 1 ∷ 101 ∷ 104 ∷ 1 ∷ 103 ∷ 3 ∷ 2 ∷ [];
            flight = 1 ∷ 4 ∷ 4 ∷ 2 ∷ 101 ∷ 101 ∷ 2 ∷ 1 ∷ 4 ∷ 4 ∷ 2 ∷ 2 ∷ 1 ∷ 2 ∷ 104 ∷ 2 ∷ 101 ∷ 102 ∷ [];
          };
      calls =
          start direct 2 3 1000 fine
          ∷ book_rate 2 2 222
          ∷ book_rate 2 2 111
          ∷ book_rate 2 1 333
          ∷ book_rate 2 1 111
          ∷ book_rate 2 2 334
          ∷ arrive 2 1 5
          ∷ arrive 1 2 4
          ∷ arrive 1 2 3
          ∷ arrive 1 2 4
          ∷ arrive 2 2 0
          ∷ release_rate 2 1 444
          ∷ headroom 1 2
          ∷ tick direct
          ∷ tick direct
          ∷ arrive 1 1 2
          ∷ start direct 2 3 100000001 plain
          ∷ release_rate 2 2 333
          ∷ arrive 1 2 5
          ∷ tick direct
          ∷ tick direct
          ∷ tick direct
          ∷ arrive 1 1 2
          ∷ tick direct
          ∷ tick direct
          ∷ book 1 2 1
          ∷ headroom 2 2
          ∷ tick direct
          ∷ arrive 0 2 1
          ∷ arrive 1 1 4
          ∷ book 1 1 1
          ∷ book 2 1 1
          ∷ tick direct
          ∷ release_rate 2 2 1
          ∷ tick direct
          ∷ release 2 1 1
          ∷ book 2 2 1
          ∷ headroom 2 2
          ∷ tick direct
          ∷ tick direct
          ∷ start direct 0 3 1000 plain
          ∷ tick direct
          ∷ tick direct
          ∷ tick direct
          ∷ book 1 2 1
          ∷ arrive 1 1 2
          ∷ tick direct
          ∷ preview rate_release 2 1 1
          ∷ tick direct
          ∷ tick direct
          ∷ tick direct
          ∷ preview slots_booking 2 2 1
          ∷ start direct 10 32 1000 plain
          ∷ book 1 2 0
          ∷ book 2 1 1
          ∷ tick direct
          ∷ tick direct
          ∷ tick direct
          ∷ [];
      expected =
          claim 1 1 1 0 0 1 0
          ∷ claim 1 1 4 0 0 3 0
          ∷ claim 1 1 7 0 0 3 0
          ∷ claim 1 1 10 1 2 3 1
          ∷ claim 1 1 13 1 1 3 1
          ∷ claim 1 1 16 1 1 3 1
          ∷ claim 1 1 19 1 1 3 1
          ∷ claim 1 1 22 1 2 0 0
          ∷ claim 1 2 1 0 1 3 0
          ∷ claim 1 2 4 0 0 3 0
          ∷ claim 1 2 7 0 0 3 0
          ∷ claim 1 2 10 1 1 3 1
          ∷ claim 1 2 13 1 2 3 1
          ∷ claim 1 2 16 1 2 3 1
          ∷ claim 1 2 19 1 2 3 1
          ∷ claim 1 2 22 1 2 1 1
          ∷ claim 2 1 1 0 1 3 0
          ∷ claim 2 1 4 0 0 3 0
          ∷ claim 2 1 7 0 0 2 0
          ∷ claim 2 1 10 1 1 0 0
          ∷ claim 2 1 13 0 2 0 0
          ∷ claim 2 1 16 0 2 0 0
          ∷ claim 2 1 19 0 2 0 0
          ∷ claim 2 1 22 1 2 0 0
          ∷ claim 2 2 1 1 0 0 0
          ∷ claim 2 2 4 0 0 0 0
          ∷ claim 2 2 7 0 0 0 0
          ∷ claim 2 2 10 0 2 0 0
          ∷ claim 2 2 13 1 1 0 0
          ∷ claim 2 2 16 1 1 0 0
          ∷ claim 2 2 19 1 1 0 0
          ∷ claim 2 2 22 1 2 0 0
          ∷ [];
      headrooms =
          told 1 1 0 (pos 0)
          ∷ told 1 2 0 (pos 0)
          ∷ told 2 1 0 (pos 0)
          ∷ told 2 2 0 (pos 0)
          ∷ told 3 1 5 (pos 0)
          ∷ told 1 0 5 (pos 0)
          ∷ [];
      previews =
          showing slots_booking 2 1 2 15 4 4
          ∷ showing slots_booking 1 2 1 15 3 3
          ∷ showing rate_booking 1 1 334 15 4 4
          ∷ showing rate_booking 2 1 425 15 4 4
          ∷ showing slots_release 1 2 1 0 1 1
          ∷ showing slots_release 1 1 1 0 1 1
          ∷ showing rate_release 2 2 1 10 0 0
          ∷ showing rate_release 1 1 68 10 0 0
          ∷ showing slots_release 4294967297 1 1 5 0 0
          ∷ showing rate_booking 1 1 0 6 0 0
          ∷ [];
    }

pub agrees_58 : first_wrong list_58 ≡ 0
unfolding first_wrong entries apply Direct.start Direct.tick Pipelined.start Pipelined.tick book_words rate_words release_words release_rate_words headroom_refusal Preview.preview arrive_words into_frame sharing_fit booking bookings row_sum column_sum sum first_from some_of word port_word
agrees_58 = refl

pub headroom_58 : first_wrong_headroom list_58 ≡ 0
unfolding first_wrong_headroom final headroom_result pair_headroom headroom_over apply Direct.start Direct.tick Pipelined.start Pipelined.tick book_words rate_words release_words release_rate_words headroom_refusal Preview.preview arrive_words into_frame sharing_fit booking bookings row_sum column_sum sum first_from some_of word port_word
headroom_58 = refl

pub preview_58 : first_wrong_preview list_58 ≡ 0
unfolding first_wrong_preview final apply Direct.start Direct.tick Pipelined.start Pipelined.tick book_words rate_words release_words release_rate_words headroom_refusal Preview.preview arrive_words into_frame sharing_fit booking bookings row_sum column_sum sum first_from some_of word port_word
preview_58 = refl

abbrev list_59 : Case
list_59 =
    record {
      switch =
          record {
            clock = clock_of 0 5 4000000000 1 0;
            book = book_of (101 ∷ 104 ∷ 3 ∷ 1 ∷ 7 ∷ 1 ∷ 102 ∷ 2 ∷ 4 ∷ []) (103 ∷ 102 ∷ 4 ∷ 2 ∷ 104 ∷ 3 ∷ 4 ∷ 104 ∷ 103 ∷ []);
            credits = 2 ∷ 1 ∷ 2 ∷ 1 ∷ 2 ∷ 102 ∷ 2 ∷ 102 ∷ 2 ∷ [];
            queues = 3 ∷ 104 ∷ 104 ∷ 102 ∷ 1 ∷ 7 ∷ 4 ∷ 103 ∷ 104 ∷ [];
            given = 1 ∷ 1 ∷ 4 ∷ [];
            copy = 7 ∷ 1 ∷ 2 ∷ 4 ∷ 102 ∷ 7 ∷ 1 ∷ 1 ∷ 1 ∷ [];
            flight = 1 ∷ 1 ∷ 2 ∷ 3 ∷ 103 ∷ 4 ∷ 7 ∷ 102 ∷ 2 ∷ 4 ∷ 1 ∷ 2 ∷ 4 ∷ 4 ∷ 4 ∷ 4 ∷ 4 ∷ 2 ∷ [];
          };
      calls =
          start pipelined 3 6 100000000 plain
          ∷ book 2 2 1
          ∷ book_rate 3 2 5555556
          ∷ book_rate 3 2 5555556
          ∷ book_rate 2 3 5555556
          ∷ book_rate 2 3 5555555
          ∷ book_rate 2 3 5555555
          ∷ book_rate 2 2 16666666
          ∷ book_rate 3 3 5555555
          ∷ book_rate 3 3 5555556
          ∷ book_rate 3 3 11111111
          ∷ book_rate 2 1 16666666
          ∷ book_rate 1 1 5555556
          ∷ book 1 2 1
          ∷ book_rate 2 3 5555555
          ∷ arrive 1 3 69
          ∷ arrive 3 1 87
          ∷ arrive 1 3 88
          ∷ headroom 2 2
          ∷ tick pipelined
          ∷ tick pipelined
          ∷ tick pipelined
          ∷ tick pipelined
          ∷ tick pipelined
          ∷ tick pipelined
          ∷ tick pipelined
          ∷ tick pipelined
          ∷ tick pipelined
          ∷ tick pipelined
          ∷ tick pipelined
          ∷ preview rate_booking 2 2 5555556
          ∷ tick pipelined
          ∷ book_rate 2 2 16666667
          ∷ book_rate 3 1 100000001
          ∷ book_rate 2 3 5555556
          ∷ tick pipelined
          ∷ release 2 2 1
          ∷ book 2 1 1
          ∷ tick pipelined
          ∷ release 2 1 1
          ∷ book_rate 3 3 5555555
          ∷ tick pipelined
          ∷ tick pipelined
          ∷ preview rate_booking 2 1 5555555
          ∷ release_rate 3 2 11111112
          ∷ arrive 1 3 46
          ∷ release 3 0 1
          ∷ tick pipelined
          ∷ release 2 3 1
          ∷ arrive 1 2 72
          ∷ tick pipelined
          ∷ [];
      expected =
          claim 1 1 1 0 0 0 0
          ∷ claim 1 1 7 1 0 0 0
          ∷ claim 1 1 13 1 0 0 0
          ∷ claim 1 1 19 1 0 0 0
          ∷ claim 1 2 1 0 0 0 0
          ∷ claim 1 2 7 0 4 0 0
          ∷ claim 1 2 13 0 4 0 0
          ∷ claim 1 2 19 0 4 0 0
          ∷ claim 1 3 1 0 0 0 0
          ∷ claim 1 3 7 0 4 6 0
          ∷ claim 1 3 13 0 4 6 0
          ∷ claim 1 3 19 0 4 1 0
          ∷ claim 2 1 1 0 0 0 0
          ∷ claim 2 1 7 0 4 0 0
          ∷ claim 2 1 13 0 4 0 0
          ∷ claim 2 1 19 0 4 0 0
          ∷ claim 2 2 1 0 0 0 0
          ∷ claim 2 2 7 2 2 0 0
          ∷ claim 2 2 13 2 2 0 0
          ∷ claim 2 2 19 2 2 0 0
          ∷ claim 2 3 1 0 0 0 0
          ∷ claim 2 3 7 1 4 0 0
          ∷ claim 2 3 13 1 4 0 0
          ∷ claim 2 3 19 1 4 0 0
          ∷ claim 3 1 1 0 0 0 0
          ∷ claim 3 1 7 0 4 6 0
          ∷ claim 3 1 13 0 4 6 0
          ∷ claim 3 1 19 0 4 1 0
          ∷ claim 3 2 1 0 0 0 0
          ∷ claim 3 2 7 1 4 0 0
          ∷ claim 3 2 13 1 4 0 0
          ∷ claim 3 2 19 1 4 0 0
          ∷ claim 3 3 1 0 0 0 0
          ∷ claim 3 3 7 2 2 0 0
          ∷ claim 3 3 13 2 2 0 0
          ∷ claim 3 3 19 2 2 0 0
          ∷ [];
      headrooms =
          told 1 1 0 (pos 5)
          ∷ told 1 2 0 (pos 4)
          ∷ told 1 3 0 (pos 2)
          ∷ told 2 1 0 (pos 3)
          ∷ told 2 2 0 (pos 4)
          ∷ told 2 3 0 (pos 2)
          ∷ told 3 1 0 (pos 3)
          ∷ told 3 2 0 (pos 3)
          ∷ told 3 3 0 (pos 3)
          ∷ told 4 1 5 (pos 0)
          ∷ told 1 4294967297 5 (pos 0)
          ∷ [];
      previews =
          showing slots_booking 3 3 1 9 3 4
          ∷ showing slots_booking 2 3 3 8 5 6
          ∷ showing rate_booking 2 1 5555556 0 3 2
          ∷ showing rate_booking 3 1 35255606 8 5 4
          ∷ showing slots_release 3 1 1 10 0 0
          ∷ showing slots_release 2 3 2 10 0 0
          ∷ showing rate_release 2 3 16666666 0 1 2
          ∷ showing rate_release 2 2 34664885 10 0 0
          ∷ showing slots_booking 4 3 1 5 0 0
          ∷ showing rate_release 2 3 0 6 0 0
          ∷ [];
    }

pub agrees_59 : first_wrong list_59 ≡ 0
unfolding first_wrong entries apply Direct.start Direct.tick Pipelined.start Pipelined.tick book_words rate_words release_words release_rate_words headroom_refusal Preview.preview arrive_words into_frame sharing_fit booking bookings row_sum column_sum sum first_from some_of word port_word
agrees_59 = refl

pub headroom_59 : first_wrong_headroom list_59 ≡ 0
unfolding first_wrong_headroom final headroom_result pair_headroom headroom_over apply Direct.start Direct.tick Pipelined.start Pipelined.tick book_words rate_words release_words release_rate_words headroom_refusal Preview.preview arrive_words into_frame sharing_fit booking bookings row_sum column_sum sum first_from some_of word port_word
headroom_59 = refl

pub preview_59 : first_wrong_preview list_59 ≡ 0
unfolding first_wrong_preview final apply Direct.start Direct.tick Pipelined.start Pipelined.tick book_words rate_words release_words release_rate_words headroom_refusal Preview.preview arrive_words into_frame sharing_fit booking bookings row_sum column_sum sum first_from some_of word port_word
preview_59 = refl

abbrev list_60 : Case
list_60 =
    record {
      switch =
          record {
            clock = clock_of 3 0 77 1000 0;
            book = book_of (103 ∷ 103 ∷ 2 ∷ 104 ∷ 2 ∷ 3 ∷ 4 ∷ 1 ∷ 102 ∷ []) (7 ∷ 1 ∷ 104 ∷ 2 ∷ 7 ∷ 103 ∷ 102 ∷ 101 ∷ 4 ∷ []);
            credits = 103 ∷ 1 ∷ 103 ∷ 101 ∷ 3 ∷ 2 ∷ 1 ∷ 103 ∷ 2 ∷ [];
            queues = 2 ∷ 1 ∷ 101 ∷ 4 ∷ 102 ∷ 103 ∷ 1 ∷ 102 ∷ 1 ∷ [];
            given = 2 ∷ 1 ∷ 7 ∷ [];
            copy = 2 ∷ 104 ∷ 103 ∷ 102 ∷ 1 ∷ 103 ∷ 1 ∷ 2 ∷ 102 ∷ [];
            flight = 3 ∷ 101 ∷ 101 ∷ 102 ∷ 104 ∷ 102 ∷ 4 ∷ 102 ∷ 104 ∷ 1 ∷ 2 ∷ 7 ∷ 4 ∷ 7 ∷ 101 ∷ 101 ∷ 7 ∷ 1 ∷ [];
          };
      calls =
          start direct 2 3 1000 fine
          ∷ book 1 1 2
          ∷ book_rate 1 2 111
          ∷ book_rate 1 2 222
          ∷ book_rate 1 2 111
          ∷ book_rate 1 2 333
          ∷ book_rate 1 2 111
          ∷ book_rate 2 1 112
          ∷ book_rate 2 1 111
          ∷ arrive 2 2 8
          ∷ arrive 2 2 9
          ∷ arrive 2 2 11
          ∷ arrive 1 2 8
          ∷ arrive 1 1 6
          ∷ arrive 2 2 9
          ∷ headroom 1 2
          ∷ tick direct
          ∷ book 1 2 1
          ∷ arrive 1 1 11
          ∷ tick direct
          ∷ tick direct
          ∷ arrive 1 1 0
          ∷ release_rate 1 2 112
          ∷ tick direct
          ∷ tick direct
          ∷ arrive 1 1 7
          ∷ arrive 2 1 12
          ∷ tick direct
          ∷ tick direct
          ∷ book_rate 1 1 111
          ∷ preview rate_release 2 1 1
          ∷ preview slots_release 1 1 1
          ∷ book_rate 1 2 112
          ∷ tick direct
          ∷ tick direct
          ∷ tick direct
          ∷ tick direct
          ∷ tick direct
          ∷ book_rate 1 1 111
          ∷ arrive 1 1 7
          ∷ tick direct
          ∷ preview rate_release 1 2 334
          ∷ tick direct
          ∷ tick direct
          ∷ tick direct
          ∷ book_rate 2 1 334
          ∷ tick direct
          ∷ [];
      expected =
          claim 1 1 1 2 1 3 2
          ∷ claim 1 1 4 2 1 3 2
          ∷ claim 1 1 7 2 1 3 2
          ∷ claim 1 1 10 2 1 3 2
          ∷ claim 1 1 13 2 1 3 2
          ∷ claim 1 1 16 2 1 2 1
          ∷ claim 1 2 1 1 2 3 1
          ∷ claim 1 2 4 1 2 3 1
          ∷ claim 1 2 7 1 2 3 1
          ∷ claim 1 2 10 1 2 3 1
          ∷ claim 1 2 13 1 2 3 1
          ∷ claim 1 2 16 1 2 2 1
          ∷ claim 2 1 1 0 2 0 0
          ∷ claim 2 1 4 0 2 1 0
          ∷ claim 2 1 7 0 2 3 0
          ∷ claim 2 1 10 0 2 3 0
          ∷ claim 2 1 13 0 2 3 0
          ∷ claim 2 1 16 0 2 2 0
          ∷ claim 2 2 1 0 1 3 0
          ∷ claim 2 2 4 0 1 3 0
          ∷ claim 2 2 7 0 1 3 0
          ∷ claim 2 2 10 0 1 3 0
          ∷ claim 2 2 13 0 1 3 0
          ∷ claim 2 2 16 0 1 2 0
          ∷ [];
      headrooms =
          told 1 1 0 (pos 0)
          ∷ told 1 2 0 (pos 0)
          ∷ told 2 1 0 (pos 1)
          ∷ told 2 2 0 (pos 2)
          ∷ told 3 1 5 (pos 0)
          ∷ told 1 0 5 (pos 0)
          ∷ [];
      previews =
          showing slots_booking 2 2 1 15 1 2
          ∷ showing slots_booking 1 2 1 15 4 2
          ∷ showing rate_booking 1 2 112 15 4 2
          ∷ showing rate_booking 2 1 436 15 2 4
          ∷ showing slots_release 1 1 1 0 2 1
          ∷ showing slots_release 1 1 1 0 2 1
          ∷ showing rate_release 1 2 223 0 3 1
          ∷ showing rate_release 1 2 40 0 3 1
          ∷ showing slots_booking 3 2 1 5 0 0
          ∷ showing slots_booking 2 2 4 6 0 0
          ∷ [];
    }

pub agrees_60 : first_wrong list_60 ≡ 0
unfolding first_wrong entries apply Direct.start Direct.tick Pipelined.start Pipelined.tick book_words rate_words release_words release_rate_words headroom_refusal Preview.preview arrive_words into_frame sharing_fit booking bookings row_sum column_sum sum first_from some_of word port_word
agrees_60 = refl

pub headroom_60 : first_wrong_headroom list_60 ≡ 0
unfolding first_wrong_headroom final headroom_result pair_headroom headroom_over apply Direct.start Direct.tick Pipelined.start Pipelined.tick book_words rate_words release_words release_rate_words headroom_refusal Preview.preview arrive_words into_frame sharing_fit booking bookings row_sum column_sum sum first_from some_of word port_word
headroom_60 = refl

pub preview_60 : first_wrong_preview list_60 ≡ 0
unfolding first_wrong_preview final apply Direct.start Direct.tick Pipelined.start Pipelined.tick book_words rate_words release_words release_rate_words headroom_refusal Preview.preview arrive_words into_frame sharing_fit booking bookings row_sum column_sum sum first_from some_of word port_word
preview_60 = refl
