-- How far a booking rises with its summed rate, and whether there is a rate at all, for any numbers and words. Assumes nothing.
use Rattle.std.specs.Prelude.{Bool, ◌||◌, List, ℕ, ◌+◌, ◌-◌, leb, ltb, length, get_or}
use Rattle.wsgs.specs.Basics.{pick, some_of}
use Rattle.wsgs.specs.Bookings.{booking}

-- by a rate that is higher by more; 0 for a frame longer than that of any switch
unfoldable pub rise_of : (frame line slots rate more : ℕ) → ℕ
unfolding booking
rise_of f b s r more = pick (leb f 10000) (booking f b s (r + more) - booking f b s r) 0

-- one of the first count words is above 0, or the run has fewer
unfoldable pub has_rate : ℕ → List ℕ → Bool
unfolding some_of
has_rate count m = ltb (length m) count || some_of (λ k. ltb 0 (get_or m (k - 1) 0)) count
