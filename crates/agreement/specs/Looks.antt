-- What a search of an input's turn chooses and how many looks it counts, in numbers; and where another hand's numbers differ. Assumes nothing.
use Rattle.std.specs.Prelude.{Bool, true, false, ◌&&◌, ◌||◌, List, [], ◌∷◌, ℕ, suc, eqb}
use Rattle.wsgs.specs.Basics.{in_turn, looks}

-- the number is in the list
unfoldable pub listed_in : List ℕ → ℕ → Bool
listed_in [] x = false
listed_in (y ∷ ys) x = eqb x y || listed_in ys x

-- a search on a switch with so many ports: the word of the output last given, the free outputs and the permitted ones; and what another hand has
-- of it, the chosen output, 0 for none, and the count of looks
pub data Search : Type 0 where
  searched : (ports last : ℕ) → (free permitted : List ℕ) → (chosen count : ℕ) → Search

-- the definitions choose and count the same as the other hand
unfoldable pub same_search : Search → Bool
unfolding listed_in
same_search (searched n last free permitted chosen count) =
    eqb (in_turn (λ j. listed_in free j && listed_in permitted j) n last) chosen
    && eqb (looks (listed_in free) (listed_in permitted) n last) count

-- the number of the first search in which they do not, the first being k; 0 where they do in all
unfoldable pub first_wrong_search : ℕ → List Search → ℕ
unfolding same_search
first_wrong_search k [] = 0
first_wrong_search k (s ∷ ss) = elim (same_search s) [ true ↦ first_wrong_search (suc k) ss | false ↦ k ]
