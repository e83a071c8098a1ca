-- A byte sought in a text. Assumes nothing.
use mathlib.Core.Path.{◌≡◌, refl, ap}
use mathlib.Core.Bool.{◌||◌}
use mathlib.Core.List.{List, [], ◌∷◌}
use Prim.Native.Nat.{ℕ}
use lib.Dec.{eqb}
use Rattle.std.specs.List.{list_any}
use Rattle.wsgs.specs.Text.{has}

-- what std's search tells
pub any_has : (b : ℕ) (t : List ℕ) → list_any (λ x. eqb x b) t ≡ has b t
unfolding has
any_has b [] = refl
any_has b (x ∷ xs) = ap (λ some. eqb x b || some) (any_has b xs)
