-- An event file as the records that stand between its CR LF. Assumes nothing.
use Rattle.std.specs.Prelude.{List, [], ◌∷◌, ◌++◌, ℕ}
use Prim.Native.String.{String}
use Rattle.wsgs.specs.Text
use Rattle.wsgs.specs.Text.{CR, LF}

-- a record of printable characters, or one told byte by byte
pub data Record : Type 0 where
  ascii : String → Record
  bytes : List ℕ → Record

unfoldable pub bytes_of : Record → List ℕ
unfolding Text.bytes
bytes_of (ascii t) = Text.bytes t
bytes_of (bytes bs) = bs

-- the records with CR LF between them; so a file that ends in CR LF has an empty one last
unfoldable pub file : List Record → List ℕ
unfolding bytes_of
file [] = []
file (r ∷ []) = bytes_of r
file (r ∷ s ∷ rs) = bytes_of r ++ (CR ∷ LF ∷ file (s ∷ rs))
