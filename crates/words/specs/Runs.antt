-- Lent runs cleared and copied: of a run that is too short nothing changes. Assumes nothing.
use Rattle.std.specs.Prelude.{◌&&◌, List, ℕ, leb, length}
use Rattle.wsgs.specs.Basics.{pick}
use Rattle.wsgs.specs.Words.{cleared, copied}

-- m with its first count words set to 0, where it has as many
unfoldable pub clear_words : ℕ → List ℕ → List ℕ
clear_words count m = pick (leb count (length m)) (cleared count m) m

-- m with its first count words set to those of another run, where both have as many
unfoldable pub copy_words : ℕ → List ℕ → List ℕ → List ℕ
copy_words count from m = pick (leb count (length from) && leb count (length m)) (copied count from m) m
