-- The file of a name.
use Rattle.std.specs.Prelude.{ℕ, Bool, List, nat_eq}
use Rattle.std.specs.Cmp.Lexicographic.{pointwise}
use Rattle.av_collected.specs.Libraries.{LibraryFile}

-- whether the file has this name
abbrev pub is_named : List ℕ → LibraryFile → Bool
is_named name file = pointwise nat_eq file.name name
