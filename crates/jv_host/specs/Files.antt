-- The files of a host: which names a root has, and which bytes a file has.
use Rattle.std.specs.Prelude.{◌≡◌, ◌≤◌, ℕ, Bool, ◌&&◌, List, Option, length, min, map, filter, find, option_map, All, Contains, codes, nat_eq}
use Rattle.std.specs.List.{IsDistinct, ends_with}
use Rattle.std.specs.List.Sorted.{IsPermutation}
use Rattle.std.specs.Cmp.Lexicographic.{pointwise}
use Rattle.jv_host.specs.declared.host.HostFile.{HostFile}

-- whether a file has this root and name
abbrev pub is_file : List ℕ → List ℕ → HostFile → Bool
is_file root name file = pointwise nat_eq file.root root && pointwise nat_eq file.name name

-- no two files share root and name
abbrev pub HasNoTwins : List HostFile → Type 0
HasNoTwins files = IsDistinct (λ x y. is_file y.root y.name x) files

-- the bytes of the file of that root and name, or none where there is no such file
unfoldable pub bytes_of : List HostFile → List ℕ → List ℕ → Option (List ℕ)
bytes_of files root name = option_map (λ file. file.bytes) (find (is_file root name) files)

-- whether a file lies under this root and its name ends in `.class`
abbrev pub is_class_under : List ℕ → HostFile → Bool
is_class_under root file = pointwise nat_eq file.root root && ends_with nat_eq file.name (codes ".class")

-- the names under a root that end in `.class`
unfoldable pub class_names : List HostFile → List ℕ → List (List ℕ)
class_names files root = map (λ file. file.name) (filter (is_class_under root) files)

-- names under a root that end in `.class`, each once: all of them, or as many as are asked for at most
pub record Lists (files : List HostFile) (root : List ℕ) (most : ℕ) (names : List (List ℕ)) : Type 0 where
  pub each_once : IsDistinct (pointwise nat_eq) names
  pub only_those : All (Contains (class_names files root)) names
  pub count : length names ≡ min most (length (class_names files root))
  pub all : length (class_names files root) ≤ most → IsPermutation (class_names files root) names
