-- The files of a library, one after the other.
use Rattle.std.proofs.Common.{◌≡◌, ℕ, List, [], ◌∷◌, ◌++◌, Option, None, Contains, sym, subst}
use Rattle.jv_types.specs.declared.shapes.Shape.{Shape}
use Rattle.av_collected.specs.Libraries.{LibraryFile}
use Rattle.av_asked.specs.declared.look.Look.TheVariants.{File}
use Rattle.av_asked.specs.Read.{HasRead, IsFitShape}
use Rattle.av_reading.proofs.ReadLemmas.{read_none, read_one}

-- nothing is known of a shape
abbrev pub known : Shape → Type 0
known _ = Unit {0}

pub library_begins : (files : List LibraryFile) (names : List (List ℕ)) → files ≡ [] → names ≡ [] → HasRead None known files names
library_begins files names no_files no_names =
    subst (λ (l : List LibraryFile). HasRead None known l names) (sym no_files)
    (subst (λ (l : List (List ℕ)). HasRead None known [] l) (sym no_names) (read_none None known))

pub library_more : (files new_files : List LibraryFile) (names new_names : List (List ℕ)) (name : List ℕ) (shape : Option Shape)
    → HasRead None known files names → (Contains names name → ⊥) → IsFitShape known name shape
    → new_files ≡ files ++ (record { name = name; shape = shape }) ∷ [] → new_names ≡ names ++ name ∷ [] → HasRead None known new_files new_names
library_more files new_files names new_names name shape read fresh fit are_files are_names =
    subst (λ (l : List LibraryFile). HasRead None known l new_names) (sym are_files)
    (subst (λ (l : List (List ℕ)). HasRead None known (files ++ (record { name = name; shape = shape }) ∷ []) l) (sym are_names)
    (read_one None known files names name read fresh (File shape) tt fit))
