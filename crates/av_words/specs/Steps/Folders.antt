-- What a parse of the words of `verify` holds.
use Rattle.std.specs.Prelude.{◌≡◌, ℕ, List, Some, codes}
use Rattle.clap.specs.Words.{first_value, found_of}
use Rattle.clap.specs.declared.parser.matches.ArgMatches.{ArgMatches}

-- the values of the two options
abbrev pub HasFolders : ArgMatches → List ℕ → List ℕ → Type 0
HasFolders matches app lib =
    (first_value (found_of matches) (codes "app") ≡ Some app) × (first_value (found_of matches) (codes "lib") ≡ Some lib)

-- one of them has none
abbrev pub HasNoFolders : ArgMatches → Type 0
HasNoFolders matches = (app lib : List ℕ) → ¬ HasFolders matches app lib
