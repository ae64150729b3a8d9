use Rattle.std.proofs.Common.{◌≡◌, ℕ, List, Option, None, Some, IfSome, IfNone, Bor, slice_get, Contains, map, arith}
use Rattle.std.specs.Slice.{IsItemAt}
use Rattle.av_collected.specs.Libraries.{LibraryFile, HasFile}
use Rattle.av_refused.specs.Firsts.{file_name}
use Rattle.av_refused.proofs.Finding.{file_there, no_file, within}
use Rattle.av_refused.proofs.files.file_of.Goals as goal

found_by : (files : List LibraryFile) (names : List (List ℕ)) (name : List ℕ) → names ≡ map file_name files → (place : ℕ) → slice_get names place ≡ Some name → (r : Option (Bor LibraryFile)) → IsItemAt files place r
    → IfSome r (λ file. Contains files file.now × (file.now.name ≡ name))
found_by files names name all place at None got = tt
found_by files names name all place at (Some file) got = file_there files names name all place at file.now got.3.0 got.1

none_by : (files : List LibraryFile) (names : List (List ℕ)) (name : List ℕ) → names ≡ map file_name files → (place : ℕ) → slice_get names place ≡ Some name → (r : Option (Bor LibraryFile)) → IsItemAt files place r
    → IfNone r (HasFile files name → ⊥)
none_by files names name all place at None got = let below = within files names name all place at in absurd (omega (arith, below, got.3))
none_by files names name all place at (Some file) got = tt

pub returns-in-None-clause-none : goal.returns-in-None-clause-none
returns-in-None-clause-none c = no_file c.args.files.now c.args.names.now c.args.name.now c.requires c.in-None.ensures.none

pub returns-in-Some-clause-found : goal.returns-in-Some-clause-found
returns-in-Some-clause-found c = found_by c.args.files.now c.args.names.now c.args.name.now c.requires c.in-Some.place c.in-Some.ensures.found c.get.result c.get.ensures.lookup

pub returns-in-Some-clause-none : goal.returns-in-Some-clause-none
returns-in-Some-clause-none c = none_by c.args.files.now c.args.names.now c.args.name.now c.requires c.in-Some.place c.in-Some.ensures.found c.get.result c.get.ensures.lookup
