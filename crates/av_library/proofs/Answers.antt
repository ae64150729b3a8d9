-- What the bytes that were read of a file say of the library.
use Rattle.std.proofs.Common.{◌≡◌, ◌≤◌, ℕ, false, true, List, length, take, Option, Some, None, option_map, IfSome, IfOk, Result, Ok, Err, refl, sym, subst, arith}
use Rattle.jv_types.specs.declared.shapes.Shape.{Shape}
use Rattle.jv_host.specs.declared.host.HostFile.{HostFile}
use Rattle.jv_host.specs.declared.host.HostFault.{HostFault}
use Rattle.jv_host.specs.Files.{bytes_of}
use Rattle.jv_host.proofs.FileLemmas.{absent_from_read, whole_from_read}
use Rattle.av_collected.specs.declared.found.ShapeFound.{ShapeFound}
use Rattle.av_collected.specs.declared.found.ShapeFound.TheVariants as answers
use Rattle.av_collected.specs.Libraries.{IsLibrary}
use Rattle.av_collected.specs.Sources.{IsFit, Says}
use Rattle.av_app_files.specs.Folders.{is_module_info, file_of}
use Rattle.av_app_files.specs.FileRules.{most_file_bytes}
use Rattle.av_stops.specs.LibraryFolders.{IsClassOf, IsStated}
use Rattle.av_program.specs.Reads.{most_read}
use Rattle.av_library.specs.Steps.{IsFoundIn}
use Rattle.av_library.specs.Told.{entry, library_in}
use Rattle.av_library.proofs.Folder.{has_entry, entry_worth, is_library, no_file, no_module}
use Rattle.av_library.proofs.Shapes.{library_shape}
use Rattle.av_library.proofs.Worths.{one_worth}

-- what was found fits
pub fit_found : (name bytes : List ℕ) (found : ShapeFound) → IsFoundIn name bytes found → IsFit IsStated name found
fit_found name bytes (answers.Shape shape) h = (library_shape name bytes shape h, (bytes, subst (λ (n : List ℕ). IsClassOf n bytes shape) (sym h.named) h))
fit_found name bytes answers.Malformed h = tt
fit_found name bytes answers.Absent h = absurd h
fit_found name bytes (answers.TooMuch quantity) h = tt

-- the library says what was found in the file
module _ (files : List HostFile) (root name front : List ℕ) (counts : is_module_info (file_of name) ≡ false) (gives : Some front ≡ option_map (take most_read) (bytes_of files root (file_of name))) where
  whole : length front ≤ most_file_bytes → bytes_of files root (file_of name) ≡ Some front
  whole short = whole_from_read most_read (bytes_of files root (file_of name)) front gives (omega arith)

  pub says_found : (found : ShapeFound) → IsFoundIn name front found → Says (library_in files root) name found
  says_found (answers.Shape shape) h =
      let has = whole h.short in
      (entry files root name, has_entry files root name front counts has, refl, one_worth name front (entry files root name).shape (Some shape) (entry_worth files root name front has) h)
  says_found answers.Malformed h =
      let has = whole h.short in
      (entry files root name, has_entry files root name front counts has, refl, one_worth name front (entry files root name).shape None (entry_worth files root name front has) h.malformed)
  says_found answers.Absent h = absurd h
  says_found (answers.TooMuch quantity) h = tt

-- the same where the host may tell its files or not
pub says_told : (told : Option (List HostFile)) (root name front : List ℕ) (found : ShapeFound) → is_module_info (file_of name) ≡ false
    → IfSome told (λ files. Some front ≡ option_map (take most_read) (bytes_of files root (file_of name))) → IsFoundIn name front found → IfSome told (λ files. Says (library_in files root) name found)
says_told None root name front found counts gives h = tt
says_told (Some files) root name front found counts gives h = says_found files root name front counts gives found h

pub says_absent : (told : Option (List HostFile)) (root name : List ℕ) → IfSome told (λ files. None ≡ option_map (take most_read) (bytes_of files root (file_of name)))
    → IfSome told (λ files. Says (library_in files root) name answers.Absent)
says_absent None root name gives = tt
says_absent (Some files) root name gives = no_file files root name (absent_from_read most_read (bytes_of files root (file_of name)) gives)

pub says_module : (told : Option (List HostFile)) (root name : List ℕ) → is_module_info (file_of name) ≡ true → IfSome told (λ files. Says (library_in files root) name answers.Absent)
says_module None root name is = tt
says_module (Some files) root name is = no_module files root name is

-- ---- as they are read in code

-- the same, where the file's name and how much was read are given by values that are equal
pub says_read : (result : Result ShapeFound HostFault) (told : Option (List HostFile)) (root name file items front : List ℕ) (most : ℕ) (got : Option (List ℕ)) → file ≡ file_of name → is_module_info file ≡ false → most ≡ most_read → front ≡ items → got ≡ Some items
    → IfSome told (λ files. got ≡ option_map (take most) (bytes_of files root file)) → IfOk result (IsFoundIn name front) → IfOk result (λ found. IfSome told (λ files. Says (library_in files root) name found))
says_read (Err fault) told root name file items front most got file_is counts most_is front_is got_is gives h = tt
says_read (Ok found) told root name file items front most got file_is counts most_is front_is got_is gives h =
    says_told told root name items found (subst (λ (f : List ℕ). is_module_info f ≡ false) file_is counts)
    (subst (λ (m : ℕ). IfSome told (λ files. Some items ≡ option_map (take m) (bytes_of files root (file_of name)))) most_is
    (subst (λ (f : List ℕ). IfSome told (λ files. Some items ≡ option_map (take most) (bytes_of files root f))) file_is
    (subst (λ (o : Option (List ℕ)). IfSome told (λ files. o ≡ option_map (take most) (bytes_of files root file))) got_is gives)))
    (subst (λ (xs : List ℕ). IsFoundIn name xs found) front_is h)

pub fits_read : (result : Result ShapeFound HostFault) (name front : List ℕ) → IfOk result (IsFoundIn name front) → IfOk result (IsFit IsStated name)
fits_read (Err fault) name front h = tt
fits_read (Ok found) name front h = fit_found name front found h

pub absent_read : (told : Option (List HostFile)) (root name file : List ℕ) (most : ℕ) (got : Option (List ℕ)) → file ≡ file_of name → most ≡ most_read → got ≡ None
    → IfSome told (λ files. got ≡ option_map (take most) (bytes_of files root file)) → IfSome told (λ files. Says (library_in files root) name answers.Absent)
absent_read told root name file most got file_is most_is got_is gives =
    says_absent told root name
    (subst (λ (m : ℕ). IfSome told (λ files. None ≡ option_map (take m) (bytes_of files root (file_of name)))) most_is
    (subst (λ (f : List ℕ). IfSome told (λ files. None ≡ option_map (take most) (bytes_of files root f))) file_is
    (subst (λ (o : Option (List ℕ)). IfSome told (λ files. o ≡ option_map (take most) (bytes_of files root file))) got_is gives)))

pub module_read : (told : Option (List HostFile)) (root name file : List ℕ) → file ≡ file_of name → is_module_info file ≡ true → IfSome told (λ files. Says (library_in files root) name answers.Absent)
module_read told root name file file_is is = says_module told root name (subst (λ (f : List ℕ). is_module_info f ≡ true) file_is is)

-- ---- the library that a source tells

pub told_library : (told : Option (List HostFile)) (root : List ℕ) → IfSome (option_map (λ files. library_in files root) told) IsLibrary
told_library None root = tt
told_library (Some files) root = is_library files root
