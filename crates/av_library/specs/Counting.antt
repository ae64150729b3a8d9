-- What a source counts of the files of the names that it answers.
use Rattle.std.specs.Prelude.{◌≡◌, ◌≤◌, ◌<◌, ◌+◌, ◌⊎◌, ℕ, Bool, true, false, ltb, List, [], Option, None, Some, length, sum_by, unwrap_or, is_some, if◌then◌else◌}
use Rattle.std.specs.List.{list_any}
use Rattle.jv_types.specs.declared.quantity.Quantity.{Quantity}
use Rattle.jv_types.specs.declared.quantity.Quantity.TheVariants as quantities
use Rattle.jv_types.specs.Quantities.{quantity_limit}
use Rattle.jv_host.specs.declared.host.HostFile.{HostFile}
use Rattle.jv_host.specs.Files.{bytes_of}
use Rattle.av_app_files.specs.Folders.{is_module_info, file_of}
use Rattle.av_app_files.specs.FileRules.{most_file_bytes}
use Rattle.av_library.specs.declared.counted.Counted.{Counted}

abbrev pub most_library_bytes : ℕ
most_library_bytes = quantity_limit quantities.LibraryBytes

-- the quantity that passes its limit, or none
abbrev pub passed_of : Counted → Option Quantity
passed_of counted =
    if counted.long then Some quantities.FileBytes else (if ltb most_library_bytes counted.bytes then Some quantities.LibraryBytes else None)

-- what is counted after a file of so many bytes more: one that is too long counts as that alone
abbrev pub counted_after : ℕ → Counted → Counted
counted_after size before =
    if ltb most_file_bytes size then record { bytes = before.bytes; long = true } else record { bytes = before.bytes + size; long = false }

-- what is counted after a call: nothing more where it was refused, or where a limit has passed before
abbrev pub counted_for : Bool → ℕ → Counted → Counted
counted_for answered size before =
    if answered then (if is_some (passed_of before) then before else counted_after size before) else before

-- how many bytes the file of the class of this name has, where it counts
abbrev pub size_of : List HostFile → List ℕ → List ℕ → ℕ
size_of files root name = if is_module_info (file_of name) then 0 else length (unwrap_or (bytes_of files root (file_of name)) [])

-- it has more bytes than a class file may have
abbrev pub is_long : List HostFile → List ℕ → List ℕ → Bool
is_long files root name = ltb most_file_bytes (size_of files root name)

-- What was counted of the files of these names. Until a limit passes it is just what they have.
pub record AreCounted (files : List HostFile) (root : List ℕ) (names : List (List ℕ)) (counted : Counted) : Type 0 where
  pub one_long : counted.long ≡ true → list_any (is_long files root) names ≡ true
  pub no_more : counted.bytes ≤ sum_by (size_of files root) names
  pub none_long : passed_of counted ≡ None → list_any (is_long files root) names ≡ false
  pub all : passed_of counted ≡ None → counted.bytes ≡ sum_by (size_of files root) names

-- the quantity passes its limit by the files of these names
abbrev pub PassesBy : List HostFile → List ℕ → List (List ℕ) → Quantity → Type 0
PassesBy files root names quantity =
    ((quantity ≡ quantities.FileBytes) × (list_any (is_long files root) names ≡ true))
    ⊎ ((quantity ≡ quantities.LibraryBytes) × (most_library_bytes < sum_by (size_of files root) names))

-- none does
pub record PassNone (files : List HostFile) (root : List ℕ) (names : List (List ℕ)) : Type 0 where
  pub none_long : list_any (is_long files root) names ≡ false
  pub few : sum_by (size_of files root) names ≤ most_library_bytes
