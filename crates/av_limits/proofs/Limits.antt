-- The limits that are counted by names are those of collection.
use Rattle.std.proofs.Common.{◌≡◌, ℕ, ◌<◌, ◌≤◌, ◌⊎◌, inl, inr, Bool, true, false, List, [], ◌∷◌, length, sum_by, unwrap_or, if◌then◌else◌, Option, Some, None, Contains, refl, sym, ap, ◌∙◌, subst, ⊎_elim, arith}
use Rattle.std.specs.List.{list_any}
use Rattle.std.proofs.lemmas.Bool.{ltb-true, lt-ltb}
use Rattle.std.proofs.lemmas.List.Folds.{Any-from_list_any, list_any-from_Any}
use Rattle.std.proofs.lemmas.List.Sums.{sum_by-cons}
use Rattle.jv_types.specs.declared.quantity.Quantity.{Quantity}
use Rattle.jv_types.specs.declared.quantity.Quantity.TheVariants as quantities
use Rattle.jv_host.specs.Files.{bytes_of}
use Rattle.av_app_files.specs.Folders.{Folders, is_module_info, file_of}
use Rattle.av_app_files.specs.FileRules.{most_file_bytes}
use Rattle.av_asked.specs.Asking.{AreDistinct, AreThose}
use Rattle.av_collected.specs.Answers.{AreRising, AreTooMany}
use Rattle.av_collected.specs.Libraries.{LibraryFile}
use Rattle.av_collected.specs.Naming.{Application}
use Rattle.av_collected.specs.Rules.{ClassNamed, IsCollected}
use Rattle.av_collected.proofs.Lists.{in_head, in_none, in_tail}
use Rattle.av_library.specs.Counting.{PassNone, PassesBy, is_long, most_library_bytes, size_of}
use Rattle.av_stops.specs.LibraryFolders.{HasBytes, HasLongFile, HasManyBytes, PassesLimit, PassesNoLimit, size_in}
use Rattle.av_limits.proofs.Sorting.{none_rises, put, rising_distinct}
use Rattle.av_limits.proofs.Sums.{inside_le, same_sum}

module _ (folders : Folders) where
  abbrev pub size : List ℕ → ℕ
  size name = size_of folders.files folders.lib name

  -- ---- the file of one name

  -- the folder has bytes for the name, which count, or nothing counts
  pub data SizeCase (name : List ℕ) : Type 0 where
    has_bytes : (bytes : List ℕ) → HasBytes folders name bytes → size name ≡ length bytes → SizeCase name
    no_bytes : size name ≡ 0 → SizeCase name

  counted_size : (name : List ℕ) (o : Option (List ℕ)) → is_module_info (file_of name) ≡ false → bytes_of folders.files folders.lib (file_of name) ≡ o
      → size name ≡ length (unwrap_or o [])
  counted_size name o counts e =
      ap (λ (b : Bool). if b then 0 else length (unwrap_or (bytes_of folders.files folders.lib (file_of name)) [])) counts ∙ ap (λ (p : Option (List ℕ)). length (unwrap_or p [])) e

  pub size_is : (name bytes : List ℕ) → HasBytes folders name bytes → size name ≡ length bytes
  size_is name bytes has = counted_size name (Some bytes) has.counts has.has

  pub size_in_is : (name bytes : List ℕ) → HasBytes folders name bytes → size_in folders name ≡ size name
  size_in_is name bytes has = ap (λ (p : Option (List ℕ)). length (unwrap_or p [])) has.has ∙ sym (size_is name bytes has)

  case_of : (name : List ℕ) (module_info : Bool) (o : Option (List ℕ)) → is_module_info (file_of name) ≡ module_info → bytes_of folders.files folders.lib (file_of name) ≡ o → SizeCase name
  case_of name true o is e = no_bytes (ap (λ (b : Bool). if b then 0 else length (unwrap_or (bytes_of folders.files folders.lib (file_of name)) [])) is)
  case_of name false None is e = no_bytes (counted_size name None is e)
  case_of name false (Some bytes) is e = has_bytes bytes (record { counts = is; has = e }) (counted_size name (Some bytes) is e)

  pub size_case : (name : List ℕ) → SizeCase name
  size_case name = case_of name (is_module_info (file_of name)) (bytes_of folders.files folders.lib (file_of name)) refl refl

  -- ---- the names that have bytes, in order

  record AreSorted (names sorted : List (List ℕ)) : Type 0 where
    pub rising : AreRising sorted
    pub each : (name : List ℕ) → Contains sorted name → Contains names name × (bytes : List ℕ) × HasBytes folders name bytes
    pub sum : sum_by size sorted ≡ sum_by size names

  none_sorted : AreSorted [] []
  none_sorted = record { rising = none_rises; each = λ name h. absurd (in_none name h); sum = refl }

  module _ (name : List ℕ) (names sorted : List (List ℕ)) (was : AreSorted names sorted) where
    left_out : size name ≡ 0 → AreSorted (name ∷ names) sorted
    left_out none = record {
      rising = was.rising;
      each = λ other h. (let own = was.each other h in (in_tail name names other own.0, own.1, own.2));
      sum = omega (arith, none, was.sum, sum_by-cons size name names);
    }

    taken_in : ¬ Contains names name → (bytes : List ℕ) → HasBytes folders name bytes → (more : List (List ℕ)) × AreSorted (name ∷ names) more
    taken_in new bytes has =
        let more = put size name sorted was.rising (λ h. new (was.each name h).0) in (
          more.0,
          record {
            rising = more.1.rising;
            each = λ other h. ⊎_elim
                (λ (same : name ≡ other). (
                  subst (Contains (name ∷ names)) same (in_head name names),
                  bytes,
                  subst (λ (n : List ℕ). HasBytes folders n bytes) same has,
                ))
                (λ (had : Contains sorted other). (let own = was.each other had in (in_tail name names other own.0, own.1, own.2)))
                (more.1.was other h);
            sum = omega (arith, more.1.sum, was.sum, sum_by-cons size name names);
          },
        )

    one_sorted : ¬ Contains names name → SizeCase name → (more : List (List ℕ)) × AreSorted (name ∷ names) more
    one_sorted new (has_bytes bytes has is) = taken_in new bytes has
    one_sorted new (no_bytes none) = (sorted, left_out none)

  sorted_of : (names : List (List ℕ)) → AreDistinct names → (sorted : List (List ℕ)) × AreSorted names sorted
  sorted_of [] distinct = ([], none_sorted)
  sorted_of (name ∷ names) distinct = let rest = sorted_of names distinct.1 in one_sorted name names rest.0 rest.1 distinct.0 (size_case name)

  module _ (given : Application) (library : List LibraryFile) (names : List (List ℕ)) where
    -- ---- a quantity that passes by names

    long_one : (name : List ℕ) → IsCollected given library (ClassNamed name) → is_long folders.files folders.lib name ≡ true → SizeCase name → HasLongFile folders given library
    long_one name collected long (has_bytes bytes has is) =
        let lt : most_file_bytes < size name = ltb-true most_file_bytes (size name) long in
        (name, bytes, collected, has, omega (arith, lt, is))
    long_one name collected long (no_bytes none) =
        let lt : most_file_bytes < size name = ltb-true most_file_bytes (size name) long in
        absurd (omega (arith, lt, none))

    module _ (each : (name : List ℕ) → Contains names name → IsCollected given library (ClassNamed name)) where
      long_file : list_any (is_long folders.files folders.lib) names ≡ true → HasLongFile folders given library
      long_file long =
          let any = Any-from_list_any (is_long folders.files folders.lib) names long in
          long_one any.1 (each any.1 (any.0, any.2, any.3)) any.4 (size_case any.1)

      many_bytes : AreDistinct names → most_library_bytes < sum_by size names → HasManyBytes folders given library
      many_bytes distinct more =
          let it = sorted_of names distinct in
          let sums : sum_by (size_in folders) it.0 ≡ sum_by size it.0 =
          same_sum (size_in folders) size it.0 (λ name h. (let own = it.1.each name h in size_in_is name own.1 own.2)) in
          record {
            names = it.0;
            rising = it.1.rising;
            each = λ name h. (let own = it.1.each name h in (each name own.0, own.1, own.2));
            more = omega (arith, more, sums, it.1.sum);
          }

      pub passes : (quantity : Quantity) → AreDistinct names → PassesBy folders.files folders.lib names quantity → PassesLimit folders given library quantity
      passes quantity distinct p =
          ⊎_elim
          (λ (file : (quantity ≡ quantities.FileBytes) × (list_any (is_long folders.files folders.lib) names ≡ true)). inl (file.0, long_file file.1))
          (λ (bytes : (quantity ≡ quantities.LibraryBytes) × (most_library_bytes < sum_by (size_of folders.files folders.lib) names)). inr (inr (bytes.0, many_bytes distinct bytes.1)))
          p

    -- ---- none does

    module _ (those : AreThose (λ name. IsCollected given library (ClassNamed name)) names) (none : PassNone folders.files folders.lib names) where
      no_long_file : HasLongFile folders given library → ⊥
      no_long_file (name, bytes, collected, has, more) =
          let at = (those name).1 collected in
          let is = size_is name bytes has in
          let long : is_long folders.files folders.lib name ≡ true = lt-ltb most_file_bytes (size name) (omega (arith, more, is)) in
          let some : list_any (is_long folders.files folders.lib) names ≡ true =
          list_any-from_Any (is_long folders.files folders.lib) names (at.0, name, at.1, at.2, long) in
          let e : true ≡ false = sym some ∙ none.none_long in
          cc

      not_many_bytes : HasManyBytes folders given library → ⊥
      not_many_bytes many =
          let sums : sum_by (size_in folders) many.names ≡ sum_by size many.names =
          same_sum (size_in folders) size many.names (λ name h. (let own = many.each name h in size_in_is name own.1 own.2)) in
          let le : sum_by size many.names ≤ sum_by size names =
          inside_le size many.names names (rising_distinct many.names many.rising) (λ name h. (those name).1 (many.each name h).0) in
          omega (arith, many.more, sums, le, none.few)

      pub passes_none : ¬ AreTooMany given library → PassesNoLimit folders given library
      passes_none few quantity p =
          ⊎_elim
          (λ (file : (quantity ≡ quantities.FileBytes) × HasLongFile folders given library). no_long_file file.1)
          (λ (others : ((quantity ≡ quantities.Classes) × AreTooMany given library) ⊎ ((quantity ≡ quantities.LibraryBytes) × HasManyBytes folders given library)).
          ⊎_elim
          (λ (classes : (quantity ≡ quantities.Classes) × AreTooMany given library). few classes.1)
          (λ (bytes : (quantity ≡ quantities.LibraryBytes) × HasManyBytes folders given library). not_many_bytes bytes.1)
          others)
          p
