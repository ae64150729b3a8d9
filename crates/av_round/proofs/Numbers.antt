-- The numbers of classes and the files of a library.
use Rattle.std.proofs.Common.{◌≡◌, ℕ, ◌<◌, List, Some, length, slice_get, sym, ap, ◌∙◌, subst}
use Rattle.std.proofs.lemmas.Option.{slice_get_within}
use Rattle.std.specs.Cmp.Lexicographic.{slice_cmp, nat_list_cmp_total}
use Rattle.std.specs.Ordering.{nat_cmp}
use Rattle.jv_types.specs.declared.shapes.FieldShape.{FieldShape}
use Rattle.jv_types.specs.declared.shapes.MethodShape.{MethodShape}
use Rattle.jv_types.specs.declared.shapes.Shape.{Shape}
use Rattle.jv_fix.specs.Order.{IsSet}
use Rattle.jv_resolve.proofs.PlacesLemmas.{among_from_get}
use Rattle.av_collected.proofs.Lists.{at_place}
use Rattle.av_collected.specs.Libraries.{LibraryFile, IsLibrary, HasShape, HasFieldAt, HasMethodAt, IsOfLibrary}
use Rattle.av_tables.proofs.Noting.{one_at}
use Rattle.av_tables.proofs.Rising.{one_place}
use Rattle.av_tables.specs.Mentions.{AreLibraryNames, IsMentioned}
use Rattle.av_tables.specs.Tables.{Known, NameAt, ShapeAt, DeclaresField, DeclaresMethod, ArePlaces}

pub here_below : {X : Type 0} (xs : List X) (i : ℕ) (x : X) → slice_get xs i ≡ Some x → i < length xs
here_below xs i x at = slice_get_within xs i x at

-- a name has one number
pub one_number : (names : List (List ℕ)) → IsSet (slice_cmp nat_cmp) names → (c d : ℕ) (name : List ℕ) → slice_get names c ≡ Some name → slice_get names d ≡ Some name → c ≡ d
one_number names set c d name p q = one_place nat_list_cmp_total names set c d name p q

-- ---- files

module _ (k : Known) (library : IsLibrary k.files) (places : ArePlaces k.names k.files k.places) where
  -- the shape of a number is that of the file of its name
  pub shape_file : (c : ℕ) (shape : Shape) → ShapeAt k c shape → (name : List ℕ) → NameAt k c name → HasShape k.files name shape
  shape_file c shape (file, (place, noted, there), is) name at =
      let own = places.there c place noted in
      let same : own.0 ≡ file = one_at k.files place own.0 file own.1 there in
      let named : file.name ≡ name = one_at k.names c file.name name (subst (λ (f : LibraryFile). slice_get k.names c ≡ Some f.name) same own.2) at in
      (file, among_from_get k.files place file there, named, is)

  pub shape_named : (c : ℕ) (shape : Shape) → ShapeAt k c shape → NameAt k c shape.name
  shape_named c shape (file, (place, noted, there), is) =
      let own = places.there c place noted in
      let same : own.0 ≡ file = one_at k.files place own.0 file own.1 there in
      let fits = library.shapes file shape (among_from_get k.files place file there) is in
      subst (λ (n : List ℕ). slice_get k.names c ≡ Some n) (sym fits.named) (subst (λ (f : LibraryFile). slice_get k.names c ≡ Some f.name) same own.2)

  -- and the other way round
  pub file_shape : (c : ℕ) (name : List ℕ) (shape : Shape) → HasShape k.files name shape → NameAt k c name → ShapeAt k c shape
  file_shape c name shape (file, has, named, is) at =
      let noted = places.all c file has (subst (λ (n : List ℕ). slice_get k.names c ≡ Some n) (sym named) at) in
      let own = places.there c noted.0 noted.1 in
      let same_names : own.0.name ≡ file.name = one_at k.names c own.0.name file.name own.2 (subst (λ (n : List ℕ). slice_get k.names c ≡ Some n) (sym named) at) in
      let same : own.0 ≡ file = library.once own.0 file (among_from_get k.files noted.0 own.0 own.1) has same_names in
      (own.0, (noted.0, noted.1, own.1), ap (λ (f : LibraryFile). f.shape) same ∙ is)

  pub field_file : (c place : ℕ) (field : FieldShape) → DeclaresField k c place field → (name : List ℕ) → NameAt k c name → HasFieldAt k.files name place field
  field_file c place field (shape, has, at) name named = (shape, shape_file c shape has name named, at)

  pub file_field : (c place : ℕ) (name : List ℕ) (field : FieldShape) → HasFieldAt k.files name place field → NameAt k c name → DeclaresField k c place field
  file_field c place name field (shape, has, at) named = (shape, file_shape c name shape has named, at)

  pub method_file : (c place : ℕ) (method : MethodShape) → DeclaresMethod k c place method → (name : List ℕ) → NameAt k c name → HasMethodAt k.files name place method
  method_file c place method (shape, has, at) name named = (shape, shape_file c shape has name named, at)

  pub file_method : (c place : ℕ) (name : List ℕ) (method : MethodShape) → HasMethodAt k.files name place method → NameAt k c name → DeclaresMethod k c place method
  file_method c place name method (shape, has, at) named = (shape, file_shape c name shape has named, at)

-- ---- names

module _ (app : List Shape) (named : List (List ℕ)) (k : Known) (names : AreLibraryNames app named k.files k.names) where
  -- the name of a number is the library's
  pub free_at : (c : ℕ) (name : List ℕ) → NameAt k c name → IsOfLibrary app name
  free_at c name at = ((names.exact name).0 (among_from_get k.names c name at)).1

  -- a name of the library that is mentioned has a number
  pub number_of : (name : List ℕ) → IsMentioned named k.files name → IsOfLibrary app name → (c : ℕ) × NameAt k c name
  number_of name mentioned free =
      let has = (names.exact name).1 (mentioned, free) in
      (has.0, at_place k.names name has)
