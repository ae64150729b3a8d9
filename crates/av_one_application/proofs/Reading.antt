-- What the folder of a library has is one finite map.
use Rattle.std.proofs.Common.{◌≡◌, ℕ, false, List, Option, None, Some, Contains, refl, sym, ap, ◌∙◌, subst}
use Rattle.std.proofs.lemmas.Option.{same_Some}
use Rattle.jv_types.specs.declared.shapes.Shape.{Shape}
use Rattle.jv_class.specs.declared.class_file.ClassFile.{ClassFile}
use Rattle.jv_class.specs.Shapes.{IsShapeOf}
use Rattle.av_collected.specs.Libraries.{LibraryFile}
use Rattle.av_app_files.specs.Folders.{Folders}
use Rattle.av_stops.specs.LibraryFolders.{HasBytes, IsClassOf, IsLibraryIn, IsWorth}
use Rattle.av_one_application.specs.Same.{IsSameLibrary}
use Rattle.av_one_application.proofs.Loading.{OneText}

abbrev pub OneShape : Type 0
OneShape = (class : ClassFile) (s t : Shape) → IsShapeOf class false s → IsShapeOf class false t → s ≡ t

module _ (text : OneText) (shape : OneShape) where
  one_class : (name bytes : List ℕ) (s t : Shape) → IsClassOf name bytes s → IsClassOf name bytes t → s ≡ t
  one_class name bytes s t p q =
      let same : p.class ≡ q.class = text bytes p.class q.class p.text q.text in
      shape q.class s t (subst (λ (c : ClassFile). IsShapeOf c false s) same p.states) q.states

  one_worth : (name bytes : List ℕ) (a b : Option Shape) → IsWorth name bytes a → IsWorth name bytes b → a ≡ b
  one_worth name bytes None None p q = refl
  one_worth name bytes None (Some t) p q = absurd (p t q)
  one_worth name bytes (Some s) None p q = absurd (q s p)
  one_worth name bytes (Some s) (Some t) p q = ap (λ (x : Shape). Some x) (one_class name bytes s t p q)

  one_bytes : (folders : Folders) (name a b : List ℕ) → HasBytes folders name a → HasBytes folders name b → a ≡ b
  one_bytes folders name a b p q = same_Some a b (sym p.has ∙ q.has)

  inside : (folders : Folders) (library other : List LibraryFile) → IsLibraryIn folders library → IsLibraryIn folders other → (file : LibraryFile) → Contains library file → Contains other file
  inside folders library other p q file h =
      let own = p.each file h in
      let there = q.all file.name own.0 own.1 in
      let its = q.each there.0 there.1 in
      let Worth : List ℕ → Type 0 = λ name. IsWorth name its.0 there.0.shape in
      let Bytes : List ℕ → Type 0 = λ name. HasBytes folders name its.0 in
      let bytes : its.0 ≡ own.0 = one_bytes folders file.name its.0 own.0 (subst Bytes there.2 its.1) own.1 in
      let worth : IsWorth file.name own.0 there.0.shape = subst (λ (b : List ℕ). IsWorth file.name b there.0.shape) bytes (subst Worth there.2 its.2) in
      let shapes : there.0.shape ≡ file.shape = one_worth file.name own.0 there.0.shape file.shape worth own.2 in
      let same : there.0 ≡ file = λ i. record { name = there.2 i; shape = shapes i } in
      subst (λ (f : LibraryFile). Contains other f) same there.1

  pub one_library : (folders : Folders) (library other : List LibraryFile) → IsLibraryIn folders library → IsLibraryIn folders other → IsSameLibrary library other
  one_library folders library other p q = λ file. (inside folders library other p q file, inside folders other library q p file)
