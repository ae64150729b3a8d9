-- What files have under a name.
use Rattle.std.proofs.Common.{◌≡◌, ℕ, Bool, true, false, cond, inl, inr, List, [], ◌∷◌, None, Some, find, Contains, refl, ap, ◌∙◌, subst}
use Rattle.std.specs.Cmp.Lexicographic.{bytes_decides}
use Rattle.jv_types.specs.declared.quantity.Quantity.{Quantity}
use Rattle.jv_types.specs.declared.shapes.Shape.{Shape}
use Rattle.av_collected.proofs.Lists.{in_head, in_tail, of_cons, in_none}
use Rattle.av_collected.specs.declared.found.ShapeFound.TheVariants as answers
use Rattle.av_collected.specs.Libraries.{HasFile, HasShape, IsLibrary, IsLibraryShape, LibraryFile}
use Rattle.av_collected.specs.Sources.{IsMalformed, TellsPassed}
use Rattle.tests_collect.specs.Files.{is_named}

module _ (name : List ℕ) where
  found_by : (b : Bool) (first : LibraryFile) (files : List LibraryFile) (file : LibraryFile) → is_named name first ≡ b
      → (find (is_named name) files ≡ Some file → Contains files file × (file.name ≡ name)) → cond b (Some first) (find (is_named name) files) ≡ Some file
      → Contains (first ∷ files) file × (file.name ≡ name)
  found_by true first files file passed others e =
      let is : first ≡ file = cc in
      (subst (λ (f : LibraryFile). Contains (first ∷ files) f) is (in_head first files), subst (λ (f : LibraryFile). f.name ≡ name) is ((bytes_decides first.name name).0 passed))
  found_by false first files file failed others e = let other = others e in (in_tail first files file other.0, other.1)

  none_by : (b : Bool) (first : LibraryFile) (files : List LibraryFile) → is_named name first ≡ b → (find (is_named name) files ≡ None → HasFile files name → ⊥)
      → cond b (Some first) (find (is_named name) files) ≡ None → HasFile (first ∷ files) name → ⊥
  none_by true first files passed others e h = absurd cc
  none_by false first files failed others e h = elim (of_cons first files h.0 h.1) [
    | inl is ↦
        let passed : is_named name first ≡ true = (bytes_decides first.name name).1 (ap (λ (f : LibraryFile). f.name) is ∙ h.2) in
        absurd cc
    | inr there ↦ others e (h.0, there, h.2)
  ]

  pub named_found : (files : List LibraryFile) (file : LibraryFile) → find (is_named name) files ≡ Some file → Contains files file × (file.name ≡ name)
  named_found [] file e = absurd cc
  named_found (first ∷ files) file e = found_by (is_named name first) first files file refl (named_found files file) e

  pub none_named : (files : List LibraryFile) → find (is_named name) files ≡ None → HasFile files name → ⊥
  none_named [] e h = in_none h.0 h.1
  none_named (first ∷ files) e h = none_by (is_named name first) first files refl (none_named files) e h

  module _ (files : List LibraryFile) (file : LibraryFile) (here : find (is_named name) files ≡ Some file) where
    pub has_shape : (shape : Shape) → file.shape ≡ Some shape → HasShape files name shape
    has_shape shape is = let at = named_found files file here in (file, at.0, at.1, is)

    pub is_malformed : file.shape ≡ None → IsMalformed files name
    is_malformed is = let at = named_found files file here in (file, at.0, at.1, is)

    pub is_fit : IsLibrary files → (shape : Shape) → file.shape ≡ Some shape → IsLibraryShape name shape
    is_fit library shape is = let at = named_found files file here in subst (λ (n : List ℕ). IsLibraryShape n shape) at.1 (library.shapes file shape at.0 is)

-- what files have says of no quantity
pub shape_tells : (shape : Shape) → TellsPassed (answers.Shape shape) None
shape_tells shape quantity = (λ e. absurd cc, λ e. absurd cc)

pub malformed_tells : TellsPassed answers.Malformed None
malformed_tells quantity = (λ e. absurd cc, λ e. absurd cc)

pub absent_tells : TellsPassed answers.Absent None
absent_tells quantity = (λ e. absurd cc, λ e. absurd cc)

pub passed_tells : (quantity : Quantity) → TellsPassed (answers.TooMuch quantity) (Some quantity)
passed_tells quantity other = (λ e. let is : quantity ≡ other = cc in ap Some is, λ e. let is : quantity ≡ other = cc in ap answers.TooMuch is)
