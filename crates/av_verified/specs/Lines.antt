-- The lines that tell of each method of an application that it verifies.
use Rattle.std.specs.Prelude.{◌≡◌, ℕ, ◌↔◌, true, List, ◌++◌, codes, Contains, AllPairs}
use Rattle.std.specs.Ordering.{nat_cmp}
use Rattle.std.specs.declared.cmp.Ordering.TheVariants.{Less}
use Rattle.std.specs.Cmp.Lexicographic.{slice_cmp}
use Rattle.jv_types.specs.declared.shapes.MethodShape.{MethodShape}
use Rattle.jv_types.specs.declared.shapes.Shape.{Shape}
use Rattle.jv_desc.specs.Texts.{method_text}
use Rattle.jv_bytes.specs.Shown.{shown_text}

-- the word `verified`, the class, the method's name and its descriptor (JVMS 4.3.3), in shown form and divided by spaces
abbrev pub method_line : List ℕ → MethodShape → List ℕ
method_line class method =
    codes "verified " ++ shown_text class ++ codes " " ++ shown_text method.name ++ codes " " ++ shown_text (method_text method.desc)

-- the line of a method of the class of this name; only a method with code has one
abbrev pub IsMethodLine : List ℕ → MethodShape → List ℕ → Type 0
IsMethodLine class method line = (method.code ≡ true) × (line ≡ method_line class method)

-- a line of one of a class's methods; only a class of the application has lines
abbrev pub IsClassLine : Shape → List ℕ → Type 0
IsClassLine class line =
    (class.application ≡ true) × (method : MethodShape) × Contains class.methods method × IsMethodLine class.name method line

-- a line of one of the world's classes
abbrev pub IsVerifiedLine : List Shape → List ℕ → Type 0
IsVerifiedLine world line = (class : Shape) × Contains world class × IsClassLine class line

-- exactly those lines, sorted by bytes, none twice
pub record AreVerifiedLines (world : List Shape) (lines : List (List ℕ)) : Type 0 where
  pub sorted : AllPairs (λ a b. slice_cmp nat_cmp a b ≡ Less) lines
  pub exact : (line : List ℕ) → Contains lines line ↔ IsVerifiedLine world line
