-- Packages of classes (JVMS 5.3).
use Rattle.std.specs.Prelude.{◌≡◌, ℕ, ◌==◌, Bool, List, [], ◌∷◌, Some, if◌then◌else◌}
use Rattle.std.specs.List.{slice_get, list_any}
use Rattle.jv_types.specs.declared.shapes.Shape.{Shape}

abbrev pub is_slash : ℕ → Bool
is_slash byte = byte == 47

-- the package of a class, by its name: what stands before the last `/`, or nothing where there is none
abbrev pub package_of : List ℕ → List ℕ
package_of [] = []
package_of (byte ∷ bytes) = if list_any is_slash bytes then byte ∷ package_of bytes else []

-- the two classes are of one package
abbrev pub AreInOnePackage : List Shape → ℕ → ℕ → Type 0
AreInOnePackage w c d = (s : Shape) × (t : Shape) × (slice_get w c ≡ Some s) × (slice_get w d ≡ Some t) × (package_of s.name ≡ package_of t.name)
