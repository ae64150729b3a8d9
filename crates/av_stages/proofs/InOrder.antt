-- The classes of an application in order of their names: their files, their shapes, and what is given of them.
use Rattle.std.proofs.Common.{◌≡◌, ◌≤◌, ℕ, true, List, [], ◌∷◌, length, map, Contains, refl, sym, ap, subst, ⊎_elim, arith}
use Rattle.std.specs.List.{AllZip}
use Rattle.std.specs.List.Sorted.{IsPermutation, IsStrictlySortedBy}
use Rattle.std.specs.Ordering.{nat_cmp}
use Rattle.std.specs.Cmp.Lexicographic.{slice_cmp}
use Rattle.std.proofs.lemmas.List.{length-map}
use Rattle.std.proofs.lemmas.List.Sorted.{Contains-permutation, IsPermutation-map, IsPermutation-sym, length_permutation}
use Rattle.jv_types.specs.declared.shapes.Shape.{Shape}
use Rattle.jv_class.specs.declared.class_file.ClassFile.{ClassFile}
use Rattle.jv_class.specs.Shapes.{IsShapeOf}
use Rattle.av_collected.specs.Conditions.{AreGiven}
use Rattle.av_collected.specs.Naming.{Application}
use Rattle.av_collected.proofs.Lists.{in_head, in_none, in_tail, of_cons}
use Rattle.av_app_files.specs.Folders.{Folders}
use Rattle.av_app_files.specs.FileRules.{AreAllLoaded, HasReservedName}
use Rattle.av_stops.specs.Applications.{IsApplication, IsGivenBy}
use Rattle.av_stops.specs.Programs.{IsOfFile}
use Rattle.av_given.specs.Givens.{AreShaped}
use Rattle.av_load.specs.declared.app_class.AppClass.{AppClass}
use Rattle.av_load.specs.Classes.{AreClasses, IsAppClass}
use Rattle.av_stages.specs.Stages.{IsKnown}

abbrev pub files_of : List AppClass → List ClassFile
files_of classes = map (λ (class : AppClass). class.file) classes

abbrev pub shapes_of : List AppClass → List Shape
shapes_of classes = map (λ (class : AppClass). class.shape) classes

abbrev pub names_of : List AppClass → List (List ℕ)
names_of classes = map (λ (class : AppClass). class.shape.name) classes

-- ---- lists of classes

names_of_shapes : (classes : List AppClass) → map (λ (shape : Shape). shape.name) (shapes_of classes) ≡ names_of classes
names_of_shapes [] = refl
names_of_shapes (class ∷ classes) = ap (λ (names : List (List ℕ)). class.shape.name ∷ names) (names_of_shapes classes)

stated : (classes : List AppClass) → ((class : AppClass) → Contains classes class → IsAppClass class) → AllZip (λ class shape. IsShapeOf class true shape) (files_of classes) (shapes_of classes)
stated [] each = tt
stated (class ∷ classes) each = ((each class (in_head class classes)).shape, stated classes (λ other h. each other (in_tail class classes other h)))

class_of : (classes : List AppClass) (file : ClassFile) → Contains (files_of classes) file → (class : AppClass) × Contains classes class × (class.file ≡ file)
class_of [] file h = absurd (in_none file h)
class_of (class ∷ classes) file h =
    ⊎_elim
    (λ (same : class.file ≡ file). (class, in_head class classes, same))
    (λ (later : Contains (files_of classes) file). let p = class_of classes file later in (p.0, in_tail class classes p.0 p.1, p.2))
    (of_cons class.file (files_of classes) file h)

-- ---- in order of their names

each_in_order : (loaded sorted : List AppClass) → AreClasses loaded → IsPermutation loaded sorted → (class : AppClass) → Contains sorted class → IsAppClass class
each_in_order loaded sorted are same class h = are.each class (Contains-permutation sorted loaded class (IsPermutation-sym loaded sorted same) h)

pub of_files : (loaded sorted : List AppClass) (files : List ClassFile) → AreClasses loaded → IsPermutation loaded sorted → files ≡ files_of sorted
    → (file : ClassFile) → Contains files file → IsOfFile file × ¬ HasReservedName file
of_files loaded sorted files are same e file h =
    let p = class_of sorted file (subst (λ (l : List ClassFile). Contains l file) e h) in
    let is = each_in_order loaded sorted are same p.0 p.1 in
    subst (λ (f : ClassFile). IsOfFile f × ¬ HasReservedName f) p.2 ((is.bytes, is.text), is.free)

pub shaped : (loaded sorted : List AppClass) (files : List ClassFile) (shapes : List Shape) → AreClasses loaded → IsPermutation loaded sorted → files ≡ files_of sorted → shapes ≡ shapes_of sorted
    → AreShaped files shapes
shaped loaded sorted files shapes are same e f = record {
  of_files = record { texts = λ file h. (of_files loaded sorted files are same e file h).0 };
  stated = subst (λ (l : List ClassFile). AllZip (λ class shape. IsShapeOf class true shape) l shapes) (sym e)
      (subst (λ (l : List Shape). AllZip (λ class shape. IsShapeOf class true shape) (files_of sorted) l) (sym f) (stated sorted (each_in_order loaded sorted are same)));
}

pub few_shapes : (loaded sorted : List AppClass) (shapes : List Shape) → AreClasses loaded → IsPermutation loaded sorted → shapes ≡ shapes_of sorted → length shapes ≤ 20000
few_shapes loaded sorted shapes are same f =
    omega (arith, are.few, length_permutation loaded sorted same, length-map sorted (λ (class : AppClass). class.shape), ap length f)

pub rising : (sorted : List AppClass) (shapes : List Shape) → IsStrictlySortedBy (slice_cmp nat_cmp) (names_of sorted) → shapes ≡ shapes_of sorted
    → IsStrictlySortedBy (slice_cmp nat_cmp) (map (λ shape. shape.name) shapes)
rising sorted shapes rises f =
    subst (λ (l : List Shape). IsStrictlySortedBy (slice_cmp nat_cmp) (map (λ (shape : Shape). shape.name) l)) (sym f)
    (subst (IsStrictlySortedBy (slice_cmp nat_cmp)) (sym (names_of_shapes sorted)) rises)

-- ---- what is known and told of them

pub known : (loaded sorted : List AppClass) (files : List ClassFile) (given : Application) → AreClasses loaded → IsPermutation loaded sorted → files ≡ files_of sorted
    → IsGivenBy files given → AreGiven given → IsKnown files given
known loaded sorted files given are same e by asked = record { of_files = of_files loaded sorted files are same e; is_given = by; collectable = asked }

pub told : (loaded sorted : List AppClass) (files : List ClassFile) (given : Application) → IsPermutation loaded sorted → IsStrictlySortedBy (slice_cmp nat_cmp) (names_of sorted)
    → files ≡ files_of sorted → given.shapes ≡ shapes_of sorted → IsGivenBy files given → (folders : Folders) → AreAllLoaded folders (files_of loaded) → IsApplication folders files given
told loaded sorted files given same rises e f by folders all = record {
  in_file_order = files_of loaded;
  loaded = all;
  same = subst (IsPermutation (files_of loaded)) (sym e) (IsPermutation-map (λ (class : AppClass). class.file) loaded sorted same);
  rising = rising sorted given.shapes rises f;
  is_given = by;
}
