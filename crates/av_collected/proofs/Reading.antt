-- What was read of a library: where all files were read whose classes are collected over what was read.
use Rattle.std.proofs.Common.{◌≡◌, ℕ, ◌⊎◌, inl, inr, List, [], ◌∷◌, Contains, refl, ap, sym, ◌∙◌, subst, ⊎_elim}
use Rattle.jv_types.specs.declared.shapes.FieldShape.{FieldShape}
use Rattle.jv_types.specs.declared.shapes.MethodShape.{MethodShape}
use Rattle.jv_types.specs.declared.shapes.Shape.{Shape}
use Rattle.jv_world.specs.Worlds.{IsNamed, NamesSuper}
use Rattle.jv_resolve.proofs.PlacesLemmas.{among_from_get}
use Rattle.av_collected.proofs.Lists.{in_head, in_tail, of_cons, in_none, at_place, same_name}
use Rattle.av_collected.proofs.Parts.{part_of, part_is_world}
use Rattle.av_collected.specs.Parts.{IsPart}
use Rattle.av_collected.specs.Libraries.{LibraryFile, HasFile, HasShape, HasFieldAt, HasMethodAt, IsLibrary, IsOfApplication, IsOfLibrary, IsHere, AreWhole}
use Rattle.av_collected.specs.Naming.{Application}
use Rattle.av_collected.specs.Rounds.{IsReadOut}
use Rattle.av_collected.specs.Rules.{Item, ClassNamed, FieldAt, MethodAt, From, Nothing, One, Two, IsAboveApplication, own, super, Collects, named_by_instruction, named_by_field, named_by_method, named_as_super, named_by_handler, named_by_map, supertype, resolved_field, resolved_method, inherited_method, in_field, in_method, core_class, core_method, same_signature, IsCollected, of_nothing, of_one, of_two}

-- ---- what has a name

find_app : (app : List Shape) (name : List ℕ) → IsOfApplication app name ⊎ (IsOfApplication app name → ⊥)
find_app [] name = inr (λ h. in_none h.0 h.1)
find_app (s ∷ app) name = by (same_name s.name name) (find_app app name)
  where
    by : (s.name ≡ name) ⊎ (s.name ≡ name → ⊥) → IsOfApplication app name ⊎ (IsOfApplication app name → ⊥) → IsOfApplication (s ∷ app) name ⊎ (IsOfApplication (s ∷ app) name → ⊥)
    by (inl is) rest = inl (s, in_head s app, is)
    by (inr differs) (inl h) = inl (h.0, in_tail s app h.0 h.1, h.2)
    by (inr differs) (inr none) = inr (λ h. ⊎_elim (λ is. differs (ap (λ (t : Shape). t.name) is ∙ h.2)) (λ more. none (h.0, more, h.2)) (of_cons s app h.0 h.1))

find_file : (files : List LibraryFile) (name : List ℕ) → HasFile files name ⊎ (HasFile files name → ⊥)
find_file [] name = inr (λ h. in_none h.0 h.1)
find_file (f ∷ files) name = by (same_name f.name name) (find_file files name)
  where
    by : (f.name ≡ name) ⊎ (f.name ≡ name → ⊥) → HasFile files name ⊎ (HasFile files name → ⊥) → HasFile (f ∷ files) name ⊎ (HasFile (f ∷ files) name → ⊥)
    by (inl is) rest = inl (f, in_head f files, is)
    by (inr differs) (inl h) = inl (h.0, in_tail f files h.0 h.1, h.2)
    by (inr differs) (inr none) = inr (λ h. ⊎_elim (λ is. differs (ap (λ (t : LibraryFile). t.name) is ∙ h.2)) (λ more. none (h.0, more, h.2)) (of_cons f files h.0 h.1))

-- a class of the application, or one whose file was read
abbrev pub IsKnown : List Shape → List LibraryFile → List ℕ → Type 0
IsKnown app part name = IsOfApplication app name ⊎ HasFile part name

pub find_known : (app : List Shape) (part : List LibraryFile) (name : List ℕ) → IsKnown app part name ⊎ (IsKnown app part name → ⊥)
find_known app part name = by (find_app app name) (find_file part name)
  where
    by : IsOfApplication app name ⊎ (IsOfApplication app name → ⊥) → HasFile part name ⊎ (HasFile part name → ⊥) → IsKnown app part name ⊎ (IsKnown app part name → ⊥)
    by (inl h) g = inl (inl h)
    by (inr differs) (inl g) = inl (inr g)
    by (inr differs) (inr none) = inr (λ k. ⊎_elim differs none k)

-- ---- what stands behind a collected member

-- the class of a member has a shape
abbrev HasClassShape : List LibraryFile → Item → Type 0
HasClassShape part (ClassNamed name) = Unit {0}
HasClassShape part (FieldAt class place) = (s : Shape) × HasShape part class s
HasClassShape part (MethodAt class place) = (s : Shape) × HasShape part class s

declarer : (app w : List Shape) (part : List LibraryFile) (c : ℕ) (class : List ℕ) → AreWhole app part w → IsNamed w c class → IsOfLibrary app class → (s : Shape) × HasShape part class s
declarer app w part c class whole named library = by named.0 (whole.here named.0 (among_from_get w c named.0 named.1)) named.2
  where
    by : (s : Shape) → IsHere app part s → s.name ≡ class → (t : Shape) × HasShape part class t
    by s (inl of_app) is = absurd (library s of_app is)
    by s (inr h) is = (s, subst (λ (n : List ℕ). HasShape part n s) is h.1)

rule_has_shape : (given : Application) (part : List LibraryFile) (from : From) (item : Item) → Collects given part from item → HasClassShape part item
rule_has_shape given part _ _ (named_by_instruction insn name a b c) = tt
rule_has_shape given part _ _ (named_by_field s field name a b c d) = tt
rule_has_shape given part _ _ (named_by_method s method name a b c d) = tt
rule_has_shape given part _ _ (named_as_super s name a b c) = tt
rule_has_shape given part _ _ (named_by_handler method handler name a b c d) = tt
rule_has_shape given part _ _ (named_by_map text type name a b c d) = tt
rule_has_shape given part _ _ (supertype class name s a b c) = tt
rule_has_shape given part _ _ (resolved_field w insn f class a b c d e) = declarer given.shapes w part f.class.number class a d e
rule_has_shape given part _ _ (resolved_method w insn m class a b c d e) = declarer given.shapes w part m.class.number class a d e
rule_has_shape given part _ _ (inherited_method class place method a b c d e) = (c.0, c.1)
rule_has_shape given part _ _ (in_field class place field name a b c) = tt
rule_has_shape given part _ _ (in_method class place method name a b c) = tt
rule_has_shape given part _ _ (core_class name a b) = tt
rule_has_shape given part _ _ (core_method place method a b c d) = (a.0, a.1)
rule_has_shape given part _ _ (same_signature class place method other other_place other_method a b c d e f g) = (a.0, a.1)

has_shape : (given : Application) (part : List LibraryFile) (item : Item) → IsCollected given part item → HasClassShape part item
has_shape given part item (of_nothing _ rule) = rule_has_shape given part Nothing item rule
has_shape given part item (of_one p _ h rule) = rule_has_shape given part (One p) item rule
has_shape given part item (of_two p q _ h g rule) = rule_has_shape given part (Two p q) item rule

-- ---- from the whole library back to the part

module _ (given : Application) (part library : List LibraryFile) (files : IsLibrary library) (out : IsReadOut given part library) where
  -- of a collected class all was read
  pub class_read : (class : List ℕ) (s : Shape) → IsCollected given part (ClassNamed class) → HasShape library class s → HasShape part class s
  class_read class s h (file, has, named, shape) =
      (file, out.all file has (subst (λ (n : List ℕ). IsCollected given part (ClassNamed n)) (sym named) h), named, shape)

  -- what has a file in the part has the same one in the library
  pub shape_read : (class : List ℕ) (s : Shape) → HasFile part class → HasShape library class s → HasShape part class s
  shape_read class s (mine, read, my_name) (file, has, named, shape) =
      let is : mine ≡ file = files.once mine file (out.inside mine read) has (my_name ∙ sym named) in
      (file, subst (λ (f : LibraryFile). Contains part f) is read, named, shape)

  pub file_of : (class : List ℕ) → (s : Shape) × HasShape part class s → HasFile part class
  file_of class (s, (file, read, named, shape)) = (file, read, named)

  pub field_read : (class : List ℕ) (place : ℕ) (field : FieldShape) → IsCollected given part (FieldAt class place) → HasFieldAt library class place field → HasFieldAt part class place field
  field_read class place field h (s, has, at) = (s, shape_read class s (file_of class (has_shape given part (FieldAt class place) h)) has, at)

  pub method_read : (class : List ℕ) (place : ℕ) (method : MethodShape) → IsCollected given part (MethodAt class place) → HasMethodAt library class place method → HasMethodAt part class place method
  method_read class place method h (s, has, at) = (s, shape_read class s (file_of class (has_shape given part (MethodAt class place) h)) has, at)

  pub class_method : (class : List ℕ) (place : ℕ) (method : MethodShape) → IsCollected given part (ClassNamed class) → HasMethodAt library class place method → HasMethodAt part class place method
  class_method class place method h (s, has, at) = (s, class_read class s h has, at)

  -- what is above an application class is of the application, or collected
  pub above_collected : (name : List ℕ) → IsAboveApplication given.shapes part name → IsOfLibrary given.shapes name → IsCollected given part (ClassNamed name)
  above_collected name (own s h) free = absurd (free s h refl)
  above_collected name (super s _ above here names) free = by here (λ apart. above_collected s.name above apart)
    where
      by : IsHere given.shapes part s → (IsOfLibrary given.shapes s.name → IsCollected given part (ClassNamed s.name)) → IsCollected given part (ClassNamed name)
      by (inl of_app) more = of_nothing (ClassNamed name) (named_as_super s name of_app names free)
      by (inr h) more = of_one (ClassNamed s.name) (ClassNamed name) (more h.0) (supertype s.name name s h.1 names free)

  pub above_read : (name : List ℕ) → IsAboveApplication given.shapes library name → IsAboveApplication given.shapes part name
  above_read name (own s h) = own s h
  above_read name (super s _ above here names) = by here (above_read s.name above)
    where
      by : IsHere given.shapes library s → IsAboveApplication given.shapes part s.name → IsAboveApplication given.shapes part name
      by (inl of_app) up = super s name up (inl of_app) names
      by (inr h) up = super s name up (inr (h.0, class_read s.name s (above_collected s.name up h.0) h.1)) names

  -- ---- the known classes of a world

  abbrev pub Known : Shape → Type 0
  Known s = IsKnown given.shapes part s.name

  pub known_here : (s : Shape) → IsHere given.shapes library s → Known s → IsHere given.shapes part s
  known_here s (inl h) k = inl h
  known_here s (inr (free, has)) (inl (t, of_app, same)) = absurd (free t of_app same)
  known_here s (inr (free, has)) (inr file) = inr (free, shape_read s.name s file has)

  pub collected_known : (t : Shape) → IsHere given.shapes library t → (IsOfLibrary given.shapes t.name → IsCollected given part (ClassNamed t.name)) → Known t
  collected_known t (inl h) collected = inl (t, h, refl)
  collected_known t (inr (free, has)) collected = inr (file_of t.name (t, class_read t.name t (collected free) has))

  pub known_up : (s t : Shape) → IsHere given.shapes part s → IsHere given.shapes library t → NamesSuper s t.name → Known t
  known_up s t here there names = collected_known t there (by here)
    where
      by : IsHere given.shapes part s → IsOfLibrary given.shapes t.name → IsCollected given part (ClassNamed t.name)
      by (inl of_app) free = of_nothing (ClassNamed t.name) (named_as_super s t.name of_app names free)
      by (inr (apart, (file, read, named, shape))) free =
          of_one (ClassNamed s.name) (ClassNamed t.name) (subst (λ (n : List ℕ). IsCollected given part (ClassNamed n)) named (out.only file read))
          (supertype s.name t.name s (file, read, named, shape) names free)

  pub part_world : (w : List Shape) → AreWhole given.shapes library w → (v : List Shape) × IsPart Known w v × AreWhole given.shapes part v
  part_world w whole = (
    found.0,
    found.1,
    record {
      world = part_is_world Known w found.0 whole.world found.1 (λ s t in_v in_w names. known_up s t (here s in_v) (whole.here t in_w) names);
      here = here;
    },
  )
    where
      found : (v : List Shape) × IsPart Known w v
      found = part_of Known (λ s. find_known given.shapes part s.name) w whole.world.numbered.distinct

      here : (s : Shape) → Contains found.0 s → IsHere given.shapes part s
      here s in_v = known_here s (whole.here s (found.1.from s in_v).0) (found.1.from s in_v).1

  pub name_known : (w : List Shape) (c : ℕ) (name : List ℕ) → AreWhole given.shapes library w → IsNamed w c name
      → (IsOfLibrary given.shapes name → IsCollected given part (ClassNamed name)) → IsKnown given.shapes part name
  name_known w c name whole (s, at, is) collected =
      subst (λ (n : List ℕ). IsKnown given.shapes part n) is
      (collected_known s (whole.here s (among_from_get w c s at))
      (λ free. subst (λ (n : List ℕ). IsCollected given part (ClassNamed n)) (sym is) (collected (subst (λ (n : List ℕ). IsOfLibrary given.shapes n) is free))))

  pub in_part : (w v : List Shape) → IsPart Known w v → (c : ℕ) (name : List ℕ) → IsNamed w c name → IsKnown given.shapes part name → (d : ℕ) × IsNamed v d name
  in_part w v p c name (s, at, is) known =
      let in_v = p.all s (among_from_get w c s at) (subst (λ (n : List ℕ). IsKnown given.shapes part n) (sym is) known) in
      (in_v.0, (s, at_place v s in_v, is))
