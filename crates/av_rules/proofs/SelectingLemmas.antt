-- What a label selects.
use Rattle.std.proofs.Common.{◌≡◌, ◌+◌, ◌<◌, ℕ, Bool, true, false, List, refl, sym, ap, ◌∙◌, subst, inl, arith}
use Rattle.std.proofs.lemmas.Bool.{false≢true}
use Rattle.jv_types.specs.declared.desc.PrimType.{PrimType}
use Rattle.jv_types.specs.declared.ids.ClassId.{ClassId}
use Rattle.jv_types.specs.declared.ids.MethodId.{MethodId}
use Rattle.jv_types.specs.declared.label.Label.{Label}
use Rattle.jv_types.specs.declared.label.Label.TheVariants.{Lib, Site}
use Rattle.jv_types.specs.declared.label.LibBase.{LibBase}
use Rattle.jv_types.specs.declared.label.LibBase.TheVariants as bases
use Rattle.jv_types.specs.declared.shapes.Shape.{Shape}
use Rattle.jv_world.specs.Worlds.{AreNumbered, IsNamed, object_name}
use Rattle.av_rules.specs.declared.flat_type.FlatType.{FlatType}
use Rattle.av_rules.specs.Dispatching.{LabelSelects, on_class, on_array, instead, SelectsNone, SelectsOn}
use Rattle.av_rules.specs.Labels.{IsTypeOf}
use Rattle.av_rules.specs.Program.{Program}
use Rattle.av_rules.specs.StandInClasses.{IsAnyClassOf}
use Rattle.av_rules.specs.Steps.Selecting.{SelectsInstead, SelectsOpen}
use Rattle.av_rules.proofs.Types.{AreDistinct, type_one}

-- the type of a class itself
abbrev class_type : ℕ → FlatType
class_type n = record { base = bases.Class (record { number = n }); dims = 0 }

-- the objects of a class that may be extended are of its class of any object
any_typed : (p : Program) (label : Label) (c : ClassId) (any : ℕ) → label ≡ Lib (bases.Class c) 0 → IsAnyClassOf p.world c.number any → IsTypeOf p label (class_type any)
any_typed p label c any is stands =
    let typed : IsTypeOf p (Lib (bases.Class c) 0) (class_type any) = (record { number = any }, inl stands, refl) in
    subst (λ (l : Label). IsTypeOf p l (class_type any)) (sym is) typed

-- without a type it selects nothing
pub untyped_selects_none : (p : Program) (interface : Bool) (label : Label) (resolved m : MethodId) → ((made : FlatType) → IsTypeOf p label made → ⊥)
    → LabelSelects p interface label resolved m → ⊥
untyped_selects_none p interface label resolved m none (on_class c typed selects) = none (record { base = bases.Class c; dims = 0 }) typed
untyped_selects_none p interface label resolved m none (on_array type object typed array named selects) = none type typed
untyped_selects_none p interface label resolved m none (instead c any is stands nothing selects) = none (class_type any) (any_typed p label c any is stands)

-- of an array it is what is selected for Object
pub array_selects : (p : Program) (interface : Bool) (label : Label) (resolved m : MethodId) (made : FlatType) (object : ℕ) → AreNumbered p.world → AreDistinct p.methods
    → IsTypeOf p label made → 0 < made.dims → IsNamed p.world object object_name → LabelSelects p interface label resolved m → SelectsOn p.world interface object resolved m
array_selects p interface label resolved m made object numbered distinct typed array named (on_class c other selects) =
    let same = ap (λ (f : FlatType). f.dims) (type_one p label made (record { base = bases.Class c; dims = 0 }) numbered distinct typed other) in
    absurd (omega (arith, same, array))
array_selects p interface label resolved m made object numbered distinct typed array named (on_array type other is more called selects) =
    subst (λ (c : ℕ). SelectsOn p.world interface c resolved m) (numbered.distinct other object object_name called named) selects
array_selects p interface label resolved m made object numbered distinct typed array named (instead c any is stands nothing selects) =
    let same = ap (λ (f : FlatType). f.dims) (type_one p label made (class_type any) numbered distinct typed (any_typed p label c any is stands)) in
    absurd (omega (arith, same, array))

-- the class of a type
class_in : LibBase → ClassId → ClassId
class_in (bases.Class c) other = c
class_in (bases.Prim prim) other = other

same_class : (a b : ClassId) → bases.Class a ≡ bases.Class b → a ≡ b
unfolding class_in
same_class a b e = ap (λ (l : LibBase). class_in l a) e

-- a class is no primitive type
is_class : LibBase → Bool
is_class (bases.Class c) = true
is_class (bases.Prim prim) = false

no_class : (c : ClassId) (prim : PrimType) → bases.Class c ≡ bases.Prim prim → ⊥
unfolding is_class
no_class c prim e = false≢true (sym (ap is_class e))

abbrev flat_class : ClassId → ℕ → FlatType
flat_class c dims = record { base = bases.Class c; dims = dims }

-- the base of a label of the library
base_in : LibBase → Label → LibBase
base_in other (Site m pc depth) = other
base_in other (Lib base dims) = base

same_label : (a b : ClassId) → Lib (bases.Class a) 0 ≡ Lib (bases.Class b) 0 → a ≡ b
unfolding base_in
same_label a b e = same_class a b (ap (base_in (bases.Class a)) e)

class_of_type : (p : Program) (label : Label) (a b : ClassId) → AreNumbered p.world → AreDistinct p.methods → IsTypeOf p label (record { base = bases.Class a; dims = 0 })
    → IsTypeOf p label (record { base = bases.Class b; dims = 0 }) → a ≡ b
class_of_type p label a b numbered distinct x y =
    same_class a b (ap (λ (f : FlatType). f.base) (type_one p label (record { base = bases.Class a; dims = 0 }) (record { base = bases.Class b; dims = 0 }) numbered distinct x y))

-- where nothing is selected for the class of its type, it is what is selected instead
pub class_selects : (p : Program) (interface : Bool) (label : Label) (resolved m : MethodId) (own : ClassId) → AreNumbered p.world → AreDistinct p.methods
    → IsTypeOf p label (record { base = bases.Class own; dims = 0 }) → SelectsNone p.world interface own.number resolved → LabelSelects p interface label resolved m
    → SelectsInstead p.world interface label resolved m
class_selects p interface label resolved m own numbered distinct typed none (on_class c other selects) =
    let same : c.number ≡ own.number = ap (λ (d : ClassId). d.number) (class_of_type p label c own numbered distinct other typed) in
    absurd (none m (subst (λ (n : ℕ). SelectsOn p.world interface n resolved m) same selects))
class_selects p interface label resolved m own numbered distinct typed none (on_array type object other array named selects) =
    let same = ap (λ (f : FlatType). f.dims) (type_one p label type (record { base = bases.Class own; dims = 0 }) numbered distinct other typed) in
    absurd (omega (arith, same, array))
class_selects p interface label resolved m own numbered distinct typed none (instead c any is stands nothing selects) = (c, any, is, stands, selects)

-- and the other way round
pub instead_selects : (p : Program) (interface : Bool) (label : Label) (resolved m : MethodId) (own : ClassId) → AreNumbered p.world → AreDistinct p.methods
    → IsTypeOf p label (record { base = bases.Class own; dims = 0 }) → SelectsNone p.world interface own.number resolved → SelectsInstead p.world interface label resolved m
    → LabelSelects p interface label resolved m
instead_selects p interface label resolved m own numbered distinct typed none x =
    let any : ClassId = record { number = x.1 } in
    let same : own.number ≡ x.1 = ap (λ (d : ClassId). d.number) (class_of_type p label own any numbered distinct typed (any_typed p label x.0 x.1 x.2 x.3)) in
    instead x.0 x.1 x.2 x.3 (subst (λ (n : ℕ). SelectsNone p.world interface n resolved) same none) x.4

-- a type that is neither an array nor a class selects nothing
pub prim_selects_none : (p : Program) (interface : Bool) (label : Label) (resolved m : MethodId) (made : FlatType) → AreNumbered p.world → AreDistinct p.methods
    → IsTypeOf p label made → made.dims ≡ 0 → ((c : ClassId) → made.base ≡ bases.Class c → ⊥) → LabelSelects p interface label resolved m → ⊥
prim_selects_none p interface label resolved m made numbered distinct typed flat prim (on_class c other selects) =
    prim c (ap (λ (f : FlatType). f.base) (type_one p label made (record { base = bases.Class c; dims = 0 }) numbered distinct typed other))
prim_selects_none p interface label resolved m made numbered distinct typed flat prim (on_array type object other array named selects) =
    let same = ap (λ (f : FlatType). f.dims) (type_one p label made type numbered distinct typed other) in
    absurd (omega (arith, same, array, flat))
prim_selects_none p interface label resolved m made numbered distinct typed flat prim (instead c any is stands nothing selects) =
    prim (record { number = any }) (ap (λ (f : FlatType). f.base) (type_one p label made (class_type any) numbered distinct typed (any_typed p label c any is stands)))

-- a base that is primitive
pub prim_base_selects_none : (p : Program) (interface : Bool) (label : Label) (resolved m : MethodId) (made : FlatType) (prim : PrimType) → AreNumbered p.world → AreDistinct p.methods
    → IsTypeOf p label made → made.dims ≡ 0 → made.base ≡ bases.Prim prim → LabelSelects p interface label resolved m → ⊥
prim_base_selects_none p interface label resolved m made prim numbered distinct typed flat is =
    prim_selects_none p interface label resolved m made numbered distinct typed flat (λ c e. no_class c prim (sym e ∙ is))

-- a type without dimensions is its class
pub typed_flat : (p : Program) (label : Label) (made : FlatType) (own : ClassId) → IsTypeOf p label made → made.base ≡ bases.Class own → made.dims ≡ 0
    → IsTypeOf p label (record { base = bases.Class own; dims = 0 })
typed_flat p label made own typed is flat =
    let base : made ≡ record { base = bases.Class own; dims = made.dims } = ap (λ (l : LibBase). record { base = l; dims = made.dims }) is in
    let dims : record { base = bases.Class own; dims = made.dims } ≡ record { base = bases.Class own; dims = 0 } = ap (flat_class own) flat in
    subst (IsTypeOf p label) (base ∙ dims) typed

pub some_dims : (dims inner : ℕ) → dims ≡ inner + 1 → 0 < dims
some_dims dims inner is = omega (arith, is)

-- what is selected instead, by the class of the label
pub open_of : (w : List Shape) (interface : Bool) (label : Label) (d : ClassId) (resolved m : MethodId) → label ≡ Lib (bases.Class d) 0
    → SelectsInstead w interface label resolved m → SelectsOpen w interface d resolved m
open_of w interface label d resolved m is x =
    let same : x.0 ≡ d = same_label x.0 d (sym x.2 ∙ is) in
    subst (λ (c : ClassId). SelectsOpen w interface c resolved m) same (x.1, x.3, x.4)
