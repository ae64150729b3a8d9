-- What needs no members: names, kinds, links, subtypes and instances. It is the same in two lists whose classes have
-- the same heads, place for place.
use Rattle.std.proofs.Common.{◌≡◌, ℕ, zero, suc, ◌<◌, List, Some, length, Contains, slice_get, sym, ap, ◌∙◌, subst, inl, inr}
use Rattle.std.proofs.lemmas.Option.{same_Some, slice_get_within}
use Rattle.jv_lists.proofs.Places.{element_at}
use Rattle.jv_types.specs.declared.desc.RefType.{RefType, Class, PrimArray, Array', Row_of-RefType, end_of-RefType, more_of-RefType}
use Rattle.jv_types.specs.declared.label.LibBase.{LibBase}
use Rattle.jv_types.specs.declared.label.LibBase.TheVariants.{Class as LibClass, Prim as LibPrim}
use Rattle.jv_types.specs.declared.shapes.Shape.{Shape}
use Rattle.jv_world.specs.Instances.{IsArrayOf, IsArraySuperBase, IsBaseInstance, IsInstanceInDims, IsInstanceOf, IsInstanceOfClass, IsInterfaceNamed, IsSubNamed}
use Rattle.jv_world.specs.Worlds.{Climbs, HasInterface, HasSuper, HasSuperclass, IsInterface, IsNamed, IsSubclass, ProperSub, Sub, same, link}
use Rattle.jv_resolve.specs.Access.{IsClassAccessible}
use Rattle.jv_resolve.specs.Members.{IsInterfaceClass, IsPublic}
use Rattle.jv_resolve.specs.Packages.{AreInOnePackage, package_of}
use Rattle.jv_resolve.specs.References.{IsInterfaceType}
use Rattle.jv_fewer_members.specs.Parts.{HasFewerMembers, IsPartOf, Places}

pub record IsSameHead (s t : Shape) : Type 0 where
  pub name : s.name ≡ t.name
  pub public : IsPublic s.flags → IsPublic t.flags
  pub interface : IsInterface s → IsInterface t
  pub parent : s.parent ≡ t.parent
  pub interfaces : s.interfaces ≡ t.interfaces

-- each class of the one has the same head in the other
pub record SameHeads (w v : List Shape) : Type 0 where
  pub each : (c : ℕ) (s : Shape) → slice_get w c ≡ Some s → (t : Shape) × (slice_get v c ≡ Some t) × IsSameHead s t

module _ {w v : List Shape} {at : Places} (fewer : HasFewerMembers w v at) where
  -- the whole class of a part
  pub part_back : (c : ℕ) (part : Shape) → slice_get v c ≡ Some part → (s : Shape) × (slice_get w c ≡ Some s) × IsPartOf s part (at.of_field c) (at.of_method c)
  part_back c part got =
      let within : c < length w = subst (λ (n : ℕ). c < n) fewer.count (slice_get_within v c part got) in
      let own = element_at w c within in
      let other = fewer.shapes c own.0 own.1 in
      (own.0, own.1, subst (λ (t : Shape). IsPartOf own.0 t (at.of_field c) (at.of_method c)) (same_Some other.0 part (sym other.1 ∙ got)) other.2)

  pub heads_into : SameHeads w v
  heads_into = record {
    each = λ c s got.
        let r = fewer.shapes c s got in
        (r.0, r.1, record { name = r.2.name; public = r.2.public.0; interface = r.2.interface.0; parent = r.2.parent; interfaces = r.2.interfaces });
  }

  pub heads_back : SameHeads v w
  heads_back = record {
    each = λ c t got.
        let r = part_back c t got in
        (r.0, r.1, record { name = sym r.2.name; public = r.2.public.1; interface = r.2.interface.1; parent = sym r.2.parent; interfaces = sym r.2.interfaces });
  }

module _ {w v : List Shape} (heads : SameHeads w v) where
  -- ---- names, kinds and links

  pub named : (c : ℕ) (name : List ℕ) → IsNamed w c name → IsNamed v c name
  named c name p = let r = heads.each c p.0 p.1 in (r.0, r.1, sym r.2.name ∙ p.2)

  pub interface_class : (c : ℕ) → IsInterfaceClass w c → IsInterfaceClass v c
  interface_class c p = let r = heads.each c p.0 p.1 in (r.0, r.1, r.2.interface p.2)

  pub interface_type : (type : RefType) → IsInterfaceType w type → IsInterfaceType v type
  interface_type type p = (p.0, p.1, p.2, named p.1 p.0 p.3, interface_class p.1 p.4)

  pub superclass : (c d : ℕ) → HasSuperclass w c d → HasSuperclass v c d
  superclass c d p = let r = heads.each c p.0 p.2 in (r.0, p.1, r.1, sym r.2.parent ∙ p.3, named d p.1 p.4)

  interface_link : (c d : ℕ) → HasInterface w c d → HasInterface v c d
  interface_link c d p =
      let r = heads.each c p.0 p.2 in
      (r.0, p.1, r.1, subst (λ (l : List (List ℕ)). Contains l p.1) r.2.interfaces p.3, named d p.1 p.4)

  pub super : (c d : ℕ) → HasSuper w c d → HasSuper v c d
  super c d (inl p) = inl (superclass c d p)
  super c d (inr p) = inr (interface_link c d p)

  -- ---- supertypes

  pub climbs : (n c d : ℕ) → Climbs w n c d → Climbs v n c d
  climbs zero c d p = p
  climbs (suc n) c d p = (p.0, superclass c p.0 p.1, climbs n p.0 d p.2)

  pub subclass : (c d : ℕ) → IsSubclass w c d → IsSubclass v c d
  subclass c d p = (p.0, climbs p.0 c d p.1)

  pub sub : (c d : ℕ) → Sub w c d → Sub v c d
  sub c d (same _ _ is) = same c d is
  sub c d (link _ m _ first rest) = link c m d (super c m first) (sub m d rest)

  pub proper : (c d : ℕ) → ProperSub w c d → ProperSub v c d
  proper c d p = (p.0, super c p.0 p.1, sub p.0 d p.2)

  -- ---- instances

  pub sub_named : (name of : List ℕ) → IsSubNamed w name of → IsSubNamed v name of
  sub_named name of (inl e) = inl e
  sub_named name of (inr p) = inr (p.0, p.1, named p.0 name p.2, named p.1 of p.3, sub p.0 p.1 p.4)

  pub interface_named : (name : List ℕ) → IsInterfaceNamed w name → IsInterfaceNamed v name
  interface_named name p = let r = heads.each p.0 p.1 p.2 in (p.0, r.0, r.1, sym r.2.name ∙ p.3, r.2.interface p.4)

  of_class : (type : RefType) (of : List ℕ) → IsInstanceOfClass w type of → IsInstanceOfClass v type of
  of_class (Class name) of p = sub_named name of p
  of_class (PrimArray prim) of p = p
  of_class (Array' shape items) of p = p

  mutual
    pub instance : (type of : RefType) → IsInstanceOf w type of → IsInstanceOf v type of
    instance type (Class of) p = of_class type of p
    instance type (PrimArray prim) p = p
    instance type (Array' shape items) p = array type items p

    array : (type : RefType) {m : _} (items : Row_of-RefType m) → IsArrayOf w type items → IsArrayOf v type items
    array type end_of-RefType p = p
    array type (more_of-RefType item rest) p = (p.0, p.1, instance p.0 item p.2)

  base : (own of : LibBase) → IsBaseInstance w own of → IsBaseInstance v own of
  base (LibClass c) (LibClass d) p = sub c.number d.number p
  base (LibClass c) (LibPrim prim) p = p
  base (LibPrim prim) (LibClass d) p = p
  base (LibPrim prim) (LibPrim other) p = p

  array_base : (of : LibBase) → IsArraySuperBase w of → IsArraySuperBase v of
  array_base (LibClass d) p = (p.0, named d.number p.0 p.1, p.2)
  array_base (LibPrim prim) p = p

  pub in_dims : (own : LibBase) (dims : ℕ) (of : LibBase) (of_dims : ℕ) → IsInstanceInDims w own dims of of_dims → IsInstanceInDims v own dims of of_dims
  in_dims own dims of of_dims (inl p) = inl (p.0, base own of p.1)
  in_dims own dims of of_dims (inr p) = inr (p.0, array_base of p.1)

  -- ---- packages

  pub one_package : (c d : ℕ) → AreInOnePackage w c d → AreInOnePackage v c d
  one_package c d p =
      let r = heads.each c p.0 p.2 in
      let s = heads.each d p.1 p.3 in
      (r.0, s.0, r.1, s.1, ap package_of (sym r.2.name) ∙ p.4 ∙ ap package_of s.2.name)

  pub class_access : (from c : ℕ) → IsClassAccessible w from c → IsClassAccessible v from c
  class_access from c (inl p) = let r = heads.each c p.0 p.1 in inl (r.0, r.1, r.2.public p.2)
  class_access from c (inr p) = inr (one_package from c p)
