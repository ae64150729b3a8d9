-- Instances of types, in both worlds.
use Rattle.std.proofs.Common.{◌≡◌, ℕ, ◌<◌, List, length, refl, subst, inl, inr}
use Rattle.std.specs.Prelude.{◌↔◌}
use Rattle.jv_types.specs.declared.desc.RefType.{RefType, Class, PrimArray, Array', Row_of-RefType, end_of-RefType, more_of-RefType}
use Rattle.jv_types.specs.declared.shapes.Shape.{Shape}
use Rattle.jv_world.specs.Instances.{IsArrayOf, IsInstanceOf, IsInstanceOfClass, IsInterfaceNamed, IsSubNamed}
use Rattle.jv_world.specs.Worlds.{IsNamed, Sub}
use Rattle.jv_resolve.proofs.Hierarchy.{named_here, one_shape, sub_here}
use Rattle.jv_resolve.specs.Members.{IsInterfaceClass}
use Rattle.jv_two_worlds.specs.Renumbering.{StandsIn}
use Rattle.jv_two_worlds.specs.Types.{EndsIn, of_class, of_items}
use Rattle.jv_two_worlds.proofs.Classes.{named_into, named_back, named_only, interface_into, interface_back}
use Rattle.jv_two_worlds.proofs.Supertypes.{sub_into, sub_back}

-- the class inside the type is one of the world
abbrev pub IsThere : List Shape → RefType → Type 0
IsThere w type = (name : List ℕ) → EndsIn type name → (c : ℕ) × IsNamed w c name

module _ {w v : List Shape} {to : ℕ → ℕ} (inside : StandsIn w v to) where
  sub_named_into : (name of : List ℕ) → IsSubNamed w name of → IsSubNamed v name of
  sub_named_into name of (inl e) = inl e
  sub_named_into name of (inr p) = inr (to p.0, to p.1, named_into inside p.0 name p.2, named_into inside p.1 of p.3, sub_into inside p.0 p.1 p.4)

  sub_named_back : (c : ℕ) (name of : List ℕ) → IsNamed w c name → IsSubNamed v name of → IsSubNamed w name of
  sub_named_back c name of named (inl e) = inl e
  sub_named_back c name of named (inr q) =
      let here : c < length w = named_here w c name named in
      let above = sub_back inside c q.1 here (subst (λ (x : ℕ). Sub v x q.1) (named_only inside c q.0 name named q.2) q.4) in
      let there : IsNamed v (to above.0) of = subst (λ (x : ℕ). IsNamed v x of) above.1 q.3 in
      inr (c, above.0, named, named_back inside above.0 of (sub_here w c above.0 here above.2) there, above.2)

  pub sub_named : (c : ℕ) (name of : List ℕ) → IsNamed w c name → IsSubNamed w name of ↔ IsSubNamed v name of
  sub_named c name of named = (λ p. sub_named_into name of p, λ q. sub_named_back c name of named q)

  pub interface_named : (c : ℕ) (name : List ℕ) → IsNamed w c name → IsInterfaceNamed w name ↔ IsInterfaceNamed v name
  interface_named c name named = (
    λ p.
        let there = interface_into inside p.0 (p.1, p.2, p.4) in
        let other = named_into inside p.0 name (p.1, p.2, p.3) in
        let same = one_shape v (to p.0) other.0 there.0 other.1 there.1 in
        (to p.0, there.0, there.1, subst (λ (s : Shape). s.name ≡ name) same other.2, there.2),
    λ q.
        let is = named_only inside c q.0 name named (q.1, q.2, q.3) in
        let own = interface_back inside c (named_here w c name named) (subst (IsInterfaceClass v) is (q.1, q.2, q.4)) in
        let same = one_shape w c named.0 own.0 named.1 own.1 in
        (c, own.0, own.1, subst (λ (s : Shape). s.name ≡ name) same named.2, own.2),
  )

  -- ---- types

  of_class_into : (type : RefType) (of : List ℕ) → IsInstanceOfClass w type of → IsInstanceOfClass v type of
  of_class_into (Class name) of p = sub_named_into name of p
  of_class_into (PrimArray prim) of p = p
  of_class_into (Array' shape items) of p = p

  of_class_back : (type : RefType) (of : List ℕ) → IsThere w type → IsInstanceOfClass v type of → IsInstanceOfClass w type of
  of_class_back (Class name) of there q = let own = there name (of_class (Class name) name refl) in sub_named_back own.0 name of own.1 q
  of_class_back (PrimArray prim) of there q = q
  of_class_back (Array' shape items) of there q = q

  mutual
    instance_into : (type of : RefType) → IsInstanceOf w type of → IsInstanceOf v type of
    instance_into type (Class of) p = of_class_into type of p
    instance_into type (PrimArray prim) p = p
    instance_into type (Array' shape items) p = array_into type items p

    array_into : (type : RefType) {m : _} (items : Row_of-RefType m) → IsArrayOf w type items → IsArrayOf v type items
    array_into type end_of-RefType p = p
    array_into type (more_of-RefType item rest) p = (p.0, p.1, instance_into p.0 item p.2)

  mutual
    instance_back : (type of : RefType) → IsThere w type → IsInstanceOf v type of → IsInstanceOf w type of
    instance_back type (Class of) there q = of_class_back type of there q
    instance_back type (PrimArray prim) there q = q
    instance_back type (Array' shape items) there q = array_back type items there q

    array_back : (type : RefType) {m : _} (items : Row_of-RefType m) → IsThere w type → IsArrayOf v type items → IsArrayOf w type items
    array_back type end_of-RefType there q = q
    array_back type (more_of-RefType item rest) there q = (q.0, q.1, instance_back q.0 item (λ name e. there name (of_items type q.0 name q.1 e)) q.2)

  pub instance : (type of : RefType) → IsThere w type → IsInstanceOf w type of ↔ IsInstanceOf v type of
  instance type of there = (λ p. instance_into type of p, λ q. instance_back type of there q)
