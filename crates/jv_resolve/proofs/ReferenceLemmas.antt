-- What references name, and access by them.
use Rattle.std.proofs.Common.{◌≡◌, ℕ, List, Option, Some, ◌⊎◌, subst, sym, ◌∙◌, inl, inr}
use Rattle.std.specs.Prelude.{unwrap_or}
use Rattle.jv_types.specs.declared.access.Access.{Access}
use Rattle.jv_types.specs.declared.desc.RefType.{RefType}
use Rattle.jv_types.specs.declared.shapes.Shape.{Shape}
use Rattle.jv_world.specs.Worlds.{IsNamed, IsSubclass, IsWorld, object_name}
use Rattle.jv_resolve.specs.Members.{IsInterfaceClass}
use Rattle.jv_resolve.specs.References.{named_class, BeginsAt, IsInterfaceType}
use Rattle.jv_resolve.specs.Access.{IsInLine, IsProtectedAccess, HasAccess}

pub names_none : (w : List Shape) (type : RefType) (name : List ℕ) → Some name ≡ named_class type → ((c : ℕ) → IsNamed w c name → ⊥) → IsInterfaceType w type → ⊥
names_none w type name e none p =
    let some : Some p.0 ≡ Some name = sym p.2 ∙ sym e in
    let is : p.0 ≡ name = cc in
    none p.1 (subst (IsNamed w p.1) is p.3)

pub names_one : (w : List Shape) (type : RefType) (name : List ℕ) (d : ℕ) → IsWorld w → Some name ≡ named_class type → IsNamed w d name → IsInterfaceType w type → IsInterfaceClass w d
names_one w type name d world e named p =
    let some : Some p.0 ≡ Some name = sym p.2 ∙ sym e in
    let is : p.0 ≡ name = cc in
    subst (IsInterfaceClass w) (world.numbered.distinct p.1 d name (subst (IsNamed w p.1) is p.3) named) p.4

pub begins_named : (w : List Shape) (type : RefType) (o : Option (List ℕ)) (c : ℕ) → o ≡ named_class type → BeginsAt w type c → IsNamed w c (unwrap_or o object_name)
begins_named w type o c e b = subst (λ (x : Option (List ℕ)). IsNamed w c (unwrap_or x object_name)) (sym e) b

pub in_line_one : (w : List Shape) (c d : ℕ) (name : List ℕ) → IsWorld w → IsNamed w d name → IsInLine w c name → IsSubclass w c d ⊎ IsSubclass w d c
in_line_one w c d name world named p =
    let one : p.0 ≡ d = world.numbered.distinct p.0 d name p.1 named in
    let P : ℕ → Type 0 = λ x. IsSubclass w c x ⊎ IsSubclass w x c in
    subst P one p.2

protected_by : (w : List Shape) (from : ℕ) (L K : Type 0) (d : ℕ) (flags : Access) → (L → K) → IsProtectedAccess w from L d flags → IsProtectedAccess w from K d flags
protected_by w from L K d flags f (inl p) = inl p
protected_by w from L K d flags f (inr (s, inl p)) = inr (s, inl p)
protected_by w from L K d flags f (inr (s, inr p)) = inr (s, inr (f p))

pub access_by : (w : List Shape) (from : ℕ) (L K : Type 0) (d : ℕ) (flags : Access) → (L → K) → HasAccess w from L d flags → HasAccess w from K d flags
access_by w from L K d flags f (inl p) = inl p
access_by w from L K d flags f (inr (inl p)) = inr (inl (p.0, protected_by w from L K d flags f p.1))
access_by w from L K d flags f (inr (inr p)) = inr (inr p)
