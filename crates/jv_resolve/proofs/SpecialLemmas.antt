-- Where the search of invokespecial starts, and what it finds.
use Rattle.std.proofs.Common.{◌≡◌, ℕ, List, Some, subst, sym, ◌∙◌, inl, inr}
use Rattle.jv_types.specs.declared.desc.MethodDesc.{MethodDesc}
use Rattle.jv_types.specs.declared.ids.MethodId.{MethodId}
use Rattle.jv_types.specs.declared.references.MethodRef.{MethodRef}
use Rattle.jv_types.specs.declared.shapes.MethodShape.{MethodShape}
use Rattle.jv_types.specs.declared.shapes.Shape.{Shape}
use Rattle.jv_world.specs.Worlds.{Climbs, IsSubclass, IsNamed, HasSuperclass, IsWorld}
use Rattle.jv_resolve.specs.Inheriting.{IsSingleDefault}
use Rattle.jv_resolve.specs.Members.{IsConcrete, IsMethod, IsInterfaceClass}
use Rattle.jv_resolve.specs.References.{named_class, BeginsAt}
use Rattle.jv_resolve.specs.Resolving.{IsObjectMethod}
use Rattle.jv_resolve.specs.Selecting.{IsSuperclass, IsSuperCall, SpecialStart, IsSpecialCandidate, FindsInInterface, SelectsInInterface, SelectsBy, SelectsFrom, SelectsSpecial}
use Rattle.jv_resolve.proofs.Hierarchy.{one_superclass}
use Rattle.jv_resolve.proofs.MembersLemmas.{one_method, declares_one}

pub superclass_from : (w : List Shape) (c e d : ℕ) → IsWorld w → HasSuperclass w c e → IsSuperclass w c d → IsSubclass w e d
superclass_from w c e d world step p = (p.0, subst (λ (x : ℕ). Climbs w p.0 x d) (one_superclass w c p.1.0 e world p.1.1 step) p.1.2)

pub superclass_of : (w : List Shape) (c e d : ℕ) → HasSuperclass w c e → IsSubclass w e d → IsSuperclass w c d
superclass_of w c e d step p = (p.0, (e, step, p.1))

pub no_superclass : (w : List Shape) (c d : ℕ) → ((e : ℕ) → HasSuperclass w c e → ⊥) → IsSuperclass w c d → ⊥
no_superclass w c d none p = none p.1.0 p.1.1

pub super_one : (w : List Shape) (from : ℕ) (r : MethodRef) (name class_name : List ℕ) (class : ℕ) → IsWorld w → Some class_name ≡ named_class r.class → IsNamed w class class_name
    → IsSuperCall w from r name → IsSuperclass w from class
super_one w from r name class_name class world e named p =
    let some : Some p.1 ≡ Some class_name = sym p.3 ∙ sym e in
    let is : p.1 ≡ class_name = cc in
    subst (IsSuperclass w from) (world.numbered.distinct p.2 class class_name (subst (IsNamed w p.2) is p.4) named) p.5

pub super_none : (w : List Shape) (from : ℕ) (r : MethodRef) (name class_name : List ℕ) → Some class_name ≡ named_class r.class → ((c : ℕ) → IsNamed w c class_name → ⊥)
    → IsSuperCall w from r name → ⊥
super_none w from r name class_name e none p =
    let some : Some p.1 ≡ Some class_name = sym p.3 ∙ sym e in
    let is : p.1 ≡ class_name = cc in
    none p.2 (subst (IsNamed w p.2) is p.4)

-- ---- the start

pub start_at_super : (w : List Shape) (from : ℕ) (r : MethodRef) (name : List ℕ) (d : ℕ) → IsSuperCall w from r name → SpecialStart w from r name d → HasSuperclass w from d
start_at_super w from r name d call (inl p) = p.1
start_at_super w from r name d call (inr p) = absurd (p.0 call)

pub start_at_named : (w : List Shape) (from : ℕ) (r : MethodRef) (name : List ℕ) (d : ℕ) → (IsSuperCall w from r name → ⊥) → SpecialStart w from r name d → BeginsAt w r.class d
start_at_named w from r name d call (inl p) = absurd (call p.0)
start_at_named w from r name d call (inr p) = p.1

-- ---- at an interface

pub own_is : (w : List Shape) (resolved : MethodId) (name : List ℕ) (desc : MethodDesc) (start : ℕ) (m s : MethodId) → IsSpecialCandidate w resolved name desc m → m.class.number ≡ start
    → FindsInInterface w resolved name desc start s → s ≡ m
own_is w resolved name desc start m s p e (inl q) = declares_one w name desc s m q.0.0 p.0 (q.1 ∙ sym e)
own_is w resolved name desc start m s p e (inr q) = absurd (q.0 m e p)

pub object_is : (w : List Shape) (resolved : MethodId) (name : List ℕ) (desc : MethodDesc) (start : ℕ) (m s : MethodId)
    → ((other : MethodId) → other.class.number ≡ start → IsSpecialCandidate w resolved name desc other → ⊥) → IsWorld w → IsObjectMethod w name desc m
    → FindsInInterface w resolved name desc start s → s ≡ m
object_is w resolved name desc start m s none world p (inl q) = absurd (none s q.1 q.0)
object_is w resolved name desc start m s none world p (inr (_, inl q)) = declares_one w name desc s m q.0 p.0 (world.numbered.distinct s.class.number m.class.number _ q.1 p.1)
object_is w resolved name desc start m s none world p (inr (_, inr q)) = absurd (q.0 m p)

pub default_is : (w : List Shape) (resolved : MethodId) (name : List ℕ) (desc : MethodDesc) (start : ℕ)
    → ((other : MethodId) → other.class.number ≡ start → IsSpecialCandidate w resolved name desc other → ⊥) → ((other : MethodId) → IsObjectMethod w name desc other → ⊥)
    → ((m : MethodId) → IsSingleDefault w start name desc m → ⊥) → (s : MethodId) → SelectsInInterface w resolved name desc start s → ⊥
default_is w resolved name desc start none object default s (inl q, concrete) = none s q.1 q.0
default_is w resolved name desc start none object default s (inr (_, inl q), concrete) = object s q
default_is w resolved name desc start none object default s (inr (_, inr q), concrete) = default s q.1

pub not_concrete : (w : List Shape) (resolved : MethodId) (name : List ℕ) (desc : MethodDesc) (start : ℕ) (m : MethodId)
    → ((s : MethodId) → FindsInInterface w resolved name desc start s → s ≡ m) → (IsConcrete w m → ⊥) → (s : MethodId) → SelectsInInterface w resolved name desc start s → ⊥
not_concrete w resolved name desc start m one abstract s p = abstract (subst (IsConcrete w) (one s p.0) p.1)

-- ---- from the start

pub from_interface : (w : List Shape) (resolved : MethodId) (name : List ℕ) (desc : MethodDesc) (start : ℕ) → IsInterfaceClass w start
    → ((s : MethodId) → SelectsInInterface w resolved name desc start s → ⊥) → (s : MethodId) → SelectsFrom w resolved name desc start s → ⊥
from_interface w resolved name desc start kind none s (inl p) = p.0 kind
from_interface w resolved name desc start kind none s (inr p) = none s p.1

pub from_class : (w : List Shape) (resolved : MethodId) (name : List ℕ) (desc : MethodDesc) (start : ℕ) → (IsInterfaceClass w start → ⊥)
    → ((s : MethodId) → SelectsBy w (IsSpecialCandidate w resolved name desc) start name desc s → ⊥) → (s : MethodId) → SelectsFrom w resolved name desc start s → ⊥
from_class w resolved name desc start kind none s (inl p) = none s p.1
from_class w resolved name desc start kind none s (inr p) = kind p.0

pub special_at : (w : List Shape) (from : ℕ) (r : MethodRef) (m : MethodId) (x : MethodShape) (start : ℕ) (s : MethodId) → IsMethod w m x
    → ((d : ℕ) → SpecialStart w from r x.name d → d ≡ start) → SelectsSpecial w from r m s → SelectsFrom w m x.name x.desc start s
special_at w from r m x start s at one p =
    let same : p.shape ≡ x = one_method w m p.shape x p.place at in
    let there : p.start ≡ start = one p.start (subst (λ (y : MethodShape). SpecialStart w from r y.name p.start) same p.starts) in
    subst (λ (d : ℕ). SelectsFrom w m x.name x.desc d s) there (subst (λ (y : MethodShape). SelectsFrom w m y.name y.desc p.start s) same p.selects)

pub special_nowhere : (w : List Shape) (from : ℕ) (r : MethodRef) (m : MethodId) (x : MethodShape) → IsMethod w m x
    → ((d : ℕ) → SpecialStart w from r x.name d → ⊥) → (s : MethodId) → SelectsSpecial w from r m s → ⊥
special_nowhere w from r m x at none s p =
    none p.start (subst (λ (y : MethodShape). SpecialStart w from r y.name p.start) (one_method w m p.shape x p.place at) p.starts)
