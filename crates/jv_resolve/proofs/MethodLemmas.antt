-- What a reference to a method resolves to.
use Rattle.std.proofs.Common.{◌≡◌, ℕ, List, Option, Some, subst, sym, inl, inr}
use Rattle.jv_types.specs.declared.desc.MethodDesc.{MethodDesc}
use Rattle.jv_types.specs.declared.ids.MethodId.{MethodId}
use Rattle.jv_types.specs.declared.references.MethodRef.{MethodRef}
use Rattle.jv_types.specs.declared.shapes.Shape.{Shape}
use Rattle.std.specs.Prelude.{unwrap_or}
use Rattle.jv_world.specs.Worlds.{IsNamed, IsWorld, object_name}
use Rattle.jv_resolve.specs.Members.{DeclaresMethod, IsInterfaceClass, init_name}
use Rattle.jv_resolve.specs.References.{BeginsAt, IsInterfaceType}
use Rattle.jv_resolve.specs.Resolving.{IsInitKept, ResolvesInClass, ResolvesInInterface, ResolvesMethod, ResolvesInterfaceMethod}
use Rattle.jv_resolve.proofs.ReferenceLemmas.{begins_named}

pub class_declares : (w : List Shape) (c : ℕ) (name : List ℕ) (desc : MethodDesc) (m : MethodId) → ResolvesInClass w c name desc m → DeclaresMethod w name desc m
class_declares w c name desc m (inl p) = p.meets
class_declares w c name desc m (inr p) = p.1.declared

pub interface_declares : (w : List Shape) (c : ℕ) (name : List ℕ) (desc : MethodDesc) (m : MethodId) → ResolvesInInterface w c name desc m → DeclaresMethod w name desc m
interface_declares w c name desc m (inl p) = p.0
interface_declares w c name desc m (inr (_, inl p)) = p.0
interface_declares w c name desc m (inr (_, inr p)) = p.1.declared

-- where the search begins at a class and the reference keeps an initialization method, its class is that one
pub init_there : (w : List Shape) (r : MethodRef) (start : ℕ) (m : MethodId) → IsWorld w → BeginsAt w r.class start → r.name ≡ init_name → IsInitKept w r m → m.class.number ≡ start
init_there w r start m world begins init kept =
    let k = kept init in
    world.numbered.distinct m.class.number start k.0 k.2 (begins_named w r.class (Some k.0) start (sym k.1) begins)

-- another name than that of initialization methods
pub other_name : (w : List Shape) (r : MethodRef) (m : MethodId) → (r.name ≡ init_name → ⊥) → IsInitKept w r m
other_name w r m differs init = absurd (differs init)

pub nothing_at : (w : List Shape) (r : MethodRef) → ((c : ℕ) → BeginsAt w r.class c → ⊥) → (m : MethodId) → ResolvesMethod w r m → ⊥
nothing_at w r none m p = none p.start p.begins

pub nothing_from : (w : List Shape) (r : MethodRef) (start : ℕ) → ((d : ℕ) → BeginsAt w r.class d → d ≡ start)
    → ((m : MethodId) → ResolvesInClass w start r.name r.desc m → IsInitKept w r m → ⊥) → (m : MethodId) → ResolvesMethod w r m → ⊥
nothing_from w r start one none m p = none m (subst (λ (c : ℕ). ResolvesInClass w c r.name r.desc m) (one p.start p.begins) p.found) p.init

-- ---- interfaces

interface_begins : (w : List Shape) (r : MethodRef) (m : MethodId) → (p : ResolvesInterfaceMethod w r m) → BeginsAt w r.class p.start
interface_begins w r m p = subst (λ (o : Option (List ℕ)). IsNamed w p.start (unwrap_or o object_name)) (sym p.names) p.begins

pub nothing_at_interface : (w : List Shape) (r : MethodRef) → ((c : ℕ) → BeginsAt w r.class c → ⊥) → (m : MethodId) → ResolvesInterfaceMethod w r m → ⊥
nothing_at_interface w r none m p = none p.start (interface_begins w r m p)

pub nothing_from_interface : (w : List Shape) (r : MethodRef) (start : ℕ) → ((d : ℕ) → BeginsAt w r.class d → d ≡ start)
    → ((m : MethodId) → ResolvesInInterface w start r.name r.desc m → IsInitKept w r m → ⊥) → (m : MethodId) → ResolvesInterfaceMethod w r m → ⊥
nothing_from_interface w r start one none m p =
    none m (subst (λ (c : ℕ). ResolvesInInterface w c r.name r.desc m) (one p.start (interface_begins w r m p)) p.found) p.init

pub resolves_interface : (w : List Shape) (r : MethodRef) (start : ℕ) (m : MethodId) → ((d : ℕ) → BeginsAt w r.class d → d ≡ start) → IsInterfaceType w r.class → BeginsAt w r.class start
    → ResolvesInInterface w start r.name r.desc m → IsInitKept w r m → ResolvesInterfaceMethod w r m
resolves_interface w r start m one names begins found init =
    let there : names.1 ≡ start = one names.1 (subst (λ (o : Option (List ℕ)). IsNamed w names.1 (unwrap_or o object_name)) (sym names.2) names.3) in
    record {
      start = start;
      name = names.0;
      names = names.2;
      begins = begins_named w r.class (Some names.0) start (sym names.2) begins;
      interface = subst (IsInterfaceClass w) there names.4;
      found = found;
      init = init;
    }
