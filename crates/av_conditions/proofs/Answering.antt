-- What an answer of a resolution says, and what tests say of kinds.
use Rattle.std.proofs.Common.{◌≡◌, ◌⊎◌, Bool, true, false, refl, sym, ◌∙◌, subst}
use Rattle.std.specs.Prelude.{IsTrue, ◌↔◌, not, List, Option, Some, None, IfNone, IfSome}
use Rattle.jv_types.specs.declared.ids.FieldId.{FieldId}
use Rattle.jv_types.specs.declared.ids.MethodId.{MethodId}
use Rattle.jv_types.specs.declared.references.MethodRef.{MethodRef}
use Rattle.jv_types.specs.declared.shapes.Shape.{Shape}
use Rattle.jv_resolve.specs.References.{IsInterfaceType}
use Rattle.jv_resolve.specs.Resolving.{ResolvesMethod, ResolvesInterfaceMethod}

pub never : (P : Type 0) → (P → ⊥) → IsTrue false ↔ P
never P fails = (λ e. let t : false ≡ true = e in absurd cc, λ p. absurd (fails p))

-- a reference that names an interface is to no method of a class
pub no_class_method : (w : List Shape) (r : MethodRef) → IsInterfaceType w r.class → (m : MethodId) → ResolvesMethod w r m → ⊥
no_class_method w r names m p = p.no_interface names

-- a reference that names no interface is to no method of one
pub no_interface_method : (w : List Shape) (r : MethodRef) → (IsInterfaceType w r.class → ⊥) → (m : MethodId) → ResolvesInterfaceMethod w r m → ⊥
no_interface_method w r other m p = other (p.name, p.start, p.names, p.begins, p.interface)

-- both or neither
pub both : (wanted has : Bool) → wanted ≡ true → IsTrue has ↔ (IsTrue wanted ↔ IsTrue has)
both true has e = (λ t. (λ _. t, λ _. refl), λ p. p.0 refl)
both false has e = absurd cc

pub neither : (wanted has : Bool) → wanted ≡ false → IsTrue (not has) ↔ (IsTrue wanted ↔ IsTrue has)
neither true has e = absurd cc
neither false true e = (λ t. let c : false ≡ true = t in absurd cc, λ p. let c : false ≡ true = p.1 refl in absurd cc)
neither false false e = (λ t. (λ f. f, λ f. f), λ p. refl)

pub denied : {P : Type 0} (b : Bool) → b ≡ false → (P → IsTrue b) → P → ⊥
denied b e f p = let t : b ≡ true = f p in let q : false ≡ true = sym e ∙ t in absurd cc
