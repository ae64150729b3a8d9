-- What is kept together: each method of a name and a descriptor that a class can inherit, once one of them is kept.
use Rattle.std.proofs.Common.{◌≡◌, ◌≢◌, ℕ, ◌⊎◌, Bool, true, false, List, Some, slice_get, refl, sym, ◌∙◌, subst, inl, inr}
use Rattle.std.specs.Prelude.{IsTrue}
use Rattle.std.proofs.lemmas.Bool.{false≢true}
use Rattle.jv_types.specs.declared.desc.MethodDesc.{MethodDesc}
use Rattle.jv_types.specs.declared.ids.MethodId.{MethodId}
use Rattle.jv_types.specs.declared.shapes.Shape.{Shape}
use Rattle.jv_world.specs.Worlds.{Sub, same, link}
use Rattle.jv_resolve.specs.Members.{init_name, IsInheritable}
use Rattle.jv_resolve.proofs.Hierarchy.{one_shape}
use Rattle.jv_fewer_members.specs.Keeping.{class_init_name, IsApart, IsApplication, IsCalled, IsInstanceMethod, IsLibrary, KeepsMembers}
use Rattle.jv_fewer_members.specs.Parts.{IsMethodKept, Places}

-- each method of this name and descriptor that the class declares or may inherit is kept
pub record KeepsAbove (w v : List Shape) (at : Places) (c : ℕ) (name : List ℕ) (desc : MethodDesc) : Type 0 where
  pub each : (m : MethodId) → Sub w c m.class.number → IsInheritable w m → IsCalled w m name desc → IsMethodKept v at m

-- a class is of the application or of the library
side : (w : List Shape) (c : ℕ) (s : Shape) → slice_get w c ≡ Some s → IsApplication w c ⊎ IsLibrary w c
side w c s at = by_mark s.application refl
  where
    by_mark : (b : Bool) → s.application ≡ b → IsApplication w c ⊎ IsLibrary w c
    by_mark true e = inl (s, at, e)
    by_mark false e = inr (s, at, λ t. false≢true (sym e ∙ t))

one_side : (w : List Shape) (c : ℕ) → IsApplication w c → IsLibrary w c → ⊥
one_side w c p q = q.2 (subst (λ (s : Shape). IsTrue s.application) (one_shape w c p.0 q.0 p.1 q.1) p.2)

library_above : (w : List Shape) → IsApart w → (c d : ℕ) → Sub w c d → IsLibrary w c → IsLibrary w d
library_above w apart c d (same _ _ e) lib = subst (IsLibrary w) e lib
library_above w apart c d (link _ m _ step rest) lib = library_above w apart m d rest (apart c m lib step)

from_here : (w : List Shape) (c d : ℕ) (t : Shape) → Sub w c d → slice_get w d ≡ Some t → (s : Shape) × (slice_get w c ≡ Some s)
from_here w c d t (same _ _ e) at = (t, subst (λ (k : ℕ). slice_get w k ≡ Some t) (sym e) at)
from_here w c d t (link _ m _ (inl step) rest) at = (step.0, step.2)
from_here w c d t (link _ m _ (inr step) rest) at = (step.0, step.2)

module _ {w v : List Shape} {at : Places} (keeps : KeepsMembers w v at) where
  above_library : (c : ℕ) (m other : MethodId) (name : List ℕ) (desc : MethodDesc) → Sub w c m.class.number → IsMethodKept v at m → IsInstanceMethod w m name desc → name ≢ init_name → name ≢ class_init_name
      → Sub w c other.class.number → IsInheritable w other → IsCalled w other name desc → IsLibrary w other.class.number → IsApplication w m.class.number ⊎ IsLibrary w m.class.number
      → IsApplication w c ⊎ IsLibrary w c → IsMethodKept v at other
  above_library c m other name desc up kept is init class_init above inherits called lib (inr of_library) own = keeps.same_signature m other name desc of_library kept is init lib inherits called
  above_library c m other name desc up kept is init class_init above inherits called lib (inl of_app) (inl own) = keeps.inherited c other name desc own above lib inherits called init class_init
  above_library c m other name desc up kept is init class_init above inherits called lib (inl of_app) (inr own) = absurd (one_side w m.class.number of_app (library_above w keeps.apart c m.class.number up own))

  above_any : (c : ℕ) (m other : MethodId) (name : List ℕ) (desc : MethodDesc) → Sub w c m.class.number → IsMethodKept v at m → IsInstanceMethod w m name desc → name ≢ init_name → name ≢ class_init_name
      → Sub w c other.class.number → (inherits : IsInheritable w other) → IsCalled w other name desc → IsApplication w other.class.number ⊎ IsLibrary w other.class.number → IsMethodKept v at other
  above_any c m other name desc up kept is init class_init above inherits called (inl of_app) = keeps.application.methods other of_app (inherits.0, inherits.1)
  above_any c m other name desc up kept is init class_init above inherits called (inr lib) =
      let own = from_here w c m.class.number is.1.0 up is.1.1 in
      above_library c m other name desc up kept is init class_init above inherits called lib (side w m.class.number is.1.0 is.1.1) (side w c own.0 own.1)

  -- one of them is kept, so all are
  pub keeps_above : (c : ℕ) (m : MethodId) (name : List ℕ) (desc : MethodDesc) → Sub w c m.class.number → IsMethodKept v at m → IsInstanceMethod w m name desc → name ≢ init_name → name ≢ class_init_name
      → KeepsAbove w v at c name desc
  keeps_above c m name desc up kept is init class_init = record {
    each = λ other above inherits called. above_any c m other name desc up kept is init class_init above inherits called (side w other.class.number inherits.1.0 inherits.1.1);
  }
