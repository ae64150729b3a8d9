-- What the worlds of programs have.
use Rattle.std.proofs.Common.{ℕ, List, refl, sym, inl}
use Rattle.jv_types.specs.declared.shapes.Shape.{Shape}
use Rattle.jv_world.specs.Worlds.{IsNamed, object_name}
use Rattle.jv_resolve.proofs.PlacesLemmas.{read_at}
use Rattle.av_conditions.specs.CoreClasses.{CoreClasses}

-- Object is there
pub object_there : (w : List Shape) → CoreClasses w → ((c : ℕ) → IsNamed w c object_name → ⊥) → ⊥
object_there w core none =
    let found = core.there object_name (inl (inl refl)) in
    none found.1.0 (found.0, read_at w found.1.0 found.0 found.1.1 (sym found.1.2), found.2)
