-- Which types a label passes.
use Rattle.std.proofs.Common.{◌≡◌, ◌↔◌, Bool, IsTrue, subst}
use Rattle.jv_types.specs.declared.desc.RefType.{RefType}
use Rattle.jv_types.specs.declared.label.Label.{Label}
use Rattle.jv_world.specs.Worlds.{AreNumbered}
use Rattle.av_rules.specs.declared.flat_type.FlatType.{FlatType}
use Rattle.av_rules.specs.FlatTypes.{IsFlat, IsInstanceOfFlat}
use Rattle.av_rules.specs.Labels.{IsTypeOf, Passes, PassesFlat}
use Rattle.av_rules.specs.Program.{Program}
use Rattle.av_rules.proofs.Types.{AreDistinct, type_one}

-- by its one type
pub passes_by : (p : Program) (label : Label) (made of : FlatType) (t : Bool) → AreNumbered p.world → AreDistinct p.methods → IsTypeOf p label made
    → IsTrue t ↔ IsInstanceOfFlat p.world made of → IsTrue t ↔ PassesFlat p label of
passes_by p label made of t numbered distinct typed says = (
  λ yes. record { made = made; typed = typed; instance = says.0 yes },
  λ passes.
      let same : passes.made ≡ made = type_one p label passes.made made numbered distinct passes.typed typed in
      let P : FlatType → Type 0 = λ f. IsInstanceOfFlat p.world f of in
      says.1 (subst P same passes.instance),
)

-- a reference type by what it is
pub passes_type_by : (p : Program) (label : Label) (type : RefType) (of : FlatType) (t : Bool) → IsFlat p.world type of
    → ((other : FlatType) → IsFlat p.world type other → other ≡ of) → IsTrue t ↔ PassesFlat p label of → IsTrue t ↔ Passes p label type
passes_type_by p label type of t is one says = (
  λ yes. (of, is, says.0 yes),
  λ passes.
      let P : FlatType → Type 0 = λ f. PassesFlat p label f in
      says.1 (subst P (one passes.0 passes.1) passes.2),
)
