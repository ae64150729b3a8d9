-- The numbers that classes and members have.
use Rattle.std.proofs.Common.{◌<◌, ◌^◌, Bool, IsTrue, List, length, All}
use Rattle.std.proofs.lemmas.List.Elements.{All-contains}
use Rattle.jv_types.specs.declared.shapes.Shape.{Shape}
use Rattle.jv_world.specs.Worlds.{AreNumbered, HaveDistinctNames}

pub AreNumbered-by : (w : List Shape) (b : Bool) → length w < 2 ^ 32 → All (λ s. (length s.fields < 2 ^ 16) × (length s.methods < 2 ^ 16)) w
    → (IsTrue b → HaveDistinctNames w) × (HaveDistinctNames w → IsTrue b) → (IsTrue b → AreNumbered w) × (AreNumbered w → IsTrue b)
AreNumbered-by w b count few says = (
  λ yes. record {
    distinct = says.0 yes;
    count = count;
    fields = λ s has. (All-contains (λ (s : Shape). (length s.fields < 2 ^ 16) × (length s.methods < 2 ^ 16)) w s few has).0;
    methods = λ s has. (All-contains (λ (s : Shape). (length s.fields < 2 ^ 16) × (length s.methods < 2 ^ 16)) w s few has).1;
  },
  λ numbered. says.1 numbered.distinct,
)
