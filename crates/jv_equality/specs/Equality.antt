-- Which values a comparison tells apart.
use Rattle.std.specs.Prelude.{◌≡◌, ◌↔◌, Bool, IsTrue}
use Rattle.std.specs.declared.cmp.Ordering.{Ordering}
use Rattle.std.specs.declared.cmp.Ordering.TheVariants.{Equal}

-- `==` holds of a value and itself alone
abbrev pub TellsApart : {K : Type 0} → (K → K → Bool) → Type 0
TellsApart {K} eq = (x y : K) → IsTrue (eq x y) ↔ (x ≡ y)

-- `cmp` gives Equal for a value and itself alone
abbrev pub Ties : {K : Type 0} → (K → K → Ordering) → Type 0
Ties {K} cmp = (x y : K) → (cmp x y ≡ Equal) ↔ (x ≡ y)
