-- What a search without memory answers: a value with a property, or that there is none.
use Rattle.std.specs.Prelude.{Option, Some, None}

-- a value with the property, or no value has it
abbrev pub FindsSome : {X : Type 0} → (X → Type 0) → Option X → Type 0
FindsSome P (Some x) = P x
FindsSome {X} P None = (x : X) → P x → ⊥
