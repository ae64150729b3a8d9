-- What a step answers: the frame after, or that there is none.
use Rattle.std.specs.Prelude.{Result, Ok, Err}
use Rattle.jv_typing.specs.declared.no_typing.NoTyping.{NoTyping}
use Rattle.jv_typing.specs.declared.no_typing.NoTyping.TheVariants as none

abbrev pub Untyped : {X : Type 0} → (X → Type 0) → NoTyping → Type 0
Untyped {X} P none.Rule = (x : X) → P x → ⊥
Untyped P none.Memory = Unit {0}

-- a value with the property, or no value has it, unless memory ran out
abbrev pub Types : {X : Type 0} → (X → Type 0) → Result X NoTyping → Type 0
Types P (Ok x) = P x
Types P (Err e) = Untyped P e
