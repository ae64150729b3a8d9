-- What a search answers: a value with a property, or that there is none.
use Rattle.std.specs.Prelude.{Result, Ok, Err}
use Rattle.jv_read.specs.declared.fault.ReadFault.{ReadFault}
use Rattle.jv_read.specs.declared.fault.ReadFault.TheVariants as faults

abbrev pub NoneFor : {X : Type 0} → (X → Type 0) → ReadFault → Type 0
NoneFor {X} P faults.Bad = (x : X) → P x → ⊥
NoneFor P faults.Memory = Unit {0}

-- a value with the property, or no value has it, unless memory ran out
abbrev pub Finds : {X : Type 0} → (X → Type 0) → Result X ReadFault → Type 0
Finds P (Ok x) = P x
Finds P (Err e) = NoneFor P e
