-- What a search answers: a value with a property, or that there is none.
use Rattle.std.specs.Prelude.{List, Result, Ok, Err}
use Rattle.std.specs.declared.alloc.Global.{Global}
use Rattle.std.specs.declared.vec.Vec.{Vec}
use Rattle.jv_read.specs.declared.fault.ReadFault.{ReadFault}
use Rattle.jv_read.specs.declared.fault.ReadFault.TheVariants as faults
use Rattle.jv_names.specs.Finding.{NoneFor}

-- a list with the property, or no list has it, unless memory ran out
abbrev pub FindsList : {X : Type 0} → (List X → Type 0) → Result (Vec X Global) ReadFault → Type 0
FindsList P (Ok x) = P x.items
FindsList P (Err e) = NoneFor P e

-- the same for two lists
abbrev pub NoneForTwo : {X : Type 0} → (List X → List X → Type 0) → ReadFault → Type 0
NoneForTwo {X} P faults.Bad = (x y : List X) → P x y → ⊥
NoneForTwo P faults.Memory = Unit {0}

abbrev pub FindsTwo : {X : Type 0} → (List X → List X → Type 0) → Result (Vec X Global × Vec X Global) ReadFault → Type 0
FindsTwo P (Ok both) = P both.0.items both.1.items
FindsTwo P (Err e) = NoneForTwo P e
