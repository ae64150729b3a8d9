-- How facts name the methods, fields, objects and words of one class.
use Rattle.std.specs.Prelude.{ℕ, List, [], Option, Some, None}
use Rattle.std.specs.List.{slice_get}
use Rattle.jv_types.specs.declared.ids.FieldId.{FieldId}
use Rattle.jv_types.specs.declared.ids.MethodId.{MethodId}
use Rattle.jv_types.specs.declared.label.Label.{Label}
use Rattle.jv_types.specs.declared.label.Label.TheVariants as label
use Rattle.jv_types.specs.declared.place.Place.{Place}
use Rattle.jv_types.specs.declared.place.Place.TheVariants as place
use Rattle.calls_form.specs.declared.object_class.Placed.{Placed}
use Rattle.calls_form.specs.declared.object_class.Method.{Method}
use Rattle.calls_form.specs.declared.object_class.ObjectClass.{ObjectClass}

-- the class itself has the number 0, and java/lang/Object 1
abbrev pub own : ℕ → MethodId
own place = record { class = record { number = 0 }; index = place }

abbrev pub own_field : ℕ → FieldId
own_field place = record { class = record { number = 0 }; index = place }

-- the constructor of java/lang/Object, which is the one method of it that is called
abbrev pub object_init : MethodId
object_init = record { class = record { number = 1 }; index = 0 }

-- the objects that the instruction `new` at an offset of a method makes
abbrev pub new_at : ℕ → ℕ → Label
new_at method pc = label.Site (own method) pc 0

-- a word of a method: one of its locals, or a word of its stack from the bottom
pub data Slot : Type 0 where
  InLocal : (word : ℕ) → Slot
  OnStack : (word : ℕ) → Slot

-- a word of a method before its instruction at an offset
abbrev pub slot_place : ℕ → ℕ → Slot → Place
slot_place method pc (InLocal word) = place.Local (own method) pc word
slot_place method pc (OnStack word) = place.Stack (own method) pc word

abbrev pub code_of : Option Method → List Placed
code_of None = []
code_of (Some m) = m.code

-- the code of the method at a place, and no instruction where there is none
abbrev pub code_at : ObjectClass → ℕ → List Placed
code_at class method = code_of (slice_get class.methods method)

abbrev pub pc_of : Option Placed → ℕ
pc_of None = 0
pc_of (Some p) = p.pc

-- the offset of the instruction at an index of the code of the method at a place, and 0 past its end
abbrev pub pc_at : ObjectClass → ℕ → ℕ → ℕ
pc_at class method index = pc_of (slice_get (code_at class method) index)
