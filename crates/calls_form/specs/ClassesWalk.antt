-- The walk of kinds, by functions that give a value or nothing.
use Rattle.std.specs.Prelude.{ℕ, ◌-◌, List, [], ◌∷◌, ◌++◌, length, take, drop, slice_set, Bool, true, false, not, ◌&&◌, ◌||◌, ◌==◌, nat_le, nat_lt, Option, Some, None, codes, if◌then◌else◌, bit_and}
use Rattle.std.specs.List.{slice_get}
use Rattle.std.specs.Str.{bytes_eq}
use Rattle.calls_form.specs.declared.object_class.Kind.{Kind}
use Rattle.calls_form.specs.declared.object_class.Kind.TheVariants.{Word, Reference}
use Rattle.calls_form.specs.declared.object_class.Instruction.{Instruction}
use Rattle.calls_form.specs.declared.object_class.Instruction.TheVariants.{Nop, PushNull, PushWord, Load, Store, Pop, Dup, Combine, Negate, GetStatic, PutStatic, GetField, PutField, InvokeVirtual, InvokeSpecial, InvokeObjectInit, InvokeStatic, New, Return}
use Rattle.calls_form.specs.declared.object_class.Placed.{Placed}
use Rattle.calls_form.specs.declared.object_class.Field.{Field}
use Rattle.calls_form.specs.declared.object_class.Method.{Method}
use Rattle.calls_form.specs.declared.object_class.ObjectClass.{ObjectClass}
use Rattle.calls_form.specs.declared.walk_effects.Exchange.{Exchange}
use Rattle.calls_form.specs.declared.walk_steps.WordKinds.{WordKinds}
use Rattle.calls_form.specs.Reading.{◌>>=◌}
use Rattle.calls_form.specs.ClassesTypes.{has_static}
use Rattle.calls_form.specs.Kinds.{Frame, result_kinds, start}

-- two kinds are one
abbrev pub kind_is : Kind → Kind → Bool
kind_is Word Word = true
kind_is Word Reference = false
kind_is Reference Word = false
kind_is Reference Reference = true

unfoldable pub kinds_are : List Kind → List Kind → Bool
kinds_are [] [] = true
kinds_are [] (b ∷ bs) = false
kinds_are (a ∷ as_) [] = false
kinds_are (a ∷ as_) (b ∷ bs) = kind_is a b && kinds_are as_ bs

-- ---- what an instruction names

unfoldable pub static_field : ObjectClass → ℕ → Option Field
static_field class place = slice_get class.fields place >>= λ x. if has_static x.access then Some x else None

unfoldable pub instance_field : ObjectClass → ℕ → Option Field
instance_field class place = slice_get class.fields place >>= λ x. if not (has_static x.access) then Some x else None

abbrev pub has_private : Method → Bool
has_private m = bit_and m.access.0 2 == 2

abbrev pub is_init : Method → Bool
is_init m = bytes_eq m.name (codes "<init>")

-- a method that invokevirtual may name
abbrev pub is_virtual : Method → Bool
is_virtual m = not (has_static m.access) && (not (has_private m) && not (is_init m))

-- a method that invokespecial may name
abbrev pub is_special : Method → Bool
is_special m = not (has_static m.access) && (has_private m || is_init m)

unfoldable pub virtual_method : ObjectClass → ℕ → Option Method
virtual_method class place = slice_get class.methods place >>= λ m. if is_virtual m then Some m else None

unfoldable pub special_method : ObjectClass → ℕ → Option Method
special_method class place = slice_get class.methods place >>= λ m. if is_special m then Some m else None

unfoldable pub static_method : ObjectClass → ℕ → Option Method
static_method class place = slice_get class.methods place >>= λ m. if has_static m.access then Some m else None

-- ---- what it takes and gives

-- an exchange of words, without where it lies in memory
abbrev pub exchange_of : Exchange → List Kind × List Kind
exchange_of x = (x.takes.now, x.gives.now)

abbrev pub kind_words : Kind → List Kind
kind_words kind = kind ∷ []

abbrev pub pair_words : Kind → List Kind
pair_words kind = kind ∷ kind ∷ []

abbrev pub reference_and : Kind → List Kind
reference_and kind = Reference ∷ kind ∷ []

-- a call takes the argument words, and gives the result's
abbrev pub called : Method → Option (List Kind × List Kind)
called m = Some (m.arguments, result_kinds m.result)

-- of an instruction that names a field
unfoldable pub field_effect : ObjectClass → Instruction → Option (List Kind × List Kind)
field_effect class (GetStatic place) = static_field class place >>= λ x. Some ([], kind_words x.kind)
field_effect class (PutStatic place) = static_field class place >>= λ x. Some (kind_words x.kind, [])
field_effect class (GetField place) = instance_field class place >>= λ x. Some (Reference ∷ [], kind_words x.kind)
field_effect class (PutField place) = instance_field class place >>= λ x. Some (reference_and x.kind, [])
field_effect class _ = None

-- of an instruction that names a method
unfoldable pub method_effect : ObjectClass → Instruction → Option (List Kind × List Kind)
method_effect class (InvokeVirtual place) = virtual_method class place >>= called
method_effect class (InvokeSpecial place) = special_method class place >>= called
method_effect class (InvokeStatic place) = static_method class place >>= called
method_effect class InvokeObjectInit = Some (Reference ∷ [], [])
method_effect class _ = None

-- of any instruction that isn't a return, where a word of this kind is on top
unfoldable pub effect_at : ObjectClass → Option Kind → Instruction → Option (List Kind × List Kind)
effect_at class top Nop = Some ([], [])
effect_at class top PushNull = Some ([], Reference ∷ [])
effect_at class top PushWord = Some ([], Word ∷ [])
effect_at class top (Load kind local) = Some ([], kind_words kind)
effect_at class top (Store kind local) = Some (kind_words kind, [])
effect_at class top Pop = top >>= λ kind. Some (kind_words kind, [])
effect_at class top Dup = top >>= λ kind. Some (kind_words kind, pair_words kind)
effect_at class top Combine = Some (Word ∷ Word ∷ [], Word ∷ [])
effect_at class top Negate = Some (Word ∷ [], Word ∷ [])
effect_at class top (GetStatic place) = field_effect class (GetStatic place)
effect_at class top (PutStatic place) = field_effect class (PutStatic place)
effect_at class top (GetField place) = field_effect class (GetField place)
effect_at class top (PutField place) = field_effect class (PutField place)
effect_at class top (InvokeVirtual place) = method_effect class (InvokeVirtual place)
effect_at class top (InvokeSpecial place) = method_effect class (InvokeSpecial place)
effect_at class top InvokeObjectInit = method_effect class InvokeObjectInit
effect_at class top (InvokeStatic place) = method_effect class (InvokeStatic place)
effect_at class top New = Some ([], Reference ∷ [])
effect_at class top (Return result) = None

-- ---- one step

-- the words on the stack end with these
abbrev pub ends_in : List Kind → List Kind → Bool
ends_in stack words = nat_le (length words) (length stack) && kinds_are (drop (length stack - length words) stack) words

-- words that are taken from the top, and words that come in their place
unfoldable pub exchange_at : List Kind × List Kind → List Kind → Option (List Kind)
exchange_at x stack = if ends_in stack x.0 then Some (take (length stack - length x.0) stack ++ x.1) else None

-- a local holds a word of this kind
abbrev pub holds : Kind → Option Kind → Bool
holds kind None = false
holds kind (Some found) = kind_is found kind

unfoldable pub locals_at : Instruction → List (Option Kind) → Option (List (Option Kind))
locals_at (Load kind local) locals = slice_get locals local >>= λ o. if holds kind o then Some locals else None
locals_at (Store kind local) locals = if nat_lt local (length locals) then Some (slice_set locals local (Some kind)) else None
locals_at _ locals = Some locals

-- the frame, as the code keeps it
abbrev pub frame_of : WordKinds → Frame
frame_of f = record { locals = f.locals.items; stack = f.stack.items }

abbrev pub top_of : List Kind → Option Kind
top_of stack = slice_get stack (length stack - 1)

-- the frame behind an instruction that isn't a return
unfoldable pub go_at : ObjectClass → ℕ → Instruction → Frame → Option Frame
go_at class most instruction f = do
  effect ← effect_at class (top_of f.stack) instruction
  stack ← exchange_at effect f.stack
  locals ← locals_at instruction f.locals
  if nat_le (length stack) most then Some (record { locals = locals; stack = stack }) else None

-- ---- the walk

-- the last instruction is the return of a result of the method's kind, which is on top
abbrev pub option_kind_is : Option Kind → Option Kind → Bool
option_kind_is None None = true
option_kind_is None (Some b) = false
option_kind_is (Some a) None = false
option_kind_is (Some a) (Some b) = kind_is a b

abbrev pub returns_kind : Instruction → Option Kind → Bool
returns_kind (Return r) result = option_kind_is r result
returns_kind _ result = false

abbrev pub is_end : Instruction → Option Kind → List Kind → Bool
is_end instruction result stack = returns_kind instruction result && ends_in stack (result_kinds result)

-- the depths of the stacks from this frame on
unfoldable pub depths_from : ObjectClass → Method → Frame → List Placed → Option (List ℕ)
depths_from class m f [] = None
depths_from class m f (last ∷ []) = if is_end last.instruction m.result f.stack then Some (length f.stack ∷ []) else None
depths_from class m f (first ∷ second ∷ others) = do
  next ← go_at class m.max_stack first.instruction f
  depths ← depths_from class m next (second ∷ others)
  Some (length f.stack ∷ depths)

-- the depths of the stack before each instruction of a method
unfoldable pub depths_at : ObjectClass → Method → Option (List ℕ)
depths_at class m = if nat_le (length m.arguments) m.max_locals then depths_from class m (start m) m.code else None
