-- What an instruction may name, takes and gives, and the walk of kinds: which kind each local and each
-- word of the stack has before each instruction of a method (JVMS 4.9.2, 4.10).
use Rattle.std.specs.Prelude.{◌≡◌, ◌≢◌, ℕ, suc, ◌-◌, ◌<◌, ◌≤◌, ◌⊎◌, List, [], ◌∷◌, ◌++◌, length, map, replicate, slice_set, Option, Some, None, codes}
use Rattle.std.specs.List.{slice_get}
use Rattle.calls_form.specs.declared.object_class.Kind.{Kind}
use Rattle.calls_form.specs.declared.object_class.Kind.TheVariants.{Word, Reference}
use Rattle.calls_form.specs.declared.object_class.Instruction.{Instruction}
use Rattle.calls_form.specs.declared.object_class.Instruction.TheVariants.{Nop, PushNull, PushWord, Load, Store, Pop, Dup, Combine, Negate, GetStatic, PutStatic, GetField, PutField, InvokeVirtual, InvokeSpecial, InvokeObjectInit, InvokeStatic, New, Return}
use Rattle.calls_form.specs.declared.object_class.Placed.{Placed}
use Rattle.calls_form.specs.declared.object_class.Field.{Field}
use Rattle.calls_form.specs.declared.object_class.Method.{Method}
use Rattle.calls_form.specs.declared.object_class.ObjectClass.{ObjectClass}
use Rattle.calls_form.specs.Flags.{IsStatic, IsPrivate}

-- the kinds of the words that a result takes
abbrev pub result_kinds : Option Kind → List Kind
result_kinds None = []
result_kinds (Some kind) = kind ∷ []

-- a static field stands at this place
abbrev pub IsStaticField : ObjectClass → ℕ → Field → Type 0
IsStaticField class place x = (slice_get class.fields place ≡ Some x) × IsStatic x.access

-- a field that isn't static stands at this place
abbrev pub IsInstanceField : ObjectClass → ℕ → Field → Type 0
IsInstanceField class place x = (slice_get class.fields place ≡ Some x) × ¬ IsStatic x.access

-- a method that invokevirtual may name stands at this place: an instance method that is neither private nor a constructor
abbrev pub IsVirtualMethod : ObjectClass → ℕ → Method → Type 0
IsVirtualMethod class place m =
    (slice_get class.methods place ≡ Some m) × (¬ IsStatic m.access) × (¬ IsPrivate m.access) × (m.name ≢ codes "<init>")

-- a method that invokespecial may name stands at this place: a private instance method, or a constructor
abbrev pub IsSpecialMethod : ObjectClass → ℕ → Method → Type 0
IsSpecialMethod class place m =
    (slice_get class.methods place ≡ Some m) × (¬ IsStatic m.access) × (IsPrivate m.access ⊎ (m.name ≡ codes "<init>"))

-- a static method stands at this place
abbrev pub IsStaticMethod : ObjectClass → ℕ → Method → Type 0
IsStaticMethod class place m = (slice_get class.methods place ≡ Some m) × IsStatic m.access

-- the instruction takes words of these kinds from the stack and gives it words of those kinds, the last
-- one on top, and what it names is there (JVMS 6.5). A return leads to no other instruction
abbrev pub Effect : ObjectClass → Instruction → List Kind → List Kind → Type 0
Effect class Nop takes gives = (takes ≡ []) × (gives ≡ [])
Effect class PushNull takes gives = (takes ≡ []) × (gives ≡ Reference ∷ [])
Effect class PushWord takes gives = (takes ≡ []) × (gives ≡ Word ∷ [])
Effect class (Load kind local) takes gives = (takes ≡ []) × (gives ≡ kind ∷ [])
Effect class (Store kind local) takes gives = (takes ≡ kind ∷ []) × (gives ≡ [])
Effect class Pop takes gives = (kind : Kind) × (takes ≡ kind ∷ []) × (gives ≡ [])
Effect class Dup takes gives = (kind : Kind) × (takes ≡ kind ∷ []) × (gives ≡ kind ∷ kind ∷ [])
Effect class Combine takes gives = (takes ≡ Word ∷ Word ∷ []) × (gives ≡ Word ∷ [])
Effect class Negate takes gives = (takes ≡ Word ∷ []) × (gives ≡ Word ∷ [])
Effect class (GetStatic place) takes gives = (x : Field) × IsStaticField class place x × (takes ≡ []) × (gives ≡ x.kind ∷ [])
Effect class (PutStatic place) takes gives = (x : Field) × IsStaticField class place x × (takes ≡ x.kind ∷ []) × (gives ≡ [])
Effect class (GetField place) takes gives = (x : Field) × IsInstanceField class place x × (takes ≡ Reference ∷ []) × (gives ≡ x.kind ∷ [])
Effect class (PutField place) takes gives = (x : Field) × IsInstanceField class place x × (takes ≡ Reference ∷ x.kind ∷ []) × (gives ≡ [])
Effect class (InvokeVirtual place) takes gives = (m : Method) × IsVirtualMethod class place m × (takes ≡ m.arguments) × (gives ≡ result_kinds m.result)
Effect class (InvokeSpecial place) takes gives = (m : Method) × IsSpecialMethod class place m × (takes ≡ m.arguments) × (gives ≡ result_kinds m.result)
Effect class InvokeObjectInit takes gives = (takes ≡ Reference ∷ []) × (gives ≡ [])
Effect class (InvokeStatic place) takes gives = (m : Method) × IsStaticMethod class place m × (takes ≡ m.arguments) × (gives ≡ result_kinds m.result)
Effect class New takes gives = (takes ≡ []) × (gives ≡ Reference ∷ [])
Effect class (Return result) takes gives = ⊥

-- what is known of a method's words: each local's kind, none where it is unset, and the kinds of the
-- words on the stack from its bottom
pub record Frame : Type 0 where
  pub locals : List (Option Kind)
  pub stack : List Kind

-- a load finds its kind in its local, a store leaves its kind there, and no other instruction looks at locals
abbrev pub Locals : Instruction → List (Option Kind) → List (Option Kind) → Type 0
Locals (Load kind local) before after = (slice_get before local ≡ Some (Some kind)) × (after ≡ before)
Locals (Store kind local) before after = (local < length before) × (after ≡ slice_set before local (Some kind))
Locals _ before after = after ≡ before

-- the instruction finds the words that it takes on top of the stack, and leaves those that it gives in their place
pub record Goes (class : ObjectClass) (instruction : Instruction) (before after : Frame) : Type 0 where
  pub takes : List Kind
  pub gives : List Kind
  pub rest : List Kind
  pub effect : Effect class instruction takes gives
  pub found : before.stack ≡ rest ++ takes
  pub left : after.stack ≡ rest ++ gives
  pub locals : Locals instruction before.locals after.locals

-- as a method is entered its arguments are its first locals, the others are unset, and the stack is empty (JVMS 2.6)
abbrev pub start : Method → Frame
start m = record {
  locals = map (λ kind. Some kind) m.arguments ++ replicate (m.max_locals - length m.arguments) None;
  stack = [];
}

-- the walk of kinds of a method: a frame before each of its instructions. The first is that of the
-- start, each instruction that isn't the last leads from its frame to the next one, and the last is the
-- return of a result of the method's kind, which stands on top of its stack
pub record IsWalk (class : ObjectClass) (m : Method) (frames : List Frame) : Type 0 where
  pub as_many : length frames ≡ length m.code
  pub arguments_fit : length m.arguments ≤ m.max_locals
  pub starts : slice_get frames 0 ≡ Some (start m)
  pub goes : (i : ℕ) (p : Placed) (f g : Frame) → slice_get m.code i ≡ Some p → slice_get frames i ≡ Some f
      → slice_get frames (suc i) ≡ Some g → Goes class p.instruction f g
  pub ends : (i : ℕ) (p : Placed) (f : Frame) → slice_get m.code i ≡ Some p → slice_get frames i ≡ Some f
      → suc i ≡ length m.code → (p.instruction ≡ Return m.result) × ((rest : List Kind) × (f.stack ≡ rest ++ result_kinds m.result))
  pub within : (i : ℕ) (f : Frame) → slice_get frames i ≡ Some f → length f.stack ≤ m.max_stack

-- no two fields share name and descriptor (JVMS 4.5)
abbrev pub FieldsDiffer : List Field → Type 0
FieldsDiffer fields = (i j : ℕ) (a b : Field) → slice_get fields i ≡ Some a → slice_get fields j ≡ Some b
    → a.name ≡ b.name → a.desc ≡ b.desc → i ≡ j

-- no two methods share name and descriptor (JVMS 4.6)
abbrev pub MethodsDiffer : List Method → Type 0
MethodsDiffer methods = (i j : ℕ) (a b : Method) → slice_get methods i ≡ Some a → slice_get methods j ≡ Some b
    → a.name ≡ b.name → a.desc ≡ b.desc → i ≡ j

-- what is asked of a class whose lists are known: its members differ, and each method has its walk of kinds
pub record IsKindSafe (class : ObjectClass) : Type 0 where
  pub fields : FieldsDiffer class.fields
  pub methods : MethodsDiffer class.methods
  pub walks : (i : ℕ) (m : Method) → slice_get class.methods i ≡ Some m → (frames : List Frame) × IsWalk class m frames
