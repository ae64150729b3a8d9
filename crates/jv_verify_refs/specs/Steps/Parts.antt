-- The parts of a step on references.
use Rattle.std.specs.Prelude.{◌≡◌, ◌≤◌, ℕ, false, ◌⊎◌, ◌==◌, if◌then◌else◌, List, [], ◌∷◌, ◌++◌, length, map, Some}
use Rattle.jv_table.specs.declared.code_tables.Cell.{Cell}
use Rattle.jv_table.specs.declared.code_tables.Cell.TheVariants.{Ref}
use Rattle.jv_table.specs.declared.ops.TheConstants.{INVOKESTATIC, NEW}
use Rattle.jv_types.specs.Bodies.{at_offset}
use Rattle.jv_types.specs.declared.desc.RefType.{RefType}
use Rattle.jv_types.specs.declared.ids.FieldId.{FieldId}
use Rattle.jv_types.specs.declared.references.FieldRef.{FieldRef}
use Rattle.jv_types.specs.declared.references.MethodRef.{MethodRef}
use Rattle.jv_types.specs.declared.instruction.Arg.TheVariants as args
use Rattle.jv_types.specs.declared.instruction.Insn.{Insn}
use Rattle.jv_types.specs.declared.frames.VType.{VType, Class}
use Rattle.jv_types.specs.declared.frames.Frame.{Frame}
use Rattle.jv_types.specs.declared.shapes.MethodShape.{MethodShape}
use Rattle.jv_types.specs.declared.shapes.Shape.{Shape}
use Rattle.jv_resolve.specs.Members.{IsMethod, init_name}
use Rattle.jv_resolve.specs.Resolving.{ResolvesField}
use Rattle.jv_insn.specs.Effects.{shuffle_of, desc_cell, has_object, puts_field}
use Rattle.jv_frames.specs.Types.{ref_vtype, is_uninit_this}
use Rattle.jv_typing.specs.Transitions.{CanPop, AreReplaced}
use Rattle.jv_typing.specs.References.{Site, Goes, HasRuleTyping, IsThisClass, IsPlainName, IsInitialised, IsInitTyping, IsSpecialTyping, IsVirtualTyping, IsGetTyping, IsPutTyping, IsOwnPutTyping, param_types, result_types}
use Rattle.jv_typing.specs.declared.rules.RefRule.{RefRule}
use Rattle.jv_verify_refs.specs.declared.moves.Shuffling.{Shuffling}
use Rattle.jv_verify_refs.specs.declared.step.Step.{Step}

-- the cells that a read or a write of a field takes, and those that a call takes
abbrev pub field_cells : ℕ → FieldRef → List Cell
field_cells op field = (if has_object op then Ref ∷ [] else []) ++ (if puts_field op then desc_cell field.desc ∷ [] else [])

abbrev pub method_cells : ℕ → MethodRef → List Cell
method_cells op method = (if op == INVOKESTATIC then [] else Ref ∷ []) ++ map desc_cell method.desc.params

-- where the instruction of a step stands
abbrev pub site_of : Step → Site
site_of step = record { from = step.from.number; method = step.method; body = step.body.now; pc = step.pc }

-- values that are assignable to these types are popped, and these words stand below them
abbrev pub Pops : List Shape → List Cell → List VType → List VType → List VType → Type 0
Pops w cells wanted stack below = (p : CanPop w cells wanted stack) × (p.takes.below ≡ below)

-- the frame with another stack, which has at most so many words
pub record IsWithStack (max_stack : ℕ) (words : List VType) (frame after : Frame) : Type 0 where
  pub stack : after.stack ≡ words
  pub room : length after.stack ≤ max_stack
  pub locals : after.locals ≡ frame.locals
  pub flag : after.this_uninit ≡ frame.this_uninit

-- the instruction of a step pops values of these types and pushes values of the others
abbrev pub StepGoes : Step → List VType → List VType → Frame → Type 0
StepGoes step wanted given after = Goes step.world.now (site_of step) step.frame.now step.insn.now wanted given after

-- a frame is what a rule gives for a step, or a rule gives none
abbrev pub HasTyping : Step → RefRule → Frame → Type 0
HasTyping step rule after = HasRuleTyping step.world.now (site_of step) step.frame.now step.insn.now after rule

abbrev pub HasNoTyping : Step → RefRule → Type 0
HasNoTyping step rule = (after : Frame) → HasTyping step rule after → ⊥

-- what an instruction moves
abbrev pub IsShuffleOf : ℕ → Shuffling → Type 0
IsShuffleOf op moved = shuffle_of op ≡ Some (record { count = moved.count; order = moved.order.now })

-- ---- members

abbrev pub GetsField : Step → FieldRef → Frame → Type 0
GetsField step field after = IsGetTyping step.world.now (site_of step) step.frame.now step.insn.now field after

abbrev pub PutsField : Step → FieldRef → Frame → Type 0
PutsField step field after = IsPutTyping step.world.now (site_of step) step.frame.now step.insn.now field after

abbrev pub PutsOwnField : Step → FieldRef → Frame → Type 0
PutsOwnField step field after = IsOwnPutTyping step.world.now (site_of step) step.frame.now step.insn.now field after

-- the field resolves to one that the current class declares itself
abbrev pub IsOwnField : Step → FieldRef → Type 0
IsOwnField step field = (declared : FieldId) × ResolvesField step.world.now field declared × (declared.class.number ≡ step.from.number)

-- the method is a constructor
abbrev pub IsConstructor : Step → Type 0
IsConstructor step = (shape : MethodShape) × IsMethod step.world.now step.method shape × (shape.name ≡ init_name)

-- a call pops the arguments, and before them a receiver of this type, and pushes the result
abbrev pub CallsOn : Step → VType → MethodRef → Frame → Type 0
CallsOn step receiver method after = StepGoes step (receiver ∷ param_types method.desc) (result_types method.desc.result) after

abbrev pub CallsStatic : Step → MethodRef → Frame → Type 0
CallsStatic step method after = IsPlainName method.name × StepGoes step (param_types method.desc) (result_types method.desc.result) after

abbrev pub CallsInterface : Step → MethodRef → Frame → Type 0
CallsInterface step method after = IsPlainName method.name × CallsOn step (ref_vtype method.class) method after

abbrev pub CallsVirtual : Step → MethodRef → Frame → Type 0
CallsVirtual step method after = IsVirtualTyping step.world.now (site_of step) step.frame.now step.insn.now method after

abbrev pub CallsSpecial : Step → MethodRef → Frame → Type 0
CallsSpecial step method after = IsSpecialTyping step.world.now (site_of step) step.frame.now step.insn.now method after

abbrev pub CallsConstructor : Step → MethodRef → Frame → Type 0
CallsConstructor step method after = IsInitTyping step.world.now (site_of step) step.frame.now step.insn.now method after

abbrev pub CallsEither : Step → MethodRef → Frame → Type 0
CallsEither step method after = ((method.name ≡ init_name) × CallsConstructor step method after) ⊎ CallsSpecial step method after

-- ---- constructors

-- the class of this name is the current one or its superclass
abbrev pub IsOfThis : Step → List ℕ → Type 0
IsOfThis step name = (current : Shape) × IsThisClass step.world.now (site_of step) current × ((current.name ≡ name) ⊎ (current.parent ≡ Some name))

-- the instruction at an offset is a `new` of this type
abbrev pub IsMadeAt : Step → ℕ → RefType → Type 0
IsMadeAt step pc class = (insn : Insn) × (at_offset pc step.body.now.insns ≡ Some insn) × (insn.op ≡ NEW) × (insn.arg ≡ args.Class class)

-- what a constructor of a class of this name makes of the receiver of the current method
abbrev pub IsThisMade : Step → List ℕ → VType → Type 0
IsThisMade step name made =
    (current : Shape) × IsThisClass step.world.now (site_of step) current × ((current.name ≡ name) ⊎ (current.parent ≡ Some name)) × (made ≡ Class current.name)

-- what a constructor makes of the type of its receiver
abbrev pub Initialises : Step → RefType → VType → VType → Type 0
Initialises step class before made = IsInitialised step.world.now (site_of step) class before made

-- the frame with another type in place of one, of which these words are left on the stack
pub record AreInitialised (step : Step) (before made : VType) (below : List VType) (after : Frame) : Type 0 where
  pub stack : AreReplaced before made below after.stack
  pub locals : AreReplaced before made step.frame.now.locals after.locals
  pub room : length after.stack ≤ step.body.now.max_stack
  pub flag : after.this_uninit ≡ (if is_uninit_this before then false else step.frame.now.this_uninit)
