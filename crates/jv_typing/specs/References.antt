-- The typing of the instructions that work on references: the frame after one of them, where the one before
-- lets it run (JVMS 4.10.1.9). Each case names its part of that section.
use Rattle.std.specs.Prelude.{◌≡◌, ◌≢◌, ◌≤◌, ℕ, Bool, false, ◌⊎◌, IsTrue, if◌then◌else◌, List, [], ◌∷◌, ◌++◌, length, map, replicate, Option, None, Some, Contains, slice_get, codes}
use Rattle.std.specs.Ordering.{nat_cmp}
use Rattle.jv_table.specs.Rows.{row_of}
use Rattle.jv_table.specs.declared.ops.TheConstants.{NEW}
use Rattle.jv_table.specs.declared.code_tables.Cell.{Cell}
use Rattle.jv_types.specs.Bodies.{at_offset}
use Rattle.jv_types.specs.declared.access.Access.{Access}
use Rattle.jv_types.specs.declared.desc.PrimType.{PrimType}
use Rattle.jv_types.specs.declared.desc.PrimType.TheVariants as prims
use Rattle.jv_types.specs.declared.desc.RefType.{RefType}
use Rattle.jv_types.specs.declared.desc.RefType as refs
use Rattle.jv_types.specs.declared.desc.Desc.{Desc}
use Rattle.jv_types.specs.declared.desc.Desc.TheVariants as descs
use Rattle.jv_types.specs.declared.desc.MethodDesc.{MethodDesc}
use Rattle.jv_types.specs.declared.ids.FieldId.{FieldId}
use Rattle.jv_types.specs.declared.ids.MethodId.{MethodId}
use Rattle.jv_types.specs.declared.references.FieldRef.{FieldRef}
use Rattle.jv_types.specs.declared.references.MethodRef.{MethodRef}
use Rattle.jv_types.specs.declared.shapes.FieldShape.{FieldShape}
use Rattle.jv_types.specs.declared.shapes.MethodShape.{MethodShape}
use Rattle.jv_types.specs.declared.shapes.Shape.{Shape}
use Rattle.jv_types.specs.declared.instruction.Const.{Const}
use Rattle.jv_types.specs.declared.instruction.Const.TheVariants as consts
use Rattle.jv_types.specs.declared.instruction.Arg.{Arg}
use Rattle.jv_types.specs.declared.instruction.Arg.TheVariants as args
use Rattle.jv_types.specs.declared.instruction.Insn.{Insn}
use Rattle.jv_types.specs.declared.body.Body.{Body}
use Rattle.jv_types.specs.declared.frames.VType.{VType, Top, Integer, Float, Null, UninitThis, Uninit, Class, PrimArray, Array}
use Rattle.jv_types.specs.declared.frames.Frame.{Frame}
use Rattle.jv_world.specs.Worlds.{object_name, IsSubclass}
use Rattle.jv_resolve.specs.Members.{IsProtected, IsMethod, IsField, init_name}
use Rattle.jv_resolve.specs.Packages.{AreInOnePackage}
use Rattle.jv_resolve.specs.Resolving.{ResolvesField, ResolvesMethod}
use Rattle.jv_insn.specs.Effects.{effect_of, local_of}
use Rattle.jv_insn.specs.Kinds.{is_reference}
use Rattle.jv_frames.specs.Types.{is_array, is_uninit_this, in_words, ref_vtype, desc_vtype}
use Rattle.jv_frames.specs.Assignable.{IsAssignable}
use Rattle.jv_typing.specs.declared.rules.RefRule.{RefRule}
use Rattle.jv_typing.specs.declared.rules.RefRule.TheVariants as rules
use Rattle.jv_typing.specs.Rules.{ref_rules}
use Rattle.jv_typing.specs.Typing.{AreStored, IsMoveTyping}
use Rattle.jv_typing.specs.Transitions.{CanPop, IsTransition, AreReplaced, StandsBelow}

-- ---- where an instruction stands

-- the class whose code it is, by its number, the method, its code, and the offset of the instruction
pub record Site : Type 0 where
  pub from : ℕ
  pub method : MethodId
  pub body : Body
  pub pc : ℕ

-- an instruction pops values that are assignable to these types, and pushes values of the others
abbrev pub Goes : List Shape → Site → Frame → Insn → List VType → List VType → Frame → Type 0
Goes w site frame insn wanted given after = IsTransition w site.body.max_stack (effect_of insn).takes wanted given frame after

-- the current class
abbrev pub IsThisClass : List Shape → Site → Shape → Type 0
IsThisClass w site class = slice_get w site.from ≡ Some class

-- the type of Object, and those of three other classes
abbrev pub object_type : VType
object_type = Class object_name

abbrev pub string_type : VType
string_type = Class (codes "java/lang/String")

abbrev pub class_type : VType
class_type = Class (codes "java/lang/Class")

abbrev pub throwable_type : VType
throwable_type = Class (codes "java/lang/Throwable")

-- the types of a method's parameters, and that of its result, where it has one
abbrev pub param_types : MethodDesc → List VType
param_types desc = map desc_vtype desc.params

abbrev pub result_types : Option Desc → List VType
result_types None = []
result_types (Some desc) = desc_vtype desc ∷ []

-- ---- constants and arrays

-- the type of a constant that ldc and ldc_w load. Method handles and method types have none here.
abbrev pub const_type : Const → Option VType
const_type (consts.Int value) = Some Integer
const_type (consts.Float bits) = Some Float
const_type consts.Text = Some string_type
const_type (consts.Class type) = Some class_type
const_type _ = None

-- what aaload loads: of null null, and of an array of references one of its items
abbrev pub LoadsItem : VType → VType → Type 0
LoadsItem array item = ((array ≡ Null) × (item ≡ Null)) ⊎ (array ≡ Array item)

-- ---- members

-- The receiver of a protected member is restricted where a superclass of the current class declares the member
-- and is in another package (JVMS 4.10.1.8).
pub record IsRestricted (w : List Shape) (site : Site) (declarer : ℕ) (flags : Access) : Type 0 where
  pub is_protected : IsProtected flags
  pub above : IsSubclass w site.from declarer
  pub apart : AreInOnePackage w site.from declarer → ⊥

-- such a receiver is assignable to the current class, but an array passes for `clone`
abbrev pub PassesProtected : List Shape → Site → ℕ → Access → List ℕ → VType → Type 0
PassesProtected w site declarer flags name receiver =
    IsRestricted w site declarer flags
    → (IsTrue (is_array receiver) × (name ≡ codes "clone")) ⊎ ((class : Shape) × IsThisClass w site class × IsAssignable w receiver (Class class.name))

-- the receiver passes the check for the field that a reference resolves to, or for the method
abbrev pub PassesForField : List Shape → Site → FieldRef → VType → Type 0
PassesForField w site r receiver =
    (f : FieldId) (x : FieldShape) → ResolvesField w r f → IsField w f x → PassesProtected w site f.class.number x.flags [] receiver

abbrev pub PassesForMethod : List Shape → Site → MethodRef → VType → Type 0
PassesForMethod w site r receiver =
    (m : MethodId) (x : MethodShape) → ResolvesMethod w r m → IsMethod w m x → PassesProtected w site m.class.number x.flags r.name receiver

-- ---- calls

-- neither a constructor nor a class initialiser
pub record IsPlainName (name : List ℕ) : Type 0 where
  pub no_constructor : name ≢ init_name
  pub no_initialiser : name ≢ codes "<clinit>"

-- What a constructor makes of the type of its receiver. The receiver of the current method gets the type of the
-- current class, by a constructor of this class or of its superclass; what a `new` made gets the type that this
-- `new` names, by a constructor of that class (JVMS 4.10.1.9, rewrittenUninitializedType).
pub data IsInitialised (w : List Shape) (site : Site) (class : RefType) : VType → VType → Type 0 where
  this : (before after : VType) (current : Shape) (name : List ℕ) → before ≡ UninitThis → IsThisClass w site current → class ≡ refs.Class name
      → (current.name ≡ name) ⊎ (current.parent ≡ Some name) → after ≡ Class current.name → IsInitialised w site class before after
  made : (before after : VType) (pc : ℕ) (insn : Insn) (name : List ℕ) → before ≡ Uninit pc → at_offset pc site.body.insns ≡ Some insn → insn.op ≡ NEW → insn.arg ≡ args.Class class
      → class ≡ refs.Class name → after ≡ Class name → IsInitialised w site class before after

-- A call of a constructor: the arguments and what isn't initialised are popped, and its type is replaced in the
-- local variables and on the stack. The flag is clear afterwards where it is the receiver of the current method
-- (JVMS 4.10.1.9.invokespecial).
pub record IsInitTyping (w : List Shape) (site : Site) (frame : Frame) (insn : Insn) (method : MethodRef) (after : Frame) : Type 0 where
  pub no_result : method.desc.result ≡ None
  pub before : VType
  pub made : VType
  pub initialised : IsInitialised w site method.class before made
  pub pops : CanPop w (effect_of insn).takes (before ∷ param_types method.desc) frame.stack
  pub stack : AreReplaced before made pops.takes.below after.stack
  pub locals : AreReplaced before made frame.locals after.locals
  pub room : length after.stack ≤ site.body.max_stack
  pub flag : after.this_uninit ≡ (if is_uninit_this before then false else frame.this_uninit)

-- Any other invokespecial: the receiver is one for the current class and for the class that the method is
-- looked for in, which the current class is assignable to (JVMS 4.10.1.9.invokespecial).
pub record IsSpecialTyping (w : List Shape) (site : Site) (frame : Frame) (insn : Insn) (method : MethodRef) (after : Frame) : Type 0 where
  pub plain : IsPlainName method.name
  pub current : Shape
  pub this_class : IsThisClass w site current
  pub of_class : IsAssignable w (Class current.name) (ref_vtype method.class)
  pub of_this : CanPop w (effect_of insn).takes (Class current.name ∷ param_types method.desc) frame.stack
  pub goes : Goes w site frame insn (ref_vtype method.class ∷ param_types method.desc) (result_types method.desc.result) after

-- invokevirtual (JVMS 4.10.1.9.invokevirtual)
pub record IsVirtualTyping (w : List Shape) (site : Site) (frame : Frame) (insn : Insn) (method : MethodRef) (after : Frame) : Type 0 where
  pub plain : IsPlainName method.name
  pub receiver : VType
  pub stands : StandsBelow (length (in_words (param_types method.desc))) frame.stack receiver
  pub passes : PassesForMethod w site method receiver
  pub goes : Goes w site frame insn (ref_vtype method.class ∷ param_types method.desc) (result_types method.desc.result) after

-- ---- fields

-- getfield (JVMS 4.10.1.9.getfield)
pub record IsGetTyping (w : List Shape) (site : Site) (frame : Frame) (insn : Insn) (field : FieldRef) (after : Frame) : Type 0 where
  pub receiver : VType
  pub stands : StandsBelow 0 frame.stack receiver
  pub passes : PassesForField w site field receiver
  pub goes : Goes w site frame insn (Class field.class ∷ []) (desc_vtype field.desc ∷ []) after

-- putfield on an object that is initialised
pub record IsPutTyping (w : List Shape) (site : Site) (frame : Frame) (insn : Insn) (field : FieldRef) (after : Frame) : Type 0 where
  pub receiver : VType
  pub stands : StandsBelow (length (in_words (desc_vtype field.desc ∷ []))) frame.stack receiver
  pub passes : PassesForField w site field receiver
  pub goes : Goes w site frame insn (Class field.class ∷ desc_vtype field.desc ∷ []) [] after

-- putfield in a constructor on the receiver that isn't initialised yet: of a field that the current class
-- declares itself. A JVM may want the reference to name the current class too; here what it resolves to decides.
pub record IsOwnPutTyping (w : List Shape) (site : Site) (frame : Frame) (insn : Insn) (field : FieldRef) (after : Frame) : Type 0 where
  pub shape : MethodShape
  pub method : IsMethod w site.method shape
  pub constructor : shape.name ≡ init_name
  pub declared : FieldId
  pub resolves : ResolvesField w field declared
  pub own : declared.class.number ≡ site.from
  pub goes : Goes w site frame insn (UninitThis ∷ desc_vtype field.desc ∷ []) [] after

-- ---- objects

-- new: no object of this `new` that isn't initialised is on the stack, and none stays in the local variables
-- (JVMS 4.10.1.9.new)
pub record IsNewTyping (w : List Shape) (site : Site) (frame : Frame) (after : Frame) : Type 0 where
  pub fresh : Contains frame.stack (Uninit site.pc) → ⊥
  pub stack : after.stack ≡ frame.stack ++ Uninit site.pc ∷ []
  pub room : length after.stack ≤ site.body.max_stack
  pub locals : AreReplaced (Uninit site.pc) Top frame.locals after.locals
  pub flag : after.this_uninit ≡ frame.this_uninit

-- aaload (JVMS 4.10.1.9.aaload)
pub record IsLoadRefTyping (site : Site) (frame : Frame) (after : Frame) : Type 0 where
  pub array : VType
  pub item : VType
  pub loads : LoadsItem array item
  pub below : List VType
  pub whole : frame.stack ≡ below ++ array ∷ Integer ∷ []
  pub stack : after.stack ≡ below ++ item ∷ []
  pub room : length after.stack ≤ site.body.max_stack
  pub locals : after.locals ≡ frame.locals
  pub flag : after.this_uninit ≡ frame.this_uninit

-- aload: the local variable holds a reference, initialised or not (JVMS 4.10.1.9.aload)
pub record IsLoadTyping (site : Site) (frame : Frame) (insn : Insn) (after : Frame) : Type 0 where
  pub type : VType
  pub stands : slice_get frame.locals (local_of insn.op insn.arg) ≡ Some type
  pub reference : IsTrue (is_reference type)
  pub stack : after.stack ≡ frame.stack ++ type ∷ []
  pub room : length after.stack ≤ site.body.max_stack
  pub locals : after.locals ≡ frame.locals
  pub flag : after.this_uninit ≡ frame.this_uninit

-- astore: the reference at the top of the stack, initialised or not, in the local variable (JVMS
-- 4.10.1.9.astore)
pub record IsStoreTyping (w : List Shape) (site : Site) (frame : Frame) (insn : Insn) (after : Frame) : Type 0 where
  pub pops : CanPop w (effect_of insn).takes (Top ∷ []) frame.stack
  pub stack : after.stack ≡ pops.takes.below
  pub room : length after.stack ≤ site.body.max_stack
  pub locals : AreStored (local_of insn.op insn.arg) pops.takes.top frame.locals after.locals
  pub flag : after.this_uninit ≡ frame.this_uninit

-- ---- the rules

-- a return of a value: the method has a result, of which the value is (JVMS 4.10.1.9.ireturn to areturn)
pub record IsReturnTyping (w : List Shape) (site : Site) (frame : Frame) (insn : Insn) (after : Frame) : Type 0 where
  pub shape : MethodShape
  pub method : IsMethod w site.method shape
  pub type : Desc
  pub result : shape.desc.result ≡ Some type
  pub goes : Goes w site frame insn (desc_vtype type ∷ []) [] after

-- return: the method has no result, and the receiver is initialised (JVMS 4.10.1.9.return)
pub record IsVoidTyping (w : List Shape) (site : Site) (frame : Frame) (insn : Insn) (after : Frame) : Type 0 where
  pub shape : MethodShape
  pub method : IsMethod w site.method shape
  pub no_result : shape.desc.result ≡ None
  pub initialised : frame.this_uninit ≡ false
  pub goes : Goes w site frame insn [] [] after

-- a load from an array of these primitives, and a store to one
abbrev pub LoadsPrim : List Shape → Site → Frame → Insn → Frame → PrimType → Type 0
LoadsPrim w site frame insn after prim = Goes w site frame insn (PrimArray prim ∷ Integer ∷ []) (desc_vtype (descs.Prim prim) ∷ []) after

abbrev pub StoresPrim : List Shape → Site → Frame → Insn → Frame → PrimType → Type 0
StoresPrim w site frame insn after prim = Goes w site frame insn (PrimArray prim ∷ Integer ∷ desc_vtype (descs.Prim prim) ∷ []) [] after

-- the frame after an instruction by its rule
abbrev pub HasRuleTyping : List Shape → Site → Frame → Insn → Frame → RefRule → Type 0
-- aconst_null
HasRuleTyping w site frame insn after rules.PushNull = Goes w site frame insn [] (Null ∷ []) after
-- ldc, ldc_w
HasRuleTyping w site frame insn after rules.PushConstant =
    (const : Const) × (type : VType) × (insn.arg ≡ args.Constant const) × (const_type const ≡ Some type) × Goes w site frame insn [] (type ∷ []) after
HasRuleTyping w site frame insn after rules.Load = IsLoadTyping site frame insn after
HasRuleTyping w site frame insn after rules.Store = IsStoreTyping w site frame insn after
-- iaload, laload, faload, daload, caload, saload
HasRuleTyping w site frame insn after (rules.LoadItem prim) = LoadsPrim w site frame insn after prim
-- baload
HasRuleTyping w site frame insn after rules.LoadSmall = LoadsPrim w site frame insn after prims.Byte ⊎ LoadsPrim w site frame insn after prims.Boolean
HasRuleTyping w site frame insn after rules.LoadRef = IsLoadRefTyping site frame after
-- iastore, lastore, fastore, dastore, castore, sastore
HasRuleTyping w site frame insn after (rules.StoreItem prim) = StoresPrim w site frame insn after prim
-- bastore
HasRuleTyping w site frame insn after rules.StoreSmall = StoresPrim w site frame insn after prims.Byte ⊎ StoresPrim w site frame insn after prims.Boolean
-- aastore
HasRuleTyping w site frame insn after rules.StoreRef = Goes w site frame insn (Array object_type ∷ Integer ∷ object_type ∷ []) [] after
-- pop to swap
HasRuleTyping w site frame insn after rules.Move = IsMoveTyping site.body.max_stack frame insn after
-- if_acmpeq, if_acmpne, ifnull, ifnonnull, monitorenter, monitorexit
HasRuleTyping w site frame insn after rules.TakeRefs = Goes w site frame insn (map (λ (cell : Cell). Top) (effect_of insn).takes) [] after
HasRuleTyping w site frame insn after rules.ReturnValue = IsReturnTyping w site frame insn after
HasRuleTyping w site frame insn after rules.ReturnVoid = IsVoidTyping w site frame insn after
-- getstatic
HasRuleTyping w site frame insn after rules.GetStatic = (field : FieldRef) × (insn.arg ≡ args.Field field) × Goes w site frame insn [] (desc_vtype field.desc ∷ []) after
-- putstatic
HasRuleTyping w site frame insn after rules.PutStatic = (field : FieldRef) × (insn.arg ≡ args.Field field) × Goes w site frame insn (desc_vtype field.desc ∷ []) [] after
HasRuleTyping w site frame insn after rules.GetField = (field : FieldRef) × (insn.arg ≡ args.Field field) × IsGetTyping w site frame insn field after
-- putfield
HasRuleTyping w site frame insn after rules.PutField =
    (field : FieldRef) × (insn.arg ≡ args.Field field) × (IsPutTyping w site frame insn field after ⊎ IsOwnPutTyping w site frame insn field after)
HasRuleTyping w site frame insn after rules.InvokeVirtual = (method : MethodRef) × (insn.arg ≡ args.Method method) × IsVirtualTyping w site frame insn method after
-- invokespecial
HasRuleTyping w site frame insn after rules.InvokeSpecial =
    (method : MethodRef) × (insn.arg ≡ args.Method method)
    × (((method.name ≡ init_name) × IsInitTyping w site frame insn method after) ⊎ IsSpecialTyping w site frame insn method after)
-- invokestatic
HasRuleTyping w site frame insn after rules.InvokeStatic =
    (method : MethodRef) × (insn.arg ≡ args.Method method) × IsPlainName method.name
    × Goes w site frame insn (param_types method.desc) (result_types method.desc.result) after
-- invokeinterface
HasRuleTyping w site frame insn after rules.InvokeInterface =
    (method : MethodRef) × (insn.arg ≡ args.Method method) × IsPlainName method.name
    × Goes w site frame insn (ref_vtype method.class ∷ param_types method.desc) (result_types method.desc.result) after
HasRuleTyping w site frame insn after rules.New = (name : List ℕ) × (insn.arg ≡ args.Class (refs.Class name)) × IsNewTyping w site frame after
-- newarray
HasRuleTyping w site frame insn after rules.NewArray = (prim : PrimType) × (insn.arg ≡ args.NewPrim prim) × Goes w site frame insn (Integer ∷ []) (PrimArray prim ∷ []) after
-- anewarray
HasRuleTyping w site frame insn after rules.NewRefArray =
    (type : RefType) × (insn.arg ≡ args.Class type) × Goes w site frame insn (Integer ∷ []) (Array (ref_vtype type) ∷ []) after
-- arraylength: of an array of any type
HasRuleTyping w site frame insn after rules.ArrayLength = (array : VType) × IsTrue (is_array array) × Goes w site frame insn (array ∷ []) (Integer ∷ []) after
-- athrow
HasRuleTyping w site frame insn after rules.Throw = Goes w site frame insn (throwable_type ∷ []) [] after
-- checkcast
HasRuleTyping w site frame insn after rules.CheckCast =
    (type : RefType) × (insn.arg ≡ args.Class type) × Goes w site frame insn (object_type ∷ []) (ref_vtype type ∷ []) after
-- instanceof
HasRuleTyping w site frame insn after rules.InstanceOf =
    (type : RefType) × (insn.arg ≡ args.Class type) × Goes w site frame insn (object_type ∷ []) (Integer ∷ []) after
-- multianewarray
HasRuleTyping w site frame insn after rules.NewMultiArray =
    (type : RefType) × (dims : ℕ) × (insn.arg ≡ args.Multi type dims) × Goes w site frame insn (replicate dims Integer) (ref_vtype type ∷ []) after

-- An instruction that works on references leads from the one frame to the other: it has a rule, and the
-- frames are as that says.
pub record IsRefTyping (w : List Shape) (site : Site) (frame : Frame) (insn : Insn) (after : Frame) : Type 0 where
  pub rule : RefRule
  pub stands : row_of nat_cmp insn.op ref_rules ≡ Some rule
  pub typing : HasRuleTyping w site frame insn after rule
