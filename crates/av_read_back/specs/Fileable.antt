-- What a class of a stand-in must have so that its file is a class (JVMS 4).
use Rattle.std.specs.Prelude.{◌≡◌, ◌<◌, ◌≤◌, ◌^◌, ◌||◌, ⊤, ℕ, true, false, not, List, length, Some, IfSome, FitsSigned, Contains, slice_get}
use Rattle.std.specs.Int.{w32, w64}
use Rattle.std.specs.List.{AllByRecursion}
use Rattle.std.specs.Option.{is_some}
use Rattle.jv_types.specs.declared.desc.RefType.{RefType}
use Rattle.jv_types.specs.declared.references.FieldRef.{FieldRef}
use Rattle.jv_types.specs.declared.references.MethodRef.{MethodRef}
use Rattle.jv_types.specs.declared.instruction.Const.{Const}
use Rattle.jv_types.specs.declared.instruction.Const.TheVariants as consts
use Rattle.jv_types.specs.declared.instruction.Arg.{Arg}
use Rattle.jv_types.specs.declared.instruction.Arg.TheVariants as args
use Rattle.jv_types.specs.declared.frames.VType.{VType}
use Rattle.jv_types.specs.declared.shapes.FieldShape.{FieldShape}
use Rattle.jv_types.specs.declared.shapes.MethodShape.{MethodShape}
use Rattle.jv_bytes.specs.Utf8.{IsText}
use Rattle.jv_desc.specs.Texts.{desc_text, method_text, words_of, IsDesc, IsMethodDesc, IsRef}
use Rattle.jv_names.specs.Naming.{type_text}
use Rattle.jv_names.specs.Spellings.{IsClassName, IsFieldName, IsCalledName}
use Rattle.jv_frames.specs.Types.{is_object}
use Rattle.jv_class.specs.ClassTexts.{has_flag}
use Rattle.av_asm.specs.declared.step.Step.{Step}
use Rattle.av_asm.specs.declared.step.Step.TheVariants.{Put}
use Rattle.av_asm.specs.Mapping.{object_text}
use Rattle.av_standin_of.specs.Names.{field_key}
use Rattle.av_standin_of.specs.Codes.{Row, Code}
use Rattle.av_standin_of.specs.Classes.{MadeMethod, MadeClass, made_key}
use Rattle.av_sketches.specs.Conditions.{IsFinishable, HasFieldForm, HasMethodForm}

-- ---- texts

-- a text of modified UTF-8 (JVMS 4.4.7)
abbrev pub IsSpelled : List ℕ → Type 0
IsSpelled text = (units : List ℕ) × IsText text units

-- a text that a pool may hold: one of modified UTF-8, of at most 65535 bytes
pub record FitsPool (text : List ℕ) : Type 0 where
  pub spelled : IsSpelled text
  pub short : length text < 2 ^ 16

-- a class's name that a pool may hold (JVMS 4.2.1)
pub record IsFiledName (text : List ℕ) : Type 0 where
  pub name : IsClassName text
  pub fits : FitsPool text

-- ---- what instructions name

-- a class or array type that a pool may name: of at most 255 dimensions (JVMS 4.4.1)
pub record MayNameType (type : RefType) : Type 0 where
  pub formed : IsRef 255 type
  pub text : FitsPool (type_text type)

-- a field (JVMS 4.4.2)
pub record MayNameField (field : FieldRef) : Type 0 where
  pub class : IsFiledName field.class
  pub name : IsFieldName field.name
  pub name_text : FitsPool field.name
  pub formed : IsDesc field.desc
  pub desc_text : FitsPool (desc_text field.desc)

-- a method, which isn't a class initialiser and has at most 255 words of arguments (JVMS 4.4.2, 4.3.3)
pub record MayNameMethod (method : MethodRef) : Type 0 where
  pub class : MayNameType method.class
  pub name : IsCalledName method.name
  pub name_text : FitsPool method.name
  pub formed : IsMethodDesc method.desc
  pub few_words : words_of method.desc false ≤ 255
  pub desc_text : FitsPool (method_text method.desc)

-- a constant, whose number fits its bytes
abbrev pub MayNameConst : Const → Type 0
MayNameConst (consts.Int value) = FitsSigned w32 value
MayNameConst (consts.Float bits) = bits < 2 ^ 32
MayNameConst (consts.Long value) = FitsSigned w64 value
MayNameConst (consts.Double bits) = bits < 2 ^ 64
MayNameConst (consts.Class type) = MayNameType type
MayNameConst _ = ⊤

-- what operands name, if they name something
abbrev pub MayName : Arg → Type 0
MayName (args.Constant const) = MayNameConst const
MayName (args.Class type) = MayNameType type
MayName (args.Field field) = MayNameField field
MayName (args.Method method) = MayNameMethod method
MayName (args.Multi type dims) = MayNameType type
MayName _ = ⊤

abbrev pub StepMayName : Step → Type 0
StepMayName (Put insn) = MayName insn.arg
StepMayName _ = ⊤

-- a type of a frame: of a class or array type a pool may hold the text
abbrev pub MayStandInMap : VType → Type 0
MayStandInMap type = is_object type ≡ true → FitsPool (object_text type)

-- ---- codes

-- An instruction with its frame: a pool may hold what they name. With at most 20000 words on each stack a map of 65535
-- frames has fewer than 2^32 bytes (JVMS 4.7).
pub record IsFileableRow (row : Row) : Type 0 where
  pub named : StepMayName row.step
  pub locals : AllByRecursion MayStandInMap row.frame.locals
  pub stack : AllByRecursion MayStandInMap row.frame.stack
  pub few_words : length row.frame.stack ≤ 20000

-- a code of one instruction or more for this method, with at most 65535 handlers (JVMS 4.7.3)
pub record IsFileableCode (shape : MethodShape) (code : Code) : Type 0 where
  pub finishable : IsFinishable shape code
  pub some_rows : 0 < length code.rows
  pub rows : (row : Row) → Contains code.rows row → IsFileableRow row
  pub few_spans : length code.spans < 2 ^ 16

-- ---- members

-- a field whose flags fit two bytes (JVMS 4.5)
pub record IsFileableField (field : FieldShape) : Type 0 where
  pub form : HasFieldForm field
  pub name_text : IsSpelled field.name
  pub desc_text : IsSpelled (desc_text field.desc)
  pub flags : field.flags.0 < 2 ^ 16

-- such a method, which has code just where it is neither native nor abstract (JVMS 4.6, 4.7.3)
pub record IsFileableMethod (method : MadeMethod) : Type 0 where
  pub form : HasMethodForm method.shape
  pub name_text : IsSpelled method.shape.name
  pub desc_text : IsSpelled (method_text method.shape.desc)
  pub flags : method.shape.flags.0 < 2 ^ 16
  pub has_code : is_some method.code ≡ not (has_flag method.shape.flags.0 0x100 || has_flag method.shape.flags.0 0x400)
  pub code : IfSome method.code (IsFileableCode method.shape)

-- ---- classes

-- A class that may be filed, where a pool has room for what it names (JVMS 4.1): its numbers and counts fit two bytes, its
-- names and its members have the form of class files, and no two fields and no two methods share name and descriptor.
pub record IsFileable (made : MadeClass) : Type 0 where
  pub flags : made.flags.0 < 2 ^ 16
  pub name : IsFiledName made.name
  pub super : IfSome made.parent IsFiledName
  pub interfaces : (name : List ℕ) → Contains made.interfaces name → IsFiledName name
  pub few_interfaces : length made.interfaces < 2 ^ 16
  pub fields : (field : FieldShape) → Contains made.fields field → IsFileableField field
  pub few_fields : length made.fields < 2 ^ 16
  pub distinct_fields : (i j : ℕ) (a b : FieldShape) → slice_get made.fields i ≡ Some a → slice_get made.fields j ≡ Some b → field_key a ≡ field_key b → i ≡ j
  pub methods : (method : MadeMethod) → Contains made.methods method → IsFileableMethod method
  pub few_methods : length made.methods < 2 ^ 16
  pub distinct_methods : (i j : ℕ) (a b : MadeMethod) → slice_get made.methods i ≡ Some a → slice_get made.methods j ≡ Some b → made_key a ≡ made_key b → i ≡ j
