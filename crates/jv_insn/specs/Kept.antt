-- What an instruction keeps that was decoded over the pool of a class file: names and types are in their form,
-- and there are no more dimensions and no more words of arguments than the standard allows (JVMS 4.2, 4.3, 4.9.1).
use Rattle.std.specs.Prelude.{◌≡◌, ◌<◌, ◌≤◌, ℕ, true, false}
use Rattle.jv_table.specs.declared.code_tables.Form.TheVariants as forms
use Rattle.jv_types.specs.declared.references.FieldRef.{FieldRef}
use Rattle.jv_types.specs.declared.references.MethodRef.{MethodRef}
use Rattle.jv_types.specs.declared.instruction.Const.{Const}
use Rattle.jv_types.specs.declared.instruction.Const.TheVariants as consts
use Rattle.jv_types.specs.declared.instruction.Arg.{Arg}
use Rattle.jv_types.specs.declared.instruction.Arg.TheVariants as args
use Rattle.jv_types.specs.declared.instruction.Insn.{Insn}
use Rattle.jv_desc.specs.Texts.{ref_dims, IsRef, IsDesc, IsMethodDesc, words_of}
use Rattle.jv_names.specs.Spellings.{IsClassName, IsFieldName, IsCalledName}
use Rattle.jv_insn.specs.Meanings.{FitsOp, MayCall}
use Rattle.jv_insn.specs.Encoding.{form_of}

-- a field of a class, and not of an array, whose type has at most 255 dimensions
pub record KeepsField (field : FieldRef) : Type 0 where
  pub class : IsClassName field.class
  pub name : IsFieldName field.name
  pub desc : IsDesc field.desc

-- A method, never a class initialiser, whose types have at most 255 dimensions and whose arguments take at most
-- 255 words. An invokevirtual names none of an interface. An invokeinterface names one of an interface, and with
-- the receiver its arguments take at most 255 words too.
pub record KeepsMethod (op : ℕ) (method : MethodRef) : Type 0 where
  pub class : IsRef 255 method.class
  pub name : IsCalledName method.name
  pub desc : IsMethodDesc method.desc
  pub words : words_of method.desc false ≤ 255
  pub may_call : form_of op ≡ forms.Method → MayCall op method
  pub interface : form_of op ≡ forms.InterfaceMethod → (method.interface ≡ true) × (words_of method.desc true ≤ 255)

abbrev pub KeepsConst : Const → Type 0
KeepsConst (consts.Class type) = IsRef 255 type
KeepsConst _ = Unit {0}

-- types have at most 255 dimensions. A `new` names no array, the type of an anewarray has at most 254, and a
-- multianewarray makes one of its type's dimensions or more.
abbrev pub KeepsArg : ℕ → Arg → Type 0
KeepsArg op (args.Constant const) = KeepsConst const
KeepsArg op (args.Class type) = IsRef 255 type × FitsOp op type
KeepsArg op (args.Field field) = KeepsField field
KeepsArg op (args.Method method) = KeepsMethod op method
KeepsArg op (args.Multi type dims) = IsRef 255 type × (0 < dims) × (dims ≤ ref_dims type)
KeepsArg op _ = Unit {0}

abbrev pub KeepsForm : Insn → Type 0
KeepsForm insn = KeepsArg insn.op insn.arg
