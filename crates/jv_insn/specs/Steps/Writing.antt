-- What the parts of an encoder ask for, and what they answer.
use Rattle.std.specs.Prelude.{◌≡◌, ◌<◌, ◌^◌, ℕ, ℤ, pos, ◌+ℤ◌, ◌-ℤ◌, Bool, true, false, IsTrue, List, length, Option, Some, None, Result, Ok, Err, FitsSigned}
use Rattle.std.specs.Int.{w8, w16, w32}
use Rattle.jv_table.specs.declared.code_tables.Form.{Form}
use Rattle.jv_table.specs.declared.code_tables.Form.TheVariants as forms
use Rattle.jv_types.specs.declared.references.MethodRef.{MethodRef}
use Rattle.jv_types.specs.declared.instruction.Arg.{Arg}
use Rattle.jv_types.specs.declared.instruction.Arg.TheVariants as args
use Rattle.jv_types.specs.declared.instruction.Insn.{Insn}
use Rattle.jv_desc.specs.Texts.{words_of}
use Rattle.jv_pool.specs.declared.item.PoolItem.{PoolItem}
use Rattle.jv_insn.specs.declared.fault.EncodeRefusal.{EncodeRefusal}
use Rattle.jv_insn.specs.declared.fault.EncodeRefusal.TheVariants as refusals
use Rattle.jv_insn.specs.declared.written.Written.{Written}
use Rattle.jv_insn.specs.Layouts.{IsInsnText}
use Rattle.jv_insn.specs.Meanings.{IsInsn}
use Rattle.jv_insn.specs.Encoding.{is_narrow, branch_offset, is_left_out, StandsNear}

-- ---- adding to a pool

-- what adding answered, with the pool that it left, is what it gives, unless memory ran out
abbrev pub PutFails : {Y : Type 0} → EncodeRefusal → Option Y → Type 0
PutFails refusals.Memory put = Unit {0}
PutFails refusals.PoolFull put = put ≡ None
PutFails refusals.TooLong put = ⊥

abbrev pub Puts : Result ℕ EncodeRefusal → List PoolItem → Option (ℕ × List PoolItem) → Type 0
Puts (Ok index) new put = put ≡ Some (index, new)
Puts (Err e) new put = PutFails e put

-- ---- operands that fit their bytes

abbrev pub FitsMethod : Form → MethodRef → Type 0
FitsMethod forms.InterfaceMethod method = words_of method.desc true < 256
FitsMethod _ method = Unit {0}

abbrev pub FitsJump : Form → ℤ → Type 0
FitsJump forms.Jump4 offset = Unit {0}
FitsJump _ offset = FitsSigned w16 offset

abbrev pub FitsArg : Form → Bool → ℕ → Arg → ℕ → Type 0
FitsArg form wide pc (args.Local local) index = IsTrue (is_narrow form wide) → local < 256
FitsArg form wide pc (args.Small value) index = IsTrue (is_narrow form wide) → FitsSigned w8 value
FitsArg form wide pc (args.Inc local by) index = IsTrue (is_narrow form wide) → (local < 256) × FitsSigned w8 by
FitsArg form wide pc (args.Constant constant) index = IsTrue (is_narrow form wide) → index < 256
FitsArg form wide pc (args.Method method) index = FitsMethod form method
FitsArg form wide pc (args.Jump target) index = FitsJump form (branch_offset pc target)
FitsArg form wide pc (args.Table default low targets) index = (0 < length targets) × FitsSigned w32 (low +ℤ (pos (length targets) -ℤ pos 1))
FitsArg form wide pc (args.Lookup default cases) index = length cases < 2 ^ 32
FitsArg form wide pc _ index = Unit {0}

-- ---- instructions that may be written

-- some bytes at an offset of some code are this instruction
pub record IsSpelledInsn (pc : ℕ) (insn : Insn) : Type 0 where
  pub pool : List PoolItem
  pub max_locals : ℕ
  pub rows : List (ℕ × Written)
  pub written : Written
  pub text : List ℕ
  pub is_insn : IsInsn pool max_locals rows pc written insn
  pub is_text : IsInsnText pc text written

-- the instruction may be encoded over a pool
pub record MayPut (pool : List PoolItem) (pc : ℕ) (insn : Insn) : Type 0 where
  pub spelled : IsSpelledInsn pc insn
  pub whole : is_left_out insn.arg ≡ false
  pub near : StandsNear pool insn
