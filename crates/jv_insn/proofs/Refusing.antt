-- Why nothing is found: what would be found is found by a callee.
use Rattle.std.proofs.Common.{◌≡◌, ℕ, ◌<◌, ◌≤◌, Bool, true, false, List, Some, subst, ◌∙◌}
use Rattle.std.specs.Prelude.{IsTrue, ◌↔◌}
use Rattle.jv_table.specs.declared.code_tables.Form.TheVariants as forms
use Rattle.jv_types.specs.declared.desc.RefType.{RefType}
use Rattle.jv_types.specs.declared.references.MethodRef.{MethodRef}
use Rattle.jv_types.specs.declared.instruction.Arg.{Arg}
use Rattle.jv_types.specs.declared.instruction.Const.{Const}
use Rattle.jv_desc.specs.Texts.{ref_dims}
use Rattle.jv_pool.specs.declared.item.PoolItem.{PoolItem}
use Rattle.jv_read.specs.declared.fault.ReadFault.{ReadFault}
use Rattle.jv_read.specs.declared.fault.ReadFault.TheVariants as faults
use Rattle.jv_names.specs.Finding.{NoneFor}
use Rattle.jv_insn.specs.Forms.{is_category_2}
use Rattle.jv_names.specs.Naming.{NamesType, NamesMethod}
use Rattle.jv_insn.specs.Meanings.{NamesConst, FitsOp, MayCall, IsCalled, NamesArg, NamesCalled, NamesMulti, NamesOperands, IsInsn, has_local}
use Rattle.jv_table.specs.CodeRows.{OpForm}
use Rattle.jv_types.specs.declared.instruction.Insn.{Insn}
use Rattle.jv_insn.specs.declared.written.Written.{Written}
use Rattle.jv_insn.specs.Effects.{op_row, local_of}
use Rattle.jv_insn.proofs.Args.{one_local}
use Rattle.jv_names.proofs.NamedOnce.{given_twice, one_type, one_method_ref}
use Rattle.jv_insn.proofs.Widths.{one_width}

-- what a fault says that isn't memory's
pub bad_means : {X : Type 0} (P : X → Type 0) (e : ReadFault) → e ≡ faults.Bad → NoneFor P e → (x : X) → P x → ⊥
bad_means P e is none = subst (λ (f : ReadFault). NoneFor P f) is none

-- a test that fails
pub refuted : {P : Type 0} (b : Bool) → (IsTrue b ↔ P) → b ≡ false → P → ⊥
refuted b h e p = let t : b ≡ true = h.1 p in absurd cc

pub class_refused : (pool : List PoolItem) (op index : ℕ) (of : RefType) → NamesType pool index of → (FitsOp op of → ⊥) → (x : Arg) → NamesArg forms.Class pool op index x → ⊥
class_refused pool op index of names unfit x h = unfit (subst (λ (t : RefType). FitsOp op t) (one_type pool index h.0 of h.2 names) h.3)

pub multi_refused : (pool : List PoolItem) (index dims : ℕ) (of : RefType) → NamesType pool index of → (dims ≤ ref_dims of → ⊥) → (x : Arg) → NamesMulti pool index dims x → ⊥
multi_refused pool index dims of names few x h = few (subst (λ (t : RefType). dims ≤ ref_dims t) (one_type pool index h.0 of h.2 names) h.3)

pub method_refused : (pool : List PoolItem) (op index : ℕ) (method : MethodRef) → NamesMethod pool index method → (MayCall op method → ⊥) → (x : Arg) → NamesArg forms.Method pool op index x → ⊥
method_refused pool op index method names none x h = none (subst (λ (m : MethodRef). MayCall op m) (one_method_ref pool index h.0 method h.2 names) h.3)

pub called_refused : (pool : List PoolItem) (index words last : ℕ) (method : MethodRef) → NamesMethod pool index method → (IsCalled words last method → ⊥) → (x : Arg) → NamesCalled pool index words last x → ⊥
called_refused pool index words last method names none x h = none (subst (λ (m : MethodRef). IsCalled words last m) (one_method_ref pool index h.0 method h.2 names) h.3)

pub const_refused : (pool : List PoolItem) (index : ℕ) (two : Bool) (const : Const) → NamesConst pool index const → (is_category_2 const ≡ two → ⊥) → (x : Const) → NamesConst pool index x × (is_category_2 x ≡ two) → ⊥
const_refused pool index two const names none x h = none (one_width pool index const x names h.0 ∙ h.1)

-- the local variable of an instruction is too high
pub local_refused : {I : Type 0} (pool : List PoolItem) (max_locals : ℕ) (rows : List (ℕ × I)) (pc : ℕ) (written : Written) (form : OpForm) (arg : Arg) → op_row written.op ≡ Some form → NamesOperands pool rows pc written.op form.form written.operands arg
    → ((IsTrue (has_local written.op) → local_of written.op arg < max_locals) → ⊥) → (x : Insn) → IsInsn pool max_locals rows pc written x → ⊥
local_refused {I} pool max_locals rows pc written form arg known names none x h =
    let same : h.form ≡ form = given_twice (op_row written.op) h.form form h.known known in
    let others = subst (λ (f : OpForm). NamesOperands pool rows pc written.op f.form written.operands x.arg) same h.arg in
    let local = one_local pool rows pc written.op form.form written.operands x.arg arg others names in
    none (λ t.
    let by_op = subst (λ (op : ℕ). IsTrue (has_local op) → local_of op x.arg < max_locals) h.op h.local in
    subst (λ (n : ℕ). n < max_locals) local (by_op t))
