-- The local variable that an instruction names goes by how it is written.
use Rattle.std.proofs.Common.{◌≡◌, ℕ, List, refl, sym, ◌∙◌}
use Rattle.jv_table.specs.declared.code_tables.Form.{Form}
use Rattle.jv_table.specs.declared.code_tables.Form.TheVariants as forms
use Rattle.jv_types.specs.declared.instruction.Arg.{Arg}
use Rattle.jv_types.specs.declared.instruction.Arg.TheVariants as args
use Rattle.jv_pool.specs.declared.item.PoolItem.{PoolItem}
use Rattle.jv_insn.specs.declared.written.Operands.{Operands}
use Rattle.jv_insn.specs.declared.written.Operands.TheVariants.{Nothing, Local, Small, Inc, Index, Called, Site, NewPrim, Multi, Jump, Table, Lookup}
use Rattle.jv_insn.specs.Effects.{local_of}
use Rattle.jv_insn.specs.Meanings.{NamesArg, NamesOperands}
use Rattle.jv_insn.specs.Causes.{local_written}

-- the local variable of an opcode alone
abbrev by_op : ℕ → ℕ
by_op op = local_of op args.Nothing

-- operands that are others do not name one
named_local : (form : Form) (pool : List PoolItem) (op index : ℕ) (a : Arg) → NamesArg form pool op index a → local_of op a ≡ by_op op
named_local forms.Load1 pool op index a h = rw h.1 refl
named_local forms.Load2 pool op index a h = rw h.1 refl
named_local forms.LoadTwo pool op index a h = rw h.1 refl
named_local forms.Class pool op index a h = rw h.1 refl
named_local forms.Field pool op index a h = rw h.1 refl
named_local forms.Method pool op index a h = rw h.1 refl
named_local _ pool op index a h = absurd h

pub written_is : {I : Type 0} (pool : List PoolItem) (rows : List (ℕ × I)) (pc op : ℕ) (form : Form) (operands : Operands) (a : Arg) → NamesOperands pool rows pc op form operands a → local_of op a ≡ local_written op operands
written_is pool rows pc op form Nothing a h = rw h refl
written_is pool rows pc op form (Local local) a h = rw h refl
written_is pool rows pc op form (Small value) a h = rw h refl
written_is pool rows pc op form (Inc local by) a h = rw h refl
written_is pool rows pc op form (Index index) a h = named_local form pool op index a h
written_is pool rows pc op form (Called index words last) a h = rw h.1 refl
written_is pool rows pc op form (Site index first second) a h = rw h.3 refl
written_is pool rows pc op form (NewPrim code) a h = rw h.1 refl
written_is pool rows pc op form (Multi index dims) a h = rw h.1 refl
written_is pool rows pc op form (Jump offset) a h = rw h.1 refl
written_is pool rows pc op form (Table default low offsets) a h = rw h.2 refl
written_is pool rows pc op form (Lookup default cases) a h = rw h.2 refl

-- two readings of operands name one local variable
pub one_local : {I : Type 0} (pool : List PoolItem) (rows : List (ℕ × I)) (pc op : ℕ) (form : Form) (operands : Operands) (a b : Arg)
    → NamesOperands pool rows pc op form operands a → NamesOperands pool rows pc op form operands b → local_of op a ≡ local_of op b
one_local pool rows pc op form operands a b h k = written_is pool rows pc op form operands a h ∙ sym (written_is pool rows pc op form operands b k)
