-- What a code spells is one body.
use Rattle.std.proofs.Common.{◌≡◌, ℕ, ℤ, Bool, true, List, length, Option, Some, None, refl, sym, ap, subst, ◌∙◌, ◌⊎◌, inl, inr, arith}
use Rattle.std.proofs.Math.Bool.{Bool-set}
use Rattle.std.specs.Prelude.{IsTrue, option_and_then}
use Rattle.std.specs.List.{AllZip}
use Rattle.std.specs.Ordering.{nat_cmp}
use Rattle.jv_table.specs.Rows.{row_of}
use Rattle.jv_table.specs.CodeRows.{OpForm, newarray_rows}
use Rattle.jv_table.specs.declared.code_tables.Form.{Form}
use Rattle.jv_table.specs.declared.code_tables.Form.TheVariants as forms
use Rattle.jv_types.specs.Bodies.{rises_from}
use Rattle.jv_types.specs.declared.raw_handler.RawHandler.{RawHandler}
use Rattle.jv_types.specs.declared.desc.PrimType.{PrimType}
use Rattle.jv_types.specs.declared.desc.RefType.{RefType}
use Rattle.jv_types.specs.declared.instruction.Const.{Const}
use Rattle.jv_types.specs.declared.instruction.Const.TheVariants as consts
use Rattle.jv_types.specs.declared.instruction.Arg.{Arg}
use Rattle.jv_types.specs.declared.instruction.Arg.TheVariants as args
use Rattle.jv_types.specs.declared.instruction.Insn.{Insn}
use Rattle.jv_types.specs.declared.body.Handler.{Handler}
use Rattle.jv_types.specs.declared.body.Body.{Body}
use Rattle.jv_desc.specs.Texts.{prim_letter}
use Rattle.jv_pool.specs.declared.item.PoolItem.{PoolItem}
use Rattle.jv_pool.specs.declared.item.PoolItem.TheVariants as items
use Rattle.jv_pool.specs.Lookups.{item_at, class_name_in}
use Rattle.jv_insn.specs.declared.written.Operands.{Operands}
use Rattle.jv_insn.specs.declared.written.Operands.TheVariants.{Nothing, Local, Small, Inc, Index, Called, Site, NewPrim, Multi, Jump, Table, Lookup}
use Rattle.jv_insn.specs.declared.written.Written.{Written}
use Rattle.jv_insn.specs.Effects.{op_row}
use Rattle.jv_names.specs.Naming.{NamesType}
use Rattle.jv_insn.specs.Meanings.{NamesConst, NamesLoad, NamesArg, NamesOperands, LeadsTo, LeadsCase, IsInsn}
use Rattle.jv_insn.specs.Decoding.{IsRow, Catches, IsHandler, Decodes}
use Rattle.jv_desc.proofs.Fronts.{same_letter}
use Rattle.jv_names.proofs.NamedOnce.{given_twice, one_type, one_class, one_field_ref, one_method_ref}
use Rattle.jv_insn.proofs.Leading.{one_target, one_case, zip_one}
use Rattle.jv_insn.proofs.Laying.{lays_agree}

-- ---- constants

-- the constant of an item that isn't a class
abbrev const_in : PoolItem → Option Const
const_in (items.Integer value) = Some (consts.Int value)
const_in (items.Float bits) = Some (consts.Float bits)
const_in (items.Long value) = Some (consts.Long value)
const_in (items.Double bits) = Some (consts.Double bits)
const_in (items.Text text) = Some consts.Text
const_in (items.MethodHandle kind member) = Some consts.Handle
const_in (items.MethodType desc) = Some consts.MethodKind
const_in _ = None

-- a constant that is a class
record IsClass (pool : List PoolItem) (index : ℕ) (item : PoolItem) (const : Const) : Type 0 where
  type : RefType
  is : const ≡ consts.Class type
  names : NamesType pool index type
  name : ℕ
  class : item ≡ items.Class name

-- a constant and its item
record HasItem (pool : List PoolItem) (index : ℕ) (const : Const) : Type 0 where
  item : PoolItem
  found : item_at pool index ≡ Some item
  kind : (const_in item ≡ Some const) ⊎ IsClass pool index item const

-- the item that names a class
pub class_item : (pool : List PoolItem) (item : Option PoolItem) (text : List ℕ) → option_and_then (class_name_in pool) item ≡ Some text → (name : ℕ) × (item ≡ Some (items.Class name))
class_item pool None text e = absurd cc
class_item pool (Some (items.Class name)) text e = (name, refl)
class_item pool (Some _) text e = absurd cc

has_item : (pool : List PoolItem) (index : ℕ) (const : Const) → NamesConst pool index const → HasItem pool index const
has_item pool index (consts.Int value) h = record { item = items.Integer value; found = h; kind = inl refl }
has_item pool index (consts.Float bits) h = record { item = items.Float bits; found = h; kind = inl refl }
has_item pool index (consts.Long value) h = record { item = items.Long value; found = h; kind = inl refl }
has_item pool index (consts.Double bits) h = record { item = items.Double bits; found = h; kind = inl refl }
has_item pool index consts.Text h = record { item = items.Text h.0; found = h.1; kind = inl refl }
has_item pool index (consts.Class type) h =
    let c = class_item pool (item_at pool index) h.text h.found in
    record { item = items.Class c.0; found = c.1; kind = inr (record { type = type; is = refl; names = h; name = c.0; class = refl }) }
has_item pool index consts.Handle h = record { item = items.MethodHandle h.0 h.1; found = h.2; kind = inl refl }
has_item pool index consts.MethodKind h = record { item = items.MethodType h.0; found = h.1; kind = inl refl }

no_const : (item : PoolItem) (name : ℕ) (const : Const) → item ≡ items.Class name → const_in item ≡ Some const → ⊥
no_const item name const is e = let none : const_in item ≡ None = ap const_in is in absurd cc

one_const : (pool : List PoolItem) (index : ℕ) (a b : Const) → NamesConst pool index a → NamesConst pool index b → a ≡ b
one_const pool index a b h k =
    let x = has_item pool index a h in
    let y = has_item pool index b k in
    let same = given_twice (item_at pool index) x.item y.item x.found y.found in
    by x.kind (subst (λ (i : PoolItem). (const_in i ≡ Some b) ⊎ IsClass pool index i b) (sym same) y.kind)
  where
    by : {item : PoolItem} → (const_in item ≡ Some a) ⊎ IsClass pool index item a → (const_in item ≡ Some b) ⊎ IsClass pool index item b → a ≡ b
    by {item} (inl e) (inl f) = given_twice (const_in item) a b e f
    by {item} (inl e) (inr f) = absurd (no_const item f.name a f.class e)
    by {item} (inr e) (inl f) = absurd (no_const item e.name b e.class f)
    by {item} (inr e) (inr f) = e.is ∙ ap consts.Class (one_type pool index e.type f.type e.names f.names) ∙ sym f.is

-- ---- operands

one_load : (pool : List PoolItem) (index : ℕ) (two : Bool) (a b : Arg) → NamesLoad pool index two a → NamesLoad pool index two b → a ≡ b
one_load pool index two a b h k = h.1 ∙ ap args.Constant (one_const pool index h.0 k.0 h.2 k.2) ∙ sym k.1

named_one : (form : Form) (pool : List PoolItem) (op index : ℕ) (a b : Arg) → NamesArg form pool op index a → NamesArg form pool op index b → a ≡ b
named_one forms.Load1 pool op index a b h k = one_load pool index _ a b h k
named_one forms.Load2 pool op index a b h k = one_load pool index _ a b h k
named_one forms.LoadTwo pool op index a b h k = one_load pool index _ a b h k
named_one forms.Class pool op index a b h k = h.1 ∙ ap args.Class (one_type pool index h.0 k.0 h.2 k.2) ∙ sym k.1
named_one forms.Field pool op index a b h k = h.1 ∙ ap args.Field (one_field_ref pool index h.0 k.0 h.2 k.2) ∙ sym k.1
named_one forms.Method pool op index a b h k = h.1 ∙ ap args.Method (one_method_ref pool index h.0 k.0 h.2 k.2) ∙ sym k.1
named_one _ pool op index a b h k = absurd h

-- letters tell types apart
one_prim : (letter : Option ℕ) (p q : PrimType) → letter ≡ Some (prim_letter p) → letter ≡ Some (prim_letter q) → p ≡ q
one_prim letter p q e f = same_letter p q (given_twice letter (prim_letter p) (prim_letter q) e f)

one_arg : {I : Type 0} (pool : List PoolItem) (rows : List (ℕ × I)) (pc op : ℕ) (form : Form) (operands : Operands) (a b : Arg) → NamesOperands pool rows pc op form operands a → NamesOperands pool rows pc op form operands b → a ≡ b
one_arg pool rows pc op form Nothing a b h k = h ∙ sym k
one_arg pool rows pc op form (Local local) a b h k = h ∙ sym k
one_arg pool rows pc op form (Small value) a b h k = h ∙ sym k
one_arg pool rows pc op form (Inc local by) a b h k = h ∙ sym k
one_arg pool rows pc op form (Index index) a b h k = named_one form pool op index a b h k
one_arg pool rows pc op form (Called index words last) a b h k = h.1 ∙ ap args.Method (one_method_ref pool index h.0 k.0 h.2 k.2) ∙ sym k.1
one_arg pool rows pc op form (Site index first second) a b h k = h.3 ∙ sym k.3
one_arg pool rows pc op form (NewPrim code) a b h k = h.1 ∙ ap args.NewPrim (one_prim (row_of nat_cmp code newarray_rows) h.0 k.0 h.2 k.2) ∙ sym k.1
one_arg pool rows pc op form (Multi index dims) a b h k = h.1 ∙ ap (λ (t : RefType). args.Multi t dims) (one_type pool index h.0 k.0 h.2 k.2) ∙ sym k.1
one_arg pool rows pc op form (Jump offset) a b h k = h.1 ∙ ap args.Jump (one_target rows pc offset h.0 k.0 h.2 k.2) ∙ sym k.1
one_arg pool rows pc op form (Table default low offsets) a b h k =
    h.2 ∙ ap (λ (t : ℕ). args.Table t low h.1) (one_target rows pc default h.0 k.0 h.3 k.3)
    ∙ ap (λ (ts : List ℕ). args.Table k.0 low ts) (zip_one (LeadsTo rows pc) offsets h.1 k.1 (one_target rows pc) h.4 k.4) ∙ sym k.2
one_arg pool rows pc op form (Lookup default cases) a b h k =
    h.2 ∙ ap (λ (t : ℕ). args.Lookup t h.1) (one_target rows pc default h.0 k.0 h.3 k.3)
    ∙ ap (λ (cs : List (ℤ × ℕ)). args.Lookup k.0 cs) (zip_one (LeadsCase rows pc) cases h.1 k.1 (one_case rows pc) h.4 k.4) ∙ sym k.2

-- ---- instructions and handlers

pub one_insn : {I : Type 0} (pool : List PoolItem) (max_locals : ℕ) (rows : List (ℕ × I)) (pc : ℕ) (written : Written) (a b : Insn) → IsInsn pool max_locals rows pc written a → IsInsn pool max_locals rows pc written b → a ≡ b
one_insn {I} pool max_locals rows pc written a b h k =
    let same = given_twice (op_row written.op) h.form k.form h.known k.known in
    let there = subst (λ (f : OpForm). NamesOperands pool rows pc written.op f.form written.operands a.arg) same h.arg in
    let arg = one_arg pool rows pc written.op k.form.form written.operands a.arg b.arg there k.arg in
    ap (λ (n : ℕ). record { op = n; wide = a.wide; arg = a.arg }) (h.op ∙ sym k.op)
    ∙ ap (λ (w : Bool). record { op = b.op; wide = w; arg = a.arg }) (h.wide ∙ sym k.wide)
    ∙ ap (λ (x : Arg). record { op = b.op; wide = b.wide; arg = x }) arg

one_row : (pool : List PoolItem) (max_locals : ℕ) (rows : List (ℕ × Written)) (row : ℕ × Written) (a b : ℕ × Insn) → IsRow pool max_locals rows row a → IsRow pool max_locals rows row b → a ≡ b
one_row pool max_locals rows row a b h k =
    ap (λ (n : ℕ). (n, a.1)) (h.pc ∙ sym k.pc) ∙ ap (λ (i : Insn). (b.0, i)) (one_insn pool max_locals rows row.0 row.1 a.1 b.1 h.is_insn k.is_insn)

one_catch : (pool : List PoolItem) (catch : ℕ) (a b : Option (List ℕ)) → Catches pool catch a → Catches pool catch b → a ≡ b
one_catch pool catch None None h k = refl
one_catch pool catch None (Some name) h k = absurd (omega (arith, h, k.0))
one_catch pool catch (Some name) None h k = absurd (omega (arith, k, h.0))
one_catch pool catch (Some name) (Some other) h k = ap (λ (n : List ℕ). Some n) (one_class pool catch name other h.1 k.1)

one_handler : (pool : List PoolItem) (size : ℕ) (rows : List (ℕ × Written)) (raw : RawHandler) (a b : Handler) → IsHandler pool size rows raw a → IsHandler pool size rows raw b → a ≡ b
one_handler pool size rows raw a b h k =
    ap (λ (n : ℕ). record { start = n; end = a.end; target = a.target; catch = a.catch }) (h.start ∙ sym k.start)
    ∙ ap (λ (n : ℕ). record { start = b.start; end = n; target = a.target; catch = a.catch }) (h.end ∙ sym k.end)
    ∙ ap (λ (n : ℕ). record { start = b.start; end = b.end; target = n; catch = a.catch }) (h.target ∙ sym k.target)
    ∙ ap (λ (c : Option (List ℕ)). record { start = b.start; end = b.end; target = b.target; catch = c }) (one_catch pool raw.catch a.catch b.catch h.catch k.catch)

-- ---- bodies

-- a body of these parts
body_of : (max_stack max_locals length : ℕ) (insns : List (ℕ × Insn)) (handlers : List Handler) → IsTrue (rises_from 0 insns) → Body
body_of max_stack max_locals length insns handlers rising = record { max_stack = max_stack; max_locals = max_locals; length = length; insns = insns; handlers = handlers; rising = rising }

-- it goes by its instructions alone that they rise
same_insns : (max_stack max_locals length : ℕ) (handlers : List Handler) (xs ys : List (ℕ × Insn)) → xs ≡ ys → (r : IsTrue (rises_from 0 xs)) (t : IsTrue (rises_from 0 ys)) → body_of max_stack max_locals length xs handlers r ≡ body_of max_stack max_locals length ys handlers t
same_insns max_stack max_locals length handlers xs ys e r t =
    subst (λ (zs : List (ℕ × Insn)). (t : IsTrue (rises_from 0 zs)) → body_of max_stack max_locals length xs handlers r ≡ body_of max_stack max_locals length zs handlers t) e
    (λ t. ap (body_of max_stack max_locals length xs handlers) (Bool-set (rises_from 0 xs) true r t)) t

-- bodies of the same parts are one
same_parts : (a b : Body) → a.max_stack ≡ b.max_stack → a.max_locals ≡ b.max_locals → a.length ≡ b.length → a.insns ≡ b.insns → a.handlers ≡ b.handlers → a ≡ b
unfolding body_of
same_parts a b s l n is hs =
    ap (λ (x : ℕ). body_of x a.max_locals a.length a.insns a.handlers a.rising) s
    ∙ ap (λ (x : ℕ). body_of b.max_stack x a.length a.insns a.handlers a.rising) l
    ∙ ap (λ (x : ℕ). body_of b.max_stack b.max_locals x a.insns a.handlers a.rising) n
    ∙ ap (λ (x : List Handler). body_of b.max_stack b.max_locals b.length a.insns x a.rising) hs
    ∙ same_insns b.max_stack b.max_locals b.length b.handlers a.insns b.insns is a.rising b.rising

pub one_body : (pool : List PoolItem) (max_stack max_locals : ℕ) (code : List ℕ) (handlers : List RawHandler) (a b : Body) → Decodes pool max_stack max_locals code handlers a → Decodes pool max_stack max_locals code handlers b → a ≡ b
one_body pool max_stack max_locals code handlers a b d e =
    let same = lays_agree 0 code d.rows e.rows None None d.laid e.laid in
    let insns = subst (λ (rs : List (ℕ × Written)). AllZip (IsRow pool max_locals rs) rs a.insns) same.0 d.insns in
    let entries = subst (λ (rs : List (ℕ × Written)). AllZip (IsHandler pool (length code) rs) handlers a.handlers) same.0 d.handlers_are in
    same_parts a b (d.stack_is ∙ sym e.stack_is) (d.locals_is ∙ sym e.locals_is) (d.length_is ∙ sym e.length_is)
    (zip_one (IsRow pool max_locals e.rows) e.rows a.insns b.insns (one_row pool max_locals e.rows) insns e.insns)
    (zip_one (IsHandler pool (length code) e.rows) handlers a.handlers b.handlers (one_handler pool (length code) e.rows) entries e.handlers_are)
