-- The operands of an instruction that is spelled are of its opcode's layout.
use Rattle.std.proofs.Common.{◌≡◌, ℕ, ◌+◌, Bool, true, false, cond, eqb, ltb, List, [], ◌∷◌, Option, Some, None, refl, sym, ap, subst, ◌∙◌}
use Rattle.std.specs.List.{AllByRecursion}
use Rattle.std.proofs.lemmas.Bool.{ltb-true, eqb-true}
use Rattle.jv_table.specs.CodeRows.{OpForm}
use Rattle.jv_table.specs.declared.code_tables.Form.{Form}
use Rattle.jv_table.specs.declared.code_tables.Form.TheVariants as forms
use Rattle.jv_table.specs.declared.ops.TheConstants.{RET}
use Rattle.jv_types.specs.declared.instruction.Arg.{Arg}
use Rattle.jv_types.specs.declared.instruction.Insn.{Insn}
use Rattle.jv_types.specs.declared.raw_handler.RawHandler.{RawHandler}
use Rattle.jv_types.specs.declared.body.Body.{Body}
use Rattle.jv_types.specs.Bodies.{at_offset}
use Rattle.jv_pool.specs.declared.item.PoolItem.{PoolItem}
use Rattle.jv_insn.specs.declared.written.Operands.{Operands}
use Rattle.jv_insn.specs.declared.written.Operands.TheVariants as written
use Rattle.jv_insn.specs.declared.written.Written.{Written}
use Rattle.jv_insn.specs.Effects.{op_row}
use Rattle.jv_insn.specs.Forms.{HasOperands, HasRowOperands, HasOwnOperands}
use Rattle.jv_insn.specs.Layouts.{Layout, Alone, One, Two, Three, TableSwitch, LookupSwitch, s1, s2, layout_of, wide_layout_of, AreOperands, is_allowed}
use Rattle.jv_insn.specs.Meanings.{NamesOperands}
use Rattle.jv_insn.specs.Decoding.{Decodes}
use Rattle.jv_read.proofs.Fronts.{some_is}
use Rattle.jv_insn.proofs.Rewriting.{layout_by, layout_row}
use Rattle.jv_insn.proofs.Encoded.{IsSpelledOver, spelled_insns}

-- the operands of a layout, whatever the bytes are
abbrev pub IsMade : Layout → Operands → Type 0
IsMade Alone operands = operands ≡ written.Nothing
IsMade (One n make) operands = (a : ℕ) × (operands ≡ make a)
IsMade (Two m n make) operands = (a : ℕ) × (b : ℕ) × (operands ≡ make a b)
IsMade (Three m n k make) operands = (a : ℕ) × (b : ℕ) × (c : ℕ) × (operands ≡ make a b c)
IsMade TableSwitch operands = (default : _) × (low : _) × (offsets : _) × (operands ≡ written.Table default low offsets)
IsMade LookupSwitch operands = (default : _) × (cases : _) × (operands ≡ written.Lookup default cases)

pub made : (layout : Layout) (at : ℕ) (text : List ℕ) (operands : Operands) → AreOperands layout at text operands → IsMade layout operands
made Alone at text operands h = h.1
made (One n make) at text operands h = (h.number, h.made)
made (Two m n make) at text operands h = (h.first, h.second, h.made)
made (Three m n k make) at text operands h = (h.first, h.second, h.third, h.made)
made TableSwitch at text operands h = (h.default, h.low, h.offsets, h.made)
made LookupSwitch at text operands h = (h.default, h.cases, h.made)

-- the same where there may be no layout
abbrev pub IsMadeBy : Option Layout → Operands → Type 0
IsMadeBy None operands = ⊥
IsMadeBy (Some layout) operands = IsMade layout operands

-- what operands name has the layout of the form
plain_operands : {I : Type 0} (form : Form) (pool : List PoolItem) (rows : List (ℕ × I)) (pc op : ℕ) (operands : Operands) (arg : Arg)
    → IsMadeBy (layout_of form) operands → is_allowed operands ≡ true → NamesOperands pool rows pc op form operands arg → HasOperands form arg
plain_operands forms.Nothing pool rows pc op operands arg m allowed n = subst (λ (o : Operands). NamesOperands pool rows pc op forms.Nothing o arg) m n
plain_operands forms.Local pool rows pc op operands arg m allowed n = (m.0, subst (λ (o : Operands). NamesOperands pool rows pc op forms.Local o arg) m.1 n)
plain_operands forms.Small1 pool rows pc op operands arg m allowed n = (s1 m.0, subst (λ (o : Operands). NamesOperands pool rows pc op forms.Small1 o arg) m.1 n)
plain_operands forms.Small2 pool rows pc op operands arg m allowed n = (s2 m.0, subst (λ (o : Operands). NamesOperands pool rows pc op forms.Small2 o arg) m.1 n)
plain_operands forms.Inc pool rows pc op operands arg m allowed n = (m.0, s1 m.1, subst (λ (o : Operands). NamesOperands pool rows pc op forms.Inc o arg) m.2 n)
plain_operands forms.Load1 pool rows pc op operands arg m allowed n = let k = subst (λ (o : Operands). NamesOperands pool rows pc op forms.Load1 o arg) m.1 n in (k.0, k.1, k.3)
plain_operands forms.Load2 pool rows pc op operands arg m allowed n = let k = subst (λ (o : Operands). NamesOperands pool rows pc op forms.Load2 o arg) m.1 n in (k.0, k.1, k.3)
plain_operands forms.LoadTwo pool rows pc op operands arg m allowed n = let k = subst (λ (o : Operands). NamesOperands pool rows pc op forms.LoadTwo o arg) m.1 n in (k.0, k.1, k.3)
plain_operands forms.Class pool rows pc op operands arg m allowed n = let k = subst (λ (o : Operands). NamesOperands pool rows pc op forms.Class o arg) m.1 n in (k.0, k.1)
plain_operands forms.Field pool rows pc op operands arg m allowed n = let k = subst (λ (o : Operands). NamesOperands pool rows pc op forms.Field o arg) m.1 n in (k.0, k.1)
plain_operands forms.Method pool rows pc op operands arg m allowed n = let k = subst (λ (o : Operands). NamesOperands pool rows pc op forms.Method o arg) m.1 n in (k.0, k.1)
plain_operands forms.InterfaceMethod pool rows pc op operands arg m allowed n = let k = subst (λ (o : Operands). NamesOperands pool rows pc op forms.InterfaceMethod o arg) m.3 n in (k.0, k.1)
plain_operands forms.Dynamic pool rows pc op operands arg m allowed n = let k = subst (λ (o : Operands). NamesOperands pool rows pc op forms.Dynamic o arg) m.3 n in k.3
plain_operands forms.NewPrim pool rows pc op operands arg m allowed n = let k = subst (λ (o : Operands). NamesOperands pool rows pc op forms.NewPrim o arg) m.1 n in (k.0, k.1)
plain_operands forms.Multi pool rows pc op operands arg m allowed n =
    let k = subst (λ (o : Operands). NamesOperands pool rows pc op forms.Multi o arg) m.2 n in
    let some : ltb 0 m.1 ≡ true = subst (λ (o : Operands). is_allowed o ≡ true) m.2 allowed in
    (k.0, m.1, k.1, ltb-true 0 m.1 some, k.3)
plain_operands forms.Jump2 pool rows pc op operands arg m allowed n = let k = subst (λ (o : Operands). NamesOperands pool rows pc op forms.Jump2 o arg) m.1 n in (k.0, k.1)
plain_operands forms.Jump4 pool rows pc op operands arg m allowed n = let k = subst (λ (o : Operands). NamesOperands pool rows pc op forms.Jump4 o arg) m.1 n in (k.0, k.1)
plain_operands forms.TableSwitch pool rows pc op operands arg m allowed n = let k = subst (λ (o : Operands). NamesOperands pool rows pc op forms.TableSwitch o arg) m.3 n in (k.0, m.1, k.1, k.2)
plain_operands forms.LookupSwitch pool rows pc op operands arg m allowed n = let k = subst (λ (o : Operands). NamesOperands pool rows pc op forms.LookupSwitch o arg) m.2 n in (k.0, k.1, k.2)
plain_operands forms.Wide pool rows pc op operands arg m allowed n = absurd m

pub chosen : (b : Bool) (layout : Layout) (operands : Operands) → IsMadeBy (cond b None (Some layout)) operands → IsMade layout operands
chosen true layout operands m = absurd m
chosen false layout operands m = m

wide_operands : {I : Type 0} (form : Form) (pool : List PoolItem) (rows : List (ℕ × I)) (pc op : ℕ) (operands : Operands) (arg : Arg)
    → IsMadeBy (wide_layout_of op form) operands → NamesOperands pool rows pc op form operands arg → HasOperands form arg
wide_operands forms.Local pool rows pc op operands arg m n =
    let k = chosen (eqb op RET) (One 2 written.Local) operands m in
    (k.0, subst (λ (o : Operands). NamesOperands pool rows pc op forms.Local o arg) k.1 n)
wide_operands forms.Inc pool rows pc op operands arg m n = (m.0, s2 m.1, subst (λ (o : Operands). NamesOperands pool rows pc op forms.Inc o arg) m.2 n)
wide_operands _ pool rows pc op operands arg m n = absurd m

by_wide : {I : Type 0} (wide : Bool) (form : Form) (layout : Layout) (pool : List PoolItem) (rows : List (ℕ × I)) (pc op : ℕ) (operands : Operands) (arg : Arg)
    → layout_by wide op form ≡ Some layout → IsMade layout operands → is_allowed operands ≡ true → NamesOperands pool rows pc op form operands arg → HasOperands form arg
by_wide false form layout pool rows pc op operands arg e m allowed n = plain_operands form pool rows pc op operands arg (subst (λ (l : Option Layout). IsMadeBy l operands) (sym e) m) allowed n
by_wide true form layout pool rows pc op operands arg e m allowed n = wide_operands form pool rows pc op operands arg (subst (λ (l : Option Layout). IsMadeBy l operands) (sym e) m) n

-- an instruction that is spelled has its own operands
pub own_operands : (pool : List PoolItem) (max_locals : ℕ) (rows : List (ℕ × Written)) (pc : ℕ) (insn : Insn) → IsSpelledOver pool max_locals rows pc insn → HasOwnOperands insn
own_operands pool max_locals rows pc insn s =
    let i = s.is_insn in
    let t = s.is_text in
    let w = s.written in
    let has = by_wide w.wide i.form.form t.layout pool rows pc w.op w.operands insn.arg (layout_row w.wide w.op i.form t.layout i.known t.known) (made t.layout (pc + 1) t.operands w.operands t.laid) t.allowed i.arg in
    let known : op_row insn.op ≡ Some i.form = ap op_row i.op ∙ i.known in
    subst (λ (row : Option OpForm). HasRowOperands row insn.arg) (sym known) has

-- what holds of each row holds of the one at an offset
pub at_all : {I : Type 0} (P : ℕ × I → Type 0) (rows : List (ℕ × I)) (pc : ℕ) (x : I) → AllByRecursion P rows → at_offset pc rows ≡ Some x → P (pc, x)
at_all {I} P [] pc x all e = absurd cc
at_all {I} P (row ∷ rows) pc x all e = by (eqb row.0 pc) refl e (at_all P rows pc x all.1)
  where
    by : (b : Bool) → eqb row.0 pc ≡ b → cond b (Some row.1) (at_offset pc rows) ≡ Some x → (at_offset pc rows ≡ Some x → P (pc, x)) → P (pc, x)
    by true same e more =
        let here : row.0 ≡ pc = eqb-true row.0 pc same in
        let it : row.1 ≡ x = some_is row.1 x e in
        subst (λ (k : ℕ). P (k, x)) here (subst (λ (y : I). P (row.0, y)) it all.0)
    by false same e more = more e

pub decoded_own : (pool : List PoolItem) (max_stack max_locals : ℕ) (code : List ℕ) (handlers : List RawHandler) (body : Body) (pc : ℕ) (insn : Insn)
    → Decodes pool max_stack max_locals code handlers body → at_offset pc body.insns ≡ Some insn → HasOwnOperands insn
decoded_own pool max_stack max_locals code handlers body pc insn d e =
    own_operands pool max_locals d.rows pc insn
    (at_all (λ (row : ℕ × Insn). IsSpelledOver pool max_locals d.rows row.0 row.1) body.insns pc insn (spelled_insns pool max_locals d.rows 0 code d.rows body.insns d.laid d.insns) e)
