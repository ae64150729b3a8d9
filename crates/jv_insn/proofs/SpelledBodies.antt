-- A body that some code spells may be encoded, where no part of it is left out and each ldc stands near.
use Rattle.std.proofs.Common.{◌≡◌, ℕ, suc, ◌+◌, ◌-◌, ◌*◌, ◌<◌, ◌⊎◌, inl, inr, ℤ, Bool, true, false, cond, eqb, List, [], ◌∷◌, ◌++◌, length, Option, Some, None, IsSome, refl, sym, ap, subst, ◌∙◌, length-append, arith}
use Rattle.std.specs.List.{AllZip, AllByRecursion, flat_map}
use Rattle.std.specs.Option.{option_map_or}
use Rattle.std.proofs.lemmas.Slice.Zip.{AllZip-long}
use Rattle.jv_bytes.specs.Numbers.{number_text}
use Rattle.jv_bytes.proofs.NumberLaws.{length-number_text}
use Rattle.jv_table.specs.CodeRows.{OpForm}
use Rattle.jv_table.specs.declared.code_tables.Form.{Form}
use Rattle.jv_table.specs.declared.code_tables.Form.TheVariants as forms
use Rattle.jv_table.specs.declared.ops.TheConstants.{RET}
use Rattle.jv_types.specs.Bodies.{IsStart, at_offset}
use Rattle.jv_types.specs.declared.raw_handler.RawHandler.{RawHandler}
use Rattle.jv_types.specs.declared.instruction.Arg.{Arg}
use Rattle.jv_types.specs.declared.instruction.Insn.{Insn}
use Rattle.jv_types.specs.declared.body.Handler.{Handler}
use Rattle.jv_types.specs.declared.body.Body.{Body}
use Rattle.jv_pool.specs.declared.item.PoolItem.{PoolItem}
use Rattle.jv_insn.specs.declared.written.Operands.{Operands}
use Rattle.jv_insn.specs.declared.written.Operands.TheVariants as written
use Rattle.jv_insn.specs.declared.written.Written.{Written}
use Rattle.jv_insn.specs.Layouts.{Layout, One, s1, s2, s4, s4_text, pair_text, padding_at, layout_of, wide_layout_of, IsOne, AreTwo, AreThree, IsTable, IsLookup, AreOperands, head_text, IsInsnText, Ends, BreaksOff, Lays}
use Rattle.jv_insn.specs.Meanings.{LeadsTo, LeadsCase, NamesOperands, IsInsn}
use Rattle.jv_insn.specs.Decoding.{IsRow, IsHandler, Decodes}
use Rattle.jv_insn.specs.Encoding.{form_of, is_left_out, arg_size, insn_size, IsSpelled, StandsNear, MayStand, AreLaid, HasPlaces, MayEncode}
use Rattle.jv_insn.proofs.Rewriting.{layout_by, layout_row}
use Rattle.jv_insn.proofs.ByteCounts.{both, s4_size}

-- ---- the operands of each layout

one_long : (n : ℕ) (make : ℕ → Operands) (text : List ℕ) (operands : Operands) → IsOne n make text operands → length text ≡ n
one_long n make text operands h = ap length h.spelled ∙ length-number_text n h.number

two_long : (m n : ℕ) (make : ℕ → ℕ → Operands) (text : List ℕ) (operands : Operands) → AreTwo m n make text operands → length text ≡ m + n
two_long m n make text operands h = ap length h.spelled ∙ both (number_text m h.first) (number_text n h.second) m n (length-number_text m h.first) (length-number_text n h.second)

three_long : (m n k : ℕ) (make : ℕ → ℕ → ℕ → Operands) (text : List ℕ) (operands : Operands) → AreThree m n k make text operands → length text ≡ m + (n + k)
three_long m n k make text operands h =
    ap length h.spelled
    ∙ both (number_text m h.first) (number_text n h.second ++ number_text k h.third) m (n + k) (length-number_text m h.first) (both (number_text n h.second) (number_text k h.third) n k (length-number_text n h.second) (length-number_text k h.third))

offsets_long : (offsets : List ℤ) → length (flat_map s4_text offsets) ≡ 4 * length offsets
offsets_long [] = refl
offsets_long (o ∷ offsets) = both (s4_text o) (flat_map s4_text offsets) 4 (4 * length offsets) (s4_size o) (offsets_long offsets) ∙ more (length offsets)
  where
    more : (n : ℕ) → 4 + 4 * n ≡ 4 * suc n
    more n = omega arith

pairs_long : (cases : List (ℤ × ℤ)) → length (flat_map pair_text cases) ≡ 8 * length cases
pairs_long [] = refl
pairs_long (c ∷ cases) = both (pair_text c) (flat_map pair_text cases) 8 (8 * length cases) (both (s4_text c.0) (s4_text c.1) 4 4 (s4_size c.0) (s4_size c.1)) (pairs_long cases) ∙ more (length cases)
  where
    more : (n : ℕ) → 8 + 8 * n ≡ 8 * suc n
    more n = omega arith

table_long : (at : ℕ) (text : List ℕ) (operands : Operands) (h : IsTable at text operands) → length text ≡ padding_at at + (12 + 4 * length h.offsets)
table_long at text operands h =
    let all = flat_map s4_text h.offsets in
    let n = 4 * length h.offsets in
    let a = both (s4_text h.high) all 4 n (s4_size h.high) (offsets_long h.offsets) in
    let b = both (s4_text h.low) (s4_text h.high ++ all) 4 (4 + n) (s4_size h.low) a in
    let c = both (s4_text h.default) (s4_text h.low ++ (s4_text h.high ++ all)) 4 (4 + (4 + n)) (s4_size h.default) b in
    ap length h.spelled ∙ both h.padding (s4_text h.default ++ (s4_text h.low ++ (s4_text h.high ++ all))) (padding_at at) (4 + (4 + (4 + n))) h.aligned c
    ∙ ap (λ (k : ℕ). padding_at at + k) (sum n)
  where
    sum : (n : ℕ) → 4 + (4 + (4 + n)) ≡ 12 + n
    sum n = omega arith

lookup_long : (at : ℕ) (text : List ℕ) (operands : Operands) (h : IsLookup at text operands) → length text ≡ padding_at at + (8 + 8 * length h.cases)
lookup_long at text operands h =
    let all = flat_map pair_text h.cases in
    let count = number_text 4 (length h.cases) in
    let n = 8 * length h.cases in
    let a = both count all 4 n (length-number_text 4 (length h.cases)) (pairs_long h.cases) in
    let b = both (s4_text h.default) (count ++ all) 4 (4 + n) (s4_size h.default) a in
    ap length h.spelled ∙ both h.padding (s4_text h.default ++ (count ++ all)) (padding_at at) (4 + (4 + n)) h.aligned b
    ∙ ap (λ (k : ℕ). padding_at at + k) (sum n)
  where
    sum : (n : ℕ) → 4 + (4 + n) ≡ 8 + n
    sum n = omega arith

-- the bytes are operands, where there is a layout
abbrev pub AreOperandsBy : Option Layout → ℕ → List ℕ → Operands → Type 0
AreOperandsBy None at text operands = ⊥
AreOperandsBy (Some layout) at text operands = AreOperands layout at text operands

-- the operands of a form are as long as its size
plain_long : {I : Type 0} (form : Form) (pool : List PoolItem) (rows : List (ℕ × I)) (pc op : ℕ) (text : List ℕ) (operands : Operands) (arg : Arg)
    → AreOperandsBy (layout_of form) (pc + 1) text operands → NamesOperands pool rows pc op form operands arg → length text ≡ arg_size form false pc arg
plain_long forms.Nothing pool rows pc op text operands arg h n = ap length h.0 ∙ sym (ap (arg_size forms.Nothing false pc) (subst (λ (o : Operands). NamesOperands pool rows pc op forms.Nothing o arg) h.1 n))
plain_long forms.Local pool rows pc op text operands arg h n = one_long 1 written.Local text operands h ∙ sym (ap (arg_size forms.Local false pc) (subst (λ (o : Operands). NamesOperands pool rows pc op forms.Local o arg) h.made n))
plain_long forms.Small1 pool rows pc op text operands arg h n = one_long 1 (λ number. written.Small (s1 number)) text operands h ∙ sym (ap (arg_size forms.Small1 false pc) (subst (λ (o : Operands). NamesOperands pool rows pc op forms.Small1 o arg) h.made n))
plain_long forms.Small2 pool rows pc op text operands arg h n = one_long 2 (λ number. written.Small (s2 number)) text operands h ∙ sym (ap (arg_size forms.Small2 false pc) (subst (λ (o : Operands). NamesOperands pool rows pc op forms.Small2 o arg) h.made n))
plain_long forms.Inc pool rows pc op text operands arg h n = two_long 1 1 (λ local by. written.Inc local (s1 by)) text operands h ∙ sym (ap (arg_size forms.Inc false pc) (subst (λ (o : Operands). NamesOperands pool rows pc op forms.Inc o arg) h.made n))
plain_long forms.Load1 pool rows pc op text operands arg h n = let k = subst (λ (o : Operands). NamesOperands pool rows pc op forms.Load1 o arg) h.made n in one_long 1 written.Index text operands h ∙ sym (ap (arg_size forms.Load1 false pc) k.1)
plain_long forms.Load2 pool rows pc op text operands arg h n = let k = subst (λ (o : Operands). NamesOperands pool rows pc op forms.Load2 o arg) h.made n in one_long 2 written.Index text operands h ∙ sym (ap (arg_size forms.Load2 false pc) k.1)
plain_long forms.LoadTwo pool rows pc op text operands arg h n = let k = subst (λ (o : Operands). NamesOperands pool rows pc op forms.LoadTwo o arg) h.made n in one_long 2 written.Index text operands h ∙ sym (ap (arg_size forms.LoadTwo false pc) k.1)
plain_long forms.Class pool rows pc op text operands arg h n = let k = subst (λ (o : Operands). NamesOperands pool rows pc op forms.Class o arg) h.made n in one_long 2 written.Index text operands h ∙ sym (ap (arg_size forms.Class false pc) k.1)
plain_long forms.Field pool rows pc op text operands arg h n = let k = subst (λ (o : Operands). NamesOperands pool rows pc op forms.Field o arg) h.made n in one_long 2 written.Index text operands h ∙ sym (ap (arg_size forms.Field false pc) k.1)
plain_long forms.Method pool rows pc op text operands arg h n = let k = subst (λ (o : Operands). NamesOperands pool rows pc op forms.Method o arg) h.made n in one_long 2 written.Index text operands h ∙ sym (ap (arg_size forms.Method false pc) k.1)
plain_long forms.InterfaceMethod pool rows pc op text operands arg h n = let k = subst (λ (o : Operands). NamesOperands pool rows pc op forms.InterfaceMethod o arg) h.made n in three_long 2 1 1 written.Called text operands h ∙ sym (ap (arg_size forms.InterfaceMethod false pc) k.1)
plain_long forms.Dynamic pool rows pc op text operands arg h n = let k = subst (λ (o : Operands). NamesOperands pool rows pc op forms.Dynamic o arg) h.made n in three_long 2 1 1 written.Site text operands h ∙ sym (ap (arg_size forms.Dynamic false pc) k.3)
plain_long forms.NewPrim pool rows pc op text operands arg h n = let k = subst (λ (o : Operands). NamesOperands pool rows pc op forms.NewPrim o arg) h.made n in one_long 1 written.NewPrim text operands h ∙ sym (ap (arg_size forms.NewPrim false pc) k.1)
plain_long forms.Multi pool rows pc op text operands arg h n = let k = subst (λ (o : Operands). NamesOperands pool rows pc op forms.Multi o arg) h.made n in two_long 2 1 written.Multi text operands h ∙ sym (ap (arg_size forms.Multi false pc) k.1)
plain_long forms.Jump2 pool rows pc op text operands arg h n = let k = subst (λ (o : Operands). NamesOperands pool rows pc op forms.Jump2 o arg) h.made n in one_long 2 (λ offset. written.Jump (s2 offset)) text operands h ∙ sym (ap (arg_size forms.Jump2 false pc) k.1)
plain_long forms.Jump4 pool rows pc op text operands arg h n = let k = subst (λ (o : Operands). NamesOperands pool rows pc op forms.Jump4 o arg) h.made n in one_long 4 (λ offset. written.Jump (s4 offset)) text operands h ∙ sym (ap (arg_size forms.Jump4 false pc) k.1)
plain_long forms.TableSwitch pool rows pc op text operands arg h n =
    let k = subst (λ (o : Operands). NamesOperands pool rows pc op forms.TableSwitch o arg) h.made n in
    let as_many : length k.1 ≡ length h.offsets = AllZip-long (LeadsTo rows pc) h.offsets k.1 k.4 in
    table_long (pc + 1) text operands h ∙ ap (λ (m : ℕ). padding_at (pc + 1) + (12 + 4 * m)) (sym as_many) ∙ sym (ap (arg_size forms.TableSwitch false pc) k.2)
plain_long forms.LookupSwitch pool rows pc op text operands arg h n =
    let k = subst (λ (o : Operands). NamesOperands pool rows pc op forms.LookupSwitch o arg) h.made n in
    let as_many : length k.1 ≡ length h.cases = AllZip-long (LeadsCase rows pc) h.cases k.1 k.4 in
    lookup_long (pc + 1) text operands h ∙ ap (λ (m : ℕ). padding_at (pc + 1) + (8 + 8 * m)) (sym as_many) ∙ sym (ap (arg_size forms.LookupSwitch false pc) k.2)
plain_long forms.Wide pool rows pc op text operands arg h n = absurd h

chosen : (b : Bool) (layout : Layout) (at : ℕ) (text : List ℕ) (operands : Operands) → AreOperandsBy (cond b None (Some layout)) at text operands → AreOperands layout at text operands
chosen true layout at text operands h = absurd h
chosen false layout at text operands h = h

wide_long : {I : Type 0} (form : Form) (pool : List PoolItem) (rows : List (ℕ × I)) (pc op : ℕ) (text : List ℕ) (operands : Operands) (arg : Arg)
    → AreOperandsBy (wide_layout_of op form) (pc + 1) text operands → NamesOperands pool rows pc op form operands arg → length text ≡ arg_size form true pc arg
wide_long forms.Local pool rows pc op text operands arg h n =
    let c = chosen (eqb op RET) (One 2 written.Local) (pc + 1) text operands h in
    one_long 2 written.Local text operands c ∙ sym (ap (arg_size forms.Local true pc) (subst (λ (o : Operands). NamesOperands pool rows pc op forms.Local o arg) c.made n))
wide_long forms.Inc pool rows pc op text operands arg h n = two_long 2 2 (λ local by. written.Inc local (s2 by)) text operands h ∙ sym (ap (arg_size forms.Inc true pc) (subst (λ (o : Operands). NamesOperands pool rows pc op forms.Inc o arg) h.made n))
wide_long _ pool rows pc op text operands arg h n = absurd h

operands_long : {I : Type 0} (wide : Bool) (layout : Layout) (form : Form) (pool : List PoolItem) (rows : List (ℕ × I)) (pc op : ℕ) (text : List ℕ) (operands : Operands) (arg : Arg)
    → layout_by wide op form ≡ Some layout → AreOperands layout (pc + 1) text operands → NamesOperands pool rows pc op form operands arg → length text ≡ arg_size form wide pc arg
operands_long false layout form pool rows pc op text operands arg e h n = plain_long form pool rows pc op text operands arg (subst (λ (l : Option Layout). AreOperandsBy l (pc + 1) text operands) (sym e) h) n
operands_long true layout form pool rows pc op text operands arg e h n = wide_long form pool rows pc op text operands arg (subst (λ (l : Option Layout). AreOperandsBy l (pc + 1) text operands) (sym e) h) n

-- ---- an instruction

insn_long : (pool : List PoolItem) (max_locals : ℕ) (rows : List (ℕ × Written)) (pc : ℕ) (w : Written) (text : List ℕ) (insn : Insn) → IsInsn pool max_locals rows pc w insn → IsInsnText pc text w → length text ≡ insn_size pc insn
insn_long pool max_locals rows pc w text insn h t =
    let form = h.form.form in
    let form_is : form_of insn.op ≡ form = ap form_of h.op ∙ ap (λ (o : Option OpForm). option_map_or (λ (row : OpForm). row.form) o forms.Nothing) h.known in
    let long = operands_long w.wide t.layout form pool rows pc w.op t.operands w.operands insn.arg (layout_row w.wide w.op h.form t.layout h.known t.known) t.laid h.arg in
    ap length t.spelled ∙ length-append (head_text w.wide w.op) t.operands
    ∙ ap (λ (n : ℕ). length (head_text w.wide w.op) + n) long
    ∙ ap (λ (f : Form). length (head_text w.wide w.op) + arg_size f w.wide pc insn.arg) (sym form_is)
    ∙ ap (λ (b : Bool). length (head_text b w.op) + arg_size (form_of insn.op) b pc insn.arg) (sym h.wide)
    ∙ ap (λ (o : ℕ). length (head_text insn.wide o) + arg_size (form_of insn.op) insn.wide pc insn.arg) (sym h.op)

-- ---- a body

no_end : {pc byte : ℕ} {bytes : List ℕ} {end : Option ℕ} → Ends pc (byte ∷ bytes) end → end ≡ None → ⊥
no_end (BreaksOff none) e = absurd cc

all_read : (pc : ℕ) (bytes : List ℕ) → Ends pc bytes None → length bytes ≡ 0
all_read pc [] e = refl
all_read pc (b ∷ bytes) e = absurd (no_end e refl)

laid_of : (pool : List PoolItem) (max_locals : ℕ) (all : List (ℕ × Written)) (pc end : ℕ) (bytes : List ℕ) (rows : List (ℕ × Written)) (insns : List (ℕ × Insn)) → Lays pc bytes rows None
    → AllZip (IsRow pool max_locals all) rows insns → pc + length bytes ≡ end → AreLaid pc insns end
laid_of pool max_locals all pc end bytes [] [] h z e = none (length bytes) (all_read pc bytes h) e
  where
    none : (n : ℕ) → n ≡ 0 → pc + n ≡ end → pc ≡ end
    none n a b = omega (arith, a, b)
laid_of pool max_locals all pc end bytes [] (i ∷ insns) h z e = absurd z
laid_of pool max_locals all pc end bytes (row ∷ rows) [] h z e = absurd z
laid_of pool max_locals all pc end bytes (row ∷ rows) (i ∷ insns) h z e =
    let rest = h.0 in
    let b = h.1.1 in
    let here : i.0 ≡ pc = z.0.pc ∙ h.1.0 in
    let is_insn : IsInsn pool max_locals all pc row.1 i.1 = subst (λ (p : ℕ). IsInsn pool max_locals all p row.1 i.1) h.1.0 z.0.is_insn in
    let long = insn_long pool max_locals all pc row.1 b.front i.1 is_insn b.is_text in
    let whole : length bytes ≡ insn_size pc i.1 + length rest = ap length b.parts ∙ length-append b.front rest ∙ ap (λ (n : ℕ). n + length rest) long in
    let end_is : (pc + (length bytes - length rest)) + length rest ≡ end = ends (length bytes) (insn_size pc i.1) (length rest) whole e in
    let next : pc + (length bytes - length rest) ≡ pc + insn_size pc i.1 = nexts (length bytes) (insn_size pc i.1) (length rest) whole in
    (here, subst (λ (p : ℕ). AreLaid p insns end) next (laid_of pool max_locals all (pc + (length bytes - length rest)) end rest rows insns h.1.2 z.1 end_is))
  where
    ends : (whole size rest : ℕ) → whole ≡ size + rest → pc + whole ≡ end → (pc + (whole - rest)) + rest ≡ end
    ends whole size rest a b = omega (arith, a, b)

    nexts : (whole size rest : ℕ) → whole ≡ size + rest → pc + (whole - rest) ≡ pc + size
    nexts whole size rest a = omega (arith, a)

-- rows start where their instructions do
rows_on : (pool : List PoolItem) (max_locals : ℕ) (all rows : List (ℕ × Written)) (insns : List (ℕ × Insn)) → AllZip (IsRow pool max_locals all) rows insns → (q : ℕ) → IsStart rows q → IsStart insns q
rows_on pool max_locals all [] [] z q s = s
rows_on pool max_locals all [] (i ∷ insns) z q s = absurd z
rows_on pool max_locals all (row ∷ rows) [] z q s = absurd z
rows_on pool max_locals all (row ∷ rows) (i ∷ insns) z q s = subst (λ (k : ℕ). IsSome (cond (eqb k q) (Some i.1) (at_offset q insns))) (sym z.0.pc) (by (eqb row.0 q) s (rows_on pool max_locals all rows insns z.1 q))
  where
    by : (b : Bool) → IsSome (cond b (Some row.1) (at_offset q rows)) → (IsStart rows q → IsStart insns q) → IsSome (cond b (Some i.1) (at_offset q insns))
    by true s more = refl
    by false s more = more s

stand_of : (pool : List PoolItem) (max_locals : ℕ) (all : List (ℕ × Written)) (whole : List (ℕ × Insn)) (pc : ℕ) (bytes : List ℕ) (rows : List (ℕ × Written)) (insns : List (ℕ × Insn)) → ((q : ℕ) → IsStart all q → IsStart whole q)
    → Lays pc bytes rows None → AllZip (IsRow pool max_locals all) rows insns → AllByRecursion (λ (row : ℕ × Insn). MayStand max_locals whole row.0 row.1) insns
stand_of pool max_locals all whole pc bytes [] [] on h z = tt
stand_of pool max_locals all whole pc bytes [] (i ∷ insns) on h z = absurd z
stand_of pool max_locals all whole pc bytes (row ∷ rows) [] on h z = absurd z
stand_of pool max_locals all whole pc bytes (row ∷ rows) (i ∷ insns) on h z =
    let b = h.1.1 in
    let here : i.0 ≡ pc = z.0.pc ∙ h.1.0 in (
      record {
        pool = pool;
        rows = all;
        starts = on;
        written = row.1;
        text = b.front;
        is_insn = subst (λ (p : ℕ). IsInsn pool max_locals all p row.1 i.1) (sym z.0.pc) z.0.is_insn;
        is_text = subst (λ (p : ℕ). IsInsnText p b.front row.1) (sym here) b.is_text;
      },
      stand_of pool max_locals all whole (pc + (length bytes - length h.0)) h.0 rows insns on h.1.2 z.1,
    )

places_of : (pool : List PoolItem) (size : ℕ) (rows : List (ℕ × Written)) (insns : List (ℕ × Insn)) → ((q : ℕ) → IsStart rows q → IsStart insns q) → (raws : List RawHandler) (handlers : List Handler)
    → AllZip (IsHandler pool size rows) raws handlers → AllByRecursion (HasPlaces insns size) handlers
places_of pool size rows insns on [] [] h = tt
places_of pool size rows insns on [] (x ∷ xs) h = absurd h
places_of pool size rows insns on (r ∷ raws) [] h = absurd h
places_of pool size rows insns on (r ∷ raws) (x ∷ xs) h =
    let a = h.0 in
    let covers : r.start < r.end = a.bounds.covers in
    let ends : IsStart insns x.end ⊎ (x.end ≡ size) = elim a.bounds.ends [ inl s ↦ inl (on x.end (subst (IsStart rows) (sym a.end) s)) | inr e ↦ inr (a.end ∙ e) ] in (
      record {
        covers = omega (arith, covers, a.start, a.end);
        starts = on x.start (subst (IsStart rows) (sym a.start) a.bounds.starts);
        ends = ends;
        leads = on x.target (subst (IsStart rows) (sym a.target) a.bounds.leads);
      },
      places_of pool size rows insns on raws xs h.1,
    )

from_zero : (n : ℕ) → 0 + n ≡ n
from_zero n = omega arith

pub may_of_spelled : (pool : List PoolItem) (body : Body) → IsSpelled body → AllByRecursion (λ (row : ℕ × Insn). is_left_out row.1.arg ≡ false) body.insns → AllByRecursion (λ (row : ℕ × Insn). StandsNear pool row.1) body.insns → MayEncode pool body
may_of_spelled pool body s whole near =
    let d = s.decodes in
    let on = rows_on s.pool body.max_locals d.rows d.rows body.insns d.insns in
    record {
      laid = laid_of s.pool body.max_locals d.rows 0 body.length s.code d.rows body.insns d.laid d.insns (from_zero (length s.code) ∙ sym d.length_is);
      each = stand_of s.pool body.max_locals d.rows body.insns 0 s.code d.rows body.insns on d.laid d.insns;
      handlers = subst (λ (n : ℕ). AllByRecursion (HasPlaces body.insns n) body.handlers) (sym d.length_is) (places_of s.pool (length s.code) d.rows body.insns on s.handlers body.handlers d.handlers_are);
      whole = whole;
      near = near;
    }

-- a body that was decoded is spelled
pub spelled_of : (pool : List PoolItem) (max_stack max_locals : ℕ) (code : List ℕ) (handlers : List RawHandler) (body : Body) → Decodes pool max_stack max_locals code handlers body → IsSpelled body
spelled_of pool max_stack max_locals code handlers body d = record {
  pool = pool;
  code = code;
  handlers = handlers;
  decodes =
      subst (λ (n : ℕ). Decodes pool n body.max_locals code handlers body) (sym d.stack_is)
      (subst (λ (n : ℕ). Decodes pool max_stack n code handlers body) (sym d.locals_is) d);
}
