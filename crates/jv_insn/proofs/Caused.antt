-- Each instruction and each entry of the exception table is right, or has a cause of refusal.
use Rattle.std.proofs.Common.{◌≡◌, ℕ, zero, suc, ◌+◌, ◌<◌, ◌≤◌, ℤ, pos, negsuc, ◌+ℤ◌, Bool, true, false, not, ◌&&◌, ◌||◌, eqb, ltb, List, [], ◌∷◌, map, Option, Some, None, refl, sym, ap, subst, ◌∙◌, ◌⊎◌, inl, inr, arith}
use Rattle.std.specs.Prelude.{Contains, IsTrue, is_some, option_and_then}
use Rattle.std.specs.Option.{option_map_or}
use Rattle.std.specs.List.{AllZip, list_all}
use Rattle.std.specs.Ordering.{nat_cmp}
use Rattle.std.proofs.lemmas.Bool.{eqb-true, eqb-false, ltb-true, ltb-false}
use Rattle.std.proofs.lemmas.List.Elements.{Contains-append_right}
use Rattle.jv_lists.proofs.Among.{is_first}
use Rattle.jv_table.specs.Rows.{row_of}
use Rattle.jv_table.specs.CodeRows.{OpForm, newarray_rows}
use Rattle.jv_table.specs.declared.code_tables.Form.{Form}
use Rattle.jv_table.specs.declared.code_tables.Form.TheVariants as forms
use Rattle.jv_table.specs.declared.ops.TheConstants.{RET, INVOKEVIRTUAL, NEW, ANEWARRAY}
use Rattle.jv_types.specs.declared.raw_handler.RawHandler.{RawHandler}
use Rattle.jv_types.specs.declared.desc.PrimType.{PrimType}
use Rattle.jv_types.specs.declared.desc.PrimType.TheVariants.{Boolean, Char, Float, Double, Byte, Short, Int, Long}
use Rattle.jv_types.specs.declared.desc.RefType.{RefType}
use Rattle.jv_types.specs.declared.references.MethodRef.{MethodRef}
use Rattle.jv_types.specs.declared.instruction.Arg.{Arg}
use Rattle.jv_types.specs.declared.instruction.Arg.TheVariants as args
use Rattle.jv_types.specs.declared.instruction.Insn.{Insn}
use Rattle.jv_types.specs.declared.body.Handler.{Handler}
use Rattle.jv_types.specs.Bodies.{IsStart, at_offset}
use Rattle.jv_desc.specs.Texts.{prim_letter, ref_dims, words_of}
use Rattle.jv_pool.specs.declared.item.PoolItem.{PoolItem}
use Rattle.jv_pool.specs.declared.item.PoolItem.TheVariants as items
use Rattle.jv_pool.specs.Lookups.{item_at, names, is_class}
use Rattle.jv_pool.specs.PoolText.{is_interface_method}
use Rattle.jv_names.specs.Naming.{NamesType, NamesMethod}
use Rattle.jv_names.specs.PoolNames.{IsNamedPool}
use Rattle.jv_insn.specs.declared.written.Operands.{Operands}
use Rattle.jv_insn.specs.declared.written.Operands.TheVariants as written
use Rattle.jv_insn.specs.declared.written.Written.{Written}
use Rattle.jv_insn.specs.Effects.{op_row, local_of}
use Rattle.jv_insn.specs.Layouts.{Layout, One, s1, s2, s4, layout_of, wide_layout_of, layout_for, is_allowed, IsInsnText}
use Rattle.jv_insn.specs.Meanings.{LeadsTo, LeadsCase, NamesOperands, has_local, IsInsn}
use Rattle.jv_insn.specs.Decoding.{Catches, HasBounds, IsHandler}
use Rattle.jv_insn.specs.Encoding.{form_of}
use Rattle.jv_insn.specs.Causes.{Cause, WrongTag, LeadsNowhere, LocalTooHigh, WrongLastBytes, FieldOfArray, NewOfArray, TooManyDims, MissingDims, EmptyRange, StartNowhere, EndNowhere, TargetNowhere, CatchOfArray, IsCause, pool_index, offsets_of, is_call_site, has_tag}
use Rattle.jv_insn.proofs.ClassPool.{names_item, AreLinked, named_type, class_or_array, narrow_constant, wide_constant, field_or_array, named_method}
use Rattle.jv_insn.proofs.Keeping.{named_keeps}
use Rattle.jv_insn.proofs.Leading.{one_distance}
use Rattle.jv_insn.proofs.OfLayout.{IsMadeBy, made, chosen}
use Rattle.jv_insn.proofs.Args.{written_is}
use Rattle.jv_insn.proofs.Rewriting.{layout_by, layout_row}
use Rattle.jv_insn.proofs.OneEach.{value_of}
use Rattle.jv_insn.proofs.Tables.{row_passes}

-- something that is asked for where a test holds, or a cause
unless : (P C : Type 0) (b : Bool) → (b ≡ true → P ⊎ C) → (b ≡ true → P) ⊎ C
unless P C true f = elim (f refl) [ inl p ↦ inl (λ _. p) | inr c ↦ inr c ]
unless P C false f = inl (λ e. absurd cc)

-- ---- primitive types

-- a letter is that of a primitive type
abbrev is_letter : ℕ × ℕ → Bool
is_letter row = eqb row.1 90 || (eqb row.1 67 || (eqb row.1 70 || (eqb row.1 68 || (eqb row.1 66 || (eqb row.1 83 || (eqb row.1 73 || eqb row.1 74))))))

pick : (P : Type 0) (a b : Bool) → (a ≡ true → P) → (b ≡ true → P) → (a || b) ≡ true → P
pick P true b f g e = f refl
pick P false b f g e = g e

abbrev Lettered : ℕ → Type 0
Lettered letter = (prim : PrimType) × (letter ≡ prim_letter prim)

letter_of : (code letter : ℕ) → is_letter (code, letter) ≡ true → Lettered letter
letter_of code l =
    pick (Lettered l) (eqb l 90) _ (λ e. (Boolean, eqb-true l 90 e))
    (pick (Lettered l) (eqb l 67) _ (λ e. (Char, eqb-true l 67 e))
    (pick (Lettered l) (eqb l 70) _ (λ e. (Float, eqb-true l 70 e))
    (pick (Lettered l) (eqb l 68) _ (λ e. (Double, eqb-true l 68 e))
    (pick (Lettered l) (eqb l 66) _ (λ e. (Byte, eqb-true l 66 e))
    (pick (Lettered l) (eqb l 83) _ (λ e. (Short, eqb-true l 83 e))
    (pick (Lettered l) (eqb l 73) (eqb l 74) (λ e. (Int, eqb-true l 73 e)) (λ e. (Long, eqb-true l 74 e))))))))

each_is_letter : list_all is_letter newarray_rows ≡ true
each_is_letter = refl

prim_of_code : (code : ℕ) → is_some (row_of nat_cmp code newarray_rows) ≡ true → (prim : PrimType) × (row_of nat_cmp code newarray_rows ≡ Some (prim_letter prim))
prim_of_code code known =
    let row = value_of (row_of nat_cmp code newarray_rows) known in
    let letter = letter_of code row.0 (row_passes is_letter newarray_rows code row.0 each_is_letter row.1) in
    (letter.0, row.1 ∙ ap (λ (l : ℕ). Some l) letter.1)

-- ---- layouts

-- what a step took from something
had : {A B : Type 0} (f : A → Option B) (o : Option A) (y : B) → option_and_then f o ≡ Some y → (x : A) × (o ≡ Some x)
had f None y e = absurd cc
had f (Some x) y e = (x, refl)

-- an opcode with a layout has a row
pub row_known : (wide : Bool) (op : ℕ) (layout : Layout) → layout_for wide op ≡ Some layout → (row : OpForm) × (op_row op ≡ Some row)
row_known false op layout e = had (λ (row : OpForm). layout_of row.form) (op_row op) layout e
row_known true op layout e = had (λ (row : OpForm). wide_layout_of op row.form) (op_row op) layout e

-- ---- places

no_instruction : {I : Type 0} (rows : List (ℕ × I)) (n : ℕ) → at_offset n rows ≡ None → IsStart rows n → ⊥
no_instruction {I} rows n none s = let v = value_of (at_offset n rows) s in differ (at_offset n rows) v.0 v.1 none
  where
    differ : (o : Option I) (x : I) → o ≡ Some x → o ≡ None → ⊥
    differ o x e f = absurd cc

start_or : {I : Type 0} (rows : List (ℕ × I)) (n : ℕ) → IsStart rows n ⊎ (IsStart rows n → ⊥)
start_or {I} rows n = by (at_offset n rows) refl
  where
    by : (o : Option I) → at_offset n rows ≡ o → IsStart rows n ⊎ (IsStart rows n → ⊥)
    by None e = inr (no_instruction rows n e)
    by (Some x) e = inl (rw e refl)

-- an offset leads to an instruction, or to none
abbrev NoTarget : List (ℕ × Written) → ℕ → ℤ → Type 0
NoTarget rows pc offset = (target : ℕ) → LeadsTo rows pc offset target → ⊥

lead_or : (rows : List (ℕ × Written)) (pc : ℕ) (offset : ℤ) → ((target : ℕ) × LeadsTo rows pc offset target) ⊎ NoTarget rows pc offset
lead_or rows pc offset = by (pos pc +ℤ offset) refl
  where
    by : (z : ℤ) → pos pc +ℤ offset ≡ z → ((target : ℕ) × LeadsTo rows pc offset target) ⊎ NoTarget rows pc offset
    by (pos n) e = elim (start_or rows n) [
      | inl s ↦ inl (n, record { distance = e; starts = s })
      | inr none ↦ inr (λ target h. let same = one_distance (pos pc +ℤ offset) n target e h.distance in none (subst (λ (q : ℕ). IsStart rows q) (sym same) h.starts))
    ]
    by (negsuc n) e = inr (λ target h. let z : negsuc n ≡ pos target = sym e ∙ h.distance in absurd cc)

-- one of the offsets leads nowhere
abbrev SomeNowhere : List (ℕ × Written) → ℕ → List ℤ → Type 0
SomeNowhere rows pc offsets = (offset : ℤ) × Contains offsets offset × NoTarget rows pc offset

later_in : (first offset : ℤ) (offsets : List ℤ) → Contains offsets offset → Contains (first ∷ offsets) offset
later_in first offset offsets c = Contains-append_right (first ∷ []) offsets offset c

leads_or : (rows : List (ℕ × Written)) (pc : ℕ) (offsets : List ℤ) → ((targets : List ℕ) × AllZip (LeadsTo rows pc) offsets targets) ⊎ SomeNowhere rows pc offsets
leads_or rows pc [] = inl ([], tt)
leads_or rows pc (offset ∷ offsets) = elim (lead_or rows pc offset) [
  | inl t ↦ elim (leads_or rows pc offsets) [
    | inl ts ↦ inl (t.0 ∷ ts.0, (t.1, ts.1))
    | inr n ↦ inr (n.0, later_in offset n.0 offsets n.1, n.2)
  ]
  | inr none ↦ inr (offset, is_first offset offsets, none)
]

abbrev case_offsets : List (ℤ × ℤ) → List ℤ
case_offsets cases = map (λ (case : ℤ × ℤ). case.1) cases

cases_or : (rows : List (ℕ × Written)) (pc : ℕ) (cases : List (ℤ × ℤ)) → ((targets : List (ℤ × ℕ)) × AllZip (LeadsCase rows pc) cases targets) ⊎ SomeNowhere rows pc (case_offsets cases)
cases_or rows pc [] = inl ([], tt)
cases_or rows pc (case ∷ cases) = elim (lead_or rows pc case.1) [
  | inl t ↦ elim (cases_or rows pc cases) [
    | inl ts ↦ inl ((case.0, t.0) ∷ ts.0, (record { value = refl; leads = t.1 }, ts.1))
    | inr n ↦ inr (n.0, later_in case.1 n.0 (case_offsets cases) n.1, n.2)
  ]
  | inr none ↦ inr (case.1, is_first case.1 (case_offsets cases), none)
]

-- ---- an instruction

module _ (pool : List PoolItem) (linked : AreLinked pool) (named : IsNamedPool pool) (max_locals : ℕ) (rows : List (ℕ × Written)) (end : Option ℕ) (size : ℕ) (handlers : List RawHandler) (pc : ℕ) where
  -- there is a cause at the offset
  abbrev pub Caused : Type 0
  Caused = (cause : Cause) × IsCause cause pool max_locals rows end size handlers pc

  module _ (here : Written) (stands : at_offset pc rows ≡ Some here) where
    -- operands name something
    abbrev Named : Form → Operands → Type 0
    Named form operands = (arg : Arg) × NamesOperands pool rows pc here.op form operands arg

    back : (form : Form) (operands : Operands) → here.operands ≡ operands → Named form operands ⊎ Caused → Named form here.operands ⊎ Caused
    back form operands e h = subst (λ (o : Operands). Named form o ⊎ Caused) (sym e) h

    by_tag : (X : Type 0) (form : Form) (index : ℕ) → form_of here.op ≡ form → pool_index here.operands ≡ Some index → (names (has_tag form here.op) pool index ≡ true → X ⊎ Caused) → X ⊎ Caused
    by_tag X form index is at f = by (names (has_tag form here.op) pool index) refl
      where
        by : (b : Bool) → names (has_tag form here.op) pool index ≡ b → X ⊎ Caused
        by true e = f e
        by false e = inr (WrongTag, (here, stands, (index, at, subst (λ (g : Form). names (has_tag g here.op) pool index ≡ false) (sym is) e)))

    load_or : (index : ℕ) → names (has_tag forms.Load1 here.op) pool index ≡ true → Named forms.Load1 (written.Index index) ⊎ Caused
    load_or index e = let c = narrow_constant pool index named e in inl (args.Constant c.0, (c.0, refl, c.1, c.2))

    new_or : (index : ℕ) (type : RefType) → pool_index here.operands ≡ Some index → NamesType pool index type → (IsTrue (eqb here.op NEW) → ref_dims type ≡ 0) ⊎ Caused
    new_or index type at h = unless (ref_dims type ≡ 0) Caused (eqb here.op NEW) (λ new. by (ref_dims type) refl new)
      where
        by : (n : ℕ) → ref_dims type ≡ n → eqb here.op NEW ≡ true → (ref_dims type ≡ 0) ⊎ Caused
        by zero e new = inl e
        by (suc n) e new = inr (NewOfArray, (here, stands, (new, (index, at, record { type = type; named = h; some = omega (arith, e) }))))

    anew_or : (index : ℕ) (type : RefType) → pool_index here.operands ≡ Some index → NamesType pool index type → (IsTrue (eqb here.op ANEWARRAY) → ref_dims type ≤ 254) ⊎ Caused
    anew_or index type at h = unless (ref_dims type ≤ 254) Caused (eqb here.op ANEWARRAY) (λ anew. by (ltb 254 (ref_dims type)) refl anew)
      where
        by : (b : Bool) → ltb 254 (ref_dims type) ≡ b → eqb here.op ANEWARRAY ≡ true → (ref_dims type ≤ 254) ⊎ Caused
        by false e anew = inl (ltb-false 254 (ref_dims type) e)
        by true e anew =
            let most = (named_keeps pool index type h).dims in
            let more = ltb-true 254 (ref_dims type) e in
            inr (TooManyDims, (here, stands, (anew, (index, at, (type, h, omega (arith, most, more))))))

    class_or : (index : ℕ) → pool_index here.operands ≡ Some index → names (has_tag forms.Class here.op) pool index ≡ true → Named forms.Class (written.Index index) ⊎ Caused
    class_or index at e =
        let t = named_type pool index named e in
        elim (new_or index t.0 at t.1) [
          | inl new ↦ elim (anew_or index t.0 at t.1) [
            | inl anew ↦ inl (args.Class t.0, (t.0, refl, t.1, (new, anew)))
            | inr c ↦ inr c
          ]
          | inr c ↦ inr c
        ]

    field_or : (index : ℕ) → form_of here.op ≡ forms.Field → pool_index here.operands ≡ Some index → names (has_tag forms.Field here.op) pool index ≡ true → Named forms.Field (written.Index index) ⊎ Caused
    field_or index is at e = elim (field_or_array pool index linked named e) [
      | inl f ↦ inl (args.Field f.0, (f.0, refl, f.1))
      | inr array ↦ inr (FieldOfArray, (here, stands, (is, (index, at, array))))
    ]

    method_or : (index : ℕ) → names (has_tag forms.Method here.op) pool index ≡ true → Named forms.Method (written.Index index) ⊎ Caused
    method_or index e = let i = names_item (has_tag forms.Method here.op) (item_at pool index) e in by i.0 i.1 i.2
      where
        no_call : (b c : Bool) → (b || (not c && true)) ≡ true → b ≡ false → c ≡ true → ⊥
        no_call true c e is t = absurd cc
        no_call false true e is t = absurd cc
        no_call false false e is t = absurd cc

        by : (item : PoolItem) → item_at pool index ≡ Some item → has_tag forms.Method here.op item ≡ true → Named forms.Method (written.Index index) ⊎ Caused
        by (items.Method class pair) at t = let m = named_method pool index false class pair linked named at in inl (args.Method m.0, (m.0, refl, m.1, λ _. m.2))
        by (items.InterfaceMethod class pair) at t =
            let m = named_method pool index true class pair linked named at in
            inl (args.Method m.0, (m.0, refl, m.1, λ call. absurd (no_call false (eqb here.op INVOKEVIRTUAL) t refl call)))
        by _ at t = absurd (none (eqb here.op INVOKEVIRTUAL) t)
          where
            none : (c : Bool) → (false || (not c && false)) ≡ true → ⊥
            none true e = absurd cc
            none false e = absurd cc

    called_or : (index words last : ℕ) → here.operands ≡ written.Called index words last → names (has_tag forms.InterfaceMethod here.op) pool index ≡ true → Named forms.InterfaceMethod (written.Called index words last) ⊎ Caused
    called_or index words last is e = let i = names_item is_interface_method (item_at pool index) e in by i.0 i.1 i.2
      where
        decide : (m : MethodRef) → NamesMethod pool index m → m.interface ≡ true → (b c : Bool) → eqb words (words_of m.desc true) ≡ b → eqb last 0 ≡ c → Named forms.InterfaceMethod (written.Called index words last) ⊎ Caused
        decide m h interface true true e f = inl (args.Method m, (m, refl, h, record { interface = interface; words_are = eqb-true words (words_of m.desc true) e; last_is = eqb-true last 0 f }))
        decide m h interface false c e f = inr (WrongLastBytes, (here, stands, (index, words, last, m, is, h, λ same zero. eqb-false words (words_of m.desc true) e same)))
        decide m h interface true false e f = inr (WrongLastBytes, (here, stands, (index, words, last, m, is, h, λ same zero. eqb-false last 0 f zero)))

        by : (item : PoolItem) → item_at pool index ≡ Some item → is_interface_method item ≡ true → Named forms.InterfaceMethod (written.Called index words last) ⊎ Caused
        by (items.InterfaceMethod class pair) at t = let m = named_method pool index true class pair linked named at in decide m.0 m.1 m.2 (eqb words (words_of m.0.desc true)) (eqb last 0) refl refl
        by _ at t = absurd cc

    site_or : (index first second : ℕ) → names (has_tag forms.Dynamic here.op) pool index ≡ true → Named forms.Dynamic (written.Site index first second) ⊎ Caused
    site_or index first second e = let i = names_item is_call_site (item_at pool index) e in by i.0 i.1 i.2
      where
        by : (item : PoolItem) → item_at pool index ≡ Some item → is_call_site item ≡ true → Named forms.Dynamic (written.Site index first second) ⊎ Caused
        by (items.InvokeDynamic bootstrap pair) at t = inl (args.Dynamic, (bootstrap, pair, at, refl))
        by _ at t = absurd cc

    multi_or : (index dims : ℕ) → here.operands ≡ written.Multi index dims → names (has_tag forms.Multi here.op) pool index ≡ true → Named forms.Multi (written.Multi index dims) ⊎ Caused
    multi_or index dims is e = let t = named_type pool index named e in by t.0 t.1 (ltb (ref_dims t.0) dims) refl
      where
        by : (type : RefType) → NamesType pool index type → (b : Bool) → ltb (ref_dims type) dims ≡ b → Named forms.Multi (written.Multi index dims) ⊎ Caused
        by type h false e = inl (args.Multi type dims, (type, refl, h, ltb-false (ref_dims type) dims e))
        by type h true e = inr (MissingDims, (here, stands, (index, dims, type, is, h, ltb-true (ref_dims type) dims e)))

    -- an offset leads nowhere
    nowhere : (operands : Operands) → here.operands ≡ operands → SomeNowhere rows pc (offsets_of operands) → Caused
    nowhere operands is n = (LeadsNowhere, (here, stands, subst (λ (o : Operands). SomeNowhere rows pc (offsets_of o)) (sym is) n))

    jump_or : (form : Form) (offset : ℤ) → here.operands ≡ written.Jump offset → Named form (written.Jump offset) ⊎ Caused
    jump_or form offset is = elim (lead_or rows pc offset) [
      | inl t ↦ inl (args.Jump t.0, (t.0, refl, t.1))
      | inr none ↦ inr (nowhere (written.Jump offset) is (offset, is_first offset [], none))
    ]

    table_or : (form : Form) (default low : ℤ) (offsets : List ℤ) → here.operands ≡ written.Table default low offsets → Named form (written.Table default low offsets) ⊎ Caused
    table_or form default low offsets is = elim (lead_or rows pc default) [
      | inl t ↦ elim (leads_or rows pc offsets) [
        | inl ts ↦ inl (args.Table t.0 low ts.0, (t.0, ts.0, refl, t.1, ts.1))
        | inr n ↦ inr (nowhere (written.Table default low offsets) is (n.0, later_in default n.0 offsets n.1, n.2))
      ]
      | inr none ↦ inr (nowhere (written.Table default low offsets) is (default, is_first default offsets, none))
    ]

    lookup_or : (form : Form) (default : ℤ) (cases : List (ℤ × ℤ)) → here.operands ≡ written.Lookup default cases → Named form (written.Lookup default cases) ⊎ Caused
    lookup_or form default cases is = elim (lead_or rows pc default) [
      | inl t ↦ elim (cases_or rows pc cases) [
        | inl ts ↦ inl (args.Lookup t.0 ts.0, (t.0, ts.0, refl, t.1, ts.1))
        | inr n ↦ inr (nowhere (written.Lookup default cases) is (n.0, later_in default n.0 (case_offsets cases) n.1, n.2))
      ]
      | inr none ↦ inr (nowhere (written.Lookup default cases) is (default, is_first default (case_offsets cases), none))
    ]

    plain_or : (form : Form) → form_of here.op ≡ form → IsMadeBy (layout_of form) here.operands → is_allowed here.operands ≡ true → Named form here.operands ⊎ Caused
    plain_or forms.Nothing is m allowed = back forms.Nothing written.Nothing m (inl (args.Nothing, refl))
    plain_or forms.Local is m allowed = back forms.Local (written.Local m.0) m.1 (inl (args.Local m.0, refl))
    plain_or forms.Small1 is m allowed = back forms.Small1 (written.Small (s1 m.0)) m.1 (inl (args.Small (s1 m.0), refl))
    plain_or forms.Small2 is m allowed = back forms.Small2 (written.Small (s2 m.0)) m.1 (inl (args.Small (s2 m.0), refl))
    plain_or forms.Inc is m allowed = back forms.Inc (written.Inc m.0 (s1 m.1)) m.2 (inl (args.Inc m.0 (s1 m.1), refl))
    plain_or forms.Load1 is m allowed = back forms.Load1 (written.Index m.0) m.1 (by_tag (Named forms.Load1 (written.Index m.0)) forms.Load1 m.0 is (ap pool_index m.1) (load_or m.0))
    plain_or forms.Load2 is m allowed = back forms.Load2 (written.Index m.0) m.1 (by_tag (Named forms.Load2 (written.Index m.0)) forms.Load2 m.0 is (ap pool_index m.1) (load_or m.0))
    plain_or forms.LoadTwo is m allowed =
        back forms.LoadTwo (written.Index m.0) m.1 (by_tag (Named forms.LoadTwo (written.Index m.0)) forms.LoadTwo m.0 is (ap pool_index m.1) (λ e.
        let c = wide_constant pool m.0 e in inl (args.Constant c.0, (c.0, refl, c.1, c.2))))
    plain_or forms.Class is m allowed = back forms.Class (written.Index m.0) m.1 (by_tag (Named forms.Class (written.Index m.0)) forms.Class m.0 is (ap pool_index m.1) (class_or m.0 (ap pool_index m.1)))
    plain_or forms.Field is m allowed = back forms.Field (written.Index m.0) m.1 (by_tag (Named forms.Field (written.Index m.0)) forms.Field m.0 is (ap pool_index m.1) (field_or m.0 is (ap pool_index m.1)))
    plain_or forms.Method is m allowed = back forms.Method (written.Index m.0) m.1 (by_tag (Named forms.Method (written.Index m.0)) forms.Method m.0 is (ap pool_index m.1) (method_or m.0))
    plain_or forms.InterfaceMethod is m allowed =
        back forms.InterfaceMethod (written.Called m.0 m.1 m.2) m.3
        (by_tag (Named forms.InterfaceMethod (written.Called m.0 m.1 m.2)) forms.InterfaceMethod m.0 is (ap pool_index m.3) (called_or m.0 m.1 m.2 m.3))
    plain_or forms.Dynamic is m allowed =
        back forms.Dynamic (written.Site m.0 m.1 m.2) m.3 (by_tag (Named forms.Dynamic (written.Site m.0 m.1 m.2)) forms.Dynamic m.0 is (ap pool_index m.3) (site_or m.0 m.1 m.2))
    plain_or forms.NewPrim is m allowed =
        let p = prim_of_code m.0 (subst (λ (o : Operands). is_allowed o ≡ true) m.1 allowed) in
        back forms.NewPrim (written.NewPrim m.0) m.1 (inl (args.NewPrim p.0, (p.0, refl, p.1)))
    plain_or forms.Multi is m allowed =
        back forms.Multi (written.Multi m.0 m.1) m.2 (by_tag (Named forms.Multi (written.Multi m.0 m.1)) forms.Multi m.0 is (ap pool_index m.2) (multi_or m.0 m.1 m.2))
    plain_or forms.Jump2 is m allowed = back forms.Jump2 (written.Jump (s2 m.0)) m.1 (jump_or forms.Jump2 (s2 m.0) m.1)
    plain_or forms.Jump4 is m allowed = back forms.Jump4 (written.Jump (s4 m.0)) m.1 (jump_or forms.Jump4 (s4 m.0) m.1)
    plain_or forms.TableSwitch is m allowed = back forms.TableSwitch (written.Table m.0 m.1 m.2) m.3 (table_or forms.TableSwitch m.0 m.1 m.2 m.3)
    plain_or forms.LookupSwitch is m allowed = back forms.LookupSwitch (written.Lookup m.0 m.1) m.2 (lookup_or forms.LookupSwitch m.0 m.1 m.2)
    plain_or forms.Wide is m allowed = absurd m

    wide_or : (form : Form) → IsMadeBy (wide_layout_of here.op form) here.operands → Named form here.operands ⊎ Caused
    wide_or forms.Local m =
        let k = chosen (eqb here.op RET) (One 2 written.Local) here.operands m in
        back forms.Local (written.Local k.0) k.1 (inl (args.Local k.0, refl))
    wide_or forms.Inc m = back forms.Inc (written.Inc m.0 (s2 m.1)) m.2 (inl (args.Inc m.0 (s2 m.1), refl))
    wide_or _ m = absurd m

    either_or : (wide : Bool) (form : Form) → form_of here.op ≡ form → IsMadeBy (layout_by wide here.op form) here.operands → is_allowed here.operands ≡ true → Named form here.operands ⊎ Caused
    either_or false form is m allowed = plain_or form is m allowed
    either_or true form is m allowed = wide_or form m

    local_or : (form : Form) (arg : Arg) → NamesOperands pool rows pc here.op form here.operands arg → (IsTrue (has_local here.op) → local_of here.op arg < max_locals) ⊎ Caused
    local_or form arg h = unless (local_of here.op arg < max_locals) Caused (has_local here.op) (λ t. by (ltb (local_of here.op arg) max_locals) refl t)
      where
        by : (b : Bool) → ltb (local_of here.op arg) max_locals ≡ b → has_local here.op ≡ true → (local_of here.op arg < max_locals) ⊎ Caused
        by true e t = inl (ltb-true (local_of here.op arg) max_locals e)
        by false e t =
            let high = ltb-false (local_of here.op arg) max_locals e in
            inr (LocalTooHigh, (here, stands, (t, subst (λ (n : ℕ). max_locals ≤ n) (written_is pool rows pc here.op form here.operands arg h) high)))

    pub insn_or : (text : List ℕ) → IsInsnText pc text here → ((insn : Insn) × IsInsn pool max_locals rows pc here insn) ⊎ Caused
    insn_or text t =
        let row = row_known here.wide here.op t.layout t.known in
        let by = layout_row here.wide here.op row.0 t.layout row.1 t.known in
        let m = subst (λ (l : Option Layout). IsMadeBy l here.operands) (sym by) (made t.layout (pc + 1) t.operands here.operands t.laid) in
        let form_is : form_of here.op ≡ row.0.form = ap (λ (o : Option OpForm). option_map_or (λ (r : OpForm). r.form) o forms.Nothing) row.1 in
        elim (either_or here.wide row.0.form form_is m t.allowed) [
          | inl n ↦ elim (local_or row.0.form n.0 n.1) [
            | inl local ↦ inl (record { op = here.op; wide = here.wide; arg = n.0 }, record { op = refl; wide = refl; form = row.0; known = row.1; arg = n.1; local = local })
            | inr c ↦ inr c
          ]
          | inr c ↦ inr c
        ]

  -- ---- an entry of the exception table

  module _ (entry : RawHandler) (among : Contains handlers entry) (starts : entry.start ≡ pc) where
    catch_or : (entry.catch ≡ 0) ⊎ IsTrue (names is_class pool entry.catch) → ((name : Option (List ℕ)) × Catches pool entry.catch name) ⊎ Caused
    catch_or (inl none) = inl (None, none)
    catch_or (inr class) = by entry.catch refl
      where
        by : (n : ℕ) → entry.catch ≡ n → ((name : Option (List ℕ)) × Catches pool entry.catch name) ⊎ Caused
        by zero e = inl (None, e)
        by (suc n) e =
            let type = named_type pool entry.catch named class in
            elim (class_or_array pool entry.catch type.0 type.1) [
              | inl c ↦ inl (Some c.0, (omega (arith, e), c.1))
              | inr array ↦ inr (CatchOfArray, (entry, among, starts, (omega (arith, e), array)))
            ]

    end_or : (IsStart rows entry.end ⊎ (entry.end ≡ size)) ⊎ Caused
    end_or = elim (start_or rows entry.end) [ inl s ↦ inl (inl s) | inr none ↦ by none (eqb entry.end size) refl ]
      where
        by : (IsStart rows entry.end → ⊥) → (b : Bool) → eqb entry.end size ≡ b → (IsStart rows entry.end ⊎ (entry.end ≡ size)) ⊎ Caused
        by none true e = inl (inr (eqb-true entry.end size e))
        by none false e = inr (EndNowhere, (entry, among, starts, λ h. elim h [ inl s ↦ none s | inr same ↦ eqb-false entry.end size e same ]))

    range_or : (entry.start < entry.end) ⊎ Caused
    range_or = by (ltb entry.start entry.end) refl
      where
        by : (b : Bool) → ltb entry.start entry.end ≡ b → (entry.start < entry.end) ⊎ Caused
        by true e = inl (ltb-true entry.start entry.end e)
        by false e = inr (EmptyRange, (entry, among, starts, ltb-false entry.start entry.end e))

    bounds_or : HasBounds size rows entry ⊎ Caused
    bounds_or = elim range_or [
      | inr c ↦ inr c
      | inl covers ↦ elim (start_or rows entry.start) [
        | inr none ↦ inr (StartNowhere, (entry, among, starts, none))
        | inl s ↦ elim end_or [
          | inr c ↦ inr c
          | inl ends ↦ elim (start_or rows entry.target) [
            | inr none ↦ inr (TargetNowhere, (entry, among, starts, none))
            | inl leads ↦ inl (record { covers = covers; starts = s; ends = ends; leads = leads })
          ]
        ]
      ]
    ]

    pub entry_or : (entry.catch ≡ 0) ⊎ IsTrue (names is_class pool entry.catch) → ((handler : Handler) × IsHandler pool size rows entry handler) ⊎ Caused
    entry_or catches = elim bounds_or [
      | inr c ↦ inr c
      | inl bounds ↦ elim (catch_or catches) [
        | inr c ↦ inr c
        | inl catch ↦ inl (record { start = entry.start; end = entry.end; target = entry.target; catch = catch.0 }, record { start = refl; end = refl; target = refl; bounds = bounds; catch = catch.1 })
      ]
    ]
