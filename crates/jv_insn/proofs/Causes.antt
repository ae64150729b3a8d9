-- A code of a class fails exactly where one of the causes holds.
use Rattle.std.proofs.Common.{◌≡◌, ℕ, ◌+◌, ◌-◌, ◌<◌, ◌≤◌, ℤ, Bool, true, false, not, ◌&&◌, ◌||◌, eqb, List, [], ◌∷◌, length, map, Option, Some, None, refl, sym, ap, subst, ◌∙◌, ◌⊎◌, inl, inr, arith}
use Rattle.std.specs.Prelude.{Contains, IsTrue}
use Rattle.std.specs.Option.{option_map_or}
use Rattle.std.specs.List.{AllZip, AllByRecursion}
use Rattle.std.proofs.lemmas.List.Elements.{All-contains, All-from_recursion}
use Rattle.jv_lists.proofs.Zips.{zip_at}
use Rattle.jv_table.specs.CodeRows.{OpForm}
use Rattle.jv_table.specs.declared.code_tables.Form.{Form}
use Rattle.jv_table.specs.declared.code_tables.Form.TheVariants as forms
use Rattle.jv_table.specs.declared.ops.TheConstants.{RET, INVOKEVIRTUAL, NEW, ANEWARRAY}
use Rattle.jv_types.specs.declared.raw_handler.RawHandler.{RawHandler}
use Rattle.jv_types.specs.declared.desc.RefType.{RefType}
use Rattle.jv_types.specs.declared.references.FieldRef.{FieldRef}
use Rattle.jv_types.specs.declared.references.MethodRef.{MethodRef}
use Rattle.jv_types.specs.declared.instruction.Const.{Const}
use Rattle.jv_types.specs.declared.instruction.Const.TheVariants as consts
use Rattle.jv_types.specs.declared.instruction.Arg.{Arg}
use Rattle.jv_types.specs.declared.instruction.Insn.{Insn}
use Rattle.jv_types.specs.declared.body.Handler.{Handler}
use Rattle.jv_types.specs.Bodies.{IsStart, at_offset}
use Rattle.jv_desc.specs.Texts.{ref_dims, words_of}
use Rattle.jv_pool.specs.declared.item.PoolItem.{PoolItem}
use Rattle.jv_pool.specs.declared.item.PoolItem.TheVariants as items
use Rattle.jv_pool.specs.Lookups.{item_at, names, is_class}
use Rattle.jv_pool.specs.PoolText.{is_wide, is_field, is_interface_method}
use Rattle.jv_names.specs.Naming.{NamesType, NamesClass, NamesField, NamesMethod}
use Rattle.jv_names.proofs.NamedOnce.{one_type, one_method_ref, given_twice}
use Rattle.jv_read.proofs.Fronts.{some_is}
use Rattle.jv_insn.specs.declared.written.Operands.{Operands}
use Rattle.jv_insn.specs.declared.written.Operands.TheVariants.{Nothing, Local, Small, Inc, Index, Called, Site, NewPrim, Multi, Jump, Table, Lookup}
use Rattle.jv_insn.specs.declared.written.Written.{Written}
use Rattle.jv_insn.specs.Effects.{local_of}
use Rattle.jv_insn.specs.Forms.{is_category_2}
use Rattle.jv_insn.specs.Layouts.{Layout, One, layout_of, IsInsnText, Lays}
use Rattle.jv_insn.specs.Meanings.{NamesConst, LeadsTo, LeadsCase, NamesOperands, FitsOp, MayCall, has_local, IsInsn}
use Rattle.jv_insn.specs.Decoding.{Catches, IsHandler, FailsInsn, FailsHandler, FailsAt, IsLeastFailure}
use Rattle.jv_insn.specs.Encoding.{form_of}
use Rattle.jv_insn.specs.Causes.{Cause, BreaksOff, WrongTag, LeadsNowhere, LocalTooHigh, WrongLastBytes, FieldOfArray, NewOfArray, TooManyDims, MissingDims, EmptyRange, StartNowhere, EndNowhere, TargetNowhere, CatchOfArray, IsCause, IsRefusedAt, IsFirstCause, IsOfClass, NamesArray, AtEntry, pool_index, offsets_of, local_written, is_narrow_constant, is_call_site, has_tag}
use Rattle.jv_insn.proofs.Args.{written_is}
use Rattle.jv_insn.proofs.Caused.{Caused, insn_or, entry_or}
use Rattle.jv_insn.proofs.ClassPool.{class_is_no_array}
use Rattle.jv_insn.proofs.Keeping.{field_item, method_item, method_item_is}
use Rattle.jv_insn.proofs.OfLayout.{IsMadeBy, made, chosen, at_all}
use Rattle.jv_insn.proofs.OneBody.{class_item}
use Rattle.jv_insn.proofs.Rewriting.{layout_by, layout_row}
use Rattle.jv_insn.proofs.Tables.{class_form}

-- ---- tags

-- an item that passes a test is named by its index
of_item : (test : PoolItem → Bool) (pool : List PoolItem) (index : ℕ) (item : PoolItem) → item_at pool index ≡ Some item → test item ≡ true → names test pool index ≡ true
of_item test pool index item at t = ap (λ (o : Option PoolItem). option_map_or test o false) at ∙ t

class_tag : (pool : List PoolItem) (index : ℕ) (type : RefType) → NamesType pool index type → names is_class pool index ≡ true
class_tag pool index type h = let c = class_item pool (item_at pool index) h.text h.found in of_item is_class pool index (items.Class c.0) c.1 refl

narrow_tag : (pool : List PoolItem) (index : ℕ) (const : Const) → NamesConst pool index const → is_category_2 const ≡ false → names is_narrow_constant pool index ≡ true
narrow_tag pool index (consts.Int value) h e = of_item is_narrow_constant pool index (items.Integer value) h refl
narrow_tag pool index (consts.Float bits) h e = of_item is_narrow_constant pool index (items.Float bits) h refl
narrow_tag pool index (consts.Long value) h e = absurd cc
narrow_tag pool index (consts.Double bits) h e = absurd cc
narrow_tag pool index consts.Text h e = of_item is_narrow_constant pool index (items.Text h.0) h.1 refl
narrow_tag pool index (consts.Class type) h e = let c = class_item pool (item_at pool index) h.text h.found in of_item is_narrow_constant pool index (items.Class c.0) c.1 refl
narrow_tag pool index consts.Handle h e = of_item is_narrow_constant pool index (items.MethodHandle h.0 h.1) h.2 refl
narrow_tag pool index consts.MethodKind h e = of_item is_narrow_constant pool index (items.MethodType h.0) h.1 refl

wide_tag : (pool : List PoolItem) (index : ℕ) (const : Const) → NamesConst pool index const → is_category_2 const ≡ true → names is_wide pool index ≡ true
wide_tag pool index (consts.Long value) h e = of_item is_wide pool index (items.Long value) h refl
wide_tag pool index (consts.Double bits) h e = of_item is_wide pool index (items.Double bits) h refl
wide_tag pool index (consts.Int value) h e = absurd cc
wide_tag pool index (consts.Float bits) h e = absurd cc
wide_tag pool index consts.Text h e = absurd cc
wide_tag pool index (consts.Class type) h e = absurd cc
wide_tag pool index consts.Handle h e = absurd cc
wide_tag pool index consts.MethodKind h e = absurd cc

field_tag : (pool : List PoolItem) (index : ℕ) (field : FieldRef) → NamesField pool index field → names is_field pool index ≡ true
field_tag pool index field h = of_item is_field pool index (items.Field h.class h.pair) (field_item (item_at pool index) h.class h.pair h.item) refl

method_tag : (pool : List PoolItem) (op index : ℕ) (method : MethodRef) → NamesMethod pool index method → MayCall op method → names (has_tag forms.Method op) pool index ≡ true
method_tag pool op index method h call =
    of_item (has_tag forms.Method op) pool index (method_item method.interface h.class h.pair) (method_item_is (item_at pool index) method.interface h.class h.pair h.item) (by method.interface h.class h.pair call)
  where
    by : (interface : Bool) (class pair : ℕ) → (eqb op INVOKEVIRTUAL ≡ true → interface ≡ false) → has_tag forms.Method op (method_item interface class pair) ≡ true
    by false class pair call = refl
    by true class pair call = by_op (eqb op INVOKEVIRTUAL) call
      where
        by_op : (b : Bool) → (b ≡ true → true ≡ false) → (false || (not b && true)) ≡ true
        by_op true call = let no = call refl in absurd cc
        by_op false call = refl

called_tag : (pool : List PoolItem) (index : ℕ) (method : MethodRef) → NamesMethod pool index method → method.interface ≡ true → names is_interface_method pool index ≡ true
called_tag pool index method h interface =
    of_item is_interface_method pool index (method_item method.interface h.class h.pair) (method_item_is (item_at pool index) method.interface h.class h.pair h.item)
    (ap (λ (i : Bool). is_interface_method (method_item i h.class h.pair)) interface)

-- ---- an instruction

no_index : {X : Type 0} (o : Option ℕ) (index : ℕ) → o ≡ Some index → o ≡ None → X
no_index o index e f = absurd cc

both_ways : (b : Bool) → b ≡ true → b ≡ false → ⊥
both_ways b e f = absurd cc

-- what names an item has no form under wide
index_layout : (wide : Bool) (op : ℕ) (form : Form) (operands : Operands) (index : ℕ) → pool_index operands ≡ Some index → IsMadeBy (layout_by wide op form) operands → IsMadeBy (layout_of form) operands
index_layout false op form operands index at m = m
index_layout true op forms.Local operands index at m = let k = chosen (eqb op RET) (One 2 Local) operands m in no_index (pool_index operands) index at (ap pool_index k.1)
index_layout true op forms.Inc operands index at m = no_index (pool_index operands) index at (ap pool_index m.2)
index_layout true op _ operands index at m = absurd m

same_index : (operands other : Operands) (index i : ℕ) → operands ≡ other → pool_index operands ≡ Some index → pool_index other ≡ Some i → i ≡ index
same_index operands other index i e at is = some_is i index (sym is ∙ sym (ap pool_index e) ∙ at)

module _ (pool : List PoolItem) (rows : List (ℕ × Written)) (pc op : ℕ) where
  tag_right : (form : Form) (operands : Operands) (index : ℕ) (arg : Arg) → IsMadeBy (layout_of form) operands → pool_index operands ≡ Some index → NamesOperands pool rows pc op form operands arg → names (has_tag form op) pool index ≡ true
  tag_right forms.Nothing operands index arg m at n = no_index (pool_index operands) index at (ap pool_index m)
  tag_right forms.Local operands index arg m at n = no_index (pool_index operands) index at (ap pool_index m.1)
  tag_right forms.Small1 operands index arg m at n = no_index (pool_index operands) index at (ap pool_index m.1)
  tag_right forms.Small2 operands index arg m at n = no_index (pool_index operands) index at (ap pool_index m.1)
  tag_right forms.Inc operands index arg m at n = no_index (pool_index operands) index at (ap pool_index m.2)
  tag_right forms.NewPrim operands index arg m at n = no_index (pool_index operands) index at (ap pool_index m.1)
  tag_right forms.Jump2 operands index arg m at n = no_index (pool_index operands) index at (ap pool_index m.1)
  tag_right forms.Jump4 operands index arg m at n = no_index (pool_index operands) index at (ap pool_index m.1)
  tag_right forms.TableSwitch operands index arg m at n = no_index (pool_index operands) index at (ap pool_index m.3)
  tag_right forms.LookupSwitch operands index arg m at n = no_index (pool_index operands) index at (ap pool_index m.2)
  tag_right forms.Wide operands index arg m at n = absurd m
  tag_right forms.Load1 operands index arg m at n =
      let k = subst (λ (o : Operands). NamesOperands pool rows pc op forms.Load1 o arg) m.1 n in
      subst (λ (i : ℕ). names is_narrow_constant pool i ≡ true) (same_index operands (Index m.0) index m.0 m.1 at refl) (narrow_tag pool m.0 k.0 k.2 k.3)
  tag_right forms.Load2 operands index arg m at n =
      let k = subst (λ (o : Operands). NamesOperands pool rows pc op forms.Load2 o arg) m.1 n in
      subst (λ (i : ℕ). names is_narrow_constant pool i ≡ true) (same_index operands (Index m.0) index m.0 m.1 at refl) (narrow_tag pool m.0 k.0 k.2 k.3)
  tag_right forms.LoadTwo operands index arg m at n =
      let k = subst (λ (o : Operands). NamesOperands pool rows pc op forms.LoadTwo o arg) m.1 n in
      subst (λ (i : ℕ). names is_wide pool i ≡ true) (same_index operands (Index m.0) index m.0 m.1 at refl) (wide_tag pool m.0 k.0 k.2 k.3)
  tag_right forms.Class operands index arg m at n =
      let k = subst (λ (o : Operands). NamesOperands pool rows pc op forms.Class o arg) m.1 n in
      subst (λ (i : ℕ). names is_class pool i ≡ true) (same_index operands (Index m.0) index m.0 m.1 at refl) (class_tag pool m.0 k.0 k.2)
  tag_right forms.Field operands index arg m at n =
      let k = subst (λ (o : Operands). NamesOperands pool rows pc op forms.Field o arg) m.1 n in
      subst (λ (i : ℕ). names is_field pool i ≡ true) (same_index operands (Index m.0) index m.0 m.1 at refl) (field_tag pool m.0 k.0 k.2)
  tag_right forms.Method operands index arg m at n =
      let k = subst (λ (o : Operands). NamesOperands pool rows pc op forms.Method o arg) m.1 n in
      subst (λ (i : ℕ). names (has_tag forms.Method op) pool i ≡ true) (same_index operands (Index m.0) index m.0 m.1 at refl) (method_tag pool op m.0 k.0 k.2 k.3)
  tag_right forms.InterfaceMethod operands index arg m at n =
      let k = subst (λ (o : Operands). NamesOperands pool rows pc op forms.InterfaceMethod o arg) m.3 n in
      subst (λ (i : ℕ). names is_interface_method pool i ≡ true) (same_index operands (Called m.0 m.1 m.2) index m.0 m.3 at refl) (called_tag pool m.0 k.0 k.2 k.3.interface)
  tag_right forms.Dynamic operands index arg m at n =
      let k = subst (λ (o : Operands). NamesOperands pool rows pc op forms.Dynamic o arg) m.3 n in
      subst (λ (i : ℕ). names is_call_site pool i ≡ true) (same_index operands (Site m.0 m.1 m.2) index m.0 m.3 at refl) (of_item is_call_site pool m.0 (items.InvokeDynamic k.0 k.1) k.2 refl)
  tag_right forms.Multi operands index arg m at n =
      let k = subst (λ (o : Operands). NamesOperands pool rows pc op forms.Multi o arg) m.2 n in
      subst (λ (i : ℕ). names is_class pool i ≡ true) (same_index operands (Multi m.0 m.1) index m.0 m.2 at refl) (class_tag pool m.0 k.0 k.2)

  cases_lead : (cases : List (ℤ × ℤ)) (targets : List (ℤ × ℕ)) → AllZip (LeadsCase rows pc) cases targets → AllZip (LeadsTo rows pc) (map (λ (case : ℤ × ℤ). case.1) cases) (map (λ (case : ℤ × ℕ). case.1) targets)
  cases_lead [] [] h = tt
  cases_lead [] (t ∷ targets) h = absurd h
  cases_lead (c ∷ cases) [] h = absurd h
  cases_lead (c ∷ cases) (t ∷ targets) h = (h.0.leads, cases_lead cases targets h.1)

  -- each offset of operands leads somewhere
  offsets_lead : (form : Form) (operands : Operands) (arg : Arg) → NamesOperands pool rows pc op form operands arg → (targets : List ℕ) × AllZip (LeadsTo rows pc) (offsets_of operands) targets
  offsets_lead form Nothing arg h = ([], tt)
  offsets_lead form (Local local) arg h = ([], tt)
  offsets_lead form (Small value) arg h = ([], tt)
  offsets_lead form (Inc local by) arg h = ([], tt)
  offsets_lead form (Index index) arg h = ([], tt)
  offsets_lead form (Called index words last) arg h = ([], tt)
  offsets_lead form (Site index first second) arg h = ([], tt)
  offsets_lead form (NewPrim code) arg h = ([], tt)
  offsets_lead form (Multi index dims) arg h = ([], tt)
  offsets_lead form (Jump offset) arg h = (h.0 ∷ [], (h.2, tt))
  offsets_lead form (Table default low offsets) arg h = (h.0 ∷ h.1, (h.3, h.4))
  offsets_lead form (Lookup default cases) arg h = (h.0 ∷ map (λ (case : ℤ × ℕ). case.1) h.1, (h.3, cases_lead cases h.1 h.4))

-- instructions that are laid have their texts
pub laid_texts : (pc : ℕ) (bytes : List ℕ) (rows : List (ℕ × Written)) (end : Option ℕ) → Lays pc bytes rows end → AllByRecursion (λ (row : ℕ × Written). (text : List ℕ) × IsInsnText row.0 text row.1) rows
laid_texts pc bytes [] end h = tt
laid_texts pc bytes (row ∷ rows) end h =
    ((h.1.1.front, subst (λ (p : ℕ). IsInsnText p h.1.1.front row.1) (sym h.1.0) h.1.1.is_text), laid_texts (pc + (length bytes - length h.0)) h.0 rows end h.1.2)

module _ (pool : List PoolItem) (max_locals : ℕ) (rows : List (ℕ × Written)) (pc : ℕ) (here : Written) (text : List ℕ) (t : IsInsnText pc text here) (insn : Insn) (i : IsInsn pool max_locals rows pc here insn) where
  form_is : form_of here.op ≡ i.form.form
  form_is = ap (λ (o : Option OpForm). option_map_or (λ (row : OpForm). row.form) o forms.Nothing) i.known

  made_here : (index : ℕ) → pool_index here.operands ≡ Some index → IsMadeBy (layout_of i.form.form) here.operands
  made_here index at =
      index_layout here.wide here.op i.form.form here.operands index at
      (subst (λ (l : Option Layout). IsMadeBy l here.operands) (sym (layout_row here.wide here.op i.form t.layout i.known t.known)) (made t.layout (pc + 1) t.operands here.operands t.laid))

  no_wrong_tag : (index : ℕ) → pool_index here.operands ≡ Some index → names (has_tag (form_of here.op) here.op) pool index ≡ false → ⊥
  no_wrong_tag index at none =
      both_ways (names (has_tag i.form.form here.op) pool index) (tag_right pool rows pc here.op i.form.form here.operands index insn.arg (made_here index at) at i.arg)
      (subst (λ (f : Form). names (has_tag f here.op) pool index ≡ false) form_is none)

  all_lead : (offset : ℤ) → Contains (offsets_of here.operands) offset → ((target : ℕ) → LeadsTo rows pc offset target → ⊥) → ⊥
  all_lead offset among none =
      let lead = offsets_lead pool rows pc here.op i.form.form here.operands insn.arg i.arg in
      let partner = zip_at (LeadsTo rows pc) (offsets_of here.operands) lead.0 among.0 offset lead.1 among.1 in
      none partner.0 (subst (λ (o : ℤ). LeadsTo rows pc o partner.0) among.2 partner.1)

  low_local : IsTrue (has_local here.op) → max_locals ≤ local_written here.op here.operands → ⊥
  low_local t high =
      let local = subst (λ (op : ℕ). IsTrue (has_local op) → local_of op insn.arg < max_locals) i.op i.local in
      let same = written_is pool rows pc here.op i.form.form here.operands insn.arg i.arg in
      let low = local t in
      omega (arith, low, high, same)

  right_bytes : (index words last : ℕ) (method : MethodRef) → here.operands ≡ Called index words last → NamesMethod pool index method → ((words ≡ words_of method.desc true) → (last ≡ 0) → ⊥) → ⊥
  right_bytes index words last method is h wrong =
      let k = subst (λ (o : Operands). NamesOperands pool rows pc here.op i.form.form o insn.arg) is i.arg in
      let same = one_method_ref pool index k.0 method k.2 h in
      wrong (k.3.words_are ∙ ap (λ (m : MethodRef). words_of m.desc true) same) k.3.last_is

  -- an instruction whose opcode has this form names so by its index
  as_form : (form : Form) (index : ℕ) → i.form.form ≡ form → pool_index here.operands ≡ Some index → IsMadeBy (layout_of form) here.operands × NamesOperands pool rows pc here.op form here.operands insn.arg
  as_form form index e at = (subst (λ (f : Form). IsMadeBy (layout_of f) here.operands) e (made_here index at), subst (λ (f : Form). NamesOperands pool rows pc here.op f here.operands insn.arg) e i.arg)

  no_field_of_array : form_of here.op ≡ forms.Field → (index class pair : ℕ) → pool_index here.operands ≡ Some index → item_at pool index ≡ Some (items.Field class pair) → NamesArray pool class → ⊥
  no_field_of_array is index class pair at item array =
      let f = as_form forms.Field index (sym form_is ∙ is) at in
      let k = subst (λ (o : Operands). NamesOperands pool rows pc here.op forms.Field o insn.arg) f.0.1 f.1 in
      let same = same_index here.operands (Index f.0.0) index f.0.0 f.0.1 at refl in
      let h = subst (λ (n : ℕ). NamesField pool n k.0) same k.2 in
      let own = field_item (item_at pool index) h.class h.pair h.item in
      let one : items.Field h.class h.pair ≡ items.Field class pair = given_twice (item_at pool index) (items.Field h.class h.pair) (items.Field class pair) own item in
      let class_same : h.class ≡ class = cc in
      class_is_no_array pool class k.0.class (subst (λ (n : ℕ). NamesClass pool n k.0.class) class_same h.class_is) array

  -- the type that a new or an anewarray names
  as_type : (index : ℕ) → (eqb here.op NEW || eqb here.op ANEWARRAY) ≡ true → pool_index here.operands ≡ Some index → (type : RefType) × NamesType pool index type × FitsOp here.op type
  as_type index op at =
      let f = as_form forms.Class index (class_form here.op i.form i.known op) at in
      let k = subst (λ (o : Operands). NamesOperands pool rows pc here.op forms.Class o insn.arg) f.0.1 f.1 in
      let same = same_index here.operands (Index f.0.0) index f.0.0 f.0.1 at refl in
      (k.0, subst (λ (n : ℕ). NamesType pool n k.0) same k.2, k.3)

  no_new_of_array : IsTrue (eqb here.op NEW) → (index : ℕ) → pool_index here.operands ≡ Some index → NamesArray pool index → ⊥
  no_new_of_array new index at array =
      let k = as_type index (rw new refl) at in
      let same = one_type pool index k.0 array.type k.1 array.named in
      let none = k.2.0 new in
      let dims : ref_dims k.0 ≡ ref_dims array.type = ap ref_dims same in
      let some = array.some in
      omega (arith, none, dims, some)

  few_dims : IsTrue (eqb here.op ANEWARRAY) → (index : ℕ) (type : RefType) → pool_index here.operands ≡ Some index → NamesType pool index type → ref_dims type ≡ 255 → ⊥
  few_dims anew index type at h many =
      let k = as_type index (second (eqb here.op NEW) (eqb here.op ANEWARRAY) anew) at in
      let same = one_type pool index k.0 type k.1 h in
      let few = k.2.1 anew in
      let dims : ref_dims k.0 ≡ ref_dims type = ap ref_dims same in
      omega (arith, few, dims, many)
    where
      second : (a b : Bool) → b ≡ true → (a || b) ≡ true
      second true b e = refl
      second false b e = e

  enough_dims : (index dims : ℕ) (type : RefType) → here.operands ≡ Multi index dims → NamesType pool index type → ref_dims type < dims → ⊥
  enough_dims index dims type is h few =
      let k = subst (λ (o : Operands). NamesOperands pool rows pc here.op i.form.form o insn.arg) is i.arg in
      let same = one_type pool index k.0 type k.2 h in
      let enough = k.3 in
      let one : ref_dims k.0 ≡ ref_dims type = ap ref_dims same in
      omega (arith, enough, one, few)

-- ---- an entry

no_catch_of_array : (pool : List PoolItem) (catch : ℕ) (name : Option (List ℕ)) → Catches pool catch name → 0 < catch → NamesArray pool catch → ⊥
no_catch_of_array pool catch None zero some array = omega (arith, zero, some)
no_catch_of_array pool catch (Some name) h some array = class_is_no_array pool catch name h.1 array

-- ---- a code

module _ (pool : List PoolItem) (max_locals : ℕ) (code : List ℕ) (handlers : List RawHandler) (pc : ℕ) (rows : List (ℕ × Written)) (end : Option ℕ) (laid : Lays 0 code rows end) where
  abbrev CatchesClass : RawHandler → Type 0
  CatchesClass handler = (handler.catch ≡ 0) ⊎ IsTrue (names is_class pool handler.catch)

  abbrev FailsHere : Type 0
  FailsHere = FailsInsn pool max_locals rows pc ⊎ (FailsHandler pool (length code) rows handlers pc ⊎ (end ≡ Some pc))

  text_at_pc : (here : Written) → at_offset pc rows ≡ Some here → (text : List ℕ) × IsInsnText pc text here
  text_at_pc here stands = at_all (λ (row : ℕ × Written). (text : List ℕ) × IsInsnText row.0 text row.1) rows pc here (laid_texts 0 code rows end laid) stands

  at_insn : (here : Written) → at_offset pc rows ≡ Some here → ((text : List ℕ) → IsInsnText pc text here → (insn : Insn) → IsInsn pool max_locals rows pc here insn → ⊥) → FailsHere
  at_insn here stands none = let t = text_at_pc here stands in inl (record { written = here; stands = stands; is_none = none t.0 t.1 })

  at_entry : (P : RawHandler → Type 0) (h : AtEntry handlers pc P) → ((handler : Handler) → IsHandler pool (length code) rows h.0 handler → P h.0 → ⊥) → FailsHere
  at_entry P h none = inr (inl (record { handler = h.0; among = h.1; starts = h.2; is_none = λ made is. none made is h.3 }))

  fails_there : (cause : Cause) → IsCause cause pool max_locals rows end (length code) handlers pc → FailsHere
  fails_there BreaksOff h = inr (inr h)
  fails_there WrongTag h = at_insn h.0 h.1 (λ text t insn i. no_wrong_tag pool max_locals rows pc h.0 text t insn i h.2.0 h.2.1 h.2.2)
  fails_there LeadsNowhere h = at_insn h.0 h.1 (λ text t insn i. all_lead pool max_locals rows pc h.0 text t insn i h.2.0 h.2.1 h.2.2)
  fails_there LocalTooHigh h = at_insn h.0 h.1 (λ text t insn i. low_local pool max_locals rows pc h.0 text t insn i h.2.0 h.2.1)
  fails_there WrongLastBytes h = at_insn h.0 h.1 (λ text t insn i. right_bytes pool max_locals rows pc h.0 text t insn i h.2.0 h.2.1 h.2.2 h.2.3 h.2.4 h.2.5 h.2.6)
  fails_there FieldOfArray h = at_insn h.0 h.1 (λ text t insn i. let at = h.2.1 in no_field_of_array pool max_locals rows pc h.0 text t insn i h.2.0 at.0 at.2.0 at.2.1 at.1 at.2.2 at.2.3)
  fails_there NewOfArray h = at_insn h.0 h.1 (λ text t insn i. let at = h.2.1 in no_new_of_array pool max_locals rows pc h.0 text t insn i h.2.0 at.0 at.1 at.2)
  fails_there TooManyDims h = at_insn h.0 h.1 (λ text t insn i. let at = h.2.1 in few_dims pool max_locals rows pc h.0 text t insn i h.2.0 at.0 at.2.0 at.1 at.2.1 at.2.2)
  fails_there MissingDims h = at_insn h.0 h.1 (λ text t insn i. enough_dims pool max_locals rows pc h.0 text t insn i h.2.0 h.2.1 h.2.2 h.2.3 h.2.4 h.2.5)
  fails_there EmptyRange h = at_entry (λ handler. handler.end ≤ handler.start) h (λ made is le. let lt = is.bounds.covers in omega (arith, le, lt))
  fails_there StartNowhere h = at_entry (λ handler. IsStart rows handler.start → ⊥) h (λ made is none. none is.bounds.starts)
  fails_there EndNowhere h = at_entry (λ handler. IsStart rows handler.end ⊎ (handler.end ≡ length code) → ⊥) h (λ made is none. none is.bounds.ends)
  fails_there TargetNowhere h = at_entry (λ handler. IsStart rows handler.target → ⊥) h (λ made is none. none is.bounds.leads)
  fails_there CatchOfArray h = at_entry (λ handler. (0 < handler.catch) × NamesArray pool handler.catch) h (λ made is p. no_catch_of_array pool h.0.catch made.catch is.catch p.0 p.1)

  cause_there : (of : IsOfClass pool handlers) → FailsHere → Caused pool of.is_pool.linked of.named max_locals rows end (length code) handlers pc
  cause_there of (inl insn) =
      let t = text_at_pc insn.written insn.stands in
      elim (insn_or pool of.is_pool.linked of.named max_locals rows end (length code) handlers pc insn.written insn.stands t.0 t.1) [
        | inl i ↦ absurd (insn.is_none i.0 i.1)
        | inr c ↦ c
      ]
  cause_there of (inr (inl entry)) =
      let catches = All-contains CatchesClass handlers entry.handler (All-from_recursion CatchesClass handlers of.catches) entry.among in
      elim (entry_or pool of.is_pool.linked of.named max_locals rows end (length code) handlers pc entry.handler entry.among entry.starts catches) [
        | inl made ↦ absurd (entry.is_none made.0 made.1)
        | inr c ↦ c
      ]
  cause_there of (inr (inr e)) = (BreaksOff, e)

pub fails_of : (pool : List PoolItem) (max_locals : ℕ) (code : List ℕ) (handlers : List RawHandler) (pc : ℕ) → IsRefusedAt pool max_locals code handlers pc → FailsAt pool max_locals code handlers pc
fails_of pool max_locals code handlers pc h = record { rows = h.rows; end = h.end; laid = h.laid; fails = fails_there pool max_locals code handlers pc h.rows h.end h.laid h.cause h.holds }

pub cause_of : (pool : List PoolItem) (max_locals : ℕ) (code : List ℕ) (handlers : List RawHandler) (pc : ℕ) → IsOfClass pool handlers → FailsAt pool max_locals code handlers pc → IsRefusedAt pool max_locals code handlers pc
cause_of pool max_locals code handlers pc of f =
    let c = cause_there pool max_locals code handlers pc f.rows f.end f.laid of f.fails in
    record { rows = f.rows; end = f.end; laid = f.laid; cause = c.0; holds = c.1 }

pub first_of : (pool : List PoolItem) (max_locals : ℕ) (code : List ℕ) (handlers : List RawHandler) (pc : ℕ) → IsOfClass pool handlers → IsLeastFailure pool max_locals code handlers pc → IsFirstCause pool max_locals code handlers pc
first_of pool max_locals code handlers pc of f = record {
  caused = cause_of pool max_locals code handlers pc of f.fails;
  least = λ other h. f.least other (fails_of pool max_locals code handlers other h);
}

pub least_of : (pool : List PoolItem) (max_locals : ℕ) (code : List ℕ) (handlers : List RawHandler) (pc : ℕ) → IsOfClass pool handlers → IsFirstCause pool max_locals code handlers pc → IsLeastFailure pool max_locals code handlers pc
least_of pool max_locals code handlers pc of f = record {
  fails = fails_of pool max_locals code handlers pc f.caused;
  least = λ other h. f.least other (cause_of pool max_locals code handlers other of h);
}
