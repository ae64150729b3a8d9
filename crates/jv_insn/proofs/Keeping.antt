-- What is decoded over the pool of a class file keeps the form of its names and types.
use Rattle.std.proofs.Common.{◌≡◌, ℕ, ◌+◌, ◌-◌, ◌<◌, ◌≤◌, Bool, true, false, cond, eqb, ltb, ◌&&◌, List, Option, Some, None, refl, sym, ap, subst, ◌∙◌, arith}
use Rattle.std.specs.Prelude.{option_and_then, slice_get}
use Rattle.std.specs.List.{AllByRecursion}
use Rattle.std.specs.Option.{option_map_or}
use Rattle.jv_table.specs.CodeRows.{OpForm}
use Rattle.std.proofs.lemmas.Bool.{ltb-true}
use Rattle.jv_lists.proofs.Places.{each_at}
use Rattle.jv_table.specs.declared.code_tables.Form.{Form}
use Rattle.jv_table.specs.declared.code_tables.Form.TheVariants as forms
use Rattle.jv_types.specs.declared.desc.RefType.{RefType, Class, PrimArray, Array'}
use Rattle.jv_types.specs.declared.desc.MethodDesc.{MethodDesc}
use Rattle.jv_types.specs.declared.references.FieldRef.{FieldRef}
use Rattle.jv_types.specs.declared.references.MethodRef.{MethodRef}
use Rattle.jv_types.specs.declared.instruction.Const.{Const}
use Rattle.jv_types.specs.declared.instruction.Const.TheVariants as consts
use Rattle.jv_types.specs.declared.instruction.Arg.{Arg}
use Rattle.jv_types.specs.declared.instruction.Insn.{Insn}
use Rattle.jv_types.specs.declared.raw_handler.RawHandler.{RawHandler}
use Rattle.jv_types.specs.declared.body.Body.{Body}
use Rattle.jv_types.specs.Bodies.{at_offset}
use Rattle.jv_desc.specs.Texts.{IsRef, words_of}
use Rattle.jv_desc.proofs.Agreement.{one_method}
use Rattle.jv_pool.specs.declared.item.PoolItem.{PoolItem}
use Rattle.jv_pool.specs.declared.item.PoolItem.TheVariants as items
use Rattle.jv_pool.specs.Lookups.{item_at, names, is_utf8, text_at, name_and_type_in, name_and_type_at}
use Rattle.jv_read.proofs.Fronts.{some_is}
use Rattle.jv_names.specs.Spellings.{IsFieldName, IsFieldDescriptor, IsCalledName, IsMethodDescriptor}
use Rattle.jv_names.specs.PoolNames.{HasText, HasNames, IsNamedItem, IsNamedPool}
use Rattle.jv_insn.specs.declared.written.Operands.{Operands}
use Rattle.jv_insn.specs.declared.written.Written.{Written}
use Rattle.jv_insn.specs.Effects.{op_row}
use Rattle.jv_insn.specs.Forms.{HasOperands, HasRowOperands, HasOwnOperands}
use Rattle.jv_insn.specs.Layouts.{Layout, layout_of, wide_layout_of, AreOperands, is_allowed}
use Rattle.jv_names.specs.Naming.{IsTypeText, NamesType, texts_of, texts_at, field_in, method_in, NamesField, NamesMethod}
use Rattle.jv_insn.specs.Meanings.{NamesConst, NamesOperands}
use Rattle.jv_insn.specs.Decoding.{Decodes}
use Rattle.jv_insn.specs.Encoding.{form_of}
use Rattle.jv_insn.specs.Kept.{KeepsField, KeepsConst, KeepsArg, KeepsForm}
use Rattle.jv_insn.proofs.Encoded.{IsSpelledOver, spelled_insns}
use Rattle.jv_insn.proofs.OfLayout.{own_operands, at_all}
use Rattle.jv_insn.proofs.Rewriting.{layout_by, layout_row}
use Rattle.jv_insn.proofs.SpelledBodies.{AreOperandsBy}

-- ---- a pool

-- what holds of each item holds of the one that an index names
pub item_has : (P : PoolItem → Type 0) (pool : List PoolItem) (index : ℕ) (item : PoolItem) → AllByRecursion P pool → item_at pool index ≡ Some item → P item
item_has P pool index item all e = by (eqb index 0) refl e
  where
    by : (b : Bool) → eqb index 0 ≡ b → cond b None (slice_get pool (index - 1)) ≡ Some item → P item
    by true is e = absurd cc
    by false is e = each_at P pool (index - 1) item all e

pub item_keeps : (pool : List PoolItem) (index : ℕ) (item : PoolItem) → IsNamedPool pool → item_at pool index ≡ Some item → IsNamedItem pool item
item_keeps pool index item named e = item_has (IsNamedItem pool) pool index item named e

pub field_item : (item : Option PoolItem) (class pair : ℕ) → option_and_then field_in item ≡ Some (class, pair) → item ≡ Some (items.Field class pair)
field_item None class pair e = absurd cc
field_item (Some (items.Field a b)) class pair e = let is : (a, b) ≡ (class, pair) = some_is (a, b) (class, pair) e in ap (λ (p : ℕ × ℕ). Some (items.Field p.0 p.1)) is
field_item (Some _) class pair e = absurd cc

abbrev paired : List ℕ → List ℕ → List ℕ × List ℕ
paired name desc = (name, desc)

-- the two texts of a name and descriptor
pair_texts : (pool : List PoolItem) (pair first second : ℕ) (name desc : List ℕ) → texts_at pool pair ≡ Some (name, desc) → item_at pool pair ≡ Some (items.NameAndType first second)
    → (text_at pool first ≡ Some name) × (text_at pool second ≡ Some desc)
pair_texts pool pair first second name desc texts item =
    let found : name_and_type_at pool pair ≡ name_and_type_in pool (items.NameAndType first second) = ap (option_and_then (name_and_type_in pool)) item in
    both (names is_utf8 pool first && names is_utf8 pool second) (sym (ap (option_and_then (texts_of pool)) found) ∙ texts)
  where
    texts_are : (a b : Option (List ℕ)) → option_and_then (λ (name : List ℕ). option_and_then (λ (desc : List ℕ). Some (paired name desc)) b) a ≡ Some (paired name desc) → (a ≡ Some name) × (b ≡ Some desc)
    texts_are None b e = absurd cc
    texts_are (Some x) None e = absurd cc
    texts_are (Some x) (Some y) e =
        let is : paired x y ≡ paired name desc = some_is (paired x y) (paired name desc) e in
        (ap (λ (p : List ℕ × List ℕ). Some p.0) is, ap (λ (p : List ℕ × List ℕ). Some p.1) is)

    both : (b : Bool) → option_and_then (texts_of pool) (cond b (Some (first, second)) None) ≡ Some (name, desc) → (text_at pool first ≡ Some name) × (text_at pool second ≡ Some desc)
    both true e = texts_are (text_at pool first) (text_at pool second) e
    both false e = absurd cc

text_kind : (pool : List PoolItem) (index : ℕ) (text : List ℕ) (Kind : List ℕ → Type 0) → HasText pool index Kind → text_at pool index ≡ Some text → Kind text
text_kind pool index text Kind h e = subst Kind (some_is h.text text (sym h.found ∙ e)) h.kind

-- ---- what is named

type_keeps : (text : List ℕ) (type : RefType) → IsTypeText text type → IsRef 255 type
type_keeps text (Class name) h = record { dims = omega arith; named = h.1 }
type_keeps text (PrimArray prim) h = h.valid
type_keeps text (Array' shape all) h = h.valid

pub named_keeps : (pool : List PoolItem) (index : ℕ) (type : RefType) → NamesType pool index type → IsRef 255 type
named_keeps pool index type h = type_keeps h.text type h.spelled

const_keeps : (pool : List PoolItem) (index : ℕ) (const : Const) → NamesConst pool index const → KeepsConst const
const_keeps pool index (consts.Class type) h = named_keeps pool index type h
const_keeps pool index (consts.Int value) h = tt
const_keeps pool index (consts.Float bits) h = tt
const_keeps pool index (consts.Long value) h = tt
const_keeps pool index (consts.Double bits) h = tt
const_keeps pool index consts.Text h = tt
const_keeps pool index consts.Handle h = tt
const_keeps pool index consts.MethodKind h = tt

field_keeps : (pool : List PoolItem) (index : ℕ) (field : FieldRef) → IsNamedPool pool → NamesField pool index field → KeepsField field
field_keeps pool index field all h =
    let item = field_item (item_at pool index) h.class h.pair h.item in
    let n : HasNames pool h.pair IsFieldName IsFieldDescriptor = item_keeps pool index (items.Field h.class h.pair) all item in
    let texts = pair_texts pool h.pair n.name_index n.desc_index field.name h.desc h.texts n.found in
    record { class = h.class_is.is_name; name = text_kind pool n.name_index field.name IsFieldName n.name texts.0; desc = h.spelled.valid }

abbrev pub method_item : Bool → ℕ → ℕ → PoolItem
method_item false class pair = items.Method class pair
method_item true class pair = items.InterfaceMethod class pair

pub method_item_is : (item : Option PoolItem) (interface : Bool) (class pair : ℕ) → option_and_then method_in item ≡ Some (interface, class, pair) → item ≡ Some (method_item interface class pair)
method_item_is None interface class pair e = absurd cc
method_item_is (Some (items.Method a b)) interface class pair e =
    let is : (false, a, b) ≡ (interface, class, pair) = some_is (false, a, b) (interface, class, pair) e in
    ap (λ (p : Bool × ℕ × ℕ). Some (method_item p.0 p.1 p.2)) is
method_item_is (Some (items.InterfaceMethod a b)) interface class pair e =
    let is : (true, a, b) ≡ (interface, class, pair) = some_is (true, a, b) (interface, class, pair) e in
    ap (λ (p : Bool × ℕ × ℕ). Some (method_item p.0 p.1 p.2)) is
method_item_is (Some _) interface class pair e = absurd cc

pub method_names : (pool : List PoolItem) (interface : Bool) (class pair : ℕ) → IsNamedItem pool (method_item interface class pair) → HasNames pool pair IsCalledName (IsMethodDescriptor false)
method_names pool false class pair h = h
method_names pool true class pair h = h

-- what holds of a method's name and words
record CalledSo (method : MethodRef) : Type 0 where
  name : IsCalledName method.name
  words : words_of method.desc false ≤ 255

called_so : (pool : List PoolItem) (index : ℕ) (method : MethodRef) → IsNamedPool pool → NamesMethod pool index method → CalledSo method
called_so pool index method all h =
    let item = method_item_is (item_at pool index) method.interface h.class h.pair h.item in
    let n = method_names pool method.interface h.class h.pair (item_keeps pool index (method_item method.interface h.class h.pair) all item) in
    let texts = pair_texts pool h.pair n.name_index n.desc_index method.name h.desc h.texts n.found in
    let d : IsMethodDescriptor false h.desc = text_kind pool n.desc_index h.desc (IsMethodDescriptor false) n.descriptor texts.1 in
    let one : d.method ≡ method.desc = one_method h.desc d.method method.desc d.spelled h.spelled in
    record { name = text_kind pool n.name_index method.name IsCalledName n.name texts.0; words = subst (λ (m : MethodDesc). words_of m false ≤ 255) one d.words }

-- ---- operands

not_both : (form a b : Form) → form ≡ a → form ≡ b → (a ≡ b → ⊥) → ⊥
not_both form a b e f differ = differ (sym e ∙ f)

keeps_plain : {I : Type 0} (form : Form) (pool : List PoolItem) (rows : List (ℕ × I)) (pc op : ℕ) (text : List ℕ) (operands : Operands) (arg : Arg) → IsNamedPool pool → form_of op ≡ form
    → AreOperandsBy (layout_of form) (pc + 1) text operands → is_allowed operands ≡ true → NamesOperands pool rows pc op form operands arg → HasOperands form arg → KeepsArg op arg
keeps_plain forms.Nothing pool rows pc op text operands arg all is h allowed n o = subst (KeepsArg op) (sym o) tt
keeps_plain forms.Local pool rows pc op text operands arg all is h allowed n o = subst (KeepsArg op) (sym o.1) tt
keeps_plain forms.Small1 pool rows pc op text operands arg all is h allowed n o = subst (KeepsArg op) (sym o.1) tt
keeps_plain forms.Small2 pool rows pc op text operands arg all is h allowed n o = subst (KeepsArg op) (sym o.1) tt
keeps_plain forms.Inc pool rows pc op text operands arg all is h allowed n o = subst (KeepsArg op) (sym o.2) tt
keeps_plain forms.Dynamic pool rows pc op text operands arg all is h allowed n o = subst (KeepsArg op) (sym o) tt
keeps_plain forms.NewPrim pool rows pc op text operands arg all is h allowed n o = subst (KeepsArg op) (sym o.1) tt
keeps_plain forms.Jump2 pool rows pc op text operands arg all is h allowed n o = subst (KeepsArg op) (sym o.1) tt
keeps_plain forms.Jump4 pool rows pc op text operands arg all is h allowed n o = subst (KeepsArg op) (sym o.1) tt
keeps_plain forms.TableSwitch pool rows pc op text operands arg all is h allowed n o = subst (KeepsArg op) (sym o.3) tt
keeps_plain forms.LookupSwitch pool rows pc op text operands arg all is h allowed n o = subst (KeepsArg op) (sym o.2) tt
keeps_plain forms.Load1 pool rows pc op text operands arg all is h allowed n o = let k = subst (λ (x : Operands). NamesOperands pool rows pc op forms.Load1 x arg) h.made n in subst (KeepsArg op) (sym k.1) (const_keeps pool h.number k.0 k.2)
keeps_plain forms.Load2 pool rows pc op text operands arg all is h allowed n o = let k = subst (λ (x : Operands). NamesOperands pool rows pc op forms.Load2 x arg) h.made n in subst (KeepsArg op) (sym k.1) (const_keeps pool h.number k.0 k.2)
keeps_plain forms.LoadTwo pool rows pc op text operands arg all is h allowed n o = let k = subst (λ (x : Operands). NamesOperands pool rows pc op forms.LoadTwo x arg) h.made n in subst (KeepsArg op) (sym k.1) (const_keeps pool h.number k.0 k.2)
keeps_plain forms.Class pool rows pc op text operands arg all is h allowed n o = let k = subst (λ (x : Operands). NamesOperands pool rows pc op forms.Class x arg) h.made n in subst (KeepsArg op) (sym k.1) (named_keeps pool h.number k.0 k.2, k.3)
keeps_plain forms.Field pool rows pc op text operands arg all is h allowed n o = let k = subst (λ (x : Operands). NamesOperands pool rows pc op forms.Field x arg) h.made n in subst (KeepsArg op) (sym k.1) (field_keeps pool h.number k.0 all k.2)
keeps_plain forms.Method pool rows pc op text operands arg all is h allowed n o =
    let k = subst (λ (x : Operands). NamesOperands pool rows pc op forms.Method x arg) h.made n in
    let c = called_so pool h.number k.0 all k.2 in
    subst (KeepsArg op) (sym k.1)
    (record {
      class = named_keeps pool k.2.class k.0.class k.2.class_is;
      name = c.name;
      desc = k.2.spelled.valid;
      words = c.words;
      may_call = λ _. k.3;
      interface = λ e. absurd (not_both (form_of op) forms.Method forms.InterfaceMethod is e (λ x. cc));
    })
keeps_plain forms.InterfaceMethod pool rows pc op text operands arg all is h allowed n o =
    let k = subst (λ (x : Operands). NamesOperands pool rows pc op forms.InterfaceMethod x arg) h.made n in
    let c = called_so pool h.first k.0 all k.2 in
    let few : h.second < 256 = h.second_fits in
    let words : h.second ≡ words_of k.0.desc true = k.3.words_are in
    subst (KeepsArg op) (sym k.1)
    (record {
      class = named_keeps pool k.2.class k.0.class k.2.class_is;
      name = c.name;
      desc = k.2.spelled.valid;
      words = c.words;
      may_call = λ e. absurd (not_both (form_of op) forms.InterfaceMethod forms.Method is e (λ x. cc));
      interface = λ _. (k.3.interface, at_most (words_of k.0.desc true) h.second words few);
    })
  where
    at_most : (words byte : ℕ) → byte ≡ words → byte < 256 → words ≤ 255
    at_most words byte e lt = omega (arith, e, lt)
keeps_plain forms.Multi pool rows pc op text operands arg all is h allowed n o =
    let k = subst (λ (x : Operands). NamesOperands pool rows pc op forms.Multi x arg) h.made n in
    let some : ltb 0 h.second ≡ true = subst (λ (x : Operands). is_allowed x ≡ true) h.made allowed in
    subst (KeepsArg op) (sym k.1) (named_keeps pool h.first k.0 k.2, ltb-true 0 h.second some, k.3)
keeps_plain forms.Wide pool rows pc op text operands arg all is h allowed n o = absurd h

-- under wide nothing is named
keeps_wide : (form : Form) (op : ℕ) (text : List ℕ) (at : ℕ) (operands : Operands) (arg : Arg) → AreOperandsBy (wide_layout_of op form) at text operands → HasOperands form arg → KeepsArg op arg
keeps_wide forms.Local op text at operands arg h o = subst (KeepsArg op) (sym o.1) tt
keeps_wide forms.Inc op text at operands arg h o = subst (KeepsArg op) (sym o.2) tt
keeps_wide _ op text at operands arg h o = absurd h

keeps_either : {I : Type 0} (wide : Bool) (layout : Layout) (form : Form) (pool : List PoolItem) (rows : List (ℕ × I)) (pc op : ℕ) (text : List ℕ) (operands : Operands) (arg : Arg) → IsNamedPool pool → form_of op ≡ form
    → layout_by wide op form ≡ Some layout → AreOperands layout (pc + 1) text operands → is_allowed operands ≡ true → NamesOperands pool rows pc op form operands arg → HasOperands form arg → KeepsArg op arg
keeps_either false layout form pool rows pc op text operands arg all is e h allowed n o =
    keeps_plain form pool rows pc op text operands arg all is (subst (λ (l : Option Layout). AreOperandsBy l (pc + 1) text operands) (sym e) h) allowed n o
keeps_either true layout form pool rows pc op text operands arg all is e h allowed n o =
    keeps_wide form op text (pc + 1) operands arg (subst (λ (l : Option Layout). AreOperandsBy l (pc + 1) text operands) (sym e) h) o

-- ---- an instruction, and a body

own_of : (row : OpForm) (op : ℕ) (arg : Arg) → op_row op ≡ Some row → HasRowOperands (op_row op) arg → HasOperands row.form arg
own_of row op arg e h = subst (λ (r : Option OpForm). HasRowOperands r arg) e h

insn_keeps : (pool : List PoolItem) (max_locals : ℕ) (rows : List (ℕ × Written)) (pc : ℕ) (insn : Insn) → IsNamedPool pool → IsSpelledOver pool max_locals rows pc insn → KeepsForm insn
insn_keeps pool max_locals rows pc insn all s =
    let i = s.is_insn in
    let t = s.is_text in
    let w = s.written in
    let form_is : form_of w.op ≡ i.form.form = ap (λ (o : Option OpForm). option_map_or (λ (row : OpForm). row.form) o forms.Nothing) i.known in
    let own : HasOwnOperands insn = own_operands pool max_locals rows pc insn s in
    let here : HasOperands i.form.form insn.arg = own_of i.form insn.op insn.arg (ap op_row i.op ∙ i.known) own in
    subst (λ (op : ℕ). KeepsArg op insn.arg) (sym i.op)
    (keeps_either w.wide t.layout i.form.form pool rows pc w.op t.operands w.operands insn.arg all form_is (layout_row w.wide w.op i.form t.layout i.known t.known) t.laid t.allowed i.arg here)

pub decoded_keeps : (pool : List PoolItem) (max_stack max_locals : ℕ) (code : List ℕ) (handlers : List RawHandler) (body : Body) (pc : ℕ) (insn : Insn) → IsNamedPool pool
    → Decodes pool max_stack max_locals code handlers body → at_offset pc body.insns ≡ Some insn → KeepsForm insn
decoded_keeps pool max_stack max_locals code handlers body pc insn all d e =
    insn_keeps pool max_locals d.rows pc insn all
    (at_all (λ (row : ℕ × Insn). IsSpelledOver pool max_locals d.rows row.0 row.1) body.insns pc insn (spelled_insns pool max_locals d.rows 0 code d.rows body.insns d.laid d.insns) e)
