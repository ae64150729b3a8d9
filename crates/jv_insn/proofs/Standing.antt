-- An instruction that fits may stand: some bytes over some pool spell it.
use Rattle.std.proofs.Common.{◌≡◌, ℕ, ◌+◌, ◌<◌, ◌≤◌, ◌^◌, ℤ, pos, ◌+ℤ◌, ◌-ℤ◌, Bool, true, false, cond, eqb, List, [], ◌∷◌, ◌++◌, map, Option, Some, None, IsSome, refl, sym, ap, subst, ◌∙◌, arith}
use Rattle.std.specs.Prelude.{option_and_then, is_some, FitsSigned}
use Rattle.std.specs.Int.{w8, w16, w32, cast_unsigned}
use Rattle.std.specs.Ordering.{nat_cmp}
use Rattle.std.proofs.lemmas.Int.{to_z-of_z, ints}
use Rattle.std.proofs.lemmas.Bool.{lt-ltb}
use mir.ValLaws.{of_z_fits}
use Rattle.jv_bytes.specs.Numbers.{number_text}
use Rattle.jv_table.specs.Rows.{row_of}
use Rattle.jv_table.specs.CodeRows.{OpForm, newarray_rows}
use Rattle.jv_table.specs.declared.code_tables.Form.{Form}
use Rattle.jv_table.specs.declared.code_tables.Form.TheVariants as forms
use Rattle.jv_types.specs.Bodies.{IsStart, at_offset}
use Rattle.jv_types.specs.NameForms.{is_class_name}
use Rattle.jv_types.specs.declared.desc.PrimType.{PrimType}
use Rattle.jv_types.specs.declared.desc.PrimType.TheVariants.{Boolean, Char, Float, Double, Byte, Short, Int, Long}
use Rattle.jv_types.specs.declared.desc.RefType.{RefType, Class, PrimArray, Array'}
use Rattle.jv_types.specs.declared.references.FieldRef.{FieldRef}
use Rattle.jv_types.specs.declared.references.MethodRef.{MethodRef}
use Rattle.jv_types.specs.declared.instruction.Const.{Const}
use Rattle.jv_types.specs.declared.instruction.Const.TheVariants as consts
use Rattle.jv_types.specs.declared.instruction.Arg.{Arg}
use Rattle.jv_types.specs.declared.instruction.Arg.TheVariants as args
use Rattle.jv_types.specs.declared.instruction.Insn.{Insn}
use Rattle.jv_desc.specs.Texts.{prim_letter, desc_text, method_text, ref_dims, IsRef, IsDesc, words_of}
use Rattle.jv_pool.specs.declared.item.PoolItem.{PoolItem}
use Rattle.jv_pool.specs.declared.item.PoolItem.TheVariants as items
use Rattle.jv_insn.specs.declared.written.Operands.{Operands}
use Rattle.jv_insn.specs.declared.written.Operands.TheVariants as written
use Rattle.jv_insn.specs.declared.written.Written.{Written}
use Rattle.jv_insn.specs.Effects.{op_row}
use Rattle.jv_insn.specs.Layouts.{Layout, Alone, One, Two, Three, s1, s2, s4, layout_of, wide_layout_of, layout_for, AreOperands, is_allowed, head_text}
use Rattle.jv_names.specs.Naming.{method_in, IsTypeText, NamesType, NamesField, NamesMethod, type_text}
use Rattle.jv_insn.specs.Meanings.{NamesConst, LeadsTo, NamesOperands}
use Rattle.jv_insn.specs.Encoding.{branch_offset, atype_of, MayStand}
use Rattle.jv_insn.specs.Building.{IsFormedConst, IsFormedMethod, FitsForm, FitsWide, FitsUnder, FitsCode}

-- ---- rows of the same starts

abbrev any_written : Written
any_written = record { op = 0; wide = false; operands = written.Nothing }

abbrev row_for : ℕ × Insn → ℕ × Written
row_for row = (row.0, any_written)

abbrev rows_for : List (ℕ × Insn) → List (ℕ × Written)
rows_for insns = map row_for insns

rows_start : (insns : List (ℕ × Insn)) (q : ℕ) → IsStart insns q → IsStart (rows_for insns) q
rows_start [] q s = s
rows_start (i ∷ insns) q s = by (eqb i.0 q) s (rows_start insns q)
  where
    by : (b : Bool) → IsSome (cond b (Some i.1) (at_offset q insns)) → (IsStart insns q → IsStart (rows_for insns) q) → IsSome (cond b (Some any_written) (at_offset q (rows_for insns)))
    by true s more = refl
    by false s more = more s

insns_start : (insns : List (ℕ × Insn)) (q : ℕ) → IsStart (rows_for insns) q → IsStart insns q
insns_start [] q s = s
insns_start (i ∷ insns) q s = by (eqb i.0 q) s (insns_start insns q)
  where
    by : (b : Bool) → IsSome (cond b (Some any_written) (at_offset q (rows_for insns))) → (IsStart (rows_for insns) q → IsStart insns q) → IsSome (cond b (Some i.1) (at_offset q insns))
    by true s more = refl
    by false s more = more s

-- ---- pools in which something is named

type_spelled : (type : RefType) → IsRef 255 type → IsTypeText (type_text type) type
type_spelled (Class name) h = (refl, h.named)
type_spelled (PrimArray prim) h = record { valid = h; spelled = refl }
type_spelled (Array' shape all) h = record { valid = h; spelled = refl }

abbrev class_pool : List ℕ → List PoolItem
class_pool text = items.Utf8 text ∷ items.Class 1 ∷ []

type_there : (type : RefType) → IsRef 255 type → NamesType (class_pool (type_text type)) 2 type
type_there type h = record { text = type_text type; found = refl; spelled = type_spelled type h }

abbrev member_pool : (ℕ → ℕ → PoolItem) → List ℕ → List ℕ → List ℕ → List PoolItem
member_pool item class name desc = items.Utf8 class ∷ items.Class 1 ∷ items.Utf8 name ∷ items.Utf8 desc ∷ items.NameAndType 3 4 ∷ item 2 5 ∷ []

field_there : (field : FieldRef) → is_class_name field.class ≡ true → IsDesc field.desc → NamesField (member_pool items.Field field.class field.name (desc_text field.desc)) 6 field
field_there field name desc = record {
  class = 2;
  pair = 5;
  desc = desc_text field.desc;
  item = refl;
  class_is = record { found = refl; is_name = name };
  texts = refl;
  spelled = record { valid = desc; spelled = refl };
}

abbrev method_item : Bool → ℕ → ℕ → PoolItem
method_item false class pair = items.Method class pair
method_item true class pair = items.InterfaceMethod class pair

abbrev method_pool : MethodRef → List PoolItem
method_pool method = member_pool (method_item method.interface) (type_text method.class) method.name (method_text method.desc)

item_is : (interface : Bool) → method_in (method_item interface 2 5) ≡ Some (interface, 2, 5)
item_is true = refl
item_is false = refl

method_there : (method : MethodRef) → IsFormedMethod method → NamesMethod (method_pool method) 6 method
method_there method h = record {
  class = 2;
  pair = 5;
  desc = method_text method.desc;
  item = item_is method.interface;
  class_is = record { text = type_text method.class; found = refl; spelled = type_spelled method.class h.0 };
  texts = refl;
  spelled = record { valid = h.1; spelled = refl };
}

-- a constant stands in some pool
record ConstThere (const : Const) : Type 0 where
  pool : List PoolItem
  index : ℕ
  small : index < 256
  named : NamesConst pool index const

const_there : (const : Const) → IsFormedConst const → ConstThere const
const_there (consts.Int value) h = record { pool = items.Integer value ∷ []; index = 1; small = omega arith; named = refl }
const_there (consts.Float bits) h = record { pool = items.Float bits ∷ []; index = 1; small = omega arith; named = refl }
const_there (consts.Long value) h = record { pool = items.Long value ∷ []; index = 1; small = omega arith; named = refl }
const_there (consts.Double bits) h = record { pool = items.Double bits ∷ []; index = 1; small = omega arith; named = refl }
const_there (consts.Class type) h = record { pool = class_pool (type_text type); index = 2; small = omega arith; named = type_there type h }
const_there consts.Text h = record { pool = items.Text 0 ∷ []; index = 1; small = omega arith; named = (0, refl) }
const_there consts.Handle h = record { pool = items.MethodHandle 0 0 ∷ []; index = 1; small = omega arith; named = (0, 0, refl) }
const_there consts.MethodKind h = record { pool = items.MethodType 0 ∷ []; index = 1; small = omega arith; named = (0, refl) }

-- ---- operands

-- operands of a layout that name these of an instruction
record Stands (rows : List (ℕ × Written)) (pc op : ℕ) (form : Form) (layout : Layout) (arg : Arg) : Type 0 where
  pool : List PoolItem
  operands : Operands
  text : List ℕ
  laid : AreOperands layout (pc + 1) text operands
  allowed : is_allowed operands ≡ true
  names : NamesOperands pool rows pc op form operands arg

-- the same, where there is such a layout
record StandsBy (rows : List (ℕ × Written)) (pc op : ℕ) (form : Form) (layout : Option Layout) (arg : Arg) : Type 0 where
  own : Layout
  is : layout ≡ Some own
  stands : Stands rows pc op form own arg

-- a number of one byte, of two and of four is read as it is written
signed_1 : (value : ℤ) → FitsSigned w8 value → (number : ℕ) × (number < 256) × (value ≡ s1 number)
signed_1 value h = (cast_unsigned w8 value, (of_z_fits w8 value h).fits, sym (to_z-of_z w8 value h))

signed_2 : (value : ℤ) → FitsSigned w16 value → (number : ℕ) × (number < 65536) × (value ≡ s2 number)
signed_2 value h = (cast_unsigned w16 value, (of_z_fits w16 value h).fits, sym (to_z-of_z w16 value h))

signed_4 : (value : ℤ) → FitsSigned w32 value → (number : ℕ) × (number < 4294967296) × (value ≡ s4 number)
signed_4 value h = (cast_unsigned w32 value, (of_z_fits w32 value h).fits, sym (to_z-of_z w32 value h))

-- a target is as far as its offset says
leads_there : (insns : List (ℕ × Insn)) (pc target : ℕ) → IsStart insns target → LeadsTo (rows_for insns) pc (branch_offset pc target) target
leads_there insns pc target s = record { distance = far pc target; starts = rows_start insns target s }
  where
    far : (pc target : ℕ) → pos pc +ℤ (pos target -ℤ pos pc) ≡ pos target
    far pc target = omega (arith, ints)

code_known : (prim : PrimType) → row_of nat_cmp (atype_of prim) newarray_rows ≡ Some (prim_letter prim)
code_known Boolean = refl
code_known Char = refl
code_known Float = refl
code_known Double = refl
code_known Byte = refl
code_known Short = refl
code_known Int = refl
code_known Long = refl

code_small : (prim : PrimType) → atype_of prim < 256
code_small Boolean = omega arith
code_small Char = omega arith
code_small Float = omega arith
code_small Double = omega arith
code_small Byte = omega arith
code_small Short = omega arith
code_small Int = omega arith
code_small Long = omega arith

-- the operands of each layout, of so many bytes
one_stands : (rows : List (ℕ × Written)) (pc op : ℕ) (form : Form) (n : ℕ) (make : ℕ → Operands) (arg : Arg) (pool : List PoolItem) (number : ℕ) → number < 256 ^ n → is_allowed (make number) ≡ true
    → NamesOperands pool rows pc op form (make number) arg → Stands rows pc op form (One n make) arg
one_stands rows pc op form n make arg pool number fits allowed names = record {
  pool = pool;
  operands = make number;
  text = number_text n number;
  laid = record { number = number; fits = fits; spelled = refl; made = refl };
  allowed = allowed;
  names = names;
}

two_stand : (rows : List (ℕ × Written)) (pc op : ℕ) (form : Form) (m n : ℕ) (make : ℕ → ℕ → Operands) (arg : Arg) (pool : List PoolItem) (first second : ℕ) → first < 256 ^ m → second < 256 ^ n
    → is_allowed (make first second) ≡ true → NamesOperands pool rows pc op form (make first second) arg → Stands rows pc op form (Two m n make) arg
two_stand rows pc op form m n make arg pool first second a b allowed names = record {
  pool = pool;
  operands = make first second;
  text = number_text m first ++ number_text n second;
  laid = record { first = first; second = second; first_fits = a; second_fits = b; spelled = refl; made = refl };
  allowed = allowed;
  names = names;
}

three_stand : (rows : List (ℕ × Written)) (pc op : ℕ) (form : Form) (make : ℕ → ℕ → ℕ → Operands) (arg : Arg) (pool : List PoolItem) (first second third : ℕ) → first < 65536 → second < 256 → third < 256
    → is_allowed (make first second third) ≡ true → NamesOperands pool rows pc op form (make first second third) arg → Stands rows pc op form (Three 2 1 1 make) arg
three_stand rows pc op form make arg pool first second third a b c allowed names = record {
  pool = pool;
  operands = make first second third;
  text = number_text 2 first ++ (number_text 1 second ++ number_text 1 third);
  laid = record { first = first; second = second; third = third; first_fits = a; second_fits = b; third_fits = c; spelled = refl; made = refl };
  allowed = allowed;
  names = names;
}

plain_stands : (insns : List (ℕ × Insn)) (pc op : ℕ) (form : Form) (arg : Arg) → FitsForm insns pc op form arg → StandsBy (rows_for insns) pc op form (layout_of form) arg
plain_stands insns pc op forms.Nothing arg h = record { own = Alone; is = refl; stands = record { pool = []; operands = written.Nothing; text = []; laid = (refl, refl); allowed = refl; names = h } }
plain_stands insns pc op forms.Local arg h = record { own = One 1 written.Local; is = refl; stands = one_stands (rows_for insns) pc op forms.Local 1 written.Local arg [] h.0 h.2 refl h.1 }
plain_stands insns pc op forms.Small1 arg h =
    let n = signed_1 h.0 h.2 in
    record { own = One 1 (λ number. written.Small (s1 number)); is = refl; stands = one_stands (rows_for insns) pc op forms.Small1 1 (λ number. written.Small (s1 number)) arg [] n.0 n.1 refl (h.1 ∙ ap args.Small n.2) }
plain_stands insns pc op forms.Small2 arg h =
    let n = signed_2 h.0 h.2 in
    record { own = One 2 (λ number. written.Small (s2 number)); is = refl; stands = one_stands (rows_for insns) pc op forms.Small2 2 (λ number. written.Small (s2 number)) arg [] n.0 n.1 refl (h.1 ∙ ap args.Small n.2) }
plain_stands insns pc op forms.Inc arg h =
    let n = signed_1 h.1 h.4 in
    record { own = Two 1 1 (λ local by. written.Inc local (s1 by)); is = refl; stands = two_stand (rows_for insns) pc op forms.Inc 1 1 (λ local by. written.Inc local (s1 by)) arg [] h.0 n.0 h.3 n.1 refl (h.2 ∙ ap (args.Inc h.0) n.2) }
plain_stands insns pc op forms.Load1 arg h =
    let c = const_there h.0 h.2 in
    record { own = One 1 written.Index; is = refl; stands = one_stands (rows_for insns) pc op forms.Load1 1 written.Index arg c.pool c.index c.small refl (h.0, h.1, c.named, h.3) }
plain_stands insns pc op forms.Load2 arg h =
    let c = const_there h.0 h.2 in
    record { own = One 2 written.Index; is = refl; stands = one_stands (rows_for insns) pc op forms.Load2 2 written.Index arg c.pool c.index (omega (arith, c.small)) refl (h.0, h.1, c.named, h.3) }
plain_stands insns pc op forms.LoadTwo arg h =
    let c = const_there h.0 h.2 in
    record { own = One 2 written.Index; is = refl; stands = one_stands (rows_for insns) pc op forms.LoadTwo 2 written.Index arg c.pool c.index (omega (arith, c.small)) refl (h.0, h.1, c.named, h.3) }
plain_stands insns pc op forms.Class arg h =
    record { own = One 2 written.Index; is = refl; stands = one_stands (rows_for insns) pc op forms.Class 2 written.Index arg (class_pool (type_text h.0)) 2 (omega arith) refl (h.0, h.1, type_there h.0 h.2, h.3) }
plain_stands insns pc op forms.Field arg h =
    record { own = One 2 written.Index; is = refl; stands = one_stands (rows_for insns) pc op forms.Field 2 written.Index arg (member_pool items.Field h.0.class h.0.name (desc_text h.0.desc)) 6 (omega arith) refl (h.0, h.1, field_there h.0 h.2 h.3) }
plain_stands insns pc op forms.Method arg h =
    record { own = One 2 written.Index; is = refl; stands = one_stands (rows_for insns) pc op forms.Method 2 written.Index arg (method_pool h.0) 6 (omega arith) refl (h.0, h.1, method_there h.0 h.2, h.3) }
plain_stands insns pc op forms.InterfaceMethod arg h =
    record {
      own = Three 2 1 1 written.Called;
      is = refl;
      stands = three_stand (rows_for insns) pc op forms.InterfaceMethod written.Called arg (method_pool h.0) 6 (words_of h.0.desc true) 0 (omega arith) h.4 (omega arith) refl (h.0, h.1, method_there h.0 h.2, record { interface = h.3; words_are = refl; last_is = refl });
    }
plain_stands insns pc op forms.Dynamic arg h =
    record { own = Three 2 1 1 written.Site; is = refl; stands = three_stand (rows_for insns) pc op forms.Dynamic written.Site arg (items.InvokeDynamic 0 0 ∷ []) 1 0 0 (omega arith) (omega arith) (omega arith) refl (0, 0, refl, h) }
plain_stands insns pc op forms.NewPrim arg h =
    record {
      own = One 1 written.NewPrim;
      is = refl;
      stands = one_stands (rows_for insns) pc op forms.NewPrim 1 written.NewPrim arg [] (atype_of h.0) (code_small h.0) (ap is_some (code_known h.0)) (h.0, h.1, code_known h.0);
    }
plain_stands insns pc op forms.Multi arg h =
    let most : h.1 < 256 = few h.1 (ref_dims h.0) h.5 h.3.dims in
    record {
      own = Two 2 1 written.Multi;
      is = refl;
      stands = two_stand (rows_for insns) pc op forms.Multi 2 1 written.Multi arg (class_pool (type_text h.0)) 2 h.1 (omega arith) most (lt-ltb 0 h.1 h.4) (h.0, h.2, type_there h.0 h.3, h.5);
    }
  where
    few : (dims all : ℕ) → dims ≤ all → all ≤ 255 → dims < 256
    few dims all a b = omega (arith, a, b)
plain_stands insns pc op forms.Jump2 arg h =
    let n = signed_2 (branch_offset pc h.0) h.3 in
    let leads : LeadsTo (rows_for insns) pc (s2 n.0) h.0 = subst (λ (z : ℤ). LeadsTo (rows_for insns) pc z h.0) n.2 (leads_there insns pc h.0 h.2) in
    record { own = One 2 (λ offset. written.Jump (s2 offset)); is = refl; stands = one_stands (rows_for insns) pc op forms.Jump2 2 (λ offset. written.Jump (s2 offset)) arg [] n.0 n.1 refl (h.0, h.1, leads) }
plain_stands insns pc op forms.Jump4 arg h =
    let n = signed_4 (branch_offset pc h.0) h.3 in
    let leads : LeadsTo (rows_for insns) pc (s4 n.0) h.0 = subst (λ (z : ℤ). LeadsTo (rows_for insns) pc z h.0) n.2 (leads_there insns pc h.0 h.2) in
    record { own = One 4 (λ offset. written.Jump (s4 offset)); is = refl; stands = one_stands (rows_for insns) pc op forms.Jump4 4 (λ offset. written.Jump (s4 offset)) arg [] n.0 n.1 refl (h.0, h.1, leads) }
plain_stands insns pc op forms.TableSwitch arg h = absurd h
plain_stands insns pc op forms.LookupSwitch arg h = absurd h
plain_stands insns pc op forms.Wide arg h = absurd h

wide_stands : (insns : List (ℕ × Insn)) (pc op : ℕ) (form : Form) (arg : Arg) → FitsWide op form arg → StandsBy (rows_for insns) pc op form (wide_layout_of op form) arg
wide_stands insns pc op forms.Local arg h =
    record { own = One 2 written.Local; is = ap (λ (b : Bool). cond b None (Some (One 2 written.Local))) h.3; stands = one_stands (rows_for insns) pc op forms.Local 2 written.Local arg [] h.0 h.2 refl h.1 }
wide_stands insns pc op forms.Inc arg h =
    let n = signed_2 h.1 h.4 in
    record { own = Two 2 2 (λ local by. written.Inc local (s2 by)); is = refl; stands = two_stand (rows_for insns) pc op forms.Inc 2 2 (λ local by. written.Inc local (s2 by)) arg [] h.0 n.0 h.3 n.1 refl (h.2 ∙ ap (args.Inc h.0) n.2) }
wide_stands insns pc op _ arg h = absurd h

either_stands : (wide : Bool) (insns : List (ℕ × Insn)) (pc op : ℕ) (row : OpForm) (arg : Arg) → op_row op ≡ Some row → FitsUnder wide insns pc op row.form arg → StandsBy (rows_for insns) pc op row.form (layout_for wide op) arg
either_stands false insns pc op row arg e h =
    let s = plain_stands insns pc op row.form arg h in
    record { own = s.own; is = ap (option_and_then (λ (r : OpForm). layout_of r.form)) e ∙ s.is; stands = s.stands }
either_stands true insns pc op row arg e h =
    let s = wide_stands insns pc op row.form arg h in
    record { own = s.own; is = ap (option_and_then (λ (r : OpForm). wide_layout_of op r.form)) e ∙ s.is; stands = s.stands }

-- ---- an instruction

pub may_stand : (max_locals : ℕ) (insns : List (ℕ × Insn)) (pc : ℕ) (insn : Insn) → FitsCode max_locals insns pc insn → MayStand max_locals insns pc insn
may_stand max_locals insns pc insn h =
    let s = either_stands insn.wide insns pc insn.op h.row insn.arg h.known h.operands in
    let t = s.stands in
    record {
      pool = t.pool;
      rows = rows_for insns;
      starts = insns_start insns;
      written = record { op = insn.op; wide = insn.wide; operands = t.operands };
      text = head_text insn.wide insn.op ++ t.text;
      is_insn = record { op = refl; wide = refl; form = h.row; known = h.known; arg = t.names; local = h.local };
      is_text = record { layout = s.own; known = s.is; operands = t.text; spelled = refl; laid = t.laid; allowed = t.allowed };
    }
