-- Each plain type's `==` tells its values apart.
use Rattle.std.proofs.Common.{◌≡◌, ℕ, true, List, refl, subst, rules}
use Rattle.std.proofs.lemmas.Bool.{and_parts, false≢true}
use Rattle.std.proofs.lemmas.Map.Lookups.{exact_bytes}
use Rattle.std.proofs.Math.Bool.{Bool-set}
use Rattle.jv_lists.proofs.Tests.{is_eq-Equal}
use Rattle.jv_types.specs.Bodies.{rises_from}
use Rattle.jv_types.specs.Types.{ref_key}
use Rattle.jv_types.specs.Frames.{vtype_key}
use Rattle.jv_types.specs.declared.desc.PrimType.TheVariants as prim
use Rattle.jv_types.specs.declared.desc.Desc.TheVariants as desc
use Rattle.jv_types.specs.declared.instruction.Const.TheVariants as const
use Rattle.jv_types.specs.declared.instruction.Arg.TheVariants as arg
use Rattle.jv_types.specs.declared.instruction.Insn.{Insn}
use Rattle.jv_types.specs.declared.body.Handler.{Handler}
use Rattle.jv_types.specs.declared.body.Body.{Body}
use Rattle.jv_types.specs.declared.label.LibBase.TheVariants as lib_base
use Rattle.jv_types.specs.declared.label.Label.TheVariants as label
use Rattle.jv_types.specs.declared.place.Place.TheVariants as place
use Rattle.jv_types.specs.declared.fact.CallFrom.TheVariants as call_from
use Rattle.jv_types.specs.declared.fact.Fact.TheVariants as fact
use Rattle.jv_types.specs.declared.rule.Rule.TheVariants as rule
use Rattle.jv_types.specs.declared.refusal.RulePlace.TheVariants as rule_place
use Rattle.jv_types.specs.declared.quantity.Quantity.TheVariants as quantity
use Rattle.jv_types.specs.contracts.access.AccessPartialEq as access_eq
use Rattle.jv_types.specs.contracts.desc.PrimTypePartialEq as prim_type_eq
use Rattle.jv_types.specs.contracts.desc.RefTypePartialEq as ref_type_eq
use Rattle.jv_types.specs.contracts.desc.DescPartialEq as desc_eq
use Rattle.jv_types.specs.contracts.desc.MethodDescPartialEq as method_desc_eq
use Rattle.jv_types.specs.contracts.references.FieldRefPartialEq as field_ref_eq
use Rattle.jv_types.specs.contracts.references.MethodRefPartialEq as method_ref_eq
use Rattle.jv_types.specs.contracts.shapes.FieldShapePartialEq as field_shape_eq
use Rattle.jv_types.specs.contracts.shapes.MethodShapePartialEq as method_shape_eq
use Rattle.jv_types.specs.contracts.shapes.ShapePartialEq as shape_eq
use Rattle.jv_types.specs.contracts.ids.ClassIdPartialEq as class_id_eq
use Rattle.jv_types.specs.contracts.ids.FieldIdPartialEq as field_id_eq
use Rattle.jv_types.specs.contracts.ids.MethodIdPartialEq as method_id_eq
use Rattle.jv_types.specs.contracts.instruction.ConstPartialEq as const_eq
use Rattle.jv_types.specs.contracts.instruction.ArgPartialEq as arg_eq
use Rattle.jv_types.specs.contracts.instruction.InsnPartialEq as insn_eq
use Rattle.jv_types.specs.contracts.body.HandlerPartialEq as handler_eq
use Rattle.jv_types.specs.contracts.raw_handler.RawHandlerPartialEq as raw_handler_eq
use Rattle.jv_types.specs.contracts.frames.VTypePartialEq as vtype_eq
use Rattle.jv_types.specs.contracts.frames.FramePartialEq as frame_eq
use Rattle.jv_types.specs.contracts.body.BodyPartialEq as body_eq
use Rattle.jv_types.specs.contracts.frames.FramedBodyPartialEq as framed_body_eq
use Rattle.jv_types.specs.contracts.label.LibBasePartialEq as lib_base_eq
use Rattle.jv_types.specs.contracts.label.LabelPartialEq as label_eq
use Rattle.jv_types.specs.contracts.place.PlacePartialEq as place_eq
use Rattle.jv_types.specs.contracts.fact.CallFromPartialEq as call_from_eq
use Rattle.jv_types.specs.contracts.fact.FactPartialEq as fact_eq
use Rattle.jv_types.specs.contracts.rule.RulePartialEq as rule_eq
use Rattle.jv_types.specs.contracts.refusal.RulePlacePartialEq as rule_place_eq
use Rattle.jv_types.specs.contracts.refusal.RefusalPartialEq as refusal_eq
use Rattle.jv_types.specs.contracts.quantity.QuantityPartialEq as quantity_eq
use Rattle.jv_equality.proofs.Exact.{Exact, nats_exact, ints_exact, bools_exact, texts_exact, lists_exact, options_exact, pairs_exact}
use Rattle.jv_equality.proofs.EqualTypes.{same_ref_key, same_vtype_key}

pub access_exact : Exact access_eq.TheImpl.ghosts.eq
access_exact x y e = search rules

pub prim_exact : Exact prim_type_eq.TheImpl.ghosts.eq
prim_exact prim.Boolean prim.Boolean e = refl
prim_exact prim.Char prim.Char e = refl
prim_exact prim.Float prim.Float e = refl
prim_exact prim.Double prim.Double e = refl
prim_exact prim.Byte prim.Byte e = refl
prim_exact prim.Short prim.Short e = refl
prim_exact prim.Int prim.Int e = refl
prim_exact prim.Long prim.Long e = refl
prim_exact _ _ e = absurd (false≢true e)

pub ref_type_exact : Exact ref_type_eq.TheImpl.ghosts.eq
ref_type_exact x y e = same_ref_key x y (exact_bytes (ref_key x) (ref_key y) (is_eq-Equal _ e))

pub desc_exact : Exact desc_eq.TheImpl.ghosts.eq
desc_exact (desc.Prim a1) (desc.Prim b1) e = λ i. desc.Prim (prim_exact a1 b1 e i)
desc_exact (desc.Ref a1) (desc.Ref b1) e = λ i. desc.Ref (ref_type_exact a1 b1 e i)
desc_exact _ _ e = absurd (false≢true e)

pub method_desc_exact : Exact method_desc_eq.TheImpl.ghosts.eq
method_desc_exact x y e =
    let p1 = and_parts _ _ e in
    λ i. record { params = lists_exact desc_exact x.params y.params p1.0 i; result = options_exact desc_exact x.result y.result p1.1 i }

pub field_ref_exact : Exact field_ref_eq.TheImpl.ghosts.eq
field_ref_exact x y e =
    let p1 = and_parts _ _ e in
    let p2 = and_parts _ _ p1.1 in
    λ i. record { class = texts_exact x.class y.class p1.0 i; name = texts_exact x.name y.name p2.0 i; desc = desc_exact x.desc y.desc p2.1 i }

pub method_ref_exact : Exact method_ref_eq.TheImpl.ghosts.eq
method_ref_exact x y e =
    let p1 = and_parts _ _ e in
    let p2 = and_parts _ _ p1.1 in
    let p3 = and_parts _ _ p2.1 in
    λ i. record { class = ref_type_exact x.class y.class p1.0 i; name = texts_exact x.name y.name p2.0 i; desc = method_desc_exact x.desc y.desc p3.0 i; interface = bools_exact x.interface y.interface p3.1 i }

pub field_shape_exact : Exact field_shape_eq.TheImpl.ghosts.eq
field_shape_exact x y e =
    let p1 = and_parts _ _ e in
    let p2 = and_parts _ _ p1.1 in
    λ i. record { name = texts_exact x.name y.name p1.0 i; desc = desc_exact x.desc y.desc p2.0 i; flags = access_exact x.flags y.flags p2.1 i }

pub method_shape_exact : Exact method_shape_eq.TheImpl.ghosts.eq
method_shape_exact x y e =
    let p1 = and_parts _ _ e in
    let p2 = and_parts _ _ p1.1 in
    let p3 = and_parts _ _ p2.1 in
    λ i. record { name = texts_exact x.name y.name p1.0 i; desc = method_desc_exact x.desc y.desc p2.0 i; flags = access_exact x.flags y.flags p3.0 i; code = bools_exact x.code y.code p3.1 i }

pub shape_exact : Exact shape_eq.TheImpl.ghosts.eq
shape_exact x y e =
    let p1 = and_parts _ _ e in
    let p2 = and_parts _ _ p1.1 in
    let p3 = and_parts _ _ p2.1 in
    let p4 = and_parts _ _ p3.1 in
    let p5 = and_parts _ _ p4.1 in
    let p6 = and_parts _ _ p5.1 in
    λ i. record { name = texts_exact x.name y.name p1.0 i; flags = access_exact x.flags y.flags p2.0 i; parent = options_exact texts_exact x.parent y.parent p3.0 i; interfaces = lists_exact texts_exact x.interfaces y.interfaces p4.0 i; fields = lists_exact field_shape_exact x.fields y.fields p5.0 i; methods = lists_exact method_shape_exact x.methods y.methods p6.0 i; application = bools_exact x.application y.application p6.1 i }

pub class_id_exact : Exact class_id_eq.TheImpl.ghosts.eq
class_id_exact x y e =
    λ i. record { number = nats_exact x.number y.number e i }

pub field_id_exact : Exact field_id_eq.TheImpl.ghosts.eq
field_id_exact x y e =
    let p1 = and_parts _ _ e in
    λ i. record { class = class_id_exact x.class y.class p1.0 i; index = nats_exact x.index y.index p1.1 i }

pub method_id_exact : Exact method_id_eq.TheImpl.ghosts.eq
method_id_exact x y e =
    let p1 = and_parts _ _ e in
    λ i. record { class = class_id_exact x.class y.class p1.0 i; index = nats_exact x.index y.index p1.1 i }

pub const_exact : Exact const_eq.TheImpl.ghosts.eq
const_exact (const.Int a1) (const.Int b1) e = λ i. const.Int (ints_exact a1 b1 e i)
const_exact (const.Float a1) (const.Float b1) e = λ i. const.Float (nats_exact a1 b1 e i)
const_exact (const.Long a1) (const.Long b1) e = λ i. const.Long (ints_exact a1 b1 e i)
const_exact (const.Double a1) (const.Double b1) e = λ i. const.Double (nats_exact a1 b1 e i)
const_exact const.Text const.Text e = refl
const_exact (const.Class a1) (const.Class b1) e = λ i. const.Class (ref_type_exact a1 b1 e i)
const_exact const.Handle const.Handle e = refl
const_exact const.MethodKind const.MethodKind e = refl
const_exact _ _ e = absurd (false≢true e)

pub arg_exact : Exact arg_eq.TheImpl.ghosts.eq
arg_exact arg.Nothing arg.Nothing e = refl
arg_exact (arg.Local a1) (arg.Local b1) e = λ i. arg.Local (nats_exact a1 b1 e i)
arg_exact (arg.Small a1) (arg.Small b1) e = λ i. arg.Small (ints_exact a1 b1 e i)
arg_exact (arg.Inc a1 a2) (arg.Inc b1 b2) e =
    let p1 = and_parts _ _ e in
    λ i. arg.Inc (nats_exact a1 b1 p1.0 i) (ints_exact a2 b2 p1.1 i)
arg_exact (arg.Constant a1) (arg.Constant b1) e = λ i. arg.Constant (const_exact a1 b1 e i)
arg_exact (arg.Class a1) (arg.Class b1) e = λ i. arg.Class (ref_type_exact a1 b1 e i)
arg_exact (arg.Field a1) (arg.Field b1) e = λ i. arg.Field (field_ref_exact a1 b1 e i)
arg_exact (arg.Method a1) (arg.Method b1) e = λ i. arg.Method (method_ref_exact a1 b1 e i)
arg_exact arg.Dynamic arg.Dynamic e = refl
arg_exact (arg.NewPrim a1) (arg.NewPrim b1) e = λ i. arg.NewPrim (prim_exact a1 b1 e i)
arg_exact (arg.Multi a1 a2) (arg.Multi b1 b2) e =
    let p1 = and_parts _ _ e in
    λ i. arg.Multi (ref_type_exact a1 b1 p1.0 i) (nats_exact a2 b2 p1.1 i)
arg_exact (arg.Jump a1) (arg.Jump b1) e = λ i. arg.Jump (nats_exact a1 b1 e i)
arg_exact (arg.Table a1 a2 a3) (arg.Table b1 b2 b3) e =
    let p1 = and_parts _ _ e in
    let p2 = and_parts _ _ p1.1 in
    λ i. arg.Table (nats_exact a1 b1 p1.0 i) (ints_exact a2 b2 p2.0 i) (lists_exact nats_exact a3 b3 p2.1 i)
arg_exact (arg.Lookup a1 a2) (arg.Lookup b1 b2) e =
    let p1 = and_parts _ _ e in
    λ i. arg.Lookup (nats_exact a1 b1 p1.0 i) (lists_exact (pairs_exact ints_exact nats_exact) a2 b2 p1.1 i)
arg_exact _ _ e = absurd (false≢true e)

pub insn_exact : Exact insn_eq.TheImpl.ghosts.eq
insn_exact x y e =
    let p1 = and_parts _ _ e in
    let p2 = and_parts _ _ p1.1 in
    λ i. record { op = nats_exact x.op y.op p1.0 i; wide = bools_exact x.wide y.wide p2.0 i; arg = arg_exact x.arg y.arg p2.1 i }

pub handler_exact : Exact handler_eq.TheImpl.ghosts.eq
handler_exact x y e =
    let p1 = and_parts _ _ e in
    let p2 = and_parts _ _ p1.1 in
    let p3 = and_parts _ _ p2.1 in
    λ i. record { start = nats_exact x.start y.start p1.0 i; end = nats_exact x.end y.end p2.0 i; target = nats_exact x.target y.target p3.0 i; catch = options_exact texts_exact x.catch y.catch p3.1 i }

pub raw_handler_exact : Exact raw_handler_eq.TheImpl.ghosts.eq
raw_handler_exact x y e =
    let p1 = and_parts _ _ e in
    let p2 = and_parts _ _ p1.1 in
    let p3 = and_parts _ _ p2.1 in
    λ i. record { start = nats_exact x.start y.start p1.0 i; end = nats_exact x.end y.end p2.0 i; target = nats_exact x.target y.target p3.0 i; catch = nats_exact x.catch y.catch p3.1 i }

pub vtype_exact : Exact vtype_eq.TheImpl.ghosts.eq
vtype_exact x y e = same_vtype_key x y (exact_bytes (vtype_key x) (vtype_key y) (is_eq-Equal _ e))

pub frame_exact : Exact frame_eq.TheImpl.ghosts.eq
frame_exact x y e =
    let p1 = and_parts _ _ e in
    let p2 = and_parts _ _ p1.1 in
    λ i. record { locals = lists_exact vtype_exact x.locals y.locals p1.0 i; stack = lists_exact vtype_exact x.stack y.stack p2.0 i; this_uninit = bools_exact x.this_uninit y.this_uninit p2.1 i }

abbrev body_of : (max_stack max_locals length : ℕ) (insns : List (ℕ × Insn)) (handlers : List Handler) → rises_from 0 insns ≡ true → Body
body_of s l n i h r = record { max_stack = s; max_locals = l; length = n; insns = i; handlers = h; rising = r }

-- bodies of the same parts are one
same_body : (x : Body) {s l n : ℕ} {i : List (ℕ × Insn)} {h : List Handler} → x.max_stack ≡ s → x.max_locals ≡ l → x.length ≡ n → x.insns ≡ i → x.handlers ≡ h → (r : rises_from 0 i ≡ true) → x ≡ body_of s l n i h r
same_body x {s} {l} {n} {i} {h} es el en ei eh =
    let P : List (ℕ × Insn) → Type 0 = λ rows. (r : rises_from 0 rows ≡ true) → x ≡ body_of s l n rows h r in
    subst P ei (λ r. λ k. body_of (es k) (el k) (en k) x.insns (eh k) (Bool-set (rises_from 0 x.insns) true x.rising r k))

pub body_exact : Exact body_eq.TheImpl.ghosts.eq
body_exact x y e =
    let p1 = and_parts _ _ e in
    let p2 = and_parts _ _ p1.1 in
    let p3 = and_parts _ _ p2.1 in
    let p4 = and_parts _ _ p3.1 in
    same_body x (nats_exact x.max_stack y.max_stack p1.0) (nats_exact x.max_locals y.max_locals p2.0) (nats_exact x.length y.length p3.0) (lists_exact (pairs_exact nats_exact insn_exact) x.insns y.insns p4.0) (lists_exact handler_exact x.handlers y.handlers p4.1) y.rising

pub framed_body_exact : Exact framed_body_eq.TheImpl.ghosts.eq
framed_body_exact x y e =
    let p1 = and_parts _ _ e in
    let p2 = and_parts _ _ p1.1 in
    λ i. record { method = method_id_exact x.method y.method p1.0 i; body = body_exact x.body y.body p2.0 i; frames = lists_exact (pairs_exact nats_exact frame_exact) x.frames y.frames p2.1 i }

pub lib_base_exact : Exact lib_base_eq.TheImpl.ghosts.eq
lib_base_exact (lib_base.Class a1) (lib_base.Class b1) e = λ i. lib_base.Class (class_id_exact a1 b1 e i)
lib_base_exact (lib_base.Prim a1) (lib_base.Prim b1) e = λ i. lib_base.Prim (prim_exact a1 b1 e i)
lib_base_exact _ _ e = absurd (false≢true e)

pub label_exact : Exact label_eq.TheImpl.ghosts.eq
label_exact (label.Site a1 a2 a3) (label.Site b1 b2 b3) e =
    let p1 = and_parts _ _ e in
    let p2 = and_parts _ _ p1.1 in
    λ i. label.Site (method_id_exact a1 b1 p1.0 i) (nats_exact a2 b2 p2.0 i) (nats_exact a3 b3 p2.1 i)
label_exact (label.Lib a1 a2) (label.Lib b1 b2) e =
    let p1 = and_parts _ _ e in
    λ i. label.Lib (lib_base_exact a1 b1 p1.0 i) (nats_exact a2 b2 p1.1 i)
label_exact _ _ e = absurd (false≢true e)

pub place_exact : Exact place_eq.TheImpl.ghosts.eq
place_exact (place.Local a1 a2 a3) (place.Local b1 b2 b3) e =
    let p1 = and_parts _ _ e in
    let p2 = and_parts _ _ p1.1 in
    λ i. place.Local (method_id_exact a1 b1 p1.0 i) (nats_exact a2 b2 p2.0 i) (nats_exact a3 b3 p2.1 i)
place_exact (place.Stack a1 a2 a3) (place.Stack b1 b2 b3) e =
    let p1 = and_parts _ _ e in
    let p2 = and_parts _ _ p1.1 in
    λ i. place.Stack (method_id_exact a1 b1 p1.0 i) (nats_exact a2 b2 p2.0 i) (nats_exact a3 b3 p2.1 i)
place_exact (place.Field a1 a2) (place.Field b1 b2) e =
    let p1 = and_parts _ _ e in
    λ i. place.Field (label_exact a1 b1 p1.0 i) (field_id_exact a2 b2 p1.1 i)
place_exact (place.Static a1) (place.Static b1) e = λ i. place.Static (field_id_exact a1 b1 e i)
place_exact (place.Elem a1) (place.Elem b1) e = λ i. place.Elem (label_exact a1 b1 e i)
place_exact (place.Ret a1) (place.Ret b1) e = λ i. place.Ret (method_id_exact a1 b1 e i)
place_exact (place.Raise a1 a2) (place.Raise b1 b2) e =
    let p1 = and_parts _ _ e in
    λ i. place.Raise (method_id_exact a1 b1 p1.0 i) (nats_exact a2 b2 p1.1 i)
place_exact (place.Thr a1) (place.Thr b1) e = λ i. place.Thr (method_id_exact a1 b1 e i)
place_exact _ _ e = absurd (false≢true e)

pub call_from_exact : Exact call_from_eq.TheImpl.ghosts.eq
call_from_exact call_from.Root call_from.Root e = refl
call_from_exact (call_from.Site a1 a2) (call_from.Site b1 b2) e =
    let p1 = and_parts _ _ e in
    λ i. call_from.Site (method_id_exact a1 b1 p1.0 i) (nats_exact a2 b2 p1.1 i)
call_from_exact _ _ e = absurd (false≢true e)

pub fact_exact : Exact fact_eq.TheImpl.ghosts.eq
fact_exact (fact.Reach a1) (fact.Reach b1) e = λ i. fact.Reach (method_id_exact a1 b1 e i)
fact_exact (fact.Edge a1 a2) (fact.Edge b1 b2) e =
    let p1 = and_parts _ _ e in
    λ i. fact.Edge (call_from_exact a1 b1 p1.0 i) (method_id_exact a2 b2 p1.1 i)
fact_exact (fact.Pt a1 a2) (fact.Pt b1 b2) e =
    let p1 = and_parts _ _ e in
    λ i. fact.Pt (place_exact a1 b1 p1.0 i) (label_exact a2 b2 p1.1 i)
fact_exact _ _ e = absurd (false≢true e)

pub rule_exact : Exact rule_eq.TheImpl.ghosts.eq
rule_exact rule.NotClass rule.NotClass e = refl
rule_exact rule.Version rule.Version e = refl
rule_exact rule.NameMismatch rule.NameMismatch e = refl
rule_exact rule.InBoth rule.InBoth e = refl
rule_exact rule.ReservedName rule.ReservedName e = refl
rule_exact rule.MissingClass rule.MissingClass e = refl
rule_exact rule.LibraryNamesApplication rule.LibraryNamesApplication e = refl
rule_exact rule.Circular rule.Circular e = refl
rule_exact rule.SuperKind rule.SuperKind e = refl
rule_exact rule.FinalOverridden rule.FinalOverridden e = refl
rule_exact rule.Unresolved rule.Unresolved e = refl
rule_exact rule.NoAccess rule.NoAccess e = refl
rule_exact rule.InvokeDynamic rule.InvokeDynamic e = refl
rule_exact rule.Reflection rule.Reflection e = refl
rule_exact rule.NativeMethod rule.NativeMethod e = refl
rule_exact rule.Subroutine rule.Subroutine e = refl
rule_exact rule.CodeForm rule.CodeForm e = refl
rule_exact rule.StackMap rule.StackMap e = refl
rule_exact rule.TypeRule rule.TypeRule e = refl
rule_exact rule.NoMain rule.NoMain e = refl
rule_exact rule.LibraryForm rule.LibraryForm e = refl
rule_exact rule.NotBuiltYet rule.NotBuiltYet e = refl
rule_exact _ _ e = absurd (false≢true e)

pub rule_place_exact : Exact rule_place_eq.TheImpl.ghosts.eq
rule_place_exact (rule_place.File a1) (rule_place.File b1) e = λ i. rule_place.File (texts_exact a1 b1 e i)
rule_place_exact (rule_place.Class a1) (rule_place.Class b1) e = λ i. rule_place.Class (texts_exact a1 b1 e i)
rule_place_exact (rule_place.Method a1 a2 a3 a4) (rule_place.Method b1 b2 b3 b4) e =
    let p1 = and_parts _ _ e in
    let p2 = and_parts _ _ p1.1 in
    let p3 = and_parts _ _ p2.1 in
    λ i. rule_place.Method (texts_exact a1 b1 p1.0 i) (texts_exact a2 b2 p2.0 i) (texts_exact a3 b3 p3.0 i) (nats_exact a4 b4 p3.1 i)
rule_place_exact _ _ e = absurd (false≢true e)

pub refusal_exact : Exact refusal_eq.TheImpl.ghosts.eq
refusal_exact x y e =
    let p1 = and_parts _ _ e in
    λ i. record { rule = rule_exact x.rule y.rule p1.0 i; place = rule_place_exact x.place y.place p1.1 i }

pub quantity_exact : Exact quantity_eq.TheImpl.ghosts.eq
quantity_exact quantity.Files quantity.Files e = refl
quantity_exact quantity.FileBytes quantity.FileBytes e = refl
quantity_exact quantity.AppBytes quantity.AppBytes e = refl
quantity_exact quantity.Classes quantity.Classes e = refl
quantity_exact quantity.LibraryBytes quantity.LibraryBytes e = refl
quantity_exact quantity.Instructions quantity.Instructions e = refl
quantity_exact quantity.Methods quantity.Methods e = refl
quantity_exact quantity.Pool quantity.Pool e = refl
quantity_exact quantity.StandinBytes quantity.StandinBytes e = refl
quantity_exact quantity.Labels quantity.Labels e = refl
quantity_exact quantity.Facts quantity.Facts e = refl
quantity_exact _ _ e = absurd (false≢true e)
