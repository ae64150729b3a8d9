-- `==` and `cmp` of each plain type tell its values apart.
use Rattle.jv_equality.specs.Equality.{TellsApart, Ties}
use Rattle.jv_equality.proofs.Exact.{told_apart, ties_told}
use Rattle.jv_equality.proofs.PlainTypes.{access_exact, prim_exact, ref_type_exact, desc_exact, method_desc_exact, field_ref_exact, method_ref_exact, field_shape_exact, method_shape_exact, shape_exact, class_id_exact, field_id_exact, method_id_exact, const_exact, arg_exact, insn_exact, handler_exact, raw_handler_exact, vtype_exact, frame_exact, body_exact, framed_body_exact, lib_base_exact, label_exact, place_exact, call_from_exact, fact_exact, rule_exact, rule_place_exact, refusal_exact, quantity_exact}
use Rattle.jv_types.specs.contracts.access.AccessPartialEq as access_per
use Rattle.jv_types.specs.contracts.access.AccessEq as access_eq
use Rattle.jv_types.specs.contracts.access.AccessOrd as access_ord
use Rattle.jv_types.specs.contracts.desc.PrimTypePartialEq as prim_per
use Rattle.jv_types.specs.contracts.desc.PrimTypeEq as prim_eq
use Rattle.jv_types.specs.contracts.desc.PrimTypeOrd as prim_ord
use Rattle.jv_types.specs.contracts.desc.RefTypePartialEq as ref_type_per
use Rattle.jv_types.specs.contracts.desc.RefTypeEq as ref_type_eq
use Rattle.jv_types.specs.contracts.desc.RefTypeOrd as ref_type_ord
use Rattle.jv_types.specs.contracts.desc.DescPartialEq as desc_per
use Rattle.jv_types.specs.contracts.desc.DescEq as desc_eq
use Rattle.jv_types.specs.contracts.desc.DescOrd as desc_ord
use Rattle.jv_types.specs.contracts.desc.MethodDescPartialEq as method_desc_per
use Rattle.jv_types.specs.contracts.desc.MethodDescEq as method_desc_eq
use Rattle.jv_types.specs.contracts.desc.MethodDescOrd as method_desc_ord
use Rattle.jv_types.specs.contracts.references.FieldRefPartialEq as field_ref_per
use Rattle.jv_types.specs.contracts.references.FieldRefEq as field_ref_eq
use Rattle.jv_types.specs.contracts.references.FieldRefOrd as field_ref_ord
use Rattle.jv_types.specs.contracts.references.MethodRefPartialEq as method_ref_per
use Rattle.jv_types.specs.contracts.references.MethodRefEq as method_ref_eq
use Rattle.jv_types.specs.contracts.references.MethodRefOrd as method_ref_ord
use Rattle.jv_types.specs.contracts.shapes.FieldShapePartialEq as field_shape_per
use Rattle.jv_types.specs.contracts.shapes.FieldShapeEq as field_shape_eq
use Rattle.jv_types.specs.contracts.shapes.FieldShapeOrd as field_shape_ord
use Rattle.jv_types.specs.contracts.shapes.MethodShapePartialEq as method_shape_per
use Rattle.jv_types.specs.contracts.shapes.MethodShapeEq as method_shape_eq
use Rattle.jv_types.specs.contracts.shapes.MethodShapeOrd as method_shape_ord
use Rattle.jv_types.specs.contracts.shapes.ShapePartialEq as shape_per
use Rattle.jv_types.specs.contracts.shapes.ShapeEq as shape_eq
use Rattle.jv_types.specs.contracts.shapes.ShapeOrd as shape_ord
use Rattle.jv_types.specs.contracts.ids.ClassIdPartialEq as class_id_per
use Rattle.jv_types.specs.contracts.ids.ClassIdEq as class_id_eq
use Rattle.jv_types.specs.contracts.ids.ClassIdOrd as class_id_ord
use Rattle.jv_types.specs.contracts.ids.FieldIdPartialEq as field_id_per
use Rattle.jv_types.specs.contracts.ids.FieldIdEq as field_id_eq
use Rattle.jv_types.specs.contracts.ids.FieldIdOrd as field_id_ord
use Rattle.jv_types.specs.contracts.ids.MethodIdPartialEq as method_id_per
use Rattle.jv_types.specs.contracts.ids.MethodIdEq as method_id_eq
use Rattle.jv_types.specs.contracts.ids.MethodIdOrd as method_id_ord
use Rattle.jv_types.specs.contracts.instruction.ConstPartialEq as const_per
use Rattle.jv_types.specs.contracts.instruction.ConstEq as const_eq
use Rattle.jv_types.specs.contracts.instruction.ConstOrd as const_ord
use Rattle.jv_types.specs.contracts.instruction.ArgPartialEq as arg_per
use Rattle.jv_types.specs.contracts.instruction.ArgEq as arg_eq
use Rattle.jv_types.specs.contracts.instruction.ArgOrd as arg_ord
use Rattle.jv_types.specs.contracts.instruction.InsnPartialEq as insn_per
use Rattle.jv_types.specs.contracts.instruction.InsnEq as insn_eq
use Rattle.jv_types.specs.contracts.instruction.InsnOrd as insn_ord
use Rattle.jv_types.specs.contracts.body.HandlerPartialEq as handler_per
use Rattle.jv_types.specs.contracts.body.HandlerEq as handler_eq
use Rattle.jv_types.specs.contracts.body.HandlerOrd as handler_ord
use Rattle.jv_types.specs.contracts.raw_handler.RawHandlerPartialEq as raw_handler_per
use Rattle.jv_types.specs.contracts.raw_handler.RawHandlerEq as raw_handler_eq
use Rattle.jv_types.specs.contracts.raw_handler.RawHandlerOrd as raw_handler_ord
use Rattle.jv_types.specs.contracts.frames.VTypePartialEq as vtype_per
use Rattle.jv_types.specs.contracts.frames.VTypeEq as vtype_eq
use Rattle.jv_types.specs.contracts.frames.VTypeOrd as vtype_ord
use Rattle.jv_types.specs.contracts.frames.FramePartialEq as frame_per
use Rattle.jv_types.specs.contracts.frames.FrameEq as frame_eq
use Rattle.jv_types.specs.contracts.frames.FrameOrd as frame_ord
use Rattle.jv_types.specs.contracts.body.BodyPartialEq as body_per
use Rattle.jv_types.specs.contracts.body.BodyEq as body_eq
use Rattle.jv_types.specs.contracts.body.BodyOrd as body_ord
use Rattle.jv_types.specs.contracts.frames.FramedBodyPartialEq as framed_body_per
use Rattle.jv_types.specs.contracts.frames.FramedBodyEq as framed_body_eq
use Rattle.jv_types.specs.contracts.frames.FramedBodyOrd as framed_body_ord
use Rattle.jv_types.specs.contracts.label.LibBasePartialEq as lib_base_per
use Rattle.jv_types.specs.contracts.label.LibBaseEq as lib_base_eq
use Rattle.jv_types.specs.contracts.label.LibBaseOrd as lib_base_ord
use Rattle.jv_types.specs.contracts.label.LabelPartialEq as label_per
use Rattle.jv_types.specs.contracts.label.LabelEq as label_eq
use Rattle.jv_types.specs.contracts.label.LabelOrd as label_ord
use Rattle.jv_types.specs.contracts.place.PlacePartialEq as place_per
use Rattle.jv_types.specs.contracts.place.PlaceEq as place_eq
use Rattle.jv_types.specs.contracts.place.PlaceOrd as place_ord
use Rattle.jv_types.specs.contracts.fact.CallFromPartialEq as call_from_per
use Rattle.jv_types.specs.contracts.fact.CallFromEq as call_from_eq
use Rattle.jv_types.specs.contracts.fact.CallFromOrd as call_from_ord
use Rattle.jv_types.specs.contracts.fact.FactPartialEq as fact_per
use Rattle.jv_types.specs.contracts.fact.FactEq as fact_eq
use Rattle.jv_types.specs.contracts.fact.FactOrd as fact_ord
use Rattle.jv_types.specs.contracts.rule.RulePartialEq as rule_per
use Rattle.jv_types.specs.contracts.rule.RuleEq as rule_eq
use Rattle.jv_types.specs.contracts.rule.RuleOrd as rule_ord
use Rattle.jv_types.specs.contracts.refusal.RulePlacePartialEq as rule_place_per
use Rattle.jv_types.specs.contracts.refusal.RulePlaceEq as rule_place_eq
use Rattle.jv_types.specs.contracts.refusal.RulePlaceOrd as rule_place_ord
use Rattle.jv_types.specs.contracts.refusal.RefusalPartialEq as refusal_per
use Rattle.jv_types.specs.contracts.refusal.RefusalEq as refusal_eq
use Rattle.jv_types.specs.contracts.refusal.RefusalOrd as refusal_ord
use Rattle.jv_types.specs.contracts.quantity.QuantityPartialEq as quantity_per
use Rattle.jv_types.specs.contracts.quantity.QuantityEq as quantity_eq
use Rattle.jv_types.specs.contracts.quantity.QuantityOrd as quantity_ord

pub access_told : TellsApart access_per.TheImpl.ghosts.eq
access_told = told_apart access_exact access_eq.TheImpl.Laws.laws-law

pub access_ties : Ties access_ord.TheImpl.ghosts.cmp
access_ties = ties_told access_ord.TheImpl.ghosts.cmp access_told access_ord.TheImpl.Laws.matches_eq-law

pub prim_told : TellsApart prim_per.TheImpl.ghosts.eq
prim_told = told_apart prim_exact prim_eq.TheImpl.Laws.laws-law

pub prim_ties : Ties prim_ord.TheImpl.ghosts.cmp
prim_ties = ties_told prim_ord.TheImpl.ghosts.cmp prim_told prim_ord.TheImpl.Laws.matches_eq-law

pub ref_type_told : TellsApart ref_type_per.TheImpl.ghosts.eq
ref_type_told = told_apart ref_type_exact ref_type_eq.TheImpl.Laws.laws-law

pub ref_type_ties : Ties ref_type_ord.TheImpl.ghosts.cmp
ref_type_ties = ties_told ref_type_ord.TheImpl.ghosts.cmp ref_type_told ref_type_ord.TheImpl.Laws.matches_eq-law

pub desc_told : TellsApart desc_per.TheImpl.ghosts.eq
desc_told = told_apart desc_exact desc_eq.TheImpl.Laws.laws-law

pub desc_ties : Ties desc_ord.TheImpl.ghosts.cmp
desc_ties = ties_told desc_ord.TheImpl.ghosts.cmp desc_told desc_ord.TheImpl.Laws.matches_eq-law

pub method_desc_told : TellsApart method_desc_per.TheImpl.ghosts.eq
method_desc_told = told_apart method_desc_exact method_desc_eq.TheImpl.Laws.laws-law

pub method_desc_ties : Ties method_desc_ord.TheImpl.ghosts.cmp
method_desc_ties = ties_told method_desc_ord.TheImpl.ghosts.cmp method_desc_told method_desc_ord.TheImpl.Laws.matches_eq-law

pub field_ref_told : TellsApart field_ref_per.TheImpl.ghosts.eq
field_ref_told = told_apart field_ref_exact field_ref_eq.TheImpl.Laws.laws-law

pub field_ref_ties : Ties field_ref_ord.TheImpl.ghosts.cmp
field_ref_ties = ties_told field_ref_ord.TheImpl.ghosts.cmp field_ref_told field_ref_ord.TheImpl.Laws.matches_eq-law

pub method_ref_told : TellsApart method_ref_per.TheImpl.ghosts.eq
method_ref_told = told_apart method_ref_exact method_ref_eq.TheImpl.Laws.laws-law

pub method_ref_ties : Ties method_ref_ord.TheImpl.ghosts.cmp
method_ref_ties = ties_told method_ref_ord.TheImpl.ghosts.cmp method_ref_told method_ref_ord.TheImpl.Laws.matches_eq-law

pub field_shape_told : TellsApart field_shape_per.TheImpl.ghosts.eq
field_shape_told = told_apart field_shape_exact field_shape_eq.TheImpl.Laws.laws-law

pub field_shape_ties : Ties field_shape_ord.TheImpl.ghosts.cmp
field_shape_ties = ties_told field_shape_ord.TheImpl.ghosts.cmp field_shape_told field_shape_ord.TheImpl.Laws.matches_eq-law

pub method_shape_told : TellsApart method_shape_per.TheImpl.ghosts.eq
method_shape_told = told_apart method_shape_exact method_shape_eq.TheImpl.Laws.laws-law

pub method_shape_ties : Ties method_shape_ord.TheImpl.ghosts.cmp
method_shape_ties = ties_told method_shape_ord.TheImpl.ghosts.cmp method_shape_told method_shape_ord.TheImpl.Laws.matches_eq-law

pub shape_told : TellsApart shape_per.TheImpl.ghosts.eq
shape_told = told_apart shape_exact shape_eq.TheImpl.Laws.laws-law

pub shape_ties : Ties shape_ord.TheImpl.ghosts.cmp
shape_ties = ties_told shape_ord.TheImpl.ghosts.cmp shape_told shape_ord.TheImpl.Laws.matches_eq-law

pub class_id_told : TellsApart class_id_per.TheImpl.ghosts.eq
class_id_told = told_apart class_id_exact class_id_eq.TheImpl.Laws.laws-law

pub class_id_ties : Ties class_id_ord.TheImpl.ghosts.cmp
class_id_ties = ties_told class_id_ord.TheImpl.ghosts.cmp class_id_told class_id_ord.TheImpl.Laws.matches_eq-law

pub field_id_told : TellsApart field_id_per.TheImpl.ghosts.eq
field_id_told = told_apart field_id_exact field_id_eq.TheImpl.Laws.laws-law

pub field_id_ties : Ties field_id_ord.TheImpl.ghosts.cmp
field_id_ties = ties_told field_id_ord.TheImpl.ghosts.cmp field_id_told field_id_ord.TheImpl.Laws.matches_eq-law

pub method_id_told : TellsApart method_id_per.TheImpl.ghosts.eq
method_id_told = told_apart method_id_exact method_id_eq.TheImpl.Laws.laws-law

pub method_id_ties : Ties method_id_ord.TheImpl.ghosts.cmp
method_id_ties = ties_told method_id_ord.TheImpl.ghosts.cmp method_id_told method_id_ord.TheImpl.Laws.matches_eq-law

pub const_told : TellsApart const_per.TheImpl.ghosts.eq
const_told = told_apart const_exact const_eq.TheImpl.Laws.laws-law

pub const_ties : Ties const_ord.TheImpl.ghosts.cmp
const_ties = ties_told const_ord.TheImpl.ghosts.cmp const_told const_ord.TheImpl.Laws.matches_eq-law

pub arg_told : TellsApart arg_per.TheImpl.ghosts.eq
arg_told = told_apart arg_exact arg_eq.TheImpl.Laws.laws-law

pub arg_ties : Ties arg_ord.TheImpl.ghosts.cmp
arg_ties = ties_told arg_ord.TheImpl.ghosts.cmp arg_told arg_ord.TheImpl.Laws.matches_eq-law

pub insn_told : TellsApart insn_per.TheImpl.ghosts.eq
insn_told = told_apart insn_exact insn_eq.TheImpl.Laws.laws-law

pub insn_ties : Ties insn_ord.TheImpl.ghosts.cmp
insn_ties = ties_told insn_ord.TheImpl.ghosts.cmp insn_told insn_ord.TheImpl.Laws.matches_eq-law

pub handler_told : TellsApart handler_per.TheImpl.ghosts.eq
handler_told = told_apart handler_exact handler_eq.TheImpl.Laws.laws-law

pub handler_ties : Ties handler_ord.TheImpl.ghosts.cmp
handler_ties = ties_told handler_ord.TheImpl.ghosts.cmp handler_told handler_ord.TheImpl.Laws.matches_eq-law

pub raw_handler_told : TellsApart raw_handler_per.TheImpl.ghosts.eq
raw_handler_told = told_apart raw_handler_exact raw_handler_eq.TheImpl.Laws.laws-law

pub raw_handler_ties : Ties raw_handler_ord.TheImpl.ghosts.cmp
raw_handler_ties = ties_told raw_handler_ord.TheImpl.ghosts.cmp raw_handler_told raw_handler_ord.TheImpl.Laws.matches_eq-law

pub vtype_told : TellsApart vtype_per.TheImpl.ghosts.eq
vtype_told = told_apart vtype_exact vtype_eq.TheImpl.Laws.laws-law

pub vtype_ties : Ties vtype_ord.TheImpl.ghosts.cmp
vtype_ties = ties_told vtype_ord.TheImpl.ghosts.cmp vtype_told vtype_ord.TheImpl.Laws.matches_eq-law

pub frame_told : TellsApart frame_per.TheImpl.ghosts.eq
frame_told = told_apart frame_exact frame_eq.TheImpl.Laws.laws-law

pub frame_ties : Ties frame_ord.TheImpl.ghosts.cmp
frame_ties = ties_told frame_ord.TheImpl.ghosts.cmp frame_told frame_ord.TheImpl.Laws.matches_eq-law

pub body_told : TellsApart body_per.TheImpl.ghosts.eq
body_told = told_apart body_exact body_eq.TheImpl.Laws.laws-law

pub body_ties : Ties body_ord.TheImpl.ghosts.cmp
body_ties = ties_told body_ord.TheImpl.ghosts.cmp body_told body_ord.TheImpl.Laws.matches_eq-law

pub framed_body_told : TellsApart framed_body_per.TheImpl.ghosts.eq
framed_body_told = told_apart framed_body_exact framed_body_eq.TheImpl.Laws.laws-law

pub framed_body_ties : Ties framed_body_ord.TheImpl.ghosts.cmp
framed_body_ties = ties_told framed_body_ord.TheImpl.ghosts.cmp framed_body_told framed_body_ord.TheImpl.Laws.matches_eq-law

pub lib_base_told : TellsApart lib_base_per.TheImpl.ghosts.eq
lib_base_told = told_apart lib_base_exact lib_base_eq.TheImpl.Laws.laws-law

pub lib_base_ties : Ties lib_base_ord.TheImpl.ghosts.cmp
lib_base_ties = ties_told lib_base_ord.TheImpl.ghosts.cmp lib_base_told lib_base_ord.TheImpl.Laws.matches_eq-law

pub label_told : TellsApart label_per.TheImpl.ghosts.eq
label_told = told_apart label_exact label_eq.TheImpl.Laws.laws-law

pub label_ties : Ties label_ord.TheImpl.ghosts.cmp
label_ties = ties_told label_ord.TheImpl.ghosts.cmp label_told label_ord.TheImpl.Laws.matches_eq-law

pub place_told : TellsApart place_per.TheImpl.ghosts.eq
place_told = told_apart place_exact place_eq.TheImpl.Laws.laws-law

pub place_ties : Ties place_ord.TheImpl.ghosts.cmp
place_ties = ties_told place_ord.TheImpl.ghosts.cmp place_told place_ord.TheImpl.Laws.matches_eq-law

pub call_from_told : TellsApart call_from_per.TheImpl.ghosts.eq
call_from_told = told_apart call_from_exact call_from_eq.TheImpl.Laws.laws-law

pub call_from_ties : Ties call_from_ord.TheImpl.ghosts.cmp
call_from_ties = ties_told call_from_ord.TheImpl.ghosts.cmp call_from_told call_from_ord.TheImpl.Laws.matches_eq-law

pub fact_told : TellsApart fact_per.TheImpl.ghosts.eq
fact_told = told_apart fact_exact fact_eq.TheImpl.Laws.laws-law

pub fact_ties : Ties fact_ord.TheImpl.ghosts.cmp
fact_ties = ties_told fact_ord.TheImpl.ghosts.cmp fact_told fact_ord.TheImpl.Laws.matches_eq-law

pub rule_told : TellsApart rule_per.TheImpl.ghosts.eq
rule_told = told_apart rule_exact rule_eq.TheImpl.Laws.laws-law

pub rule_ties : Ties rule_ord.TheImpl.ghosts.cmp
rule_ties = ties_told rule_ord.TheImpl.ghosts.cmp rule_told rule_ord.TheImpl.Laws.matches_eq-law

pub rule_place_told : TellsApart rule_place_per.TheImpl.ghosts.eq
rule_place_told = told_apart rule_place_exact rule_place_eq.TheImpl.Laws.laws-law

pub rule_place_ties : Ties rule_place_ord.TheImpl.ghosts.cmp
rule_place_ties = ties_told rule_place_ord.TheImpl.ghosts.cmp rule_place_told rule_place_ord.TheImpl.Laws.matches_eq-law

pub refusal_told : TellsApart refusal_per.TheImpl.ghosts.eq
refusal_told = told_apart refusal_exact refusal_eq.TheImpl.Laws.laws-law

pub refusal_ties : Ties refusal_ord.TheImpl.ghosts.cmp
refusal_ties = ties_told refusal_ord.TheImpl.ghosts.cmp refusal_told refusal_ord.TheImpl.Laws.matches_eq-law

pub quantity_told : TellsApart quantity_per.TheImpl.ghosts.eq
quantity_told = told_apart quantity_exact quantity_eq.TheImpl.Laws.laws-law

pub quantity_ties : Ties quantity_ord.TheImpl.ghosts.cmp
quantity_ties = ties_told quantity_ord.TheImpl.ghosts.cmp quantity_told quantity_ord.TheImpl.Laws.matches_eq-law
