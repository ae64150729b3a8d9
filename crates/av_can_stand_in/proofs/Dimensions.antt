-- No type that a program speaks of has more than 255 dimensions.
use Rattle.std.proofs.Common.{◌≡◌, ◌≤◌, ◌==◌, ℕ, ◌⊎◌, inl, inr, IsTrue, List, Some, Contains, refl, sym, subst, arith}
use Rattle.jv_lists.proofs.Among.{of_each}
use Rattle.jv_lists.proofs.Places.{among_at, placed}
use Rattle.jv_lists.proofs.Zips.{zip_back}
use Rattle.jv_table.specs.declared.ops.TheConstants.{ANEWARRAY}
use Rattle.jv_types.specs.Bodies.{at_offset}
use Rattle.jv_types.specs.declared.desc.Desc.{Desc}
use Rattle.jv_types.specs.declared.desc.Desc.TheVariants as descs
use Rattle.jv_types.specs.declared.desc.MethodDesc.{MethodDesc}
use Rattle.jv_types.specs.declared.desc.RefType.{RefType, Class, PrimArray, Array'}
use Rattle.jv_types.specs.declared.instruction.Arg.{Arg}
use Rattle.jv_types.specs.declared.instruction.Arg.TheVariants as args
use Rattle.jv_types.specs.declared.instruction.Const.{Const}
use Rattle.jv_types.specs.declared.instruction.Const.TheVariants as consts
use Rattle.jv_types.specs.declared.instruction.Insn.{Insn}
use Rattle.jv_types.specs.declared.shapes.FieldShape.{FieldShape}
use Rattle.jv_types.specs.declared.shapes.MethodShape.{MethodShape}
use Rattle.jv_types.specs.declared.shapes.Shape.{Shape}
use Rattle.jv_desc.specs.Texts.{IsDesc, IsMethodDesc, IsResult, ref_dims}
use Rattle.jv_names.specs.Naming.{IsTypeText}
use Rattle.jv_class.specs.Shapes.{IsFieldShape, IsMethodShape}
use Rattle.jv_insn.specs.Kept.{KeepsArg, KeepsConst, KeepsForm}
use Rattle.jv_insn.proofs.Keeping.{decoded_keeps}
use Rattle.av_conditions.proofs.Standing.{rises_of, stands_at}
use Rattle.av_collected.specs.Dimensions.{AreGreatestDims, HasDims, of_instruction, of_field, of_method, of_map, of_collected_field, of_collected_method}
use Rattle.av_collected.specs.Libraries.{HasFieldAt, HasMethodAt}
use Rattle.av_collected.specs.Naming.{ArgHasDims, ConstHasDims, HasInsn}
use Rattle.av_collected.specs.Types.{MentionsDims, dims_of}
use Rattle.av_stops.specs.Applications.{IsBodyOf}
use Rattle.av_stops.specs.Programs.{IsCollectedWorld}
use Rattle.av_can_stand_in.proofs.Parts.{own_of}

-- ---- descriptors

desc_dims : (d : Desc) → IsDesc d → dims_of d ≤ 255
desc_dims (descs.Prim prim) valid = omega arith
desc_dims (descs.Ref type) valid = valid.dims

part_dims : (desc : MethodDesc) (type : Desc) → IsMethodDesc desc → Contains desc.params type ⊎ (desc.result ≡ Some type) → dims_of type ≤ 255
part_dims desc type valid (inl among) = desc_dims type (of_each IsDesc desc.params type valid.params among)
part_dims desc type valid (inr is) = desc_dims type (subst IsResult is valid.result)

mentioned_dims : (desc : MethodDesc) (dims : ℕ) → IsMethodDesc desc → MentionsDims desc dims → dims ≤ 255
mentioned_dims desc dims valid (type, part, is) = let most = part_dims desc type valid part in omega (arith, most, is)

-- the text of a class or array type
text_dims : (text : List ℕ) (type : RefType) → IsTypeText text type → ref_dims type ≤ 255
text_dims text (Class name) is = omega arith
text_dims text (PrimArray prim) is = is.valid.dims
text_dims text (Array' shape all) is = is.valid.dims

-- ---- instructions

const_dims : (const : Const) (dims : ℕ) → KeepsConst const → ConstHasDims const dims → dims ≤ 255
const_dims (consts.Class type) dims keeps has = let most : ref_dims type ≤ 255 = keeps.dims in omega (arith, most, has)
const_dims _ dims keeps has = absurd has

-- the type of an anewarray has at most 254, and the array that it makes one more
arg_dims : (op : ℕ) (arg : Arg) (dims : ℕ) → KeepsArg op arg → ArgHasDims op arg dims → dims ≤ 255
arg_dims op (args.Constant const) dims keeps has = const_dims const dims keeps has
arg_dims op (args.Class type) dims keeps (inl is) = let most : ref_dims type ≤ 255 = keeps.0.dims in omega (arith, most, is)
arg_dims op (args.Class type) dims keeps (inr (made, is)) =
    let most : ref_dims type ≤ 254 = keeps.1.1 (subst (λ (o : ℕ). IsTrue (o == ANEWARRAY)) (sym made) refl) in
    omega (arith, most, is)
arg_dims op (args.Multi type made) dims keeps has = let most : ref_dims type ≤ 255 = keeps.0.dims in omega (arith, most, has)
arg_dims op (args.Field r) dims keeps has = let most = desc_dims r.desc keeps.desc in omega (arith, most, has)
arg_dims op (args.Method r) dims keeps (inl is) = let most : ref_dims r.class ≤ 255 = keeps.class.dims in omega (arith, most, is)
arg_dims op (args.Method r) dims keeps (inr mentions) = mentioned_dims r.desc dims keeps.desc mentions
arg_dims op _ dims keeps has = absurd has

-- ---- all

module _ (w : List Shape) (dims : ℕ) (p : IsCollectedWorld w dims) where
  insn_dims : (insn : Insn) (n : ℕ) → HasInsn p.given.bodies insn → ArgHasDims insn.op insn.arg n → n ≤ 255
  insn_dims insn n (method, row, among, in_body, is) has =
      let b : IsBodyOf p.classes method = (p.is_given.bodies method).0 among in
      let named = (p.of_files b.class b.here).0.1.is_class.rules.named in
      let stands : at_offset row.0 method.body.insns ≡ Some row.1 =
      stands_at method.body.insns in_body.0 row (rises_of method.body method.body.insns refl) in_body.1 (sym in_body.2) in
      let keeps : KeepsForm row.1 =
      decoded_keeps b.class.pool b.code.max_stack b.code.max_locals b.code.code b.code.handlers method.body row.0 row.1 named b.decoded.decodes stands in
      arg_dims insn.op insn.arg n (subst KeepsForm is keeps) has

  own_field : (s : Shape) (field : FieldShape) → Contains p.given.shapes s → Contains s.fields field → IsDesc field.desc
  own_field s field here among =
      let own = own_of w dims p s here in
      let its = zip_back (IsFieldShape own.class.pool) own.class.fields s.fields own.states.fields among.0 field (placed s.fields field among) in
      its.2.desc.kind.valid

  own_method : (s : Shape) (method : MethodShape) → Contains p.given.shapes s → Contains s.methods method → IsMethodDesc method.desc
  own_method s method here among =
      let own = own_of w dims p s here in
      let its = zip_back (IsMethodShape own.class.pool) own.class.methods s.methods own.states.methods among.0 method (placed s.methods method among) in
      its.2.desc.kind.valid

  collected_field : (class : List ℕ) (place : ℕ) (field : FieldShape) → HasFieldAt p.library class place field → dims_of field.desc ≤ 255
  collected_field class place field (s, has, at) =
      (p.is_library.shapes has.0 s has.1 has.3).bounded.field_dims field (among_at s.fields place field at)

  collected_method : (class : List ℕ) (place : ℕ) (method : MethodShape) (n : ℕ) → HasMethodAt p.library class place method → MentionsDims method.desc n → n ≤ 255
  collected_method class place method n (s, has, at) mentions =
      (p.is_library.shapes has.0 s has.1 has.3).bounded.method_dims method n (among_at s.methods place method at) mentions

  spoken_dims : (n : ℕ) → HasDims p.given p.library n → n ≤ 255
  spoken_dims n (of_instruction insn _ has dims_are) = insn_dims insn n has dims_are
  spoken_dims n (of_field s field _ here among is) = let most = desc_dims field.desc (own_field s field here among) in omega (arith, most, is)
  spoken_dims n (of_method s method _ here among mentions) = mentioned_dims method.desc n (own_method s method here among) mentions
  spoken_dims n (of_map text type _ here is_text is) = let most = text_dims text type is_text in omega (arith, most, is)
  spoken_dims n (of_collected_field class place field _ own at is) = let most = collected_field class place field at in omega (arith, most, is)
  spoken_dims n (of_collected_method class place method _ own at mentions) = collected_method class place method n at mentions

  greatest : (n : ℕ) → AreGreatestDims p.given p.library n → n ≤ 255
  greatest n is = by is.reached
    where
      by : (n ≡ 1) ⊎ HasDims p.given p.library n → n ≤ 255
      by (inl one) = omega (arith, one)
      by (inr has) = spoken_dims n has

  pub few_dims : dims ≤ 255
  few_dims = subst (λ (n : ℕ). n ≤ 255) (sym p.dims_are) (greatest p.found.dims p.collected.dims)
