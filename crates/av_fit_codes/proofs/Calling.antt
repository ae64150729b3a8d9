-- Items that call a method: each frame is full, and the handler leads to an instruction.
use Rattle.std.proofs.Common.{◌≡◌, ℕ, ◌+◌, ◌*◌, ◌<◌, ◌≤◌, Bool, true, List, [], ◌∷◌, ◌++◌, length, map, Option, Some, None, refl, sym, length-append, arith}
use Rattle.std.specs.List.{AllByRecursion}
use Rattle.std.proofs.lemmas.List.{length-map}
use Rattle.jv_table.specs.declared.ops.TheConstants.{RETURN}
use Rattle.jv_types.specs.declared.desc.Desc.{Desc}
use Rattle.jv_types.specs.declared.desc.Desc.TheVariants as descs
use Rattle.jv_types.specs.declared.desc.MethodDesc.{MethodDesc}
use Rattle.jv_types.specs.declared.desc.RefType.{RefType}
use Rattle.jv_types.specs.declared.desc.RefType as refs
use Rattle.jv_types.specs.declared.frames.VType.{VType}
use Rattle.jv_types.specs.declared.frames.VType as types
use Rattle.jv_types.specs.declared.instruction.Insn.{Insn}
use Rattle.jv_types.specs.declared.shapes.MethodShape.{MethodShape}
use Rattle.jv_desc.specs.Texts.{words_of, IsRef, IsDesc, IsResult, IsMethodDesc}
use Rattle.jv_names.specs.Spellings.{IsClassName}
use Rattle.jv_world.specs.Worlds.{object_name}
use Rattle.jv_frames.specs.Types.{ref_vtype, desc_vtype}
use Rattle.av_conditions.specs.CoreClasses.{throwable_name}
use Rattle.av_fitting.specs.Fitting.{IsFitInsn}
use Rattle.av_standin_of.specs.Codes.{row, plain, get_known, put_known, checkcast, zero_op, pop_op, object_vtype, throwable_vtype, known_as, value_of, values_of}
use Rattle.av_standin_of.specs.Items.{ends, keeps, takes_result, call_insn, call_rows, call_item_of}
use Rattle.av_standin_of.specs.Templates.{words_in}
use Rattle.av_sketches.specs.Conditions.{IsFinishable}
use Rattle.av_fit_codes.proofs.Instructions.{return_fits, zero_fits, pop_fits, get_known_fits, put_known_fits, class_named, checkcast_fits, call_fits}
use Rattle.av_fit_codes.proofs.Frames.{IsPlain, class_plain, ref_plain, desc_plain, descs_plain, params_few, FillsLocals, FillsStack, no_locals, empty_stack, one_on_stack, plain_more, one_more}
use Rattle.av_fit_codes.proofs.Rows.{step_of, IsFullRow, full_row, all_both, full_rows_fit, full_rows_framed, framed_finishable}

-- ---- values

pub object_plain : IsPlain object_vtype
object_plain = class_plain object_name refl

pub throwable_plain : IsPlain throwable_vtype
throwable_plain = class_plain throwable_name refl

pub known_full : (words : ℕ) (locals stack : List VType) (type : RefType) → FillsLocals words locals → length stack ≤ 299 → AllByRecursion IsPlain stack → IsRef 255 type
    → AllByRecursion (IsFullRow words) (known_as words locals stack type)
known_full words locals stack type l few named formed = (
  full_row words locals stack get_known (get_known_fits words) l (record { few = omega arith; plain = named }),
  (
    full_row words locals (stack ++ object_vtype ∷ []) (checkcast type) (checkcast_fits words type formed) l (one_more stack object_vtype few named object_plain),
    tt,
  ),
)

value_full : (stack : List VType) (desc : Desc) → length stack ≤ 299 → AllByRecursion IsPlain stack → IsDesc desc → AllByRecursion (IsFullRow 0) (value_of 0 [] stack desc)
value_full stack (descs.Ref type) few named formed = known_full 0 [] stack type no_locals few named formed
value_full stack (descs.Prim prim) few named formed = (full_row 0 [] stack (plain (zero_op prim)) (zero_fits 0 prim) no_locals (record { few = omega arith; plain = named }), tt)

values_full : (stack : List VType) (params : List Desc) → length stack + length params ≤ 299 → AllByRecursion IsPlain stack → AllByRecursion IsDesc params → AllByRecursion (IsFullRow 0) (values_of 0 [] stack params)
values_full stack [] few named formed = tt
values_full stack (param ∷ params) few named formed =
    let next = stack ++ desc_vtype param ∷ [] in
    all_both (IsFullRow 0) (value_of 0 [] stack param) (values_of 0 [] next params) (value_full stack param (omega arith) named formed.0)
    (values_full next params (omega (arith, few, length-append stack (desc_vtype param ∷ []))) (plain_more stack (desc_vtype param) named (desc_plain param formed.0)) formed.1)

value_count : (stack : List VType) (desc : Desc) → length (value_of 0 [] stack desc) ≤ 2
value_count stack (descs.Ref type) = omega arith
value_count stack (descs.Prim prim) = omega arith

values_count : (stack : List VType) (params : List Desc) → length (values_of 0 [] stack params) ≤ 2 * length params
values_count stack [] = omega arith
values_count stack (param ∷ params) =
    let next = stack ++ desc_vtype param ∷ [] in
    omega (arith, value_count stack param, values_count next params, length-append (value_of 0 [] stack param) (values_of 0 [] next params))

-- ---- calls

ends_full : AllByRecursion (IsFullRow 0) ends
ends_full = (full_row 0 [] [] (plain RETURN) (return_fits 0) no_locals empty_stack, tt)

keeps_full : (type : VType) → IsPlain type → AllByRecursion (IsFullRow 0) (keeps type)
keeps_full type named = (full_row 0 [] (type ∷ []) put_known (put_known_fits 0) no_locals (one_on_stack type named), tt)

result_full : (result : Option Desc) → IsResult result → AllByRecursion (IsFullRow 0) (takes_result result)
result_full None formed = tt
result_full (Some (descs.Ref type)) formed = keeps_full (ref_vtype type) (ref_plain type formed)
result_full (Some (descs.Prim prim)) formed =
    (full_row 0 [] (desc_vtype (descs.Prim prim) ∷ []) (plain (pop_op prim)) (pop_fits 0 prim) no_locals (one_on_stack (desc_vtype (descs.Prim prim)) (desc_plain (descs.Prim prim) tt)), tt)

result_count : (result : Option Desc) → length (takes_result result) ≤ 1
result_count None = omega arith
result_count (Some (descs.Ref type)) = omega arith
result_count (Some (descs.Prim prim)) = omega arith

call_full : (get : Insn) (interface : Bool) (class name : List ℕ) (desc : MethodDesc) → IsFitInsn 0 get → IsClassName class → IsMethodDesc desc → words_of desc true ≤ 255
    → AllByRecursion (IsFullRow 0) (call_rows get interface class name desc)
call_full get interface class name desc fits named formed few =
    let receiver = types.Class class in
    let receives = class_plain class named in
    let count = params_few desc.params in
    let all : FillsStack (receiver ∷ map desc_vtype desc.params) = record { few = omega (arith, few, count, length-map desc.params desc_vtype); plain = (receives, descs_plain desc.params formed.params) } in (
      full_row 0 [] [] get fits no_locals empty_stack,
      (
        full_row 0 [] (object_vtype ∷ []) (checkcast (refs.Class class)) (checkcast_fits 0 (refs.Class class) (class_named class named)) no_locals (one_on_stack object_vtype object_plain),
        all_both (IsFullRow 0) (values_of 0 [] (receiver ∷ []) desc.params) (row 0 [] (receiver ∷ map desc_vtype desc.params) (call_insn interface class name desc) ∷ [])
            (values_full (receiver ∷ []) desc.params (omega (arith, few, count)) (receives, tt) formed.params)
            (full_row 0 [] (receiver ∷ map desc_vtype desc.params) (call_insn interface class name desc) (call_fits 0 interface class name desc named formed few) no_locals all, tt),
      ),
    )

call_count : (get : Insn) (interface : Bool) (class name : List ℕ) (desc : MethodDesc) → words_of desc true ≤ 255 → length (call_rows get interface class name desc) ≤ 600
call_count get interface class name desc few =
    let values = values_of 0 [] (types.Class class ∷ []) desc.params in
    let call = row 0 [] (types.Class class ∷ map desc_vtype desc.params) (call_insn interface class name desc) in
    omega (arith, few, params_few desc.params, values_count (types.Class class ∷ []) desc.params, length-append values (call ∷ []))

pub call_finishable : (shape : MethodShape) (get : Insn) (interface : Bool) (class name : List ℕ) (desc : MethodDesc) → words_in shape ≡ 0 → IsFitInsn 0 get → IsClassName class → IsMethodDesc desc
    → words_of desc true ≤ 255 → IsFinishable shape (call_item_of get interface class name desc)
call_finishable shape get interface class name desc none fits named formed few =
    let covered = call_rows get interface class name desc in
    let answer = takes_result desc.result in
    let front = covered ++ (answer ++ ends) in
    let handler = keeps throwable_vtype ++ ends in
    let behind : AllByRecursion (IsFullRow 0) (answer ++ ends) = all_both (IsFullRow 0) answer ends (result_full desc.result formed.result) ends_full in
    let before : AllByRecursion (IsFullRow 0) front = all_both (IsFullRow 0) covered (answer ++ ends) (call_full get interface class name desc fits named formed few) behind in
    let caught : AllByRecursion (IsFullRow 0) handler = all_both (IsFullRow 0) (keeps throwable_vtype) ends (keeps_full throwable_vtype throwable_plain) ends_full in
    let all : AllByRecursion (IsFullRow 0) (front ++ handler) = all_both (IsFullRow 0) front handler before caught in
    let count = length-append front handler in
    let there : length front < length (map step_of (front ++ handler)) = omega (arith, count, length-map (front ++ handler) step_of) in
    let many : length (front ++ handler) ≤ 10000 =
    omega (arith, count, length-append covered (answer ++ ends), length-append answer ends, result_count desc.result, call_count get interface class name desc few) in
    framed_finishable shape (call_item_of get interface class name desc) (sym none) (omega arith) (full_rows_fit 0 (length (map step_of (front ++ handler))) 0 (front ++ handler) all) (there, tt)
    (full_rows_framed 0 (front ++ handler) all) many
