-- The code attribute that is put for a code.
use Rattle.std.proofs.Common.{◌≡◌, ℕ, ◌+◌, ◌*◌, ◌<◌, ◌≤◌, false, List, [], ◌∷◌, ◌++◌, length, map, Some, refl, ap, ◌∙◌, length-append, arith}
use Rattle.std.specs.List.{AllByRecursion, flat_map}
use Rattle.std.proofs.lemmas.List.{length-map}
use Rattle.jv_bytes.proofs.NumberLaws.{length-number_text}
use Rattle.jv_types.specs.declared.raw_handler.RawHandler.{RawHandler}
use Rattle.jv_types.specs.declared.instruction.Insn.{Insn}
use Rattle.jv_types.specs.declared.frames.Frame.{Frame}
use Rattle.jv_types.specs.declared.shapes.MethodShape.{MethodShape}
use Rattle.jv_pool.specs.declared.item.PoolItem.{PoolItem}
use Rattle.jv_pool.specs.PoolText.{u2, u4}
use Rattle.jv_attr.specs.declared.attr.Attr.{Attr}
use Rattle.jv_attr.specs.declared.attr.CodeAttr.{CodeAttr}
use Rattle.std.specs.declared.convert.Infallible.{Infallible as NoCode}
use Rattle.jv_attr.specs.AttrText.{inner_text, handler_text, IsRawHandler, code_text, IsCode, IsFewCode, IsShortCode}
use Rattle.jv_read.specs.Reading.{◌>>=◌}
use Rattle.jv_read.proofs.Fronts.{bind_some, given_as}
use Rattle.jv_insn.specs.Entries.{put_all}
use Rattle.jv_insn.specs.Encoding.{insn_size, insn_text, insns_text, is_left_out, AreLaid}
use Rattle.jv_insn.proofs.ByteCounts.{size_of_text}
use Rattle.av_asm.specs.declared.step.Step.{Step}
use Rattle.av_asm.specs.declared.step.Span.{Span}
use Rattle.av_asm.specs.Mapping.{put_maps}
use Rattle.av_asm.specs.Planning.{starts_from, end_from, handler_of, is_among, targets_in, Plan, plan_of, target_frames}
use Rattle.av_asm.specs.Finishing.{raw_of, code_of, IsFullFrame}
use Rattle.av_asm.proofs.Offsets.{are_laid}
use Rattle.av_asm.proofs.Planned.{filtered}
use Rattle.av_standin_of.specs.Codes.{Row, Code, built_of}
use Rattle.av_standin_of.specs.Templates.{words_in}
use Rattle.av_standin_of.specs.Files.{some_method}
use Rattle.av_read_back.specs.Fileable.{MayName, StepMayName, IsFileableRow, IsFileableCode}
use Rattle.av_read_back.proofs.Pools.{IsFilePool, Grown, grown_on}
use Rattle.av_read_back.proofs.Named.{all_put}
use Rattle.av_read_back.proofs.Frames.{MayPutFrame}
use Rattle.av_read_back.proofs.MapAttrs.{maps_put}
use Rattle.av_read_back.proofs.Plans.{each_of, mapped, all_two, filter_count, zip_count, zip_holds, count_below, starts_below, placed_below, frames_below, insns_named, IsFileableFrame, frame_may}

-- ---- the length of a code

text_size : (pool : List PoolItem) (pc : ℕ) (insns : List (ℕ × Insn)) (end : ℕ) → AreLaid pc insns end → AllByRecursion (λ (row : ℕ × Insn). is_left_out row.1.arg ≡ false) insns → pc + length (insns_text pool insns) ≡ end
text_size pool pc [] end laid whole = omega (arith, laid)
text_size pool pc (row ∷ insns) end laid whole =
    let here : row.0 ≡ pc = laid.0 in
    let size = insn_size pc row.1 in
    let front = insn_text pool row.0 row.1 in
    let front_size : length front ≡ size = size_of_text pool row.0 row.1 whole.0 ∙ ap (λ (p : ℕ). insn_size p row.1) here in
    sums pc size (length front) (length (insns_text pool insns)) (length (front ++ insns_text pool insns)) end front_size (length-append front (insns_text pool insns))
    (text_size pool (pc + size) insns end laid.1 whole.1)
  where
    sums : (pc size front behind all end : ℕ) → front ≡ size → all ≡ front + behind → (pc + size) + behind ≡ end → pc + all ≡ end
    sums pc size front behind all end e f g = omega (arith, e, f, g)

-- ---- handlers

handlers_are : (pool : List PoolItem) (steps : List Step) (spans : List Span) → end_from 0 steps ≤ 65535 → AllByRecursion (IsRawHandler pool) (map raw_of (map (handler_of (starts_from 0 steps)) spans))
handlers_are pool steps [] short = tt
handlers_are pool steps (span ∷ spans) short =
    let h : IsRawHandler pool (raw_of (handler_of (starts_from 0 steps) span)) = record {
      start = omega (arith, short, starts_below 0 steps span.start);
      end = omega (arith, short, starts_below 0 steps span.end);
      target = omega (arith, short, starts_below 0 steps span.target);
      catch = omega arith;
      class = refl;
    } in
    (h, handlers_are pool steps spans short)

handler_size : (h : RawHandler) → length (handler_text h) ≡ 8
handler_size h =
    let two = u2 h.start ++ u2 h.end in
    let three = two ++ u2 h.target in
    omega (arith, length-append (u2 h.start) (u2 h.end), length-append two (u2 h.target), length-append three (u2 h.catch), length-number_text 2 h.start, length-number_text 2 h.end, length-number_text 2 h.target, length-number_text 2 h.catch)

handlers_size : (handlers : List RawHandler) → length (flat_map handler_text handlers) ≡ 8 * length handlers
handlers_size [] = refl
handlers_size (h ∷ handlers) = omega (arith, handler_size h, handlers_size handlers, length-append (handler_text h) (flat_map handler_text handlers))

-- ---- the length of the attribute

parts_size : (a b l m n : ℕ) (code handlers attrs : List ℕ) → length (u2 a ++ u2 b ++ u4 l ++ code ++ u2 m ++ handlers ++ u2 n ++ attrs) ≡ 12 + (length code + (length handlers + length attrs))
parts_size a b l m n code handlers attrs =
    let two = u2 a ++ u2 b in
    let three = two ++ u4 l in
    let four = three ++ code in
    let five = four ++ u2 m in
    let six = five ++ handlers in
    let seven = six ++ u2 n in
    omega (
      arith,
      length-append (u2 a) (u2 b),
      length-append two (u4 l),
      length-append three code,
      length-append four (u2 m),
      length-append five handlers,
      length-append six (u2 n),
      length-append seven attrs,
      length-number_text 2 a,
      length-number_text 2 b,
      length-number_text 4 l,
      length-number_text 2 m,
      length-number_text 2 n,
    )

code_size : (c : CodeAttr) → length c.code ≤ 65535 → length c.handlers ≤ 65535 → length (flat_map inner_text c.attrs) ≤ 3982693028 → length (code_text c) ≤ 3983282855
code_size c code handlers attrs =
    let hs = flat_map handler_text c.handlers in
    let inner = flat_map inner_text c.attrs in
    let whole = parts_size c.max_stack c.max_locals (length c.code) (length c.handlers) (length c.attrs) c.code hs inner in
    omega (arith, code, handlers, attrs, handlers_size c.handlers, whole)

-- ---- a code that may be filed

frame_of_row : (row : Row) → IsFileableRow row → IsFileableFrame row.frame
frame_of_row row h = record { locals = h.locals; stack = h.stack; few_words = h.few_words }

record IsNear (row : ℕ × Frame) : Type 0 where
  frame : IsFileableFrame row.1
  small : row.0 ≤ 65535

-- what its parts have
record IsReady (code : Code) (plan : Plan) : Type 0 where
  named : AllByRecursion (λ (row : ℕ × Insn). MayName row.1.arg) plan.insns
  frames : AllByRecursion MayPutFrame (target_frames plan)
  few_frames : length (target_frames plan) ≤ 65535
  laid : AreLaid 0 plan.insns (end_from 0 (map (λ (row : Row). row.step) code.rows))
  whole : AllByRecursion (λ (row : ℕ × Insn). is_left_out row.1.arg ≡ false) plan.insns
  some_rows : 0 < end_from 0 (map (λ (row : Row). row.step) code.rows)
  short : end_from 0 (map (λ (row : Row). row.step) code.rows) ≤ 65535
  stack : plan.max_stack ≤ 65535
  words : plan.max_locals ≤ 255

ready : (shape : MethodShape) (code : Code) → words_in shape ≤ 255 → IsFileableCode shape code → IsReady code (plan_of (built_of some_method code))
ready shape code few h =
    let built = built_of some_method code in
    let plan = plan_of built in
    let steps = map (λ (row : Row). row.step) code.rows in
    let frames = map (λ (row : Row). row.frame) code.rows in
    let starts = starts_from 0 steps in
    let finishable = h.finishable in
    let may = finishable.finishes [] some_method in
    let short : end_from 0 steps ≤ 65535 = finishable.short in
    let words : code.words ≤ 255 = omega (arith, finishable.words, few) in
    let rows : AllByRecursion IsFileableRow code.rows = each_of IsFileableRow code.rows h.rows in
    let step_named : AllByRecursion StepMayName steps =
    mapped (λ (row : Row). row.step) StepMayName code.rows (all_two IsFileableRow IsFileableRow (λ (row : Row). StepMayName row.step) (λ row r s. r.named) code.rows rows rows) in
    let frames_fit : AllByRecursion IsFileableFrame frames =
    mapped (λ (row : Row). row.frame) IsFileableFrame code.rows (all_two IsFileableRow IsFileableRow (λ (row : Row). IsFileableFrame row.frame) (λ row r s. frame_of_row row r) code.rows rows rows) in
    let below : AllByRecursion (λ (row : ℕ × Insn). row.0 ≤ 65535) plan.insns = placed_below 65535 starts 0 steps short in
    let test = λ (row : ℕ × Frame). is_among (targets_in plan.insns plan.handlers) row.0 in
    let framed = filtered (λ (row : ℕ × Frame). IsFileableFrame row.1) test plan.frames (zip_holds IsFileableFrame starts frames frames_fit) in
    let small = filtered (λ (row : ℕ × Frame). row.0 ≤ 65535) test plan.frames (frames_below 65535 0 steps frames short) in
    let both = all_two (λ (row : ℕ × Frame). IsFileableFrame row.1) (λ (row : ℕ × Frame). row.0 ≤ 65535) IsNear (λ row f s. record { frame = f; small = s }) (target_frames plan) framed small in
    record {
      named = insns_named starts starts steps step_named;
      frames = all_two (λ (row : ℕ × Frame). IsFullFrame code.words plan.insns row.1) IsNear MayPutFrame (λ row full near. frame_may code.words plan.insns row words below full near.small near.frame) (target_frames plan) may.maps both;
      few_frames = omega (arith, filter_count test plan.frames, zip_count starts frames, length-map code.rows (λ (row : Row). row.frame), length-map code.rows (λ (row : Row). row.step), count_below 0 steps, short);
      laid = are_laid starts 0 steps;
      whole = may.whole;
      some_rows = omega (arith, h.some_rows, length-map code.rows (λ (row : Row). row.step), count_below 0 steps);
      short = short;
      stack = may.stack;
      words = words;
    }

-- ---- its attribute

-- what was put of a code
pub record IsFiledCode (pool : List PoolItem) (c : CodeAttr) : Type 0 where
  pub is : IsCode pool 52 c
  pub few : IsFewCode c
  pub short : IsShortCode c
  pub size : length (code_text c) ≤ 3983282855

pub record IsCodePut (old new : List PoolItem) (c : CodeAttr) : Type 0 where
  pub grown : Grown old new
  pub filed : IsFiledCode new c

pub code_put : (shape : MethodShape) (code : Code) (old : List PoolItem) (made : CodeAttr × List PoolItem) → IsFilePool old → words_in shape ≤ 255 → IsFileableCode shape code
    → code_of (plan_of (built_of some_method code)) old ≡ Some made → IsCodePut old made.1 made.0
code_put shape code old made g few may e =
    let plan = plan_of (built_of some_method code) in
    let steps = map (λ (row : Row). row.step) code.rows in
    let r = ready shape code few may in
    let attr_of : List PoolItem → List (Attr NoCode) → CodeAttr =
    λ coded attrs. record { max_stack = plan.max_stack; max_locals = plan.max_locals; code = insns_text coded plan.insns; handlers = map raw_of plan.handlers; attrs = attrs } in
    let a = bind_some (put_all plan.insns old) (λ coded. put_maps (target_frames plan) coded >>= λ maps. Some (attr_of coded maps.0, maps.1)) made e in
    let b = bind_some (put_maps (target_frames plan) a.0) (λ maps. Some (attr_of a.0 maps.0, maps.1)) made a.2 in
    let p = all_put plan.insns old a.0 g r.named a.1 in
    let q = maps_put (target_frames plan) a.0 b.0 p.good r.frames r.few_frames b.1 in
    let c = attr_of a.0 b.0.0 in
    let here : CodeAttr × List PoolItem = (c, b.0.1) in
    let size : 0 + length c.code ≡ end_from 0 steps = text_size a.0 0 plan.insns (end_from 0 steps) r.laid r.whole in
    let long : length c.code ≤ 65535 = omega (arith, size, r.short) in
    let few_spans : length code.spans < 65536 = may.few_spans in
    let few_handlers : length c.handlers ≤ 65535 = omega (arith, few_spans, length-map plan.handlers raw_of, length-map code.spans (handler_of (starts_from 0 steps))) in
    let filed : IsFiledCode b.0.1 c = record {
      is = record {
        max_stack = omega (arith, r.stack);
        max_locals = omega (arith, r.words);
        not_empty = omega (arith, size, r.some_rows);
        handlers = handlers_are b.0.1 steps code.spans r.short;
        attrs = q.are;
        one_map = q.one;
      };
      few = record { handlers = omega (arith, few_handlers); attrs = omega (arith, q.count); each = q.few };
      short = record { code = omega (arith, long); each = q.short };
      size = code_size c long few_handlers q.size;
    } in
    given_as (λ (w : CodeAttr × List PoolItem). IsCodePut old w.1 w.0) here made b.2 (record { grown = grown_on old a.0 b.0.1 p q.grown; filed = filed })
