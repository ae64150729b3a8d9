-- The attribute is put after the code.
use Rattle.std.proofs.Common.{◌≡◌, ℕ, List, map, Some, refl, sym, ap, ◌∙◌}
use Rattle.std.specs.Prelude.{Result, Err}
use Rattle.std.specs.Ordering.{nat_cmp}
use Rattle.std.specs.BTreeSet.{contains}
use Rattle.std.specs.declared.convert.Infallible.{Infallible as NoCode}
use Rattle.jv_types.specs.declared.frames.Frame.{Frame}
use Rattle.jv_pool.specs.declared.item.PoolItem.{PoolItem}
use Rattle.jv_attr.specs.declared.attr.Attr.{Attr}
use Rattle.jv_attr.specs.declared.attr.CodeAttr.{CodeAttr}
use Rattle.jv_insn.specs.declared.fault.EncodeRefusal.{EncodeRefusal}
use Rattle.jv_insn.specs.declared.fault.EncodeRefusal.TheVariants.{PoolFull}
use Rattle.av_asm.specs.Mapping.{put_maps}
use Rattle.av_asm.specs.Planning.{frames_where, plan_in, target_frames}
use Rattle.av_asm.specs.Finishing.{raw_of}
use Rattle.av_asm.proofs.Tables.{full_none, targets_are}
use Rattle.av_asm.proofs.Written.{code_is, maps_full, is_code, has_maps}
use Rattle.av_asm.proofs.code.code_attr.Goals as goal

pub returns-in-Ok-map_attrs-clause-code : goal.returns-in-Ok-map_attrs-clause-code
returns-in-Ok-map_attrs-clause-code c =
    let framed = c.args.framed.now in
    let frames = targets_are framed c.in_ok-targets.targets c.as_slice-in-Ok.result.now c.as_slice-insns.result.now c.as_slice.result.now c.in_ok-targets.ensures c.as_slice-insns.ensures c.as_slice.ensures c.as_slice-in-Ok.ensures in
    let put : put_maps (target_frames (plan_in framed)) c.encode.new.pool ≡ Some (c.from_vec-in-Ok-map_attrs-2.result, c.map_attrs.new.pool) =
    ap (λ (rs : List (ℕ × Frame)). put_maps rs c.encode.new.pool) (sym frames) ∙ c.in-Ok-map_attrs.ensures.put
    ∙ ap (λ (a : List (Attr NoCode)). let r : List (Attr NoCode) × List PoolItem = (a, c.map_attrs.new.pool) in Some r) (sym c.from_vec-in-Ok-map_attrs-2.ensures) in
    let attr : CodeAttr = record {
      max_stack = framed.body.max_stack;
      max_locals = framed.body.max_locals;
      code = c.from_vec.result;
      handlers = c.from_vec-in-Ok-map_attrs.result;
      attrs = c.from_vec-in-Ok-map_attrs-2.result;
    } in
    code_is (plan_in framed) c.args.pool.now c.encode.new.pool c.map_attrs.new.pool c.from_vec-in-Ok-map_attrs-2.result c.from_vec.result c.from_vec-in-Ok-map_attrs.result attr c.in-Ok.ensures.added put
    (c.from_vec.ensures ∙ c.in-Ok.ensures.text) (c.from_vec-in-Ok-map_attrs.ensures ∙ c.in_ok-handlers.ensures ∙ ap (map raw_of) c.as_slice-2.ensures) refl

pub returns-in-Ok-map_attrs-clause-decodes : goal.returns-in-Ok-map_attrs-clause-decodes
returns-in-Ok-map_attrs-clause-decodes c =
    let framed = c.args.framed.now in
    let attr : CodeAttr = record {
      max_stack = framed.body.max_stack;
      max_locals = framed.body.max_locals;
      code = c.from_vec.result;
      handlers = c.from_vec-in-Ok-map_attrs.result;
      attrs = c.from_vec-in-Ok-map_attrs-2.result;
    } in
    is_code framed c.args.pool.now c.encode.new.pool c.map_attrs.new.pool c.in-Ok.code.items c.from_vec-in-Ok-map_attrs.result attr c.requires c.in-Ok.ensures.decodes c.in-Ok-map_attrs.ensures.grown
    (c.from_vec-in-Ok-map_attrs.ensures ∙ c.in_ok-handlers.ensures ∙ ap (map raw_of) c.as_slice-2.ensures) refl refl c.from_vec.ensures refl

pub returns-in-Ok-map_attrs-clause-maps : goal.returns-in-Ok-map_attrs-clause-maps
returns-in-Ok-map_attrs-clause-maps c =
    let framed = c.args.framed.now in
    let frames = targets_are framed c.in_ok-targets.targets c.as_slice-in-Ok.result.now c.as_slice-insns.result.now c.as_slice.result.now c.in_ok-targets.ensures c.as_slice-insns.ensures c.as_slice.ensures c.as_slice-in-Ok.ensures in
    let put : put_maps (target_frames (plan_in framed)) c.encode.new.pool ≡ Some (c.from_vec-in-Ok-map_attrs-2.result, c.map_attrs.new.pool) =
    ap (λ (rs : List (ℕ × Frame)). put_maps rs c.encode.new.pool) (sym frames) ∙ c.in-Ok-map_attrs.ensures.put
    ∙ ap (λ (a : List (Attr NoCode)). let r : List (Attr NoCode) × List PoolItem = (a, c.map_attrs.new.pool) in Some r) (sym c.from_vec-in-Ok-map_attrs-2.ensures) in
    let attr : CodeAttr = record {
      max_stack = framed.body.max_stack;
      max_locals = framed.body.max_locals;
      code = c.from_vec.result;
      handlers = c.from_vec-in-Ok-map_attrs.result;
      attrs = c.from_vec-in-Ok-map_attrs-2.result;
    } in
    has_maps framed c.args.pool.now c.encode.new.pool c.map_attrs.new.pool attr c.requires put

pub returns-in-Ok-clause-full : goal.returns-in-Ok-clause-full
returns-in-Ok-clause-full c = λ e.
    let framed = c.args.framed.now in
    let frames = targets_are framed c.in_ok-targets.targets c.as_slice-in-Ok.result.now c.as_slice-insns.result.now c.as_slice.result.now c.in_ok-targets.ensures c.as_slice-insns.ensures c.as_slice.ensures c.as_slice-in-Ok.ensures in
    let fails : Result CodeAttr EncodeRefusal = Err c.in-Err-map_attrs.e in
    let full : Result CodeAttr EncodeRefusal = Err PoolFull in
    let there : put_maps (target_frames (plan_in framed)) c.encode.new.pool ≡ put_maps (frames_where (contains nat_cmp c.in_ok-targets.targets) c.as_slice-in-Ok.result.now) c.encode.new.pool =
    ap (λ (rs : List (ℕ × Frame)). put_maps rs c.encode.new.pool) (sym frames) in
    let none =
    full_none c.in-Err-map_attrs.e (put_maps (frames_where (contains nat_cmp c.in_ok-targets.targets) c.as_slice-in-Ok.result.now) c.encode.new.pool) fails full c.in-Err-map_attrs.ensures.put refl refl e in
    maps_full (plan_in framed) c.args.pool.now c.encode.new.pool c.in-Ok.ensures.added (there ∙ none)
