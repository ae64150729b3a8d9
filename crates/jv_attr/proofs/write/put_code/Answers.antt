-- Each part is written behind the one before it.
use Rattle.std.proofs.Common.{◌≡◌, ◌<◌, ◌^◌, ◌++◌, ℕ, List, length, ◌∙◌, sym, ap, subst}
use Rattle.std.specs.List.{flat_map, AllByRecursion}
use Rattle.jv_types.specs.declared.raw_handler.RawHandler.{RawHandler}
use Rattle.jv_pool.specs.PoolText.{u2, u4}
use Rattle.jv_attr.specs.declared.attr.Attr.{Attr}
use Rattle.std.specs.declared.convert.Infallible.{Infallible as NoCode}
use Rattle.jv_attr.specs.AttrText.{inner_text, handler_text, code_text, IsInnerFew, IsInnerShort, IsFewCode, IsShortCode}
use Rattle.jv_read.proofs.Many.{both_of}
use Rattle.jv_attr.proofs.WriteLaws.{map_ok, Steps, code_written}
use Rattle.jv_attr.proofs.write.put_code.Goals as goal

pub returns-clause-ok : goal.returns-clause-ok
returns-clause-ok c =
    let code = c.args.code.now in
    let w2 = c.put_u2-2.new.self in
    let w3 = c.put_code_bytes.new.writer in
    let w4 = c.put_count.new.writer in
    let w5 = c.put_handlers.new.writer in
    let w6 = c.put_count-2.new.writer in
    let steps : Steps code c.args.writer.now c.put_u2.new.self w2 w3 w4 w5 w6 =
    record {
      max_stack = c.in_ok-put_u2.ensures.ok;
      max_locals = c.in_ok-put_u2-2.ensures.ok;
      code = c.in_ok-put_code_bytes.ensures.ok.1 ∙ ap (λ (x : List ℕ). w2 ++ (u4 (length x) ++ x)) c.as_slice.ensures;
      handler_count = c.in_ok-put_count.ensures.ok.1 ∙ ap (λ (n : ℕ). w3 ++ u2 n) c.len.ensures;
      handlers = c.in_ok-put_handlers.ensures ∙ ap (λ (hs : List RawHandler). w4 ++ flat_map handler_text hs) c.as_slice-2.ensures;
      attr_count = c.in_ok-put_count-2.ensures.ok.1 ∙ ap (λ (n : ℕ). w5 ++ u2 n) c.len-2.ensures;
      short = subst (λ (x : List ℕ). length x < 2 ^ 16) c.as_slice.ensures c.in_ok-put_code_bytes.ensures.ok.0;
      few_handlers = subst (λ (n : ℕ). n < 2 ^ 16) c.len.ensures c.in_ok-put_count.ensures.ok.0;
      few_attrs = subst (λ (n : ℕ). n < 2 ^ 16) c.len-2.ensures c.in_ok-put_count-2.ensures.ok.0;
    }
    in
    let Last : List (Attr NoCode) → Type 0 = λ attrs. AllByRecursion (λ a. IsInnerFew a × IsInnerShort a) attrs × (c.put_inners.new.writer ≡ w6 ++ flat_map inner_text attrs) in
    map_ok c.put_inners.result (Last c.as_slice-3.result.now) (IsFewCode code × IsShortCode code × (c.put_inners.new.writer ≡ c.args.writer.now ++ code_text code))
    (λ h. code_written code c.args.writer.now c.put_u2.new.self w2 w3 w4 w5 w6 c.put_inners.new.writer steps (subst Last c.as_slice-3.ensures h)) c.put_inners.ensures.ok

pub returns-clause-long : goal.returns-clause-long
returns-clause-long c = λ e few short.
    let All : List (Attr NoCode) → Type 0 = λ attrs. AllByRecursion (λ a. IsInnerFew a × IsInnerShort a) attrs in
    c.put_inners.ensures.long e (subst All (sym c.as_slice-3.ensures) (both_of IsInnerFew IsInnerShort c.args.code.now.attrs few.each short.each))
