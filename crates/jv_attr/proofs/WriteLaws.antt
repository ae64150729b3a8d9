-- What the parts of a Code make together, once each of them is written.
use Rattle.std.proofs.Common.{◌≡◌, ℕ, ◌^◌, ◌<◌, List, ◌++◌, length, Result, Ok, Err, ap, ◌∙◌, append_assoc}
use Rattle.std.specs.Prelude.{OnOk}
use Rattle.std.specs.List.{AllByRecursion, flat_map}
use Rattle.jv_pool.specs.PoolText.{u2, u4}
use Rattle.jv_attr.specs.declared.attr.CodeAttr.{CodeAttr}
use Rattle.jv_attr.specs.AttrText.{inner_text, IsInnerFew, IsInnerShort, handler_text, code_text, IsFewCode, IsShortCode}
use Rattle.jv_read.proofs.Many.{first_of_both, second_of_both}

-- what follows where a call succeeded
pub map_ok : {T E : Type 0} (r : Result T E) (P Q : Type 0) → (P → Q) → OnOk r P → OnOk r Q
map_ok (Ok x) P Q f h = f h
map_ok (Err e) P Q f h = tt

-- the texts of the parts, one behind the other
regroup : (w s l k c hl h il i : List ℕ) → ((((((w ++ s) ++ l) ++ (k ++ c)) ++ hl) ++ h) ++ il) ++ i ≡ w ++ (((((((s ++ l) ++ k) ++ c) ++ hl) ++ h) ++ il) ++ i)
regroup w s l k c hl h il i = simp append_assoc

-- what the steps of the writer left
pub record Steps (c : CodeAttr) (old w1 w2 w3 w4 w5 w6 : List ℕ) : Type 0 where
  pub max_stack : w1 ≡ old ++ u2 c.max_stack
  pub max_locals : w2 ≡ w1 ++ u2 c.max_locals
  pub code : w3 ≡ w2 ++ (u4 (length c.code) ++ c.code)
  pub handler_count : w4 ≡ w3 ++ u2 (length c.handlers)
  pub handlers : w5 ≡ w4 ++ flat_map handler_text c.handlers
  pub attr_count : w6 ≡ w5 ++ u2 (length c.attrs)
  pub short : length c.code < 2 ^ 16
  pub few_handlers : length c.handlers < 2 ^ 16
  pub few_attrs : length c.attrs < 2 ^ 16

-- and its last step
pub code_written : (c : CodeAttr) (old w1 w2 w3 w4 w5 w6 w7 : List ℕ) → Steps c old w1 w2 w3 w4 w5 w6 → AllByRecursion (λ a. IsInnerFew a × IsInnerShort a) c.attrs × (w7 ≡ w6 ++ flat_map inner_text c.attrs)
    → IsFewCode c × IsShortCode c × (w7 ≡ old ++ code_text c)
code_written c old w1 w2 w3 w4 w5 w6 w7 s h =
    let k = u4 (length c.code) ++ c.code in
    let two : w2 ≡ (old ++ u2 c.max_stack) ++ u2 c.max_locals = s.max_locals ∙ ap (λ (w : List ℕ). w ++ u2 c.max_locals) s.max_stack in
    let three : w3 ≡ ((old ++ u2 c.max_stack) ++ u2 c.max_locals) ++ k = s.code ∙ ap (λ (w : List ℕ). w ++ k) two in
    let four : w4 ≡ (((old ++ u2 c.max_stack) ++ u2 c.max_locals) ++ k) ++ u2 (length c.handlers) = s.handler_count ∙ ap (λ (w : List ℕ). w ++ u2 (length c.handlers)) three in
    let five = s.handlers ∙ ap (λ (w : List ℕ). w ++ flat_map handler_text c.handlers) four in
    let six = s.attr_count ∙ ap (λ (w : List ℕ). w ++ u2 (length c.attrs)) five in
    let seven = h.1 ∙ ap (λ (w : List ℕ). w ++ flat_map inner_text c.attrs) six in (
      record { handlers = s.few_handlers; attrs = s.few_attrs; each = first_of_both IsInnerFew IsInnerShort c.attrs h.0 },
      record { code = s.short; each = second_of_both IsInnerFew IsInnerShort c.attrs h.0 },
      seven ∙ regroup old (u2 c.max_stack) (u2 c.max_locals) (u4 (length c.code)) c.code (u2 (length c.handlers)) (flat_map handler_text c.handlers) (u2 (length c.attrs)) (flat_map inner_text c.attrs),
    )
