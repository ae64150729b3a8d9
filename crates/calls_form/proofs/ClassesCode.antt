-- A code that is read has this content, and the content of each code is read.
use Rattle.std.proofs.Common.{◌≡◌, ℕ, ◌*◌, ◌^◌, ◌<◌, false, cond, ltb, eqb, ◌||◌, List, [], ◌++◌, length, Some, None, refl, sym, ap, subst, ◌∙◌, append_assoc, arith}
use Rattle.std.proofs.lemmas.Bool.{eqb-true}
use Rattle.std.proofs.lemmas.Bool.Decides.{nat_tests}
use Rattle.std.proofs.lemmas.List.{append-nil, nil_from_length}
use Rattle.calls_form.specs.Layout.{u2, u4, Attribute, attributes_text, Code, code_text, IsCode}
use Rattle.calls_form.specs.Reading.{◌>>=◌, u2_at, u4_at, bytes_at}
use Rattle.calls_form.specs.Classes.{IsBytes, code_bytes_at, handlers_at, Content, code_of}
use Rattle.calls_form.specs.LayoutReading.{passed_at}
use Rattle.calls_form.proofs.LayoutAttributes.{passed_takes, passed_again}
use Rattle.calls_form.proofs.LayoutFields.{bind_some, past_false, past_true, some_is, Takes, Takes-then, u2_takes, u2_again, u4_takes, u4_again, bytes_take, bytes_again}

in_bounds : (n : ℕ) → (eqb n 0 || ltb 65535 n) ≡ false → (0 < n) × (n < 2 ^ 16)
in_bounds n e = (grind (arith, nat_tests), grind (arith, nat_tests))

from_bounds : (n : ℕ) → 0 < n → n < 2 ^ 16 → (eqb n 0 || ltb 65535 n) ≡ false
from_bounds n some few = grind (arith, nat_tests)

-- a code of the right length
code_bytes_take : (bytes : List ℕ) (x : List ℕ × List ℕ) → IsBytes bytes → code_bytes_at bytes ≡ Some x → Takes bytes (u4 (length x.0) ++ x.0) x.1 × (0 < length x.0) × (length x.0 < 2 ^ 16)
unfolding code_bytes_at
code_bytes_take bytes x fits e =
    let a = bind_some (u4_at bytes) (λ size. cond (eqb size.0 0 || ltb 65535 size.0) None (bytes_at size.1 size.0)) x e in
    let g = past_false (eqb a.0.0 0 || ltb 65535 a.0.0) (bytes_at a.0.1 a.0.0) x a.2 in
    let ta = u4_takes bytes a.0 fits a.1 in
    let tb = bytes_take a.0.1 a.0.0 x ta.0.rest_fits g.1 in
    let both = Takes-then bytes (u4 a.0.0) a.0.1 x.0 x.1 ta.0 tb.0 in
    let sized = subst (λ (k : ℕ). Takes bytes (u4 k ++ x.0) x.1) (sym tb.1) both in
    let within = in_bounds a.0.0 g.0 in
    (sized, omega (arith, tb.1, within.0), omega (arith, tb.1, within.1))

code_bytes_again : (code rest : List ℕ) → 0 < length code → length code < 2 ^ 16 → code_bytes_at ((u4 (length code) ++ code) ++ rest) ≡ Some (code, rest)
unfolding code_bytes_at
code_bytes_again code rest some few =
    let regrouped : (u4 (length code) ++ code) ++ rest ≡ u4 (length code) ++ (code ++ rest) = append_assoc (u4 (length code)) code rest in
    let small : length code < 2 ^ 32 = omega arith in
    ap code_bytes_at regrouped ∙ rw (u4_again (length code) (code ++ rest) small, from_bounds (length code) some few, bytes_again code rest (length code) refl) refl

-- handlers of eight bytes each
handlers_take : (bytes : List ℕ) (x : ℕ × List ℕ) → IsBytes bytes → handlers_at bytes ≡ Some x → (handlers : List ℕ) × (length handlers ≡ 8 * x.0) × (x.0 < 2 ^ 16) × Takes bytes (u2 x.0 ++ handlers) x.1
unfolding handlers_at
handlers_take bytes x fits e =
    let a = bind_some (u2_at bytes) (λ count. bytes_at count.1 (8 * count.0) >>= λ handlers. Some (count.0, handlers.1)) x e in
    let b = bind_some (bytes_at a.0.1 (8 * a.0.0)) (λ handlers. Some (a.0.0, handlers.1)) x a.2 in
    let ta = u2_takes bytes a.0 fits a.1 in
    let tb = bytes_take a.0.1 (8 * a.0.0) b.0 ta.0.rest_fits b.1 in
    let both = Takes-then bytes (u2 a.0.0) a.0.1 b.0.0 b.0.1 ta.0 tb.0 in
    let made : ℕ × List ℕ = (a.0.0, b.0.1) in
    subst (λ (y : ℕ × List ℕ). (handlers : List ℕ) × (length handlers ≡ 8 * y.0) × (y.0 < 2 ^ 16) × Takes bytes (u2 y.0 ++ handlers) y.1) (some_is made x b.2) (b.0.0, tb.1, ta.1, both)

handlers_again : (count : ℕ) (handlers rest : List ℕ) → count < 2 ^ 16 → length handlers ≡ 8 * count → handlers_at ((u2 count ++ handlers) ++ rest) ≡ Some (count, rest)
unfolding handlers_at
handlers_again count handlers rest few sized =
    let regrouped : (u2 count ++ handlers) ++ rest ≡ u2 count ++ (handlers ++ rest) = append_assoc (u2 count) handlers rest in
    ap handlers_at regrouped ∙ rw (u2_again count (handlers ++ rest) few, bytes_again handlers rest (8 * count) sized) refl

-- what is kept of a code
abbrev pub kept_of : Code → Content
kept_of c = record { max_stack = c.max_stack; max_locals = c.max_locals; bytes = c.bytes; handler_count = c.handler_count }

-- the content of an attribute Code, of which this is kept
pub record HasCode (content : List ℕ) (x : Content) : Type 0 where
  pub code : Code
  pub is_code : IsCode code
  pub text : content ≡ code_text code
  pub kept : kept_of code ≡ x

-- the parts of a code, one after the other
code_parts : (stack locals count : ℕ) (bytes handlers : List ℕ) (attributes : List Attribute)
    → u2 stack ++ (u2 locals ++ ((u4 (length bytes) ++ bytes) ++ ((u2 count ++ handlers) ++ attributes_text attributes)))
    ≡ code_text (record { max_stack = stack; max_locals = locals; bytes = bytes; handler_count = count; handlers = handlers; attributes = attributes })
code_parts stack locals count bytes handlers attributes = simp append_assoc

pub code_takes : (content : List ℕ) (x : Content) → IsBytes content → code_of content ≡ Some x → HasCode content x
unfolding code_of
code_takes content x fits e =
    let a = bind_some (u2_at content) (λ stack. u2_at stack.1 >>= λ locals. code_bytes_at locals.1 >>= λ code. handlers_at code.1 >>= λ handlers. passed_at handlers.1 >>= λ rest. cond (eqb (length rest) 0) (let y : Content = record { max_stack = stack.0; max_locals = locals.0; bytes = code.0; handler_count = handlers.0 } in Some y) None) x e in
    let b = bind_some (u2_at a.0.1) (λ locals. code_bytes_at locals.1 >>= λ code. handlers_at code.1 >>= λ handlers. passed_at handlers.1 >>= λ rest. cond (eqb (length rest) 0) (let y : Content = record { max_stack = a.0.0; max_locals = locals.0; bytes = code.0; handler_count = handlers.0 } in Some y) None) x a.2 in
    let c = bind_some (code_bytes_at b.0.1) (λ code. handlers_at code.1 >>= λ handlers. passed_at handlers.1 >>= λ rest. cond (eqb (length rest) 0) (let y : Content = record { max_stack = a.0.0; max_locals = b.0.0; bytes = code.0; handler_count = handlers.0 } in Some y) None) x b.2 in
    let d = bind_some (handlers_at c.0.1) (λ handlers. passed_at handlers.1 >>= λ rest. cond (eqb (length rest) 0) (let y : Content = record { max_stack = a.0.0; max_locals = b.0.0; bytes = c.0.0; handler_count = handlers.0 } in Some y) None) x c.2 in
    let f = bind_some (passed_at d.0.1) (λ rest. cond (eqb (length rest) 0) (let y : Content = record { max_stack = a.0.0; max_locals = b.0.0; bytes = c.0.0; handler_count = d.0.0 } in Some y) None) x d.2 in
    let made : Content = record { max_stack = a.0.0; max_locals = b.0.0; bytes = c.0.0; handler_count = d.0.0 } in
    let g = past_true (eqb (length f.0) 0) (Some made) x f.2 in
    let nothing : f.0 ≡ [] = nil_from_length f.0 (eqb-true _ _ g.0) in
    let ta = u2_takes content a.0 fits a.1 in
    let tb = u2_takes a.0.1 b.0 ta.0.rest_fits b.1 in
    let tc = code_bytes_take b.0.1 c.0 tb.0.rest_fits c.1 in
    let td = handlers_take c.0.1 d.0 tc.0.rest_fits d.1 in
    let tf = passed_takes d.0.1 f.0 td.3.rest_fits f.1 in
    let tdf = Takes-then c.0.1 (u2 d.0.0 ++ td.0) d.0.1 (attributes_text tf.attributes) f.0 td.3 tf.taken in
    let tcf = Takes-then b.0.1 (u4 (length c.0.0) ++ c.0.0) c.0.1 ((u2 d.0.0 ++ td.0) ++ attributes_text tf.attributes) f.0 tc.0 tdf in
    let tbf = Takes-then a.0.1 (u2 b.0.0) b.0.1 ((u4 (length c.0.0) ++ c.0.0) ++ ((u2 d.0.0 ++ td.0) ++ attributes_text tf.attributes)) f.0 tb.0 tcf in
    let taf = Takes-then content (u2 a.0.0) a.0.1 (u2 b.0.0 ++ ((u4 (length c.0.0) ++ c.0.0) ++ ((u2 d.0.0 ++ td.0) ++ attributes_text tf.attributes))) f.0 ta.0 tbf in
    let whole = u2 a.0.0 ++ (u2 b.0.0 ++ ((u4 (length c.0.0) ++ c.0.0) ++ ((u2 d.0.0 ++ td.0) ++ attributes_text tf.attributes))) in
    let text : content ≡ whole = taf.parts ∙ ap (λ (r : List ℕ). whole ++ r) nothing ∙ append-nil whole in
    let code : Code = record { max_stack = a.0.0; max_locals = b.0.0; bytes = c.0.0; handler_count = d.0.0; handlers = td.0; attributes = tf.attributes } in
    let fitting : IsCode code = record { max_stack = ta.1; max_locals = tb.1; not_empty = tc.1; short = tc.2; handler_count = td.2; handlers = td.1; attributes = tf.are_attributes } in
    record {
      code = code;
      is_code = fitting;
      text = text ∙ code_parts a.0.0 b.0.0 d.0.0 c.0.0 td.0 tf.attributes;
      kept = some_is made x g.1;
    }

pub code_again : (c : Code) → IsCode c → code_of (code_text c) ≡ Some (kept_of c)
unfolding code_of
code_again c fits =
    let attributes = attributes_text c.attributes in
    let handlers = u2 c.handler_count ++ c.handlers in
    let code = u4 (length c.bytes) ++ c.bytes in
    let nothing : passed_at attributes ≡ Some [] = ap passed_at (sym (append-nil attributes)) ∙ passed_again c.attributes [] fits.attributes in
    ap code_of (sym (code_parts c.max_stack c.max_locals c.handler_count c.bytes c.handlers c.attributes))
    ∙ rw (
      u2_again c.max_stack (u2 c.max_locals ++ (code ++ (handlers ++ attributes))) fits.max_stack,
      u2_again c.max_locals (code ++ (handlers ++ attributes)) fits.max_locals,
      code_bytes_again c.bytes (handlers ++ attributes) fits.not_empty fits.short,
      handlers_again c.handler_count c.handlers attributes fits.handler_count fits.handlers,
      nothing,
    ) refl
