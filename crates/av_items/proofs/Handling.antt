-- Codes without handlers, and a code with one.
use Rattle.std.proofs.Common.{◌≡◌, ℕ, ◌+◌, ◌<◌, ◌≤◌, List, [], ◌∷◌, ◌++◌, length, map, Result, Ok, Err, Bool, true, false, Option, Some, None, ap, sym, ◌∙◌, length-append, arith, append-nil}
use Rattle.std.specs.Prelude.{IfOk, ◌&&◌, if◌then◌else◌}
use Rattle.jv_types.specs.declared.shapes.MethodShape.{MethodShape}
use Rattle.jv_resolve.specs.Members.{init_name}
use Rattle.std.proofs.lemmas.List.{length-map}
use Rattle.av_asm.specs.declared.step.Step.{Step}
use Rattle.av_asm.specs.declared.step.Span.{Span}
use Rattle.av_asm.specs.Built.{Built, with_handler}
use Rattle.av_standin_of.specs.Codes.{Row, Code}
use Rattle.av_standin_of.specs.Templates.{template, is_object, is_called, is_abstract, makes_fresh, begins_with, method_code}
use Rattle.av_templates.specs.Putting.{with_rows}
use Rattle.av_templates.proofs.Adding.{then_rows, with_both}
use Rattle.av_items.specs.Coding.{with_code}

-- a code without handlers is its instructions
pub without_spans : {E : Type 0} (old : Built) (code : Code) (made : Result Built E) → code.spans ≡ []
    → IfOk made (λ (new : Built). new ≡ with_rows old code.rows) → IfOk made (λ (new : Built). new ≡ with_code old code)
without_spans old code (Err e) none put = tt
without_spans old code (Ok new) none put =
    put ∙ ap (λ (spans : List Span). record (with_rows old code.rows) { spans = spans }) (sym (append-nil old.spans) ∙ ap (λ (spans : List Span). old.spans ++ spans) (sym none))

count_rows : (old new : Built) (rows : List Row) → old.steps ≡ [] → new ≡ with_rows old rows → length new.steps ≡ length rows
count_rows old new rows none is =
    ap (λ (b : Built). length b.steps) is ∙ ap (λ (steps : List Step). length (steps ++ map (λ (row : Row). row.step) rows)) none ∙ length-map rows (λ (row : Row). row.step)

-- the handler covers one instruction or more
pub covers_some : (old new : Built) (first : Row) (rows : List Row) (n : ℕ) → old.steps ≡ [] → new ≡ with_rows old (first ∷ rows) → n ≡ length new.steps → 0 < n
covers_some old new first rows n none is count =
    let all : n ≡ length (first ∷ rows) = count ∙ count_rows old new (first ∷ rows) none is in
    omega arith

-- and none that wasn't put
pub covers_put : (old new : Built) (rows : List Row) (n : ℕ) → n ≡ length old.steps → new ≡ with_rows old rows → n ≤ length new.steps
covers_put old new rows n count is =
    let all : length new.steps ≡ length old.steps + length (map (λ (row : Row). row.step) rows) = ap (λ (b : Built). length b.steps) is ∙ length-append old.steps (map (λ (row : Row). row.step) rows) in
    omega arith

abbrev span : ℕ → ℕ → Span
span end target = record { start = 0; end = end; target = target }

-- the first instructions are covered, and the handler stands behind others
pub call_put : {E : Type 0} (old first second third : Built) (covered more thrown : List Row) (end : ℕ) (made : Result Built E)
    → old.steps ≡ [] → first ≡ with_rows old covered → end ≡ length first.steps → second ≡ with_rows first more → third ≡ with_handler second 0 end
    → IfOk made (λ (new : Built). new ≡ with_rows third thrown)
    → IfOk made (λ (new : Built). new ≡ with_code old (record {
      words = 0;
      rows = (covered ++ more) ++ thrown;
      spans = record { start = 0; end = length covered; target = length (covered ++ more) } ∷ [];
    }))
call_put old first second third covered more thrown end (Err e) none a count b h put = tt
call_put old first second third covered more thrown end (Ok new) none a count b h put =
    let front = covered ++ more in
    let both : second ≡ with_rows old front = then_rows old first second covered more a b in
    let ended : end ≡ length covered = count ∙ count_rows old first covered none a in
    let behind : length (with_rows old front).steps ≡ length front = count_rows old (with_rows old front) front none (λ i. with_rows old front) in
    let handled : third ≡ record (with_rows old front) { spans = old.spans ++ span (length covered) (length front) ∷ [] } =
    h ∙ ap (λ (b : Built). with_handler b 0 end) both ∙ ap (λ (n : ℕ). with_handler (with_rows old front) 0 n) ended
    ∙ ap (λ (n : ℕ). record (with_rows old front) { spans = old.spans ++ span (length covered) n ∷ [] }) behind in
    put ∙ ap (λ (b : Built). with_rows b thrown) handled
    ∙ with_both (record old { spans = old.spans ++ span (length covered) (length front) ∷ [] }) front thrown

-- ---- codes of collected methods

one_spanless : (a b : Bool) (x y code : Code) → x.spans ≡ [] → y.spans ≡ [] → (if a then None else if b then Some x else Some y) ≡ Some code → code.spans ≡ []
one_spanless true b x y code none-x none-y is = grind arith
one_spanless false true x y code none-x none-y is = grind arith
one_spanless false false x y code none-x none-y is = grind arith

-- the code of a collected method has no handler
pub method_spanless : (class : List ℕ) (parent : Option (List ℕ)) (method : MethodShape) (code : Code) → method_code class parent method ≡ Some code → code.spans ≡ []
method_spanless class parent method code is =
    one_spanless (is_abstract method) (is_object class && is_called init_name method) makes_fresh (template class method (begins_with class method parent)) code (λ i. []) (λ i. []) is
