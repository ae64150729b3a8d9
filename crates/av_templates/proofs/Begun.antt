-- The code of a method, of its parts.
use Rattle.std.proofs.Common.{◌≡◌, ℕ, ◌+◌, Bool, true, false, ◌&&◌, List, [], ◌++◌, length, map, Option, Some, None, Result, Ok, Err, sym, ap, subst, ◌∙◌, append_assoc, length-append, arith}
use Rattle.std.specs.Prelude.{IfOk, if◌then◌else◌}
use Rattle.std.proofs.lemmas.List.{length-map}
use Rattle.jv_types.specs.declared.frames.VType.{VType}
use Rattle.jv_types.specs.declared.shapes.MethodShape.{MethodShape}
use Rattle.av_asm.specs.declared.step.Step.{Step}
use Rattle.av_asm.specs.Built.{Built}
use Rattle.jv_resolve.specs.Members.{init_name}
use Rattle.av_standin_of.specs.Codes.{Row, Code}
use Rattle.av_standin_of.specs.Templates.{words_in, local_types, hands_over, throws, answers, template, is_object, is_called, is_abstract, makes_fresh, begins_with, method_code}
use Rattle.av_templates.specs.Putting.{with_rows, template_rows}
use Rattle.av_templates.proofs.Adding.{then_rows}

count_added : (old new : Built) (rows : List Row) → new ≡ with_rows old rows → length new.steps ≡ length old.steps + length rows
count_added old new rows is =
    ap (λ (b : Built). length b.steps) is ∙ length-append old.steps (map (λ (row : Row). row.step) rows) ∙ ap (λ (n : ℕ). length old.steps + n) (length-map rows (λ (row : Row). row.step))

pub template_put : {E : Type 0} (class : List ℕ) (method : MethodShape) (old first second : Built) (words : ℕ) (locals : List VType) (made : Result Built E)
    → words ≡ words_in method → locals ≡ local_types class method → first ≡ with_rows old (hands_over class method) → second ≡ with_rows first (throws words locals (length first.steps))
    → IfOk made (λ (new : Built). new ≡ with_rows second (answers words locals method.desc.result)) → IfOk made (λ (new : Built). new ≡ with_rows old (template_rows (length old.steps) class method))
template_put class method old first second words locals (Err e) w l a b c = tt
template_put class method old first second words locals (Ok new) w l a b c =
    let hands = hands_over class method in
    let count = count_added old first hands a in
    let before = length old.steps + length hands in
    let thrown = throws (words_in method) (local_types class method) before in
    let answered = answers (words_in method) (local_types class method) method.desc.result in
    let b' : second ≡ with_rows first thrown =
    b ∙ ap (λ (n : ℕ). with_rows first (throws words locals n)) count ∙ ap (λ (n : ℕ). with_rows first (throws n locals before)) w
    ∙ ap (λ (types : List VType). with_rows first (throws (words_in method) types before)) l in
    let c' : new ≡ with_rows second answered =
    c ∙ ap (λ (n : ℕ). with_rows second (answers n locals method.desc.result)) w ∙ ap (λ (types : List VType). with_rows second (answers (words_in method) types method.desc.result)) l in
    then_rows old second new (hands ++ thrown) answered (then_rows old first second hands thrown a b') c' ∙ ap (λ (rows : List Row). with_rows old rows) (append_assoc hands thrown answered)

template_is : (class : List ℕ) (method : MethodShape) (begin : List Row) → begin ++ template_rows (length begin) class method ≡ (template class method begin).rows
template_is class method begin =
    let hands = hands_over class method in
    let answered = answers (words_in method) (local_types class method) method.desc.result in
    sym (append_assoc begin hands (throws (words_in method) (local_types class method) (length begin + length hands) ++ answered))
    ∙ ap (λ (n : ℕ). (begin ++ hands) ++ (throws (words_in method) (local_types class method) n ++ answered)) (sym (length-append begin hands))

behind_none : (n : ℕ) → 0 + n ≡ n
behind_none n = omega arith

-- the template behind the instructions with which a method begins, where nothing was put before
pub template_begun : {E : Type 0} (class : List ℕ) (method : MethodShape) (begin : List Row) (old first : Built) (made : Result Built E) → old.steps ≡ []
    → first ≡ with_rows old begin → IfOk made (λ (new : Built). new ≡ with_rows first (template_rows (length first.steps) class method))
    → IfOk made (λ (new : Built). new ≡ with_rows old (template class method begin).rows)
template_begun class method begin old first (Err e) none a b = tt
template_begun class method begin old first (Ok new) none a b =
    let count : length first.steps ≡ length begin = count_added old first begin a ∙ ap (λ (steps : List Step). length steps + length begin) none ∙ behind_none (length begin) in
    then_rows old first new begin (template_rows (length begin) class method) a (b ∙ ap (λ (n : ℕ). with_rows first (template_rows n class method)) count)
    ∙ ap (λ (rows : List Row). with_rows old rows) (template_is class method begin)

-- ---- which code it is

if_first : {A : Type 0} (a b : Bool) (x y code : A) → b ≡ true → (if a then None else if b then Some x else Some y) ≡ Some code → code ≡ x
if_first true b x y code is h = grind arith
if_first false true x y code is h = grind arith
if_first false false x y code is h = grind arith

if_second : {A : Type 0} (a b : Bool) (x y code : A) → b ≡ false → (if a then None else if b then Some x else Some y) ≡ Some code → code ≡ y
if_second true b x y code is h = grind arith
if_second false true x y code is h = grind arith
if_second false false x y code is h = grind arith

-- Object's `<init>()V` that has code
pub fresh_code : {E : Type 0} (class : List ℕ) (parent : Option (List ℕ)) (method : MethodShape) (code : Code) (old : Built) (made : Result Built E) → (is_object class && is_called init_name method) ≡ true
    → method_code class parent method ≡ Some code → IfOk made (λ (new : Built). new ≡ with_rows old makes_fresh.rows) → IfOk made (λ (new : Built). new ≡ with_rows old code.rows)
fresh_code class parent method code old made is h put =
    let same = if_first (is_abstract method) (is_object class && is_called init_name method) makes_fresh (template class method (begins_with class method parent)) code is h in
    subst (λ (k : Code). IfOk made (λ (new : Built). new ≡ with_rows old k.rows)) (sym same) put

-- any other method that has code
pub other_code : {E : Type 0} (class : List ℕ) (parent : Option (List ℕ)) (method : MethodShape) (code : Code) (old : Built) (made : Result Built E) → (is_object class && is_called init_name method) ≡ false
    → method_code class parent method ≡ Some code → IfOk made (λ (new : Built). new ≡ with_rows old (template class method (begins_with class method parent)).rows)
    → IfOk made (λ (new : Built). new ≡ with_rows old code.rows)
other_code class parent method code old made is h put =
    let same = if_second (is_abstract method) (is_object class && is_called init_name method) makes_fresh (template class method (begins_with class method parent)) code is h in
    subst (λ (k : Code). IfOk made (λ (new : Built). new ≡ with_rows old k.rows)) (sym same) put
