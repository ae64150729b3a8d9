use Rattle.std.proofs.Common.{◌≡◌}
use Rattle.std.specs.Prelude.{codes}
use Rattle.std.proofs.lemmas.Result.{IfOk-weaker}
use Rattle.jv_types.specs.declared.place.Place.TheVariants.{Local, Stack, Static}
use Rattle.calls_lines.specs.First.Lines.{HasMethodText, HasFieldText, HasPlaceText}
use Rattle.calls_lines.specs.First.Adding.{IsTextOf, worded, numbered}
use Rattle.calls_lines.proofs.Texts.{IsTextOf-worded, IsTextOf-numbered}
use Rattle.calls_lines.proofs.first.texts.place_text.Goals as goal

pub returns-in_ok-method-in-Local : goal.returns-in_ok-method-in-Local
returns-in_ok-method-in-Local c =
    let class = c.args.class.now in
    let method = c.in_ok-method-in-Local.method in
    rw c.in-Local.is (
    IfOk-weaker c.numbered.result (λ text. text ≡ numbered (codes "local ") method c.in-Local.word) (IsTextOf (HasPlaceText class (Local c.in-Local.method c.in-Local.pc c.in-Local.word)))
    (λ text is. IsTextOf-numbered (HasMethodText class c.in-Local.method) (codes "local ") method c.in-Local.word text c.in_ok-method-in-Local.ensures is)
    (rw c.from.ensures at c.numbered.ensures))

pub returns-in_ok-method-in-Stack : goal.returns-in_ok-method-in-Stack
returns-in_ok-method-in-Stack c =
    let class = c.args.class.now in
    let method = c.in_ok-method-in-Stack.method in
    rw c.in-Stack.is (
    IfOk-weaker c.numbered-in-Stack.result (λ text. text ≡ numbered (codes "stack ") method c.in-Stack.word) (IsTextOf (HasPlaceText class (Stack c.in-Stack.method c.in-Stack.pc c.in-Stack.word)))
    (λ text is. IsTextOf-numbered (HasMethodText class c.in-Stack.method) (codes "stack ") method c.in-Stack.word text c.in_ok-method-in-Stack.ensures is)
    (rw c.from-in-Stack.ensures at c.numbered-in-Stack.ensures))

pub returns-in_ok-field_text-in-Static : goal.returns-in_ok-field_text-in-Static
returns-in_ok-field_text-in-Static c =
    let class = c.args.class.now in
    let field = c.in_ok-field_text-in-Static.field-0 in
    rw c.in-Static.is (
    IfOk-weaker c.worded.result (λ text. text ≡ worded (codes "static ") field) (IsTextOf (HasPlaceText class (Static c.in-Static.field)))
    (λ text is. IsTextOf-worded (HasFieldText class c.in-Static.field) (codes "static ") field text c.in_ok-field_text-in-Static.ensures is)
    c.worded.ensures)

pub returns-in-Field : goal.returns-in-Field
returns-in-Field c = rw c.in-Field.is c.object_field_text.ensures
