use Rattle.std.proofs.Common.{◌≡◌, ◌∙◌, ◌≤◌, List, true, length, sym, subst, arith}
use Rattle.std.specs.List.{list_all}
use Rattle.jv_types.specs.declared.shapes.FieldShape.{FieldShape}
use Rattle.jv_types.specs.declared.shapes.MethodShape.{MethodShape}
use Rattle.tests_collect.specs.Bounds.{has_small_field, has_small_method}
use Rattle.tests_collect.proofs.BoundLemmas.{of_library}
use Rattle.tests_collect.proofs.bounds.may_be_of_library.Goals as goal

pub returns-then-have_small_fields : goal.returns-then-have_small_fields
returns-then-have_small_fields c passed =
    let few_fields : length c.args.shape.now.fields ≤ 65535 = omega (arith, c.len.ensures, c.if-len-gt-MOST_MEMBERS.false) in
    let few_methods : length c.args.shape.now.methods ≤ 65535 = omega (arith, c.len-2.ensures, c.if-len-gt-MOST_MEMBERS-2.false) in
    of_library c.args.shape.now c.if-shape.false few_fields few_methods
    (subst (λ (l : List FieldShape). list_all has_small_field l ≡ true) c.as_slice.ensures (sym c.have_small_fields.ensures ∙ c.if-have_small_fields.true))
    (subst (λ (l : List MethodShape). list_all has_small_method l ≡ true) c.as_slice-then-have_small_fields.ensures (sym c.have_small_methods.ensures ∙ passed))
