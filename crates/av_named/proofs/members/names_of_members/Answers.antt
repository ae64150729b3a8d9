use Rattle.std.proofs.Common.{◌≡◌, ℕ, List, subst}
use Rattle.std.proofs.lemmas.Result.{on_ok_weaker}
use Rattle.jv_types.specs.declared.shapes.FieldShape.{FieldShape}
use Rattle.jv_types.specs.declared.shapes.MethodShape.{MethodShape}
use Rattle.jv_types.specs.declared.shapes.Shape.{Shape}
use Rattle.av_named.specs.Appending.{Appends, OfEach}
use Rattle.av_named.specs.Named.{FieldNames, MemberNames, MethodNames}
use Rattle.av_named.proofs.Appending.{appends_both}
use Rattle.av_named.proofs.members.names_of_members.Goals as goal

members : (shape : Shape) (fields : List FieldShape) (methods : List MethodShape) (a b d : List (List ℕ)) → fields ≡ shape.fields → methods ≡ shape.methods
    → Appends (OfEach FieldNames fields) a b → Appends (OfEach MethodNames methods) b d → Appends (MemberNames shape) a d
members shape fields methods a b d first second p q =
    appends_both (OfEach FieldNames shape.fields) (OfEach MethodNames shape.methods) a b d
    (subst (λ (l : List FieldShape). Appends (OfEach FieldNames l) a b) first p) (subst (λ (l : List MethodShape). Appends (OfEach MethodNames l) b d) second q)

pub returns : goal.returns
returns c =
    on_ok_weaker c.names_of_methods.result
    (members c.args.shape.now c.as_slice.result.now c.as_slice-2.result.now c.args.out.now.items c.names_of_fields.new.out.items c.names_of_methods.new.out.items c.as_slice.ensures c.as_slice-2.ensures c.in_ok-names_of_fields.ensures)
    c.names_of_methods.ensures
