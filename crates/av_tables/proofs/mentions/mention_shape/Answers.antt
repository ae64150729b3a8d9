use Rattle.std.proofs.Common.{◌≡◌, ℕ, List, None, Some, ap, sym, subst, ◌∙◌}
use Rattle.std.proofs.lemmas.Option.{same_Some}
use Rattle.std.proofs.lemmas.Result.{on_ok_weaker}
use Rattle.std.specs.Option.{option_copied}
use Rattle.jv_types.specs.declared.shapes.Shape.{Shape}
use Rattle.av_named.specs.Named.{ShapeNames}
use Rattle.av_named.proofs.Appending.{appends_none, appends_same}
use Rattle.av_tables.proofs.mentions.mention_shape.Goals as goal

pub returns-in-None : goal.returns-in-None
returns-in-None c =
    appends_none (λ (name : List ℕ). (shape : Shape) × (c.args.file.now.shape ≡ Some shape) × ShapeNames shape name) c.args.out.now.items
    (λ x h. let e : None ≡ Some h.0 = sym (ap option_copied c.in-None.is) ∙ c.shape.ensures ∙ h.1 in absurd cc)

pub returns-in-Some : goal.returns-in-Some
returns-in-Some c =
    let is : c.args.file.now.shape ≡ Some c.in-Some.shape.now = sym c.shape.ensures ∙ ap option_copied c.in-Some.is in
    on_ok_weaker c.names_of_shape.result
    (appends_same (ShapeNames c.in-Some.shape.now) (λ (name : List ℕ). (shape : Shape) × (c.args.file.now.shape ≡ Some shape) × ShapeNames shape name) c.args.out.now.items c.names_of_shape.new.out.items
    (λ x h. (c.in-Some.shape.now, is, h)) (λ x h. subst (λ (s : Shape). ShapeNames s x) (same_Some h.0 c.in-Some.shape.now (sym h.1 ∙ is)) h.2))
    c.names_of_shape.ensures
