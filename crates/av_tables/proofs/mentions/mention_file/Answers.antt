use Rattle.std.proofs.Common.{◌≡◌, ℕ, List, Some, subst}
use Rattle.std.proofs.lemmas.Result.{on_ok_weaker}
use Rattle.jv_types.specs.declared.shapes.Shape.{Shape}
use Rattle.av_named.specs.Appending.{Appends}
use Rattle.av_named.specs.Named.{ShapeNames}
use Rattle.av_named.proofs.Appending.{appends_both}
use Rattle.av_tables.proofs.mentions.mention_file.Goals as goal

pub returns : goal.returns
returns c =
    on_ok_weaker c.mention_shape.result
    (appends_both (λ (name : List ℕ). c.args.file.now.name ≡ name) (λ (name : List ℕ). (shape : Shape) × (c.args.file.now.shape ≡ Some shape) × ShapeNames shape name) c.args.out.now.items c.push_copy.new.out.items c.mention_shape.new.out.items
    (subst (λ (n : List ℕ). Appends (λ (name : List ℕ). n ≡ name) c.args.out.now.items c.push_copy.new.out.items) c.name.ensures c.in_ok-push_copy.ensures))
    c.mention_shape.ensures
