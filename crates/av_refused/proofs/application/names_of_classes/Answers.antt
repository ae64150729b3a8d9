use Rattle.std.proofs.Common.{ℕ, List, Contains, subst}
use Rattle.av_refused.specs.Firsts.{shape_name}
use Rattle.av_refused.proofs.First.{fresh_next, names_all, names_more}
use Rattle.av_refused.proofs.application.names_of_classes.Goals as goal

pub add-requires : goal.add-requires
add-requires c h =
    fresh_next shape_name c.args.shapes.now c.loop-shape.shape-index c.shape-item.result c.requires c.loop-shape-test.true c.shape-item.is
    (subst (λ (l : List (List ℕ)). Contains l c.shape-item.result.name) c.loop-shape.invariant h)

pub loop-shape-preserved : goal.loop-shape-preserved
loop-shape-preserved c =
    names_more shape_name c.args.shapes.now c.loop-shape.shape-index c.shape-item.result c.loop-shape.names c.add.new.self c.loop-shape-test.true c.shape-item.is c.loop-shape.invariant c.in_ok-add.ensures

pub returns : goal.returns
returns c = names_all shape_name c.args.shapes.now c.loop-shape.shape-index c.loop-shape.names c.loop-shape-test.false c.loop-shape.invariant
