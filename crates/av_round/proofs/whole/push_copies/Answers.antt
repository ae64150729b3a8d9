use Rattle.std.proofs.Common.{[], ◌∷◌, ◌++◌, ap, ◌∙◌}
use Rattle.jv_types.specs.declared.shapes.Shape.{Shape}
use Rattle.av_named.proofs.Appending.{all_all, all_more, all_none, appends_one}
use Rattle.av_round.proofs.whole.push_copies.Goals as goal

pub loop-shape-init : goal.loop-shape-init
loop-shape-init c = all_none c.args.shapes.now c.args.out.now.items

pub loop-shape-preserved : goal.loop-shape-preserved
loop-shape-preserved c =
    all_more c.args.shapes.now c.loop-shape.shape-index c.shape-item.result c.args.out.now.items c.loop-shape.out.items c.push.new.self.items
    c.loop-shape-test.true c.shape-item.is c.loop-shape.invariant
    (appends_one c.shape-item.result c.loop-shape.out.items c.push.new.self.items (c.in_ok-push.ensures.items ∙ ap (λ (s : Shape). c.loop-shape.out.items ++ s ∷ []) c.in_ok-copy.ensures))

pub returns : goal.returns
returns c = all_all c.args.shapes.now c.loop-shape.shape-index c.args.out.now.items c.loop-shape.out.items c.loop-shape-test.false c.loop-shape.invariant
