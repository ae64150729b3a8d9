use Rattle.std.proofs.Common.{subst}
use Rattle.std.proofs.lemmas.List.Elements.{All-more}
use Rattle.jv_frames.specs.Maps.{IsMade}
use Rattle.jv_frames.proofs.map_frames.are_made.Goals as goal

pub loop-of-preserved : goal.loop-of-preserved
loop-of-preserved c =
    All-more (IsMade c.args.body.now.insns) c.args.types.now c.loop-of.of-index c.of-item.result c.loop-of-test.true c.loop-of.invariant
    (subst (IsMade c.args.body.now.insns) c.of-item.is (c.is_made.ensures.0 c.if-not-is_made.false))
