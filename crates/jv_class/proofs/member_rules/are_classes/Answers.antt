use Rattle.std.proofs.Common.{refl}
use Rattle.std.proofs.lemmas.List.Elements.{All-more}
use Rattle.jv_names.specs.PoolNames.{HasClassName}
use Rattle.jv_class.proofs.AllLemmas.{each_passed}
use Rattle.jv_class.proofs.member_rules.are_classes.Goals as goal

pub loop-index-preserved : goal.loop-index-preserved
loop-index-preserved c =
    All-more (HasClassName c.args.pool.now) c.args.indices.now c.loop-index.index-index 0 c.loop-index-test.true c.loop-index.invariant
    (c.if-not-names_class.ensures.0 refl)

pub returns : goal.returns
returns c = each_passed (HasClassName c.args.pool.now) c.args.indices.now c.loop-index.index-index c.loop-index-test.false c.loop-index.invariant
