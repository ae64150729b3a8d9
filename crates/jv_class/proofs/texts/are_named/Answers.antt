use Rattle.std.proofs.Common.{subst, refl}
use Rattle.std.proofs.lemmas.List.Elements.{All-more}
use Rattle.jv_names.specs.PoolNames.{IsNamedItem}
use Rattle.jv_class.proofs.AllLemmas.{each_passed}
use Rattle.jv_class.proofs.texts.are_named.Goals as goal

pub loop-item-preserved : goal.loop-item-preserved
loop-item-preserved c =
    All-more (IsNamedItem c.args.pool.now) c.items-item-items.result.now c.loop-item.item-index c.item-item.result c.loop-item-test.true c.loop-item.invariant
    (subst (IsNamedItem c.args.pool.now) c.item-item.is (c.if-not-is_named.ensures.0 refl))

pub returns : goal.returns
returns c = rw c.items-item-items.ensures at (each_passed (IsNamedItem c.args.pool.now) c.items-item-items.result.now c.loop-item.item-index c.loop-item-test.false c.loop-item.invariant)
