use Rattle.std.proofs.Common.{subst, refl}
use Rattle.std.proofs.lemmas.List.Elements.{All-more}
use Rattle.jv_attr.specs.AttrText.{HasFew}
use Rattle.jv_class.proofs.AllLemmas.{each_passed}
use Rattle.jv_class.proofs.counts.each_attr_few.Goals as goal

pub loop-attr-preserved : goal.loop-attr-preserved
loop-attr-preserved c =
    All-more HasFew c.args.attrs.now c.loop-attr.attr-index c.attr-item.result c.loop-attr-test.true c.loop-attr.invariant
    (subst HasFew c.attr-item.is (c.if-not-has_few.ensures.0 refl))

pub returns : goal.returns
returns c = each_passed HasFew c.args.attrs.now c.loop-attr.attr-index c.loop-attr-test.false c.loop-attr.invariant
