-- Those so far fit.
use Rattle.std.proofs.Common.{take, All}
use Rattle.jv_attr.specs.AttrText.{HasFew}
use Rattle.jv_class.proofs.counts.each_attr_few.Given as goal

abbrev pub invariant-loop-attr : goal.invariant-loop-attr
invariant-loop-attr l = All HasFew (take l.attr-index l.attrs)
