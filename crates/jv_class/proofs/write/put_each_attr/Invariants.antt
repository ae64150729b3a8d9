-- What was passed is written, and fits.
use Rattle.std.proofs.Common.{◌≡◌, ◌++◌, take}
use Rattle.std.specs.List.{flat_map, AllByRecursion}
use Rattle.jv_attr.specs.AttrText.{attr_text}
use Rattle.jv_class.specs.Steps.PartWriting.{AttrFits}
use Rattle.jv_class.proofs.write.put_each_attr.Given as goal

abbrev pub invariant-loop-attr : goal.invariant-loop-attr
invariant-loop-attr l =
    AllByRecursion AttrFits (take l.attr-index l.attrs) × (l.writer ≡ l.fn.writer ++ flat_map attr_text (take l.attr-index l.attrs))
