-- What was passed is written, and fits.
use Rattle.std.proofs.Common.{◌≡◌, ◌++◌, take}
use Rattle.std.specs.List.{flat_map, AllByRecursion}
use Rattle.jv_attr.specs.AttrText.{inner_text, IsInnerFew, IsInnerShort}
use Rattle.jv_attr.proofs.write.put_inners.Given as goal

abbrev pub invariant-loop-attr : goal.invariant-loop-attr
invariant-loop-attr l =
    AllByRecursion (λ a. IsInnerFew a × IsInnerShort a) (take l.attr-index l.attrs) × (l.writer ≡ l.fn.writer ++ flat_map inner_text (take l.attr-index l.attrs))
