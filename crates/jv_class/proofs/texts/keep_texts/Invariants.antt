-- What is kept so far is that of the items so far.
use Rattle.std.proofs.Common.{take}
use Rattle.std.specs.List.{AllZip}
use Rattle.jv_class.specs.Steps.Kinds.{IsKeptOf}
use Rattle.jv_class.proofs.texts.keep_texts.Given as goal

abbrev pub invariant-loop-item : goal.invariant-loop-item
invariant-loop-item l = AllZip IsKeptOf (take l.item-index l.item-items) l.kept.items
