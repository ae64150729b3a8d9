-- What was passed is written.
use Rattle.std.proofs.Common.{◌≡◌, ◌++◌, take}
use Rattle.std.specs.List.{flat_map}
use Rattle.jv_attr.specs.FrameText.{type_text}
use Rattle.jv_attr.proofs.write.put_types.Given as goal

abbrev pub invariant-loop-item : goal.invariant-loop-item
invariant-loop-item l =
    (l.writer ≡ l.fn.writer ++ flat_map type_text (take l.item-index l.types))
