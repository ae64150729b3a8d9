-- What was passed is written.
use Rattle.std.proofs.Common.{◌≡◌, ◌++◌, take}
use Rattle.std.specs.List.{flat_map}
use Rattle.jv_attr.specs.AttrText.{handler_text}
use Rattle.jv_attr.proofs.write.put_handlers.Given as goal

abbrev pub invariant-loop-handler : goal.invariant-loop-handler
invariant-loop-handler l =
    (l.writer ≡ l.fn.writer ++ flat_map handler_text (take l.handler-index l.handlers))
