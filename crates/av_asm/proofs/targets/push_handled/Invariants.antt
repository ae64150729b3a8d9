use Rattle.std.proofs.Common.{◌≡◌, ◌++◌, map, take}
use Rattle.jv_types.specs.declared.body.Handler.{Handler}
use Rattle.av_asm.proofs.targets.push_handled.Given as goal

abbrev pub invariant-loop-handler : goal.invariant-loop-handler
invariant-loop-handler l = l.targets.items ≡ l.fn.targets.items ++ map (λ (handler : Handler). handler.target) (take l.handler-index l.handlers)
