use Rattle.std.proofs.Common.{◌≡◌, ℕ, List, Option, Some, subst}
use Rattle.av_named.specs.Appending.{Appends}
use Rattle.av_named.specs.Named.{HandlerNames}
use Rattle.av_named.proofs.Appending.{each_all, each_more, each_none}
use Rattle.av_named.proofs.codes.names_of_handlers.Goals as goal

pub loop-handler-init : goal.loop-handler-init
loop-handler-init c = each_none HandlerNames c.args.handlers.now c.args.out.now.items

pub loop-handler-preserved : goal.loop-handler-preserved
loop-handler-preserved c =
    each_more HandlerNames c.args.handlers.now c.loop-handler.handler-index c.handler-item.result c.args.out.now.items c.loop-handler.out.items c.push_some.new.out.items
    c.loop-handler-test.true c.handler-item.is c.loop-handler.invariant
    (subst (λ (o : Option (List ℕ)). Appends (λ (each : List ℕ). o ≡ Some each) c.loop-handler.out.items c.push_some.new.out.items) c.as_ref.ensures.value c.in_ok-push_some.ensures)

pub returns : goal.returns
returns c = each_all HandlerNames c.args.handlers.now c.loop-handler.handler-index c.args.out.now.items c.loop-handler.out.items c.loop-handler-test.false c.loop-handler.invariant
