use Rattle.av_reduced.proofs.Picked.{push_past, push_there}
use Rattle.av_reduced.proofs.picking.push_at.Goals as goal

pub returns-in-None : goal.returns-in-None
returns-in-None g c = push_past c.args.picked.now.items c.args.all.now c.args.place c.in-None.ensures.lookup.3

pub returns-in_ok-push-in-Some : goal.returns-in_ok-push-in-Some
returns-in_ok-push-in-Some g c =
    push_there c.args.picked.now.items c.push.new.self.items c.args.all.now c.args.place c.in-Some.element.now c.in_ok-copy-in-Some.field-0 c.in-Some.ensures.lookup.3.0 c.in-Some.ensures.lookup.1
    c.in_ok-copy-in-Some.ensures c.in_ok-push-in-Some.ensures.items
