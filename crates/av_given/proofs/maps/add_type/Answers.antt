use Rattle.av_given.proofs.Names.{nothing_named, one_named}
use Rattle.av_given.proofs.maps.add_type.Goals as goal

pub returns-in-None : goal.returns-in-None
returns-in-None c = nothing_named c.args.pool.now c.args.written c.args.texts.items c.in-None.ensures.none

pub returns-in_ok-push-in-Some : goal.returns-in_ok-push-in-Some
returns-in_ok-push-in-Some c =
    one_named c.args.pool.now c.args.written c.args.texts.items _ c.in-Some.text.now c.in-Some.ensures.named (rw c.in_ok-name-in-Some.ensures at c.in_ok-push-in-Some.ensures.items)
