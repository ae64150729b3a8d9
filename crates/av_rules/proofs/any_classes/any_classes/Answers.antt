use Rattle.av_rules.specs.Steps.Tables.{SaysAny}
use Rattle.av_rules.proofs.Tables.{each_more}
use Rattle.av_rules.proofs.any_classes.any_classes.Goals as goal

pub loop-number-preserved : goal.loop-number-preserved
loop-number-preserved c =
    each_more (SaysAny c.args.world.now) c.loop-number.number c.loop-number.found.items c.push.new.self.items c.in_ok-any.any c.loop-number.invariant c.in_ok-any.ensures c.in_ok-push.ensures.items
