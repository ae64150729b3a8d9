use Rattle.av_named.proofs.Appending.{each_all, each_more, each_none}
use Rattle.av_tables.specs.Steps.{known}
use Rattle.av_round.specs.Seeds.{RowFinds}
use Rattle.av_round.proofs.references.push_members.Goals as goal

pub loop-row-init : goal.loop-row-init
loop-row-init c = each_none (RowFinds c.args.world.now (known c.args.classes.now)) c.args.rows.now c.args.out.now.items

pub loop-row-preserved : goal.loop-row-preserved
loop-row-preserved c =
    each_more (RowFinds c.args.world.now (known c.args.classes.now)) c.args.rows.now c.loop-row.row-index c.row-item.result c.args.out.now.items c.loop-row.out.items c.push_member.new.out.items
    c.loop-row-test.true c.row-item.is c.loop-row.invariant c.in_ok-push_member.ensures

pub returns : goal.returns
returns c = each_all (RowFinds c.args.world.now (known c.args.classes.now)) c.args.rows.now c.loop-row.row-index c.args.out.now.items c.loop-row.out.items c.loop-row-test.false c.loop-row.invariant
