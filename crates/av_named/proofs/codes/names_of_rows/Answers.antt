use Rattle.av_named.proofs.Appending.{each_all, each_more, each_none}
use Rattle.av_named.specs.Named.{RowNames}
use Rattle.av_named.proofs.codes.names_of_rows.Goals as goal

pub loop-row-init : goal.loop-row-init
loop-row-init c = each_none RowNames c.args.rows.now c.args.out.now.items

pub loop-row-preserved : goal.loop-row-preserved
loop-row-preserved c =
    each_more RowNames c.args.rows.now c.loop-row.row-index c.row-item.result c.args.out.now.items c.loop-row.out.items c.names_of_arg.new.out.items
    c.loop-row-test.true c.row-item.is c.loop-row.invariant c.in_ok-names_of_arg.ensures

pub returns : goal.returns
returns c = each_all RowNames c.args.rows.now c.loop-row.row-index c.args.out.now.items c.loop-row.out.items c.loop-row-test.false c.loop-row.invariant
