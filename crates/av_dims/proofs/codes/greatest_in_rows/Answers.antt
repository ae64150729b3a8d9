use Rattle.std.proofs.Common.{refl}
use Rattle.av_dims.specs.Greatest.{RowDims}
use Rattle.av_dims.proofs.Most.{each_all, each_more, each_none, small_at}
use Rattle.av_dims.proofs.codes.greatest_in_rows.Goals as goal

pub loop-row-init : goal.loop-row-init
loop-row-init c = each_none RowDims c.args.rows.now

pub greatest_in_insn-requires : goal.greatest_in_insn-requires
greatest_in_insn-requires c = small_at RowDims c.args.rows.now c.loop-row.row-index c.row-item.result c.loop-row-test.true c.row-item.is c.requires

pub loop-row-preserved : goal.loop-row-preserved
loop-row-preserved c =
    each_more RowDims c.args.rows.now c.loop-row.row-index c.row-item.result c.loop-row.dims c.greatest_in_insn.result c.greater-dims.result c.loop-row-test.true c.row-item.is c.loop-row.invariant
    c.greatest_in_insn.ensures c.greater-dims.ensures.left c.greater-dims.ensures.right c.greater-dims.ensures.one

pub returns : goal.returns
returns c = each_all RowDims c.args.rows.now c.loop-row.row-index c.loop-row.dims c.loop-row-test.false c.loop-row.invariant
