use Rattle.std.proofs.Common.{ℕ, List, subst}
use Rattle.jv_types.specs.declared.instruction.Insn.{Insn}
use Rattle.av_dims.specs.Greatest.{BodyDims, IsGreatest, OfSome, RowDims}
use Rattle.av_dims.proofs.Most.{each_all, each_more, each_none, small_at}
use Rattle.av_dims.proofs.codes.greatest_in_bodies.Goals as goal

pub loop-method-init : goal.loop-method-init
loop-method-init c = each_none BodyDims c.args.bodies.now

pub greatest_in_rows-requires : goal.greatest_in_rows-requires
greatest_in_rows-requires c dims h =
    small_at BodyDims c.args.bodies.now c.loop-method.method-index c.method-item.result c.loop-method-test.true c.method-item.is c.requires dims
    (subst (λ (l : List (ℕ × Insn)). OfSome RowDims l dims) c.as_slice.ensures h)

pub loop-method-preserved : goal.loop-method-preserved
loop-method-preserved c =
    each_more BodyDims c.args.bodies.now c.loop-method.method-index c.method-item.result c.loop-method.dims c.greatest_in_rows.result c.greater-dims.result c.loop-method-test.true c.method-item.is c.loop-method.invariant
    (subst (λ (l : List (ℕ × Insn)). IsGreatest (OfSome RowDims l) c.greatest_in_rows.result) c.as_slice.ensures c.greatest_in_rows.ensures) c.greater-dims.ensures.left c.greater-dims.ensures.right c.greater-dims.ensures.one

pub returns : goal.returns
returns c = each_all BodyDims c.args.bodies.now c.loop-method.method-index c.loop-method.dims c.loop-method-test.false c.loop-method.invariant
