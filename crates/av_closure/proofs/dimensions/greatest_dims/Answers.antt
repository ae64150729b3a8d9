use Rattle.std.proofs.Common.{ℕ, ◌⊎◌}
use Rattle.av_dims.specs.Greatest.{BodyDims, OfSome, ShapeDims, TextDims}
use Rattle.av_closure.proofs.DimLemmas.{greatest_either, small_bodies, small_shapes, small_texts}
use Rattle.av_closure.proofs.dimensions.greatest_dims.Goals as goal

pub greatest_in_shapes-own-requires : goal.greatest_in_shapes-own-requires
greatest_in_shapes-own-requires c = small_shapes (record { shapes = c.args.app.now; maps = c.args.maps.now; bodies = c.args.bodies.now }) c.requires.given

pub greatest_in_bodies-codes-requires : goal.greatest_in_bodies-codes-requires
greatest_in_bodies-codes-requires c = small_bodies (record { shapes = c.args.app.now; maps = c.args.maps.now; bodies = c.args.bodies.now }) c.requires.given

pub greatest_in_texts-requires : goal.greatest_in_texts-requires
greatest_in_texts-requires c = small_texts (record { shapes = c.args.app.now; maps = c.args.maps.now; bodies = c.args.bodies.now }) c.requires.given

pub returns : goal.returns
returns c =
    let own : ℕ → Type 0 = OfSome ShapeDims c.args.app.now in
    let collected : ℕ → Type 0 = OfSome ShapeDims c.args.reduced.now in
    let codes : ℕ → Type 0 = OfSome BodyDims c.args.bodies.now in
    let texts : ℕ → Type 0 = OfSome TextDims c.args.maps.now in
    greatest_either (λ dims. own dims ⊎ collected dims) (λ dims. codes dims ⊎ texts dims) c.greater-shapes.result c.greater-spoken.result c.greater.result
    (greatest_either own collected c.greatest_in_shapes-own.result c.greatest_in_shapes-collected.result c.greater-shapes.result c.greatest_in_shapes-own.ensures c.greatest_in_shapes-collected.ensures
    c.greater-shapes.ensures.left c.greater-shapes.ensures.right c.greater-shapes.ensures.one)
    (greatest_either codes texts c.greatest_in_bodies-codes.result c.in_ok-texts.texts c.greater-spoken.result c.greatest_in_bodies-codes.ensures c.in_ok-texts.ensures
    c.greater-spoken.ensures.left c.greater-spoken.ensures.right c.greater-spoken.ensures.one)
    c.greater.ensures.left c.greater.ensures.right c.greater.ensures.one
