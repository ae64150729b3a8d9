use Rattle.std.proofs.Common.{length, refl, arith}
use Rattle.std.proofs.lemmas.Option.{slice_get_read}
use Rattle.measure.proofs.members.in_world.Goals as goal

pub returns : goal.returns
returns c =
    let shapes = c.shapes-shapes.result.now in
    let methods = c.as_slice-methods.result.now in
    let shape = c.index-shapes-class.result in
    let m = c.index-methods-place.result in (
      m,
      (
        shape,
        rw (← c.shapes-shapes.ensures.shapes) (slice_get_read shapes (length shapes) c.args.m.class.number shape refl (omega arith) c.index-shapes-class.is),
        rw (← c.as_slice-methods.ensures, ← c.from-place.ensures) (slice_get_read methods (length methods) c.from-place.result m refl (omega arith) c.index-methods-place.is),
      ),
    )
