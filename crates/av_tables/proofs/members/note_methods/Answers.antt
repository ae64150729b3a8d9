use Rattle.std.proofs.Common.{◌≡◌, List, Some, length, slice_get, ap, subst, arith}
use Rattle.jv_types.specs.declared.shapes.MethodShape.{MethodShape}
use Rattle.jv_resolve.proofs.PlacesLemmas.{read_at}
use Rattle.av_tables.specs.Steps.{known}
use Rattle.av_tables.proofs.Noting.{first_place, last_place}
use Rattle.av_tables.proofs.members.note_methods.Goals as goal

pub loop-place-init : goal.loop-place-init
loop-place-init c = first_place (known c.args.classes.now) c.args.class c.args.shape.now c.requires.here c.args.rows.now.items c.requires.before

pub note_method-requires-clause-here : goal.note_method-requires-clause-here
note_method-requires-clause-here c = (
  c.args.shape.now,
  c.requires.here,
  subst (λ (l : List MethodShape). slice_get l c.loop-place.place ≡ Some c.index-methods-place.result) c.as_slice-methods.ensures
      (read_at c.as_slice-methods.result.now c.loop-place.place c.index-methods-place.result (omega arith) c.index-methods-place.is),
)

pub returns : goal.returns
returns c =
    let same = ap length c.as_slice-methods.ensures in
    last_place (known c.args.classes.now) c.args.class c.args.shape.now c.requires.here c.loop-place.rows.items c.loop-place.place (omega (arith, same)) c.loop-place.invariant
