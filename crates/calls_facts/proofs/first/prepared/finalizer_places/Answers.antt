use Rattle.std.proofs.Common.{◌≡◌, length, ap, arith}
use Rattle.std.proofs.lemmas.Bool.{iff_false}
use Rattle.calls_facts.proofs.Entries.{finalizers_more, finalizers_same, finalizers_all}
use Rattle.calls_facts.proofs.first.prepared.finalizer_places.Goals as goal
use Rattle.calls_facts.proofs.first.prepared.finalizer_places.Goals.{then-is_finalize+in_ok-push, else-is_finalize}

pub loop-place-preserved : goal.loop-place-preserved
loop-place-preserved c = elim c.if-is_finalize.branch [
  | then-is_finalize+in_ok-push w ↦
      finalizers_more c.args.class.now c.as_slice-method-items.result.now c.as_slice-method-items.ensures c.loop-place.place c.method-item.result (omega arith) c.method-item.is
      c.loop-place.places.items c.if-is_finalize.places.items (c.is_finalize.ensures.0 w.if-is_finalize.true) (rw w.places-is w.in_ok-push.ensures.items) c.loop-place.invariant
  | else-is_finalize w ↦
      finalizers_same c.args.class.now c.as_slice-method-items.result.now c.as_slice-method-items.ensures c.loop-place.place c.method-item.result (omega arith) c.method-item.is
      c.loop-place.places.items c.if-is_finalize.places.items (λ final. iff_false c.is_finalize.ensures w.if-is_finalize.false final) (ap (λ v. v.items) w.places-is) c.loop-place.invariant
]

pub returns : goal.returns
returns c = finalizers_all c.args.class.now c.loop-place.place c.loop-place.places.items (omega (arith, ap length c.as_slice-method-items.ensures)) c.loop-place.invariant
