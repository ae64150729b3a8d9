use Rattle.std.proofs.Common.{◌≡◌, length, ap, arith}
use Rattle.std.proofs.lemmas.Bool.{iff_false}
use Rattle.calls_facts.proofs.Entries.{entries_more, entries_same, entries_all, entries_none}
use Rattle.calls_facts.proofs.first.prepared.add_entries.Goals as goal
use Rattle.calls_facts.proofs.first.prepared.add_entries.Goals.{then-is_main+in_ok-add, else-is_main}

pub loop-place-preserved : goal.loop-place-preserved
loop-place-preserved c = elim c.if-is_main.branch [
  | then-is_main+in_ok-add w ↦
      rw w.found-is
      (entries_more c.args.class.now c.as_slice-method-items.result.now c.as_slice-method-items.ensures c.loop-place.place c.method-item.result (omega arith) c.method-item.is _ _ _
      (c.is_main.ensures.0 w.if-is_main.true) c.loop-place.invariant (rw w.own.ensures at w.in_ok-add.ensures))
  | else-is_main w ↦
      rw w.found-is
      (entries_same c.args.class.now c.as_slice-method-items.result.now c.as_slice-method-items.ensures c.loop-place.place c.method-item.result (omega arith) c.method-item.is _ _
      (λ main. iff_false c.is_main.ensures w.if-is_main.false main) c.loop-place.invariant)
]

pub returns : goal.returns
returns c = entries_all c.args.class.now c.loop-place.place _ _ (omega (arith, ap length c.as_slice-method-items.ensures)) c.loop-place.invariant
