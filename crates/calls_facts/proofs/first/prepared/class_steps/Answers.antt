use Rattle.std.proofs.Common.{◌≡◌, length, ap, ◌∙◌, sym, arith}
use Rattle.calls_facts.proofs.Entries.{method_at}
use Rattle.calls_facts.proofs.Depth.{pushed_count, low_depths, rows_more, rows_all}
use Rattle.calls_facts.proofs.first.prepared.class_steps.Goals as goal

pub code_steps-requires : goal.code_steps-requires
code_steps-requires c =
    rw c.as_slice.ensures
    (low_depths c.args.class.now c.requires c.loop-method.method-index c.method-item.result
    (method_at c.args.class.now c.as_slice-method-items.result.now c.as_slice-method-items.ensures c.loop-method.method-index c.method-item.result c.loop-method-test.true c.method-item.is))

pub loop-method-preserved : goal.loop-method-preserved
loop-method-preserved c = record {
  count = pushed_count _ _ _ _ c.in_ok-push.ensures.items c.loop-method.invariant.count;
  each =
      rows_more c.args.class.now c.loop-method.method-index c.method-item.result c.loop-method.rows.items c.push.new.self.items _
      (method_at c.args.class.now c.as_slice-method-items.result.now c.as_slice-method-items.ensures c.loop-method.method-index c.method-item.result c.loop-method-test.true c.method-item.is)
      c.loop-method.invariant.count c.in_ok-push.ensures.items (rw c.from_vec.ensures (rw c.as_slice.ensures at c.in_ok-row.ensures)) c.loop-method.invariant.each;
}

pub returns : goal.returns
returns c =
    rows_all c.args.class.now c.loop-method.method-index c.loop-method.rows.items (omega (arith, ap length c.as_slice-method-items.ensures, c.loop-method-test.false))
    (omega (arith, ap length c.as_slice-method-items.ensures, c.loop-method.auto.method-index-end)) c.loop-method.invariant.count c.loop-method.invariant.each
