-- Each turn of the loop is one index.
use Rattle.std.proofs.Common.{◌≡◌, ℕ, ◌+◌, length, ◌∙◌, ap, arith}
use Rattle.std.proofs.lemmas.List.{length_push}
use Rattle.calls_form.specs.ClassesPlaces.{all_texts, target_of}
use Rattle.calls_form.proofs.ClassesPlaces.{table_push, table_done}
use Rattle.calls_form.proofs.class_of_targets.read_targets.Goals as goal

pub loop-index-preserved : goal.loop-index-preserved
loop-index-preserved c = record {
  len = ap length c.in_ok-push.ensures.items ∙ length_push c.loop-index.targets.items c.in_ok-target_at.field-0 ∙ ap (λ (n : ℕ). n + 1) c.loop-index.invariant.len;
  known = λ k lt. rw c.in_ok-push.ensures.items (table_push c.loop-index.targets.items (target_of c.args.pool.now c.args.own.now (all_texts c.args.fields.labels.now) (all_texts c.args.methods.labels.now)) c.loop-index.index c.in_ok-target_at.field-0 c.loop-index.invariant.len c.in_ok-target_at.ensures c.loop-index.invariant.known k lt);
}

pub returns : goal.returns
returns c = λ i lt.
    let all : c.loop-index.index ≡ c.min-count.result = omega (arith, c.loop-index-test.false, c.loop-index.auto.index-end) in
    table_done c.args.pool.now c.args.own.now (all_texts c.args.fields.labels.now) (all_texts c.args.methods.labels.now) c.loop-index.targets.items c.loop-index.index i c.loop-index.invariant.len (all ∙ c.min-count.ensures) lt c.loop-index.invariant.known
