use Rattle.std.proofs.Common.{◌≡◌, ◌↔◌, IsTrue, true, false, refl}
use Rattle.av_refused.proofs.First.{not_there}
use Rattle.av_refused.proofs.Marks.{MarkAt, mark_here, no_mark, no_mark_more, starts_at}
use Rattle.av_refused.proofs.unfit.has_mark.Goals as goal

pub returns-then-starts_with : goal.returns-then-starts_with
returns-then-starts_with c =
    let at : IsTrue c.starts_with.result ↔ MarkAt c.args.name.now c.loop-start.start = starts_at c.args.name.now c.loop-start.start c.as_slice.result.now c.starts_with.result c.as_slice.ensures c.starts_with.ensures.value in
    (λ t. mark_here c.args.name.now c.loop-start.start (at.0 c.if-starts_with.true), λ m. refl)

pub loop-start-preserved : goal.loop-start-preserved
loop-start-preserved c =
    let at : IsTrue c.starts_with.result ↔ MarkAt c.args.name.now c.loop-start.start = starts_at c.args.name.now c.loop-start.start c.as_slice.result.now c.starts_with.result c.as_slice.ensures c.starts_with.ensures.value in
    no_mark_more c.args.name.now c.loop-start.start c.loop-start.invariant (not_there c.starts_with.result (MarkAt c.args.name.now c.loop-start.start) at c.if-starts_with.false)

pub returns : goal.returns
returns c = (
  λ (t : false ≡ true). absurd cc,
  λ m. absurd (no_mark c.args.name.now c.loop-start.start c.loop-start-test.false c.loop-start.invariant m),
)
