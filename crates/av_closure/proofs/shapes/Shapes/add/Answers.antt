use Rattle.av_closure.proofs.ClassLemmas.{class_of}
use Rattle.av_closure.proofs.shapes.Shapes.add.Goals as goal

pub unreachable-requires : goal.unreachable-requires
unreachable-requires c = c.in-None.ensures.none c.requires.there.0 c.requires.there.1

pub returns : goal.returns
returns c = (
  c.in_ok-full-in-Some.full,
  c.in_ok-only-in-Some.only,
  c.in_ok-push-in-Some.ensures.items,
  c.in_ok-push-in-Some-2.ensures.items,
  class_of c.args.files.now c.args.class.now c.in-Some.shape.now c.in_ok-full-in-Some.full c.in_ok-only-in-Some.only c.as_slice.result.now c.as_slice-in-Some.result.now
      c.in-Some.ensures.found c.in_ok-full-in-Some.ensures c.as_slice.ensures c.as_slice-in-Some.ensures c.in_ok-only-in-Some.ensures,
)
