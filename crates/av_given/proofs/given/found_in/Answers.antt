use Rattle.std.proofs.Common.{[], length, refl}
use Rattle.std.proofs.lemmas.Option.{slice_get_read}
use Rattle.av_given.specs.Steps.Parts.{ClassHasBody, ClassNames}
use Rattle.av_given.proofs.Adding.{loop_all, loop_more, loop_start}
use Rattle.av_given.proofs.Wholes.{contained}
use Rattle.av_given.proofs.given.found_in.Goals as goal

pub loop-class-init : goal.loop-class-init
loop-class-init c = (
  rw c.new-maps.ensures.items (loop_start (λ place. ClassNames) c.args.classes.now []),
  rw c.new-bodies.ensures.items (loop_start (λ place. ClassHasBody) c.args.classes.now []),
)

pub add_class-requires : goal.add_class-requires
add_class-requires c =
    c.requires.texts c.class-item.result
    (contained c.args.classes.now c.loop-class.class-index c.class-item.result
    (slice_get_read c.args.classes.now (length c.args.classes.now) c.loop-class.class-index c.class-item.result refl c.loop-class-test.true c.class-item.is))

pub loop-class-preserved : goal.loop-class-preserved
loop-class-preserved c =
    let at = slice_get_read c.args.classes.now (length c.args.classes.now) c.loop-class.class-index c.class-item.result refl c.loop-class-test.true c.class-item.is in (
      loop_more (λ place. ClassNames) c.args.classes.now c.loop-class.class-index c.class-item.result [] c.loop-class.found.maps.items c.in_ok-next.next.maps.items at c.loop-class.invariant.0 c.in_ok-next.ensures.maps,
      loop_more (λ place. ClassHasBody) c.args.classes.now c.loop-class.class-index c.class-item.result [] c.loop-class.found.bodies.items c.in_ok-next.next.bodies.items at c.loop-class.invariant.1 c.in_ok-next.ensures.bodies,
    )

pub returns-clause-maps : goal.returns-clause-maps
returns-clause-maps c = loop_all (λ place. ClassNames) c.args.classes.now c.loop-class.class-index [] c.loop-class.found.maps.items c.loop-class-test.false c.loop-class.invariant.0

pub returns-clause-bodies : goal.returns-clause-bodies
returns-clause-bodies c = loop_all (λ place. ClassHasBody) c.args.classes.now c.loop-class.class-index [] c.loop-class.found.bodies.items c.loop-class-test.false c.loop-class.invariant.1
