use Rattle.av_method_rules.proofs.Next.{all_past, class_at, has_member, index_fits, number_fits}
use Rattle.av_method_rules.proofs.Until.{until_class}
use Rattle.av_method_rules.proofs.accepting.accept_class.Goals as goal

pub overflow_cast-id : goal.overflow_cast-id
overflow_cast-id c = record { fits = number_fits c.args.world.now c.args.classes.now c.args.number c.requires.files c.shapes-shapes.ensures.world c.requires.here }

pub overflow_cast-id-in-loop-index : goal.overflow_cast-id-in-loop-index
overflow_cast-id-in-loop-index c =
    record { fits = index_fits c.args.world.now c.args.classes.now c.args.number c.loop-index.index c.len-count.result c.index-classes-number.result c.requires.files c.requires.here c.index-classes-number.is c.len-count.ensures c.loop-index-test.true }

pub accept_next-requires-clause-here : goal.accept_next-requires-clause-here
accept_next-requires-clause-here c =
    has_member c.args.classes.now c.args.number c.loop-index.index c.len-count.result c.index-classes-number.result c.requires.here c.index-classes-number.is c.len-count.ensures c.loop-index-test.true

pub returns-clause-accepted : goal.returns-clause-accepted
returns-clause-accepted c =
    until_class c.args.world.now c.args.classes.now c.args.number c.loop-index.index c.index-classes-number.result c.loop-index.methods.items
    (class_at c.args.classes.now c.args.number c.index-classes-number.result c.requires.here c.index-classes-number.is) (all_past c.args.classes.now c.args.number c.loop-index.index c.len-count.result c.index-classes-number.result c.index-classes-number.is c.len-count.ensures c.loop-index-test.false) c.loop-index.invariant
