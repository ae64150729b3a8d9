use Rattle.std.proofs.Common.{map-id, rules}
use Rattle.std.proofs.lemmas.Iterator.Adapters.{YieldsList-from_vec}
use Rattle.std.proofs.lemmas.Iterator.Consumers.{YieldsList-end}
use Rattle.av_stages.proofs.giving.files_and_shapes.Goals as goal

pub returns-clause-files : goal.returns-clause-files
returns-clause-files c =
    let end = YieldsList-end (YieldsList-from_vec {s = c.into_iter-class-iterator.result} c.args.classes.items (search rules) (search rules))
    c.loop-class.yielded c.loop-class.class-iterator c.loop-class.yielded_by c.next.result c.next.new.self c.in-None.is c.next.ensures.steps in
    rw (← end.0, map-id) c.loop-class.invariant.0

pub returns-clause-shapes : goal.returns-clause-shapes
returns-clause-shapes c =
    let end = YieldsList-end (YieldsList-from_vec {s = c.into_iter-class-iterator.result} c.args.classes.items (search rules) (search rules))
    c.loop-class.yielded c.loop-class.class-iterator c.loop-class.yielded_by c.next.result c.next.new.self c.in-None.is c.next.ensures.steps in
    rw (← end.0, map-id) c.loop-class.invariant.1
