use Rattle.std.proofs.Common.{sym}
use Rattle.av_collected.proofs.Lists.{at_place}
use Rattle.tests_collect.proofs.GivenLemmas.{method_of}
use Rattle.tests_collect.proofs.given.has_method.Goals as goal

pub returns-in-Some-get : goal.returns-in-Some-get
returns-in-Some-get c = λ yes.
    let there = c.in-Some-get.ensures.lookup in
    let declared = c.in-Some-get.field-0.now in
    method_of c.args.shapes.now c.args.method.now c.in-Some.shape.now declared c.as_slice.result.now c.from.result (sym (c.in-Some.ensures {u = tt})) c.as_slice.ensures c.from.ensures
    (at_place c.as_slice.result.now declared (c.from.result, there.3.0, sym there.1))
