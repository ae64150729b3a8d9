use Rattle.std.proofs.Common.{arith}
use Rattle.jv_world.proofs.Marking.{found_few}
use Rattle.jv_world.proofs.Searching.{IsSearch-start, IsSearch-step, IsFound-search, found_below}
use Rattle.jv_world.proofs.closure.Search.find.Goals as goal

pub loop-i-init : goal.loop-i-init
loop-i-init c = IsSearch-start c.args.links.now c.args.class.number _ _ _ _ c.requires.clear c.in_ok-follow.ensures

pub follow-requires-in-loop-i-clause-here : goal.follow-requires-in-loop-i-clause-here
follow-requires-in-loop-i-clause-here c = found_below c.args.links.now c.args.class.number _ _ c.loop-i.i c.index-next.result.now (omega (arith, c.loop-i-test.true, c.len.ensures, c.loop-i.self.found.ok.0)) c.index-next.ensures c.loop-i.invariant

pub loop-i-smaller : goal.loop-i-smaller
loop-i-smaller c =
    let few = found_few _ _ c.loop-i.invariant.marking in
    omega (arith, few, c.in_ok-follow-2.ensures.count, c.loop-i-test.true, c.len.ensures, c.loop-i.self.found.ok.0)

pub loop-i-preserved : goal.loop-i-preserved
loop-i-preserved c =
    IsSearch-step c.args.links.now c.args.class.number _ _ _ _ c.loop-i.i c.index-next.result.now (omega (arith, c.loop-i-test.true, c.len.ensures, c.loop-i.self.found.ok.0)) c.index-next.ensures c.in_ok-follow-2.ensures c.loop-i.invariant

pub returns : goal.returns
returns c = IsFound-search c.args.links.now c.args.class.number _ _ c.loop-i.i (omega (arith, c.loop-i-test.false, c.len.ensures, c.loop-i.self.found.ok.0)) c.loop-i.invariant
