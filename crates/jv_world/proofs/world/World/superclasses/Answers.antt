use Rattle.std.proofs.Common.{ℕ, List, [], length, map, ap, inl, arith, append-nil, subst}
use Rattle.jv_types.specs.declared.ids.ClassId.{ClassId}
use Rattle.jv_world.specs.Worlds.{AreSuperclasses}
use Rattle.jv_world.proofs.Ranking.{AreSupers-kept, count_falls, count_at-read, AreSuperclasses-more}
use Rattle.jv_world.proofs.Subtypes.{IsNamed-below}
use Rattle.jv_world.proofs.world.World.superclasses.Goals as goal

pub prove-unreachable-requires : goal.prove-unreachable-requires
prove-unreachable-requires c =
    let w = c.self.inside.shapes.items in
    let rows = c.self.inside.supers.items in
    let supers = AreSupers-kept w c.self.inside.names rows c.self.inside.members.items c.self.invariant in
    let first = rw (← c.self.view_is) at c.in-Some.ensures.found in
    let falls = count_falls w rows supers c.loop-next.class.number c.in-Some.next.number (inl first) in
    let here = c.loop-next.invariant.here in
    let next_here = IsNamed-below c.args.self.now c.in-Some.next.number c.in-Some.ensures.found.1 c.in-Some.ensures.found.4 in
    let size = ap length c.self.view_is in
    let count = c.self.invariant.supers_count in
    let low = count_at-read rows c.in-Some.next.number c.index.result.now (omega (arith, next_here, size, count)) c.index.ensures in
    let high = count_at-read rows c.loop-next.class.number c.index-in-Some.result.now (omega (arith, here, size, count)) c.index-in-Some.ensures in
    absurd (omega (arith, falls, low, high, c.if-prove.true, c.len.ensures, c.len-in-Some.ensures, c.index.result.now.ok, c.index-in-Some.result.now.ok))

pub loop-next-smaller : goal.loop-next-smaller
loop-next-smaller c =
    let w = c.self.inside.shapes.items in
    let rows = c.self.inside.supers.items in
    let supers = AreSupers-kept w c.self.inside.names rows c.self.inside.members.items c.self.invariant in
    let first = rw (← c.self.view_is) at c.in-Some.ensures.found in
    count_falls w rows supers c.loop-next.class.number c.in-Some.next.number (inl first)

pub loop-next-preserved : goal.loop-next-preserved
loop-next-preserved c = record {
  here = IsNamed-below c.args.self.now c.in-Some.next.number c.in-Some.ensures.found.1 c.in-Some.ensures.found.4;
  joins = AreSuperclasses-more c.args.self.now c.args.c.number c.loop-next.class.number c.loop-next.found.items c.push.new.self.items c.in-Some.next c.in-Some.ensures.found
      c.in_ok-push.ensures.items c.loop-next.invariant.joins;
}

pub returns-clause-chain : goal.returns-clause-chain
returns-clause-chain c =
    let found = map (λ (d : ClassId). d.number) c.loop-next.found.items in
    let P : List ℕ → Type 0 = λ l. AreSuperclasses c.args.self.now c.args.c.number l in
    subst P (append-nil found) (c.loop-next.invariant.joins [] c.in_default.ensures.none)
