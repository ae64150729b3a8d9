-- Each of the methods is looked at.
use Rattle.std.proofs.Common.{◌≡◌, get_or}
use Rattle.std.proofs.lemmas.List.Elements.{Contains-get_or}
use Rattle.jv_types.specs.declared.ids.MethodId.{MethodId}
use Rattle.jv_resolve.specs.Steps.Among.{IsDefaultAmong}
use Rattle.std.specs.Prelude.{Contains}
use Rattle.jv_resolve.proofs.MembersLemmas.{no_method}
use Rattle.jv_resolve.proofs.PlacesLemmas.{each_next, each_among}
use Rattle.jv_resolve.proofs.Tests.{denied, never, yes}
use Rattle.jv_resolve.proofs.superinterfaces.is_only_default.Goals as goal

pub returns-then-not-agrees : goal.returns-then-not-agrees
returns-then-not-agrees c =
    let other = get_or c.args.methods.now c.loop-other.other-index no_method in
    never ((other : MethodId) → Contains c.args.methods.now other → IsDefaultAmong c.args.world.now c.args.methods.now other → other ≡ c.args.m)
    (λ p. denied c.agrees.result c.if-not-agrees.true c.agrees.ensures.1 (p other (Contains-get_or c.args.methods.now c.loop-other.other-index no_method c.loop-other-test.true)))

pub loop-other-preserved : goal.loop-other-preserved
loop-other-preserved c =
    each_next (λ (x : MethodId). IsDefaultAmong c.args.world.now c.args.methods.now x → x ≡ c.args.m) c.args.methods.now c.loop-other.other-index no_method c.loop-other-test.true
    (c.agrees.ensures.0 c.if-not-agrees.false) c.loop-other.invariant

pub returns : goal.returns
returns c = yes ((other : MethodId) → Contains c.args.methods.now other → IsDefaultAmong c.args.world.now c.args.methods.now other → other ≡ c.args.m)
    (λ other among. each_among (λ (x : MethodId). IsDefaultAmong c.args.world.now c.args.methods.now x → x ≡ c.args.m) c.args.methods.now c.loop-other.other-index other
    c.loop-other-test.false c.loop-other.invariant among)
