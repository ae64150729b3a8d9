-- Each name is looked at.
use Rattle.std.proofs.Common.{ℕ, List}
use Rattle.jv_world.specs.Worlds.{IsNamed}
use Rattle.jv_resolve.specs.DepthFirst.{LeadsUpTo}
use Rattle.jv_resolve.specs.Steps.Targets.{IsTarget}
use Rattle.jv_resolve.proofs.PlacesLemmas.{read_at, each_more, within_all}
use Rattle.jv_resolve.proofs.depth_first.leading_of.Goals as goal

pub returns-in-Some-clause-found : goal.returns-in-Some-clause-found
returns-in-Some-clause-found c = record {
  place = c.loop-name.name-index;
  name = c.name-item.result;
  at_place = read_at c.args.names.now c.loop-name.name-index c.name-item.result c.loop-name-test.true c.name-item.is;
  named = c.in-Some.ensures.found.0;
  leads = c.in-Some.ensures.found.1;
  before = c.loop-name.invariant;
}

pub loop-name-preserved : goal.loop-name-preserved
loop-name-preserved c = λ k other e lt got.
    each_more (λ (name : List ℕ). (e : ℕ) → IsNamed c.args.world.now e name → LeadsUpTo c.args.world.now (IsTarget c.args.targets.now) e → ⊥) c.args.names.now c.loop-name.name-index c.name-item.result
    (read_at c.args.names.now c.loop-name.name-index c.name-item.result c.loop-name-test.true c.name-item.is) c.in_default.ensures.none
    (λ k other below got e. c.loop-name.invariant k other e below got) k other lt got e

pub returns-clause-none : goal.returns-clause-none
returns-clause-none c = λ k name d got. c.loop-name.invariant k name d (within_all c.args.names.now k c.loop-name.name-index name c.loop-name-test.false got) got
