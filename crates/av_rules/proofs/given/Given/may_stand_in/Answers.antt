use Rattle.jv_resolve.proofs.Tests.{never}
use Rattle.av_rules.specs.Labels.{MayStandIn}
use Rattle.av_rules.specs.Steps.Programs.{program_of}
use Rattle.av_rules.proofs.BoundsLemmas.{bound_here, stands_by}
use Rattle.av_rules.proofs.given.Given.may_stand_in.Goals as goal

pub returns-in-None : goal.returns-in-None
returns-in-None c = never (MayStandIn (program_of c.args.self.now) c.args.item c.args.array) (λ x. c.in-None.ensures.none x.0 x.1)

pub passes_flat-requires-clause-here : goal.passes_flat-requires-clause-here
passes_flat-requires-clause-here c = bound_here (program_of c.args.self.now) c.args.array c.in-Some.bound c.in-Some.ensures.found

pub returns-in-Some : goal.returns-in-Some
returns-in-Some c =
    stands_by (program_of c.args.self.now) c.args.item c.args.array c.in-Some.bound c.passes_flat.result c.requires.kept.world.numbered
    c.requires.kept.analysable.conditions.distinct c.in-Some.ensures.found c.passes_flat.ensures
