use Rattle.jv_resolve.proofs.Tests.{never}
use Rattle.av_rules.specs.Labels.{PassesFlat}
use Rattle.av_rules.specs.Steps.Programs.{program_of}
use Rattle.av_rules.proofs.Here.{type_here}
use Rattle.av_rules.proofs.Passing.{passes_by}
use Rattle.av_rules.proofs.given.Given.passes_flat.Goals as goal

pub returns-in-None : goal.returns-in-None
returns-in-None c = never (PassesFlat (program_of c.args.self.now) c.args.label c.args.of) (λ x. c.in-None.ensures.none x.made x.typed)

pub is_instance_in_dims-requires-clause-base_here : goal.is_instance_in_dims-requires-clause-base_here
is_instance_in_dims-requires-clause-base_here c = type_here (program_of c.args.self.now) c.args.label c.in-Some.made c.in-Some.ensures.found

pub returns-in-Some : goal.returns-in-Some
returns-in-Some c =
    passes_by (program_of c.args.self.now) c.args.label c.in-Some.made c.args.of c.is_instance_in_dims.result c.requires.kept.world.numbered
    c.requires.kept.analysable.conditions.distinct c.in-Some.ensures.found c.is_instance_in_dims.ensures
