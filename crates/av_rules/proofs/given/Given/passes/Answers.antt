use Rattle.jv_resolve.proofs.Tests.{never}
use Rattle.av_rules.specs.Labels.{Passes}
use Rattle.av_rules.specs.Steps.Programs.{program_of}
use Rattle.av_rules.proofs.Here.{flat_here}
use Rattle.av_rules.proofs.Passing.{passes_type_by}
use Rattle.av_rules.proofs.given.Given.passes.Goals as goal

pub returns-in-None : goal.returns-in-None
returns-in-None c = never (Passes (program_of c.args.self.now) c.args.label c.args.of.now) (λ x. c.in-None.ensures.none x.0 x.1)

pub passes_flat-requires-clause-here : goal.passes_flat-requires-clause-here
passes_flat-requires-clause-here c = flat_here c.args.self.now.world.now c.args.of.now c.in-Some.flat c.in-Some.ensures.found

pub returns-in-Some : goal.returns-in-Some
returns-in-Some c =
    passes_type_by (program_of c.args.self.now) c.args.label c.args.of.now c.in-Some.flat c.passes_flat.result c.in-Some.ensures.found c.in-Some.ensures.one c.passes_flat.ensures
