use Rattle.std.proofs.Common.{subst, sym}
use Rattle.jv_world.specs.Refusals.{HasCause}
use Rattle.av_hierarchy.specs.Hierarchy.{HaveDistinctMethods}
use Rattle.av_hierarchy.proofs.Passing.{none_absent, passes, refused_final}
use Rattle.av_hierarchy.proofs.whole.whole_world.Goals as goal

pub unreachable-requires : goal.unreachable-requires
unreachable-requires c =
    none_absent c.args.shapes.items c.in-Err-Missing.field-0-0 c.requires.there (subst (HasCause c.args.shapes.items) c.in-Err-Missing.field-0-is c.in-Err-Missing.ensures.refused)

pub least_over_final-requires : goal.least_over_final-requires
least_over_final-requires c = subst HaveDistinctMethods (sym c.in-Ok.ensures.built) c.requires.distinct

pub returns-in-None-clause-passes : goal.returns-in-None-clause-passes
returns-in-None-clause-passes c = passes c.in-Ok.world c.least_over_final.result c.in-Ok.ensures.world c.in-None.is c.least_over_final.ensures

pub returns-in_ok-copy-in-Some-clause-refused : goal.returns-in_ok-copy-in-Some-clause-refused
returns-in_ok-copy-in-Some-clause-refused c =
    refused_final c.args.shapes.items c.in-Ok.world c.least_over_final.result c.in-Some.name c.in_ok-copy-in-Some.field-0 c.in-Ok.ensures.built c.in-Ok.ensures.world c.in-Some.is
    c.in_ok-copy-in-Some.ensures c.least_over_final.ensures
