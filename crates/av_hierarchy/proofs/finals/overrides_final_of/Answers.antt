use Rattle.jv_resolve.proofs.Tests.{never}
use Rattle.av_hierarchy.specs.Steps.Finals.{OverridesFinalOf}
use Rattle.av_hierarchy.proofs.Finding.{none_declared, of_declared}
use Rattle.av_hierarchy.proofs.finals.overrides_final_of.Goals as goal

pub returns-in-None : goal.returns-in-None
returns-in-None c =
    never (OverridesFinalOf c.args.world.now c.args.m c.args.d.number)
    (none_declared c.args.world.now c.args.m c.args.d.number c.method_shape-method.result.now c.requires.distinct c.method_shape-method.ensures c.in-None.ensures.none)

pub returns-in-Some : goal.returns-in-Some
returns-in-Some c =
    of_declared c.args.world.now c.args.m c.in-Some.other c.args.d c.method_shape-method.result.now c.overrides_it.result c.requires.distinct c.method_shape-method.ensures
    c.in-Some.ensures.found.0 c.in-Some.ensures.found.1 c.overrides_it.ensures
