use Rattle.jv_types.specs.declared.ids.ClassId.{ClassId}
use Rattle.av_hierarchy.specs.Steps.Finals.{OverridesFinalOf}
use Rattle.av_hierarchy.proofs.Among.{NoneAmong}
use Rattle.av_hierarchy.proofs.finals.overrides_final.Given as goal

abbrev pub invariant-loop-d : goal.invariant-loop-d
invariant-loop-d l = NoneAmong (λ (d : ClassId). OverridesFinalOf l.world l.m d.number) l.supers l.d-index
