-- The instructions rise.
use Rattle.std.proofs.Common.{ap, ◌∙◌}
use Rattle.av_asm.specs.Planning.{starts_from}
use Rattle.av_asm.proofs.Offsets.{built_rise}
use Rattle.av_asm.proofs.builder.CodeBuilder.framed.Goals as goal

pub invariant_of-body : goal.invariant_of-body
invariant_of-body c = record {
  rising =
      built_rise c.self.inside.steps.items c.from_vec.result c.in_ok-insns.insns.items c.in_ok-starts.starts.items c.deref-3.result.now c.from_vec.ensures c.in_ok-insns.ensures c.deref-3.ensures.value
      (c.in_ok-starts.ensures.starts ∙ ap (starts_from 0) c.as_slice.ensures.value);
}
