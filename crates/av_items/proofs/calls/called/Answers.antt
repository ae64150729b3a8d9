use Rattle.std.proofs.Common.{◌∷◌, [], rules}
use Rattle.jv_types.specs.declared.frames.VType as types
use Rattle.std.specs.Prelude.{map}
use Rattle.jv_frames.specs.Types.{desc_vtype}
use Rattle.av_standin_of.specs.Codes.{values_of}
use Rattle.av_standin_of.specs.Items.{call_insn}
use Rattle.av_items.specs.Steps.{bare}
use Rattle.av_items.proofs.Joined.{then_more}
use Rattle.av_items.proofs.calls.called.Goals as goal

pub returns : goal.returns
returns c =
    let callee = c.args.callee.now in
    then_more c.bare.result c.args.builder c.in_ok-builder.builder (values_of 0 [] (types.Class callee.class ∷ []) callee.desc.params)
    (bare c.as_slice-3.result.now c.in_ok-call.call ∷ [])
    (bare (types.Class callee.class ∷ map desc_vtype callee.desc.params) (call_insn callee.interface callee.class callee.name callee.desc) ∷ [])
    (search rules) c.bare.ensures (search rules)
