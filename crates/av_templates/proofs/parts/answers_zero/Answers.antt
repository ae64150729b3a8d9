use Rattle.std.proofs.Common.{◌∷◌, [], rules}
use Rattle.jv_types.specs.declared.desc.Desc.TheVariants as descs
use Rattle.jv_frames.specs.Types.{desc_vtype}
use Rattle.av_standin_of.specs.Codes.{row, plain, zero_op, return_op}
use Rattle.av_templates.proofs.Adding.{then_one}
use Rattle.av_templates.proofs.parts.answers_zero.Goals as goal

pub returns : goal.returns
returns c =
    let words = c.args.at.now.words in
    let locals = c.args.at.now.types.items in
    let prim = c.args.prim in
    then_one c.put-2.result c.args.builder c.in_ok-builder.builder (row words locals [] (plain (zero_op prim)) ∷ [])
    (row words locals c.as_slice-2.result.now c.plain-2.result) (row words locals (desc_vtype (descs.Prim prim) ∷ []) (plain (return_op prim)))
    (search rules) c.put-2.ensures (search rules)
