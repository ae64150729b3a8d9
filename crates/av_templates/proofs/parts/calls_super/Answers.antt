use Rattle.std.proofs.Common.{◌∷◌, [], rules}
use Rattle.jv_table.specs.declared.ops.TheConstants.{ACONST_NULL}
use Rattle.jv_types.specs.declared.frames.VType as types
use Rattle.av_standin_of.specs.Codes.{row, plain, aload, call_extra}
use Rattle.av_templates.proofs.Adding.{then_one, then_rows}
use Rattle.av_templates.proofs.parts.calls_super.Goals as goal

pub returns : goal.returns
returns c =
    let words = c.args.at.now.words in
    let locals = c.args.at.now.types.items in
    let first = row words locals [] (aload 0) in
    let second = row words locals (types.UninitThis ∷ []) (plain ACONST_NULL) in
    then_one c.put-3.result c.args.builder c.in_ok-builder-2.builder (first ∷ second ∷ [])
    (row words locals c.as_slice-4.result.now c.in_ok-call.call) (row words locals (types.UninitThis ∷ types.Null ∷ []) (call_extra c.args.parent.now))
    (then_rows c.args.builder c.in_ok-builder.builder c.in_ok-builder-2.builder (first ∷ []) (second ∷ []) (search rules) (search rules))
    c.put-3.ensures (search rules)
