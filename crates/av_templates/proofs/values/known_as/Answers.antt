use Rattle.std.proofs.Common.{◌∷◌, [], ◌++◌, rules}
use Rattle.av_standin_of.specs.Codes.{row, get_known, checkcast, object_vtype}
use Rattle.av_templates.proofs.Adding.{then_one}
use Rattle.av_templates.proofs.values.known_as.Goals as goal

pub returns : goal.returns
returns c =
    let words = c.args.at.now.words in
    let locals = c.args.at.now.types.items in
    let stack = c.args.stack.now in
    then_one c.put-2.result c.args.builder c.in_ok-builder.builder (row words locals stack get_known ∷ [])
    (row words locals c.as_slice.result.now c.in_ok-cast.cast) (row words locals (stack ++ object_vtype ∷ []) (checkcast c.args.of.now))
    (search rules) c.put-2.ensures (search rules)
