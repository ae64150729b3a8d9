use Rattle.std.proofs.Common.{◌∷◌, [], rules}
use Rattle.jv_table.specs.declared.ops.TheConstants.{RETURN}
use Rattle.av_standin_of.specs.Codes.{row, plain, aload, put_fresh, object_vtype}
use Rattle.av_templates.proofs.Adding.{then_one, then_rows}
use Rattle.av_templates.proofs.constructors.makes_fresh.Goals as goal

pub returns : goal.returns
returns c =
    let locals = object_vtype ∷ [] in
    let first = row 1 locals [] (aload 0) in
    let second = row 1 locals (object_vtype ∷ []) put_fresh in
    then_one c.put-3.result c.args.builder c.in_ok-builder-2.builder (first ∷ second ∷ [])
    (row 1 c.in_ok-single.field-0.items c.as_slice-3.result.now c.plain.result) (row 1 locals [] (plain RETURN))
    (then_rows c.args.builder c.in_ok-builder.builder c.in_ok-builder-2.builder (first ∷ []) (second ∷ []) (search rules) (search rules))
    c.put-3.ensures (search rules)
