use Rattle.std.proofs.Common.{◌∷◌, [], refl, rules}
use Rattle.jv_types.specs.declared.frames.VType as types
use Rattle.av_conditions.specs.StandIn.{library_name}
use Rattle.jv_table.specs.declared.ops.TheConstants.{RETURN}
use Rattle.av_standin_of.specs.Codes.{row, plain}
use Rattle.av_standin_of.specs.Templates.{calls_super}
use Rattle.av_templates.proofs.Adding.{then_one}
use Rattle.av_templates.proofs.constructors.extra_below.Goals as goal

pub returns : goal.returns
returns c =
    let last = row 2 (types.Class c.args.class.now ∷ types.Class library_name ∷ []) [] (plain RETURN) in
    then_one c.extra_ends.result c.args.builder c.in_ok-builder.builder (calls_super 2 (types.UninitThis ∷ types.Class library_name ∷ []) c.args.parent.now)
    last last (search rules) c.extra_ends.ensures refl
