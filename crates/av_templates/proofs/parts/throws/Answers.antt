use Rattle.jv_table.specs.declared.ops.TheConstants.{IFNULL}
use Rattle.av_templates.proofs.Landing.{branches, both_put, lands}
use Rattle.av_templates.proofs.parts.throws.Goals as goal

pub land-requires : goal.land-requires
land-requires c =
    let words = c.args.at.now.words in
    let locals = c.args.at.now.types.items in
    let put = both_put words locals c.args.builder c.in_ok-builder.builder c.in_ok-builder-2.builder c.in_ok-builder.ensures c.in_ok-builder-2.ensures in
    (IFNULL, branches words locals c.args.builder c.in_ok-builder-2.builder c.mark-before.result c.mark-before.ensures put)

pub returns : goal.returns
returns c =
    let words = c.args.at.now.words in
    let locals = c.args.at.now.types.items in
    let put = both_put words locals c.args.builder c.in_ok-builder.builder c.in_ok-builder-2.builder c.in_ok-builder.ensures c.in_ok-builder-2.ensures in
    lands words locals c.args.builder c.in_ok-builder-2.builder c.land.new.self c.mark-before.result c.mark-before.ensures put c.in_ok-land.ensures
