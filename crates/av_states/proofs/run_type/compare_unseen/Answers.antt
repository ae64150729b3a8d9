use Rattle.av_states.proofs.RunOrder.{classes_cmp}
use Rattle.av_states.proofs.run_type.compare_unseen.Goals as goal

pub returns : goal.returns
returns c = let e = classes_cmp c.args.ifs.now c.args.other_ifs.now in cc
