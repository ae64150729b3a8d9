use Rattle.av_one_standin.proofs.Naming.{one_by_name}
use Rattle.av_one_standin.proofs.names.standin_classes_have_one_name.Goals as goal

pub returns : goal.returns
returns c w dims a b world can is is' same = one_by_name w dims a b world can same is is'
