use Rattle.av_read_back.proofs.Holder.{library_may}
use Rattle.av_read_back.proofs.laws.library_class_is_fileable.Goals as goal

pub returns : goal.returns
returns c = library_may
