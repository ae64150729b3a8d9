use Rattle.av_library.proofs.Folder.{is_library_in}
use Rattle.av_library.proofs.laws.told_files_are_the_library.Goals as goal

pub returns : goal.returns
returns _ = is_library_in
