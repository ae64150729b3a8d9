use Rattle.av_checkable.proofs.Folders.{of_folders}
use Rattle.av_checkable.proofs.programs.programs_are_accepted.Goals as goal

pub returns : goal.returns
returns _ = of_folders
