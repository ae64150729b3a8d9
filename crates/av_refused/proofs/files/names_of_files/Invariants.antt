use Rattle.std.proofs.Common.{◌≡◌, map, take}
use Rattle.av_refused.specs.Firsts.{file_name}
use Rattle.av_refused.proofs.files.names_of_files.Given as goal

abbrev pub invariant-loop-file : goal.invariant-loop-file
invariant-loop-file l = l.names ≡ map file_name (take l.file-index l.files)
