-- The names so far are the first of those in the files so far.
use Rattle.std.proofs.Common.{◌≡◌, take}
use Rattle.jv_host.specs.Files.{class_names}
use Rattle.jv_host.proofs.mem_host.names_under.Given as goal

abbrev pub invariant-loop-file : goal.invariant-loop-file
invariant-loop-file l = l.names.items ≡ take l.most (class_names (take l.file-index l.files) l.root)
