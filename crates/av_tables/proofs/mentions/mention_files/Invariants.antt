use Rattle.std.proofs.Common.{take}
use Rattle.av_named.specs.Appending.{Appends, OfEach}
use Rattle.av_tables.specs.Mentions.{FileNames}
use Rattle.av_tables.proofs.mentions.mention_files.Given as goal

abbrev pub invariant-loop-file : goal.invariant-loop-file
invariant-loop-file l = Appends (OfEach FileNames (take l.file-index l.files)) l.initial.out.items l.out.items
