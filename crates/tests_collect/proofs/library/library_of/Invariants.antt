use Rattle.std.proofs.Common.{None}
use Rattle.av_asked.specs.Read.{HasRead}
use Rattle.tests_collect.proofs.LibraryLemmas.{known}
use Rattle.tests_collect.proofs.library.library_of.Given as goal

abbrev pub invariant-loop-word : goal.invariant-loop-word
invariant-loop-word l = HasRead None known l.files.items l.names
