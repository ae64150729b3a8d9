use Rattle.std.proofs.Common.{◌∙◌, ◌++◌, ◌∷◌, [], Contains, ap}
use Rattle.av_collected.specs.Libraries.{LibraryFile}
use Rattle.av_reading.proofs.ReadLemmas.{not_there}
use Rattle.tests_collect.proofs.LibraryLemmas.{library_begins, library_more}
use Rattle.tests_collect.proofs.library.library_of.Goals as goal

pub loop-word-init : goal.loop-word-init
loop-word-init c = library_begins c.new-files.result.items c.new-names.result c.new-files.ensures.items c.new-names.ensures

pub loop-word-preserved : goal.loop-word-preserved
loop-word-preserved c =
    library_more c.loop-word.files.items c.push.new.self.items c.loop-word.names c.add.new.self c.in_ok-name.name c.in_ok-name.shape c.loop-word.invariant
    (not_there c.has.result (Contains c.loop-word.names c.in_ok-name.name) c.has.ensures c.if-has.false) c.in_ok-name.ensures
    (c.in_ok-push.ensures.items ∙ ap (λ (file : LibraryFile). c.loop-word.files.items ++ file ∷ []) c.new.ensures) c.in_ok-add.ensures

pub returns : goal.returns
returns c = c.loop-word.invariant.map
