use Rattle.std.proofs.Common.{◌≡◌, ◌∷◌, [], ◌++◌, ℕ, List, Contains, subst}
use Rattle.av_refused.specs.Firsts.{file_name}
use Rattle.av_refused.proofs.First.{fresh_next, names_all, names_more}
use Rattle.av_refused.proofs.files.names_of_files.Goals as goal

pub add-requires : goal.add-requires
add-requires c h =
    fresh_next file_name c.args.files.now c.loop-file.file-index c.file-item.result c.requires c.loop-file-test.true c.file-item.is
    (subst (λ (l : List (List ℕ)). Contains l c.file-item.result.name) c.loop-file.invariant (subst (λ (n : List ℕ). Contains c.loop-file.names n) c.name.ensures h))

pub loop-file-preserved : goal.loop-file-preserved
loop-file-preserved c =
    names_more file_name c.args.files.now c.loop-file.file-index c.file-item.result c.loop-file.names c.add.new.self c.loop-file-test.true c.file-item.is c.loop-file.invariant
    (subst (λ (n : List ℕ). c.add.new.self ≡ c.loop-file.names ++ n ∷ []) c.name.ensures c.in_ok-add.ensures)

pub returns : goal.returns
returns c = names_all file_name c.args.files.now c.loop-file.file-index c.loop-file.names c.loop-file-test.false c.loop-file.invariant
