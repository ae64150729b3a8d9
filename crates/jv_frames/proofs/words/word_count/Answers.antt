use Rattle.std.proofs.Common.{◌≡◌, length, min, sum_by, take, ap, ◌∙◌}
use Rattle.std.proofs.lemmas.List.{take_all}
use Rattle.std.proofs.lemmas.List.Concat.{length-flat_map}
use Rattle.jv_types.specs.declared.frames.VType.{VType}
use Rattle.jv_frames.specs.Types.{type_words}
use Rattle.jv_frames.proofs.words.word_count.Goals as goal

pub returns : goal.returns
returns c =
    let types = c.args.types.now in
    let size : VType → _ = λ (type : VType). length (type_words type) in
    let whole : take c.loop-of.of-index types ≡ types = take_all c.loop-of.of-index types c.loop-of-test.false in
    rw (length-flat_map type_words types) (c.loop-of.invariant ∙ ap (λ xs. min (sum_by size xs) 4294967295) whole)
