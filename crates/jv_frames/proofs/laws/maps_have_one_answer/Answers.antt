use Rattle.std.proofs.Common.{◌≡◌, List, subst}
use Rattle.jv_types.specs.declared.frames.VType.{VType}
use Rattle.jv_frames.specs.Maps.{AreMapFrames, IsFirstBad, written_frames}
use Rattle.jv_frames.proofs.OneAnswer.{one_map, one_bad, never_both, one_entry}
use Rattle.jv_frames.proofs.laws.maps_have_one_answer.Goals as goal

pub returns-clause-frames : goal.returns-clause-frames
returns-clause-frames c =
    λ w id pool code body rows others h k.
    let types : h.types ≡ k.types = one_entry w id h.types k.types h.entry k.entry in
    one_map pool body 0 k.types (written_frames code.attrs) rows others
    (subst (λ (l : List VType). AreMapFrames pool body 0 l (written_frames code.attrs) rows) types h.frames) k.frames

pub returns-clause-bad : goal.returns-clause-bad
returns-clause-bad c =
    λ w id pool code body pc other h k.
    let types : h.types ≡ k.types = one_entry w id h.types k.types h.entry k.entry in
    one_bad pool body 0 k.types (written_frames code.attrs) pc other
    (subst (λ (l : List VType). IsFirstBad pool body 0 l (written_frames code.attrs) pc) types h.bad) k.bad

pub returns-clause-apart : goal.returns-clause-apart
returns-clause-apart c =
    λ w id pool code body rows pc h k.
    let types : h.types ≡ k.types = one_entry w id h.types k.types h.entry k.entry in
    never_both pool body 0 k.types (written_frames code.attrs) rows pc
    (subst (λ (l : List VType). AreMapFrames pool body 0 l (written_frames code.attrs) rows) types h.frames) k.bad
