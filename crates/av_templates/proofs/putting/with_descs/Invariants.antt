use Rattle.std.proofs.Common.{◌≡◌, ◌++◌, map, take}
use Rattle.jv_frames.specs.Types.{desc_vtype}
use Rattle.av_templates.proofs.putting.with_descs.Given as goal

abbrev pub invariant-loop-desc : goal.invariant-loop-desc
invariant-loop-desc l = l.types.items ≡ l.fn.types.items ++ map desc_vtype (take l.desc-index l.descs)
