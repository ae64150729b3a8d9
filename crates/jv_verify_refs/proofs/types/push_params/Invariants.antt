-- The types of the descriptors so far are there.
use Rattle.std.proofs.Common.{◌≡◌, ◌++◌, map, take}
use Rattle.jv_frames.specs.Types.{desc_vtype}
use Rattle.jv_verify_refs.proofs.types.push_params.Given as goal

abbrev pub invariant-loop-desc : goal.invariant-loop-desc
invariant-loop-desc l = l.types.items ≡ l.initial.types.items ++ map desc_vtype (take l.desc-index l.descs)
