use Rattle.std.proofs.Common.{◌≡◌, ◌++◌, take}
use Rattle.std.specs.List.{flat_map}
use Rattle.jv_desc.specs.Texts.{desc_text}
use Rattle.jv_desc.proofs.showing.put_descs.Given as goal

abbrev pub invariant-loop-desc : goal.invariant-loop-desc
invariant-loop-desc l = l.text.items ≡ l.initial.text.items ++ flat_map desc_text (take l.desc-index l.descs)
