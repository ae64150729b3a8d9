use Rattle.std.proofs.Common.{◌≡◌, map, take}
use Rattle.av_standin_of.specs.Classes.{kept_field}
use Rattle.av_sketching.proofs.collected.kept_fields.Given as goal

abbrev pub invariant-loop-field : goal.invariant-loop-field
invariant-loop-field l = l.kept.items ≡ map kept_field (take l.field-index l.class.fields)
