use Rattle.std.proofs.Common.{take}
use Rattle.av_named.specs.Appending.{Appends, OfEach}
use Rattle.av_named.specs.Named.{FieldNames}
use Rattle.av_named.proofs.members.names_of_fields.Given as goal

abbrev pub invariant-loop-field : goal.invariant-loop-field
invariant-loop-field l = Appends (OfEach FieldNames (take l.field-index l.fields)) l.initial.out.items l.out.items
