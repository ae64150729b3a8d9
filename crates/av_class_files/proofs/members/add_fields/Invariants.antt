-- The fields so far were put.
use Rattle.std.proofs.Common.{drop}
use Rattle.av_standin_of.specs.Files.{put_field}
use Rattle.av_class_files.proofs.Each.{IsPutSoFar}
use Rattle.av_class_files.proofs.members.add_fields.Given as goal

abbrev pub invariant-loop-field : goal.invariant-loop-field
invariant-loop-field l = IsPutSoFar put_field l.fields (drop l.field-index l.fields) l.fn.pool l.pool l.members.items
