use Rattle.std.proofs.Common.{take}
use Rattle.av_collected.specs.Parts.{IsPart}
use Rattle.av_whole.specs.WholeClasses.{IsWholeIn}
use Rattle.av_whole.proofs.picking.marked.Given as goal

abbrev pub invariant-loop-place : goal.invariant-loop-place
invariant-loop-place l = IsPart (IsWholeIn l.shapes) (take l.place l.shapes) l.kept.items
