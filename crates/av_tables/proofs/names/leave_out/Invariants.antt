use Rattle.std.proofs.Common.{ℕ, ◌↔◌, List, take, Contains}
use Rattle.av_collected.specs.Libraries.{IsOfLibrary}
use Rattle.av_tables.proofs.names.leave_out.Given as goal

abbrev pub invariant-loop-shape : goal.invariant-loop-shape
invariant-loop-shape l = (name : List ℕ) → Contains l.set.keys name ↔ (Contains l.initial.set.keys name × IsOfLibrary (take l.shape-index l.app) name)
