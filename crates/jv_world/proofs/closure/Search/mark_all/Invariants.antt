use Rattle.std.proofs.Common.{take}
use Rattle.jv_world.specs.Steps.Building.{Has, AddsAll}
use Rattle.jv_world.proofs.closure.Search.mark_all.Given as goal

-- the classes so far are marked
abbrev pub invariant-loop-class : goal.invariant-loop-class
invariant-loop-class l = AddsAll (Has (take l.class-index l.row)) l.fn.self.marks.items l.fn.self.found.items l.self.marks.items l.self.found.items
