use Rattle.std.proofs.Common.{ℕ, ◌<◌, List, ◌++◌, length, map}
use Rattle.jv_world.specs.Worlds.{AreSuperclasses}
use Rattle.jv_world.specs.Steps.Ranks.{count_at}
use Rattle.jv_world.proofs.world.World.superclasses.Given as goal

abbrev pub invariant-loop-next : goal.invariant-loop-next
invariant-loop-next l = record {
  here : l.class.number < length l.self;
  joins : (rest : List ℕ) → AreSuperclasses l.self l.class.number rest → AreSuperclasses l.self l.fn.c.number (map (λ d. d.number) l.found.items ++ rest);
}

abbrev pub decreases-loop-next : goal.decreases-loop-next
decreases-loop-next l = count_at l.self-inside.supers.items l.class.number
