use Rattle.std.proofs.Common.{◌≡◌, map, take}
use Rattle.av_standin_of.specs.Worlds.{kept_class}
use Rattle.av_standin_world.proofs.worlds.kept_classes.Given as goal

abbrev pub invariant-loop-class : goal.invariant-loop-class
invariant-loop-class l = l.kept.items ≡ map kept_class (take l.class-index l.world)
