-- The methods so far were put, and have their bodies.
use Rattle.std.proofs.Common.{drop, map, take}
use Rattle.std.specs.List.{AllZip, flat_map}
use Rattle.av_standin_of.specs.Files.{put_method}
use Rattle.av_standin_of.specs.Worlds.{coded_method, IsBodyOf}
use Rattle.av_sketches.specs.Sketches.{made_method}
use Rattle.av_class_files.proofs.Each.{IsPutSoFar}
use Rattle.av_class_files.proofs.methods.add_methods.Given as goal

abbrev pub invariant-loop-sketched : goal.invariant-loop-sketched
invariant-loop-sketched l =
    let made = made_method l.owner.dims l.owner.name.now in record {
      members : IsPutSoFar put_method (map made l.methods) (map made (drop l.sketched-index l.methods)) l.fn.pool l.pool l.members.items;
      bodies : AllZip (IsBodyOf l.owner.world.now) (flat_map (coded_method l.owner.name.now) (map made (take l.sketched-index l.methods))) l.bodies.items;
    }
