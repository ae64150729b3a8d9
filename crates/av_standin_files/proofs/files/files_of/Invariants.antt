-- The sketches so far have their files, and their methods have their bodies.
use Rattle.std.proofs.Common.{map, take}
use Rattle.std.specs.List.{AllZip}
use Rattle.jv_types.specs.declared.shapes.Shape.{Shape}
use Rattle.av_standin_of.specs.declared.standin.StandinFile.{StandinFile}
use Rattle.av_standin_of.specs.Files.{IsFileOf}
use Rattle.av_standin_of.specs.Worlds.{coded_methods, IsBodyOf}
use Rattle.av_sketches.specs.declared.sketch.Sketch.{Sketch}
use Rattle.av_sketches.specs.Sketches.{made_class}
use Rattle.av_standin_files.proofs.files.files_of.Given as goal

abbrev pub invariant-loop-sketch : goal.invariant-loop-sketch
invariant-loop-sketch l = record {
  files : AllZip (λ (sketch : Sketch). IsFileOf (made_class l.dims sketch)) (take l.sketch-index l.sketches) l.made.files.items;
  bodies : AllZip (IsBodyOf l.world) (coded_methods (map (made_class l.dims) (take l.sketch-index l.sketches))) l.made.methods.items;
}
