-- Each turn of the loop is one file, and the bodies of its methods.
use Rattle.std.proofs.Common.{◌≡◌, ◌+◌, ◌++◌, ◌∷◌, [], List, take, subst, sym, map, arith}
use Rattle.std.proofs.lemmas.List.{take_all}
use Rattle.std.specs.List.{AllZip, flat_map}
use Rattle.jv_lists.proofs.Places.{take_one}
use Rattle.jv_lists.proofs.Zips.{zip_more_of}
use Rattle.av_standin_of.specs.declared.standin.StandinFile.{StandinFile}
use Rattle.av_standin_of.specs.Classes.{MadeClass}
use Rattle.av_standin_of.specs.Files.{IsFileOf}
use Rattle.av_standin_of.specs.Worlds.{coded_method, IsBodyOf}
use Rattle.av_sketches.specs.declared.sketch.Sketch.{Sketch}
use Rattle.av_sketches.specs.Sketches.{made_class}
use Rattle.av_class_files.proofs.Each.{one_more_body}
use Rattle.av_standin_files.proofs.Mapped.{zip_mapped}
use Rattle.av_standin_files.proofs.files.files_of.Goals as goal

pub loop-sketch-preserved : goal.loop-sketch-preserved
loop-sketch-preserved c =
    let dims = c.args.dims in
    let sketches = c.args.sketches.now in
    let i = c.loop-sketch.sketch-index in
    let x = c.sketch-item.result in
    let added = c.in-Ok.ensures.added in record {
      files =
          subst (λ (files : List StandinFile). AllZip (λ (sketch : Sketch). IsFileOf (made_class dims sketch)) (take (i + 1) sketches) files) (sym added.files)
          (zip_more_of (λ (sketch : Sketch). IsFileOf (made_class dims sketch)) sketches c.loop-sketch.made.files.items i x added.file c.loop-sketch-test.true c.sketch-item.is c.loop-sketch.invariant.files added.is_file);
      bodies =
          one_more_body (IsBodyOf c.args.world.now) (made_class dims) (λ (made : MadeClass). flat_map (coded_method made.name) made.methods) sketches i x c.loop-sketch.made.methods.items added.bodies c.in-Ok.more.methods.items
          c.loop-sketch-test.true c.sketch-item.is c.loop-sketch.invariant.bodies added.are_bodies added.methods;
    }

pub returns-clause-files : goal.returns-clause-files
returns-clause-files c =
    zip_mapped IsFileOf (made_class c.args.dims) c.args.sketches.now c.loop-sketch.made.files.items
    (subst (λ (sketches : List Sketch). AllZip (λ (sketch : Sketch). IsFileOf (made_class c.args.dims sketch)) sketches c.loop-sketch.made.files.items) (take_all c.loop-sketch.sketch-index c.args.sketches.now (omega (arith, c.loop-sketch-test.false))) c.loop-sketch.invariant.files)
