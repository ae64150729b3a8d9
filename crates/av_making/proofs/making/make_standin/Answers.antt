-- The classes that the sketches stand for are those of a stand-in.
use Rattle.std.proofs.Common.{◌≡◌, List, map, sym, subst, ap, Result, Err}
use Rattle.jv_types.specs.declared.shapes.Shape.{Shape}
use Rattle.jv_lists.proofs.Among.{mapped_to}
use Rattle.av_standin_of.specs.Worlds.{standin_world}
use Rattle.av_sketches.specs.Sketches.{made_class}
use Rattle.av_class_files.specs.Filing.{IsThere}
use Rattle.av_standin_of.specs.declared.standin.Standin.{Standin}
use Rattle.av_class_files.specs.declared.refusal.FileRefusal.{FileRefusal}
use Rattle.av_class_files.specs.declared.refusal.FileRefusal.TheVariants.{PoolFull}
use Rattle.av_making.proofs.Sketched.{may_be_filed, sketch_there}
use Rattle.av_making.proofs.making.make_standin.Goals as goal

one_cause : (x y : FileRefusal) → ◌≡◌ {A = Result Standin FileRefusal} (Err x) (Err y) → x ≡ y
one_cause x y e = cc

pub files_of-requires-clause-there : goal.files_of-requires-clause-there
files_of-requires-clause-there c = λ sketch has.
    let w = c.args.world.now in
    let classes = map (made_class c.args.dims) c.args.sketches.now in
    subst (λ (world : List Shape). IsThere world sketch) (sym (c.in_ok-made.ensures c.args.dims))
    (sketch_there (standin_world w classes) c.args.dims sketch
    (c.standin_methods_are_there.ensures w c.args.dims classes (made_class c.args.dims sketch) c.requires.may (mapped_to (made_class c.args.dims) c.args.sketches.now sketch has)))

pub files_of-requires-clause-fit : goal.files_of-requires-clause-fit
files_of-requires-clause-fit c = λ sketch has.
    may_be_filed c.finishable_recipes_have_few_words.ensures c.args.dims sketch
    (c.standin_codes_are_finishable.ensures c.args.world.now c.args.dims (made_class c.args.dims sketch) c.shapes-shapes.ensures.world c.requires.may.can
    (c.requires.may.are.only (made_class c.args.dims sketch) (mapped_to (made_class c.args.dims) c.args.sketches.now sketch has)))
    (c.requires.codes sketch has)

pub returns-in-Err-clause-full : goal.returns-in-Err-clause-full
returns-in-Err-clause-full c = λ is.
    let room = c.in-Err.ensures.full (ap Err (one_cause c.in-Err.e PoolFull is)) in
    (made_class c.args.dims room.0, c.requires.may.are.only (made_class c.args.dims room.0) (mapped_to (made_class c.args.dims) c.args.sketches.now room.0 room.1), room.2)
