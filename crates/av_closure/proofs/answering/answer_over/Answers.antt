use Rattle.av_closure.proofs.NameLemmas.{names_apart}
use Rattle.av_closure.proofs.OverLemmas.{apart_over, collected_over, fails_not, missing_over, shapes_over, small_over, unfit_over}
use Rattle.av_closure.proofs.answering.answer_over.Goals as goal

pub returns-in-Some : goal.returns-in-Some
returns-in-Some c =
    unfit_over (record { shapes = c.args.app.now; maps = c.args.maps.now; bodies = c.args.bodies.now }) c.requires.given c.args.files.now c.requires.library c.args.classes.now c.requires.items
    c.in_ok-name.field-0 c.in-Some.name c.in_ok-name.ensures c.in-Some.is

pub returns-in-Some-2 : goal.returns-in-Some-2
returns-in-Some-2 c =
    missing_over (record { shapes = c.args.app.now; maps = c.args.maps.now; bodies = c.args.bodies.now }) c.requires.given c.args.files.now c.requires.library c.args.classes.now c.requires.items
    c.in_ok-name.field-0 c.in_ok-name.ensures c.in_default.not-Some
    c.in_ok-name-2.field-0 c.in-Some-2.name c.in_ok-name-2.ensures c.in-Some-2.is

pub shapes_of-requires-clause-there : goal.shapes_of-requires-clause-there
shapes_of-requires-clause-there c =
    shapes_over (record { shapes = c.args.app.now; maps = c.args.maps.now; bodies = c.args.bodies.now }) c.requires.given c.args.files.now c.requires.library c.args.classes.now c.requires.items
    c.in_ok-name.field-0 c.in_ok-name.ensures c.in_default.not-Some
    c.in_ok-name-2.field-0 c.in_ok-name-2.ensures c.in_default-2.not-Some

pub names_of_classes-requires : goal.names_of_classes-requires
names_of_classes-requires c = names_apart c.args.app.now c.requires.given.distinct

pub returns-in-Some-3 : goal.returns-in-Some-3
returns-in-Some-3 c =
    apart_over (record { shapes = c.args.app.now; maps = c.args.maps.now; bodies = c.args.bodies.now }) c.requires.given c.args.files.now c.requires.library c.args.classes.now c.requires.items
    c.in_ok-name.field-0 c.in_ok-name.ensures c.in_default.not-Some
    c.in_ok-name-2.field-0 c.in_ok-name-2.ensures c.in_default-2.not-Some
    c.in_ok-shapes.shapes.full.items c.in_ok-shapes.shapes.reduced.items c.as_slice.result.now c.in_ok-shapes.ensures c.in_ok-own.own c.in_ok-own.ensures
    c.in_ok-name-3.field-0 c.in-Some-3.name c.as_slice.ensures.value c.in_ok-name-3.ensures c.in-Some-3.is

pub greatest_dims-requires-clause-reduced : goal.greatest_dims-requires-clause-reduced
greatest_dims-requires-clause-reduced c =
    small_over (record { shapes = c.args.app.now; maps = c.args.maps.now; bodies = c.args.bodies.now }) c.requires.given c.args.files.now c.requires.library c.args.classes.now c.requires.items
    c.in_ok-shapes.shapes.full.items c.in_ok-shapes.shapes.reduced.items c.as_slice-2.result.now c.in_ok-shapes.ensures c.as_slice-2.ensures.value

pub returns : goal.returns
returns c = (
  collected_over (record { shapes = c.args.app.now; maps = c.args.maps.now; bodies = c.args.bodies.now }) c.requires.given c.args.files.now c.requires.library c.args.classes.now c.requires.items
      c.in_ok-shapes.shapes.full.items c.in_ok-shapes.shapes.reduced.items c.as_slice-2.result.now c.in_ok-shapes.ensures c.as_slice-2.ensures.value
      c.from_vec.result c.from_vec-2.result c.in_ok-dims.dims c.from_vec.ensures c.from_vec-2.ensures c.in_ok-dims.ensures,
  fails_not (record { shapes = c.args.app.now; maps = c.args.maps.now; bodies = c.args.bodies.now }) c.requires.given c.args.files.now c.requires.library c.args.classes.now c.requires.items
      c.in_ok-name.field-0 c.in_ok-name.ensures c.in_default.not-Some
      c.in_ok-name-2.field-0 c.in_ok-name-2.ensures c.in_default-2.not-Some
      c.in_ok-shapes.shapes.full.items c.in_ok-shapes.shapes.reduced.items c.as_slice.result.now c.in_ok-shapes.ensures c.in_ok-own.own c.in_ok-own.ensures
      c.in_ok-name-3.field-0 c.as_slice.ensures.value c.in_ok-name-3.ensures c.in_default-3.not-Some,
)
