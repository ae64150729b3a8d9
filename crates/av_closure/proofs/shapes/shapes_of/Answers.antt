use Rattle.std.proofs.Common.{sym}
use Rattle.av_closure.proofs.ClassLemmas.{shapes_all, shapes_next}
use Rattle.av_closure.proofs.shapes.shapes_of.Goals as goal

pub loop-class-init : goal.loop-class-init
loop-class-init c = (c.new.ensures.items, c.new-2.ensures.items)

pub add-requires : goal.add-requires
add-requires c = record {
  names = c.requires.names;
  library = c.requires.library;
  there = c.requires.there c.class-item.result (c.loop-class.class-index, c.loop-class-test.true, sym c.class-item.is);
  fields = c.requires.fields c.class-item.result (c.loop-class.class-index, c.loop-class-test.true, sym c.class-item.is);
  methods = c.requires.methods c.class-item.result (c.loop-class.class-index, c.loop-class-test.true, sym c.class-item.is);
}

pub loop-class-preserved : goal.loop-class-preserved
loop-class-preserved c =
    shapes_next c.args.files.now c.args.classes.now c.loop-class.class-index c.class-item.result c.loop-class.shapes.full.items c.loop-class.shapes.reduced.items
    c.add.new.self.full.items c.add.new.self.reduced.items c.loop-class-test.true c.class-item.is c.loop-class.invariant c.in_ok-add.ensures

pub returns : goal.returns
returns c =
    shapes_all c.args.files.now c.args.classes.now c.loop-class.class-index c.loop-class.shapes.full.items c.loop-class.shapes.reduced.items
    c.loop-class-test.false c.loop-class.invariant
