use Rattle.av_rules.proofs.Tables.{open_has}
use Rattle.av_rules.proofs.any_classes.any_class_of.Goals as goal

pub returns : goal.returns
returns c =
    open_has c.args.world.now c.args.c.number c.shape-shape.result.now c.in_ok-name.name c.class.result c.shape-shape.ensures.shape
    (c.is_open.ensures.0 c.if-not-is_open.false) c.in_ok-name.ensures c.class.ensures.found c.class.ensures.none
