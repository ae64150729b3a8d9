use Rattle.jv_world.proofs.Wholes.{circular_by}
use Rattle.jv_world.proofs.whole.is_circular.Goals as goal

pub returns : goal.returns
returns c = circular_by c.args.shapes.now c.args.rows.now c.args.place c.has_itself.result c.requires.supers c.requires.here c.has_itself.ensures
