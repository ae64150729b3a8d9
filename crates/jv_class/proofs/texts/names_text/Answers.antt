use Rattle.jv_class.proofs.AreKept.{names_some, names_none}
use Rattle.jv_class.proofs.texts.names_text.Goals as goal

pub returns-in-Some : goal.returns-in-Some
returns-in-Some c = names_some c.args._pool.now c.args.kept.now c.args.index c.args.kind c.in-Some.kinds c.says.result c.requires c.in-Some.ensures c.says.ensures

pub returns-in-None : goal.returns-in-None
returns-in-None c = names_none c.args._pool.now c.args.kept.now c.args.index c.args.kind c.requires c.in-None.ensures
