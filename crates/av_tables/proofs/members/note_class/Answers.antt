use Rattle.av_tables.specs.Steps.{known}
use Rattle.av_tables.proofs.Noting.{few_methods, no_shape}
use Rattle.av_tables.proofs.members.note_class.Goals as goal

pub note_methods-requires-clause-small : goal.note_methods-requires-clause-small
note_methods-requires-clause-small c = few_methods (known c.args.classes.now) c.args.class c.in-Some.shape.now c.requires.small c.in-Some.ensures.found

pub returns-in-None : goal.returns-in-None
returns-in-None c = no_shape (known c.args.classes.now) c.args.class c.args.rows.now.items c.in-None.ensures.none c.requires.before
