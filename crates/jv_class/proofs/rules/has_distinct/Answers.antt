use Rattle.jv_class.proofs.MemberPairs.{field_texts, method_texts}
use Rattle.jv_class.proofs.rules.has_distinct.Goals as goal

pub are_distinct-requires-clause-texts : goal.are_distinct-requires-clause-texts
are_distinct-requires-clause-texts c = rw c.as_slice.ensures (field_texts c.args.class.now.pool c.args.class.now.fields c.requires.fields)

pub are_distinct-requires-2-clause-texts : goal.are_distinct-requires-2-clause-texts
are_distinct-requires-2-clause-texts c = rw c.as_slice-2.ensures (method_texts c.args.class.now.pool c.args.class.now.methods c.requires.methods)
