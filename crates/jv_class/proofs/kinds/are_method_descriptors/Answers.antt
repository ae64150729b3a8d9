use Rattle.std.proofs.Common.{true, false}
use Rattle.jv_class.proofs.AreKindsOf.{few_words}
use Rattle.jv_class.proofs.kinds.are_method_descriptors.Goals as goal

pub returns-in-Ok-clause-without : goal.returns-in-Ok-clause-without
returns-in-Ok-clause-without c = few_words c.args.text.now c.in-Ok.desc false c.arg_words.result c.in-Ok.ensures.found c.arg_words.ensures

pub returns-in-Ok-clause-with_receiver : goal.returns-in-Ok-clause-with_receiver
returns-in-Ok-clause-with_receiver c = few_words c.args.text.now c.in-Ok.desc true c.arg_words-in-Ok.result c.in-Ok.ensures.found c.arg_words-in-Ok.ensures
