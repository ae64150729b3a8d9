use Rattle.std.proofs.lemmas.Result.{on_ok_weaker}
use Rattle.av_round.proofs.Shapes.{core_is}
use Rattle.av_round.proofs.core_methods.push_core_method.Goals as goal

pub returns-then-is_core_method : goal.returns-then-is_core_method
returns-then-is_core_method c =
    on_ok_weaker c.push_fact.result (core_is c.args.class c.args.method.now c.args.place c.args.out.now.items c.push_fact.new.out.items (c.is_core_method.ensures.0 c.if-is_core_method.true)) c.push_fact.ensures.ok
