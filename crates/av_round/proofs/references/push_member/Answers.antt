use Rattle.std.proofs.Common.{sym, subst}
use Rattle.std.proofs.lemmas.Result.{on_ok_weaker}
use Rattle.jv_types.specs.declared.instruction.Arg.{Arg}
use Rattle.av_named.specs.Appending.{Appends}
use Rattle.av_tables.specs.Steps.{known}
use Rattle.av_round.specs.Seeds.{ArgFinds}
use Rattle.av_round.proofs.references.push_member.Goals as goal

pub returns-in-Field : goal.returns-in-Field
returns-in-Field c =
    on_ok_weaker c.push_field.result
    (subst (λ (a : Arg). Appends (ArgFinds c.args.world.now (known c.args.classes.now) a) c.args.out.now.items c.push_field.new.out.items) (sym c.in-Field.is)) c.push_field.ensures

pub returns-in-Method : goal.returns-in-Method
returns-in-Method c =
    on_ok_weaker c.push_method.result
    (subst (λ (a : Arg). Appends (ArgFinds c.args.world.now (known c.args.classes.now) a) c.args.out.now.items c.push_method.new.out.items) (sym c.in-Method.is)) c.push_method.ensures
