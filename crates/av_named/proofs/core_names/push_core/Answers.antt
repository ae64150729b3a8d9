use Rattle.std.proofs.lemmas.Result.{on_ok_weaker}
use Rattle.av_conditions.specs.CoreClasses.{IsCoreClass, IsCoreInterface}
use Rattle.av_named.proofs.Appending.{appends_both}
use Rattle.av_named.proofs.core_names.push_core.Goals as goal

pub returns : goal.returns
returns c =
    on_ok_weaker c.push_core_interfaces.result
    (appends_both IsCoreClass IsCoreInterface c.args.out.now.items c.push_core_classes.new.out.items c.push_core_interfaces.new.out.items c.in_ok-push_core_classes.ensures)
    c.push_core_interfaces.ensures
