use Rattle.std.proofs.Common.{◌<◌, ◌^◌, List, length, sym, subst}
use Rattle.std.proofs.lemmas.Result.{on_ok_weaker}
use Rattle.jv_types.specs.declared.shapes.MethodShape.{MethodShape}
use Rattle.av_named.specs.Appending.{Appends, OfEachPlace}
use Rattle.av_tables.specs.Steps.{known}
use Rattle.av_tables.proofs.Noting.{few_methods}
use Rattle.av_forcing.proofs.Appended.{everywhere, nowhere}
use Rattle.av_round.specs.Seeds.{CoreAt}
use Rattle.av_round.proofs.core_methods.push_core_methods_of.Goals as goal

pub returns-in-None : goal.returns-in-None
returns-in-None c = nowhere (known c.args.classes.now) c.args.class (CoreAt c.args.class) c.args.out.now.items c.in-None.ensures.none

pub push_each_core_method-requires : goal.push_each_core_method-requires
push_each_core_method-requires c =
    subst (λ (l : List MethodShape). length l < 2 ^ 16) (sym c.as_slice.ensures) (few_methods (known c.args.classes.now) c.args.class c.in-Some.shape.now c.requires c.in-Some.ensures.found)

pub returns-in-Some : goal.returns-in-Some
returns-in-Some c =
    on_ok_weaker c.push_each_core_method.result
    (λ h. everywhere (known c.args.classes.now) c.args.class (CoreAt c.args.class) c.in-Some.shape.now c.args.out.now.items c.push_each_core_method.new.out.items c.in-Some.ensures.found
    (subst (λ (l : List MethodShape). Appends (OfEachPlace (CoreAt c.args.class) l) c.args.out.now.items c.push_each_core_method.new.out.items) c.as_slice.ensures h))
    c.push_each_core_method.ensures
