use Rattle.std.proofs.Common.{◌↔◌, List, Contains, sym, subst}
use Rattle.std.proofs.lemmas.Result.{IfOk-weaker}
use Rattle.jv_types.specs.declared.shapes.Shape.{Shape}
use Rattle.av_tables.specs.Steps.{known}
use Rattle.av_whole.specs.WholeClasses.{HasWholeClasses}
use Rattle.av_round.specs.Steps.{HasWholeBy, IsHereBy}
use Rattle.av_round.proofs.whole.whole_of.Goals as goal

pub returns : goal.returns
returns c =
    IfOk-weaker c.whole_world.result (HasWholeClasses c.as_slice-here.result.now) (HasWholeBy c.args.app.now (known c.args.classes.now))
    (λ w whole. record {
      shapes = c.as_slice-here.result.now;
      exact = subst (λ (l : List Shape). (shape : Shape) → Contains l shape ↔ IsHereBy c.args.app.now (known c.args.classes.now) shape) (sym c.as_slice-here.ensures.value) c.in_ok-shapes.ensures;
      distinct = (c.in_ok-numbered.ensures.0 c.if-not-numbered.false).distinct;
      whole = whole;
    }) c.whole_world.ensures
