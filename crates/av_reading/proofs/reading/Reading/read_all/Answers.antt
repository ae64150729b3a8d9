use Rattle.std.proofs.Common.{List, Contains, sym, subst}
use Rattle.std.proofs.lemmas.List.{take_all}
use Rattle.av_collected.proofs.Lists.{in_none}
use Rattle.av_round.specs.declared.class_items.ClassItems.{ClassItems}
use Rattle.av_reading.specs.Progress.{IsOneOf}
use Rattle.av_reading.proofs.ReadLemmas.{all_next, class_stop, goes_more, goes_none}
use Rattle.av_reading.proofs.reading.Reading.read_all.Goals as goal

pub loop-class-init : goal.loop-class-init
loop-class-init g c = (goes_none (IsOneOf c.args.classes.now) _ _ c.args.self.now c.requires, λ class h. absurd (in_none class h))

pub returns-in_err-read_class-clause-stops : goal.returns-in_err-read_class-clause-stops
returns-in_err-read_class-clause-stops g c =
    class_stop c.from_residual.result c.args.classes.now c.class-item.result _ _ _ _ c.args.self.now c.loop-class.self c.in_err-read_class.field-0.0 c.from_residual.ensures.1
    (c.loop-class.class-index, c.loop-class-test.true, sym c.class-item.is) c.loop-class.invariant.0 c.in_err-read_class.ensures.stops

pub loop-class-preserved : goal.loop-class-preserved
loop-class-preserved g c = (
  goes_more c.args.classes.now c.class-item.result _ _ _ _ c.args.self.now c.loop-class.self c.read_class.new.self
      (c.loop-class.class-index, c.loop-class-test.true, sym c.class-item.is) c.loop-class.invariant.0 c.in_ok-read_class.ensures.goes,
  all_next c.args.classes.now c.loop-class.class-index c.class-item.result _ _ _ _ c.loop-class.self c.read_class.new.self
      c.loop-class-test.true c.class-item.is c.loop-class.invariant.1 c.in_ok-read_class.ensures.goes c.in_ok-read_class.ensures.asked,
)

pub returns-clause-all : goal.returns-clause-all
returns-clause-all g c class h =
    c.loop-class.invariant.1 class (subst (λ (l : List ClassItems). Contains l class) (sym (take_all c.loop-class.class-index c.args.classes.now c.loop-class-test.false)) h)
