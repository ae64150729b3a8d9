use Rattle.av_verified.specs.Lines.{IsMethodLine}
use Rattle.av_verified.proofs.Adding.{AddsLines-first, AddsLines-more, AddsLines-all}
use Rattle.av_verified.proofs.lines.add_methods.Goals as goal

pub loop-method-init : goal.loop-method-init
loop-method-init c = AddsLines-first (IsMethodLine c.args.class.now) c.args.methods.now _

pub loop-method-preserved : goal.loop-method-preserved
loop-method-preserved c =
    AddsLines-more (IsMethodLine c.args.class.now) c.args.methods.now c.loop-method.method-index c.method-item.result _ _ _
    c.loop-method-test.true c.method-item.is c.loop-method.invariant c.in_ok-add_method.ensures

pub returns : goal.returns
returns c = AddsLines-all (IsMethodLine c.args.class.now) c.args.methods.now c.loop-method.method-index _ _ c.loop-method-test.false c.loop-method.invariant
