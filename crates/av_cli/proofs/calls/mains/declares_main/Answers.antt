use Rattle.std.proofs.Common.{ℕ, length, ap, arith, refl, below_more}
use Rattle.std.proofs.lemmas.Bool.{iff_false}
use Rattle.calls_model.specs.First.Machine.{IsMain}
use Rattle.av_cli.proofs.CallsMains.{main_at, main_from, no_main}
use Rattle.av_cli.proofs.calls.mains.declares_main.Goals as goal

pub loop-method-preserved : goal.loop-method-preserved
loop-method-preserved c =
    below_more (λ (place : ℕ). ¬ IsMain c.args.class.now place) c.loop-method.method-index c.loop-method.invariant
    (λ main. iff_false c.is_main.ensures c.if-is_main.false
    (main_from c.args.class.now c.as_slice-method-items.result.now c.as_slice-method-items.ensures c.loop-method.method-index c.method-item.result (omega arith) c.method-item.is main))

pub returns-then-is_main : goal.returns-then-is_main
returns-then-is_main c = (
  λ _.
      main_at c.args.class.now c.as_slice-method-items.result.now c.as_slice-method-items.ensures c.loop-method.method-index c.method-item.result (omega arith) c.method-item.is
      (c.is_main.ensures.0 c.if-is_main.true),
  λ _. refl,
)

pub returns : goal.returns
returns c = (
  λ same. absurd cc,
  λ declares.
      absurd (no_main c.args.class.now c.loop-method.method-index (omega (arith, ap length c.as_slice-method-items.ensures)) c.loop-method.invariant declares),
)
