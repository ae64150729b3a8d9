-- Each turn of the loop is one method.
use Rattle.std.proofs.Common.{All, subst}
use Rattle.std.proofs.lemmas.Result.{err_from_is_err_and}
use Rattle.std.proofs.lemmas.List.{take_all}
use Rattle.std.proofs.lemmas.List.Elements.{All-more}
use Rattle.calls_form.specs.declared.class_of_heads.Head.{Head}
use Rattle.calls_form.specs.Classes.{IsBytes}
use Rattle.calls_form.specs.ClassesBodies.{target_in}
use Rattle.calls_form.specs.ClassesHeads.{each, heading_of, method_at}
use Rattle.calls_form.proofs.ClassesLoops.{each_goes_on, each_ends, each_done}
use Rattle.calls_form.proofs.class_of_methods.read_methods.Goals as goal

pub returns-in_err-read_method-clause-gives : goal.returns-in_err-read_method-clause-gives
returns-in_err-read_method-clause-gives c =
    let p = err_from_is_err_and c.from_residual.result c.from_residual.ensures.1 in
    let f = λ (h : Head). method_at c.args.own.now (target_in c.args.targets.now) (heading_of h) in
    rw (p.1, p.2) (each_ends f c.args.heads.now c.in_err-read_method.field-0.0 c.loop-head.methods.items c.loop-head.head-index c.head-item.result (each f c.args.heads.now) c.loop-head-test.true c.head-item.is c.in_err-read_method.ensures.gives c.loop-head.invariant.so_far)

pub loop-head-preserved : goal.loop-head-preserved
loop-head-preserved c =
    let f = λ (h : Head). method_at c.args.own.now (target_in c.args.targets.now) (heading_of h) in
    let P = λ (h : Head). IsBytes h.code.now in
    record {
      so_far = rw c.in_ok-push.ensures.items (each_goes_on f c.args.heads.now c.loop-head.methods.items c.loop-head.head-index c.head-item.result c.in_ok-read_method.field-0 (each f c.args.heads.now) c.loop-head-test.true c.head-item.is c.in_ok-read_method.ensures.gives c.loop-head.invariant.so_far);
      bytes = All-more P c.args.heads.now c.loop-head.head-index c.head-item.result c.loop-head-test.true c.loop-head.invariant.bytes (subst P c.head-item.is c.in_ok-read_method.ensures.bytes);
    }

pub returns-clause-gives : goal.returns-clause-gives
returns-clause-gives c =
    let f = λ (h : Head). method_at c.args.own.now (target_in c.args.targets.now) (heading_of h) in
    each_done f c.args.heads.now c.loop-head.methods.items c.loop-head.head-index (each f c.args.heads.now) c.loop-head-test.false c.loop-head.invariant.so_far

pub returns-clause-bytes : goal.returns-clause-bytes
returns-clause-bytes c =
    let P = λ (h : Head). IsBytes h.code.now in
    subst (All P) (take_all c.loop-head.head-index c.args.heads.now c.loop-head-test.false) c.loop-head.invariant.bytes
