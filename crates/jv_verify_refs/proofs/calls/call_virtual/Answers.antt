use Rattle.std.proofs.Common.{length, subst}
use Rattle.std.proofs.lemmas.Result.{IfOk-weaker}
use Rattle.jv_types.specs.declared.frames.VType.{VType}
use Rattle.jv_frames.specs.Types.{in_words, ref_vtype}
use Rattle.jv_resolve.proofs.Tests.{denied}
use Rattle.jv_typing.specs.References.{PassesForMethod, param_types}
use Rattle.jv_verify_refs.specs.Steps.Parts.{site_of, CallsOn, CallsVirtual}
use Rattle.jv_verify_refs.proofs.LowestWords.{one_receiver}
use Rattle.jv_verify_refs.proofs.calls.call_virtual.Goals as goal

pub returns-in_default-clause-rule : goal.returns-in_default-clause-rule
returns-in_default-clause-rule c = λ is after h.
    let none = rw (c.as_slice.ensures, c.in_ok-count.ensures) at c.in_default.ensures.none in
    none h.receiver h.stands

pub returns-then-not-branch-clause-rule : goal.returns-then-not-branch-clause-rule
returns-then-not-branch-clause-rule c = λ is after h.
    let s = c.args.step.now in
    let stands = rw (c.as_slice.ensures, c.in_ok-count.ensures) at c.in-Some.ensures.found in
    denied c.in_ok-passes_for_method.field-0 c.if-not-branch.true c.in_ok-passes_for_method.ensures.1
    (subst (λ (t : VType). PassesForMethod s.world.now (site_of s) c.args.method.now t)
    (one_receiver (length (in_words (param_types c.args.method.now.desc))) s.frame.now.stack h.receiver c.in-Some.receiver.now h.stands stands) h.passes)

pub returns-clause-typed : goal.returns-clause-typed
returns-clause-typed c =
    let s = c.args.step.now in
    let method = c.args.method.now in
    let stands = rw (c.as_slice.ensures, c.in_ok-count.ensures) at c.in-Some.ensures.found in
    IfOk-weaker c.call_on_class.result (CallsOn s (ref_vtype method.class) method) (CallsVirtual s method) (λ after g. record {
      plain = c.is_plain.ensures.0 c.if-not-is_plain.false;
      receiver = c.in-Some.receiver.now;
      stands = stands;
      passes = c.in_ok-passes_for_method.ensures.0 c.if-not-branch.false;
      goes = g;
    }) c.call_on_class.ensures.typed

pub returns-clause-rule : goal.returns-clause-rule
returns-clause-rule c = λ is after h. c.call_on_class.ensures.rule is after h.goes
