-- Each turn of the loop is one instruction.
use Rattle.std.proofs.Common.{◌∷◌, [], ◌++◌, ◌∙◌, sym, ap, cond, length, Bool, Some, None, List, ℕ}
use Rattle.std.proofs.lemmas.Result.{err_from_is_err_and}
use Rattle.calls_form.specs.declared.object_class.Placed.{Placed}
use Rattle.calls_form.specs.declared.object_class.Instruction.TheVariants.{Nop}
use Rattle.calls_form.specs.ClassesWalk.{frame_of, is_end, depths_from}
use Rattle.calls_form.proofs.ClassesWalks.{depth, depths_none, depths_of, depths_go_on, depths_end, depths_done}
use Rattle.calls_form.proofs.walk.read_depths.Goals as goal

-- what stands for an instruction that isn't there
abbrev other : Placed
other = record { pc = 0; instruction = Nop }

pub returns-in_default : goal.returns-in_default
returns-in_default c = depths_none c.args.class.now c.args.method.now (frame_of c.args.first) c.args.method.now.code (ap length (sym c.as_slice.ensures) ∙ c.in_default.ensures.cases)

pub returns-in_err-kinds : goal.returns-in_err-kinds
returns-in_err-kinds c =
    let class = c.args.class.now in
    let m = c.args.method.now in
    let p = err_from_is_err_and c.from_residual-in_err-kinds.result c.from_residual-in_err-kinds.ensures.1 in
    let code = depths_of class m (frame_of c.args.first) c.as_slice.result.now c.in-Some.before.now c.in-Some.last.now c.as_slice.ensures c.in-Some.ensures.cases.0 in
    rw (p.1, p.2, code) (depths_end c.in_err-kinds.field-0.0 class m c.loop-placed.depths.items (frame_of c.loop-placed.kinds) c.in-Some.before.now c.loop-placed.placed-index other c.in-Some.last.now (depths_from class m (frame_of c.args.first) (c.in-Some.before.now ++ c.in-Some.last.now ∷ [])) c.loop-placed-test.true c.in_err-kinds.ensures.gives c.loop-placed.invariant.so_far)

pub loop-placed-preserved : goal.loop-placed-preserved
loop-placed-preserved c =
    let class = c.args.class.now in
    let m = c.args.method.now in
    let len = c.len-in-loop-placed.ensures ∙ c.loop-placed.kinds.stack.ok.0 in
    record {
      within = c.in_ok-kinds.ensures.within;
      so_far = rw (c.in_ok-push.ensures.items, len) (depths_go_on class m c.loop-placed.depths.items (frame_of c.loop-placed.kinds) (frame_of c.in_ok-kinds.kinds) c.in-Some.before.now c.loop-placed.placed-index other c.in-Some.last.now (depths_from class m (frame_of c.args.first) (c.in-Some.before.now ++ c.in-Some.last.now ∷ [])) c.loop-placed-test.true c.in_ok-kinds.ensures.gives c.loop-placed.invariant.so_far);
    }

pub returns-then-not-is_end : goal.returns-then-not-is_end
returns-then-not-is_end c =
    let class = c.args.class.now in
    let m = c.args.method.now in
    let code = depths_of class m (frame_of c.args.first) c.as_slice.result.now c.in-Some.before.now c.in-Some.last.now c.as_slice.ensures c.in-Some.ensures.cases.0 in
    let done = depths_done class m c.loop-placed.depths.items (frame_of c.loop-placed.kinds) c.in-Some.before.now c.loop-placed.placed-index c.in-Some.last.now (depths_from class m (frame_of c.args.first) (c.in-Some.before.now ++ c.in-Some.last.now ∷ [])) c.loop-placed-test.false c.loop-placed.invariant.so_far in
    let test = sym (ap (is_end c.in-Some.last.now.instruction m.result) c.as_slice-2.ensures.value) ∙ sym c.is_end.ensures ∙ c.if-not-is_end.true in
    code ∙ done ∙ ap (λ (b : Bool). cond b (Some (c.loop-placed.depths.items ++ depth (frame_of c.loop-placed.kinds) ∷ [])) None) test

pub returns : goal.returns
returns c =
    let class = c.args.class.now in
    let m = c.args.method.now in
    let code = depths_of class m (frame_of c.args.first) c.as_slice.result.now c.in-Some.before.now c.in-Some.last.now c.as_slice.ensures c.in-Some.ensures.cases.0 in
    let done = depths_done class m c.loop-placed.depths.items (frame_of c.loop-placed.kinds) c.in-Some.before.now c.loop-placed.placed-index c.in-Some.last.now (depths_from class m (frame_of c.args.first) (c.in-Some.before.now ++ c.in-Some.last.now ∷ [])) c.loop-placed-test.false c.loop-placed.invariant.so_far in
    let test = sym (ap (is_end c.in-Some.last.now.instruction m.result) c.as_slice-2.ensures.value) ∙ sym c.is_end.ensures ∙ c.if-not-is_end.false in
    let len = c.len-2.ensures ∙ c.loop-placed.kinds.stack.ok.0 in
    code ∙ done ∙ ap (λ (b : Bool). cond b (Some (c.loop-placed.depths.items ++ depth (frame_of c.loop-placed.kinds) ∷ [])) None) test ∙ ap (λ (l : List ℕ). Some l) (sym (c.in_ok-push-2.ensures.items ∙ ap (λ (n : ℕ). c.loop-placed.depths.items ++ n ∷ []) len))
