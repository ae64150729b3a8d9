-- A method with a table fails at no offset.
use Rattle.std.proofs.Common.{◌≡◌, ℕ, List, Some, sym, subst}
use Rattle.jv_lists.proofs.Tests.{value_of}
use Rattle.jv_types.specs.Bodies.{at_offset}
use Rattle.jv_types.specs.declared.ids.MethodId.{MethodId}
use Rattle.jv_types.specs.declared.shapes.Shape.{Shape}
use Rattle.jv_types.specs.declared.instruction.Insn.{Insn}
use Rattle.jv_types.specs.declared.body.Body.{Body}
use Rattle.jv_types.specs.declared.frames.Frame.{Frame}
use Rattle.jv_names.proofs.NamedOnce.{given_twice}
use Rattle.jv_frames.specs.Assignable.{IsFrameAssignable}
use Rattle.jv_typing.specs.Steps.{StepTyping}
use Rattle.jv_typing.specs.TypeSafe.{site_at, FitsThere, FitsWhereItGoes, IsTypedAt, IsTypeSafe, IsForced, FailsAt, no_initial, unfit_initial, unforced, misshapen, untyped, unfit}
use Rattle.jv_typing_laws.proofs.OneFrame.{one_step, one_initial}
use Rattle.jv_typing_laws.proofs.Rows.{key_start, starts_by}
use Rattle.jv_typing_laws.proofs.Forced.{one_forced, all_forced}

-- what fits at a frame of the table fits at one that is forced
fits_forced : (w : List Shape) (method : MethodId) (body : Body) (maps frames : List (ℕ × Frame)) (pc : ℕ) (frame : Frame) → IsTypeSafe w method body maps frames
    → FitsThere w (λ place there. at_offset place frames ≡ Some there) pc frame → FitsThere w (IsForced w method body maps) pc frame
fits_forced w method body maps frames pc frame safe there = (there.0, all_forced w method body maps frames pc there.0 safe there.1, there.2)

goes_forced : (w : List Shape) (method : MethodId) (body : Body) (maps frames : List (ℕ × Frame)) (pc : ℕ) (insn : Insn) (frame after : Frame) → IsTypeSafe w method body maps frames
    → FitsWhereItGoes w body (λ place there. at_offset place frames ≡ Some there) pc insn frame after → FitsWhereItGoes w body (IsForced w method body maps) pc insn frame after
goes_forced w method body maps frames pc insn frame after safe goes = record {
  falls = λ on. let next = goes.falls on in (next.0, next.1, fits_forced w method body maps frames next.0 after safe next.2);
  jumps = λ target to. fits_forced w method body maps frames target after safe (goes.jumps target to);
  throws = λ handler within covers.
      let there = goes.throws handler within covers in
      record { throwable = there.throwable; fits = fits_forced w method body maps frames handler.target _ safe there.fits };
}

-- the typing of an instruction on its forced frame
record TypedForced (w : List Shape) (method : MethodId) (body : Body) (maps frames : List (ℕ × Frame)) (pc : ℕ) (insn : Insn) : Type 0 where
  frame : Frame
  forced : IsForced w method body maps pc frame
  typed : IsTypedAt w method body maps frames pc insn frame

typed_forced : (w : List Shape) (method : MethodId) (body : Body) (maps frames : List (ℕ × Frame)) (pc : ℕ) (insn : Insn) → IsTypeSafe w method body maps frames → at_offset pc body.insns ≡ Some insn
    → TypedForced w method body maps frames pc insn
typed_forced w method body maps frames pc insn safe at =
    let frame = value_of (at_offset pc frames) (key_start body.insns frames pc (sym safe.one_each) (starts_by (at_offset pc body.insns) insn at)) in
    record { frame = frame.0; forced = all_forced w method body maps frames pc frame.0 safe frame.1; typed = safe.each pc insn frame.0 at frame.1 }

pub never_fails : (w : List Shape) (method : MethodId) (body : Body) (maps frames : List (ℕ × Frame)) (pc : ℕ) → IsTypeSafe w method body maps frames → FailsAt w method body maps pc → ⊥
never_fails w method body maps frames pc safe (no_initial zero none) = none safe.begins.initial safe.begins.is_initial
never_fails w method body maps frames pc safe (unfit_initial initial first zero is at not_fit) =
    let begins = safe.begins in
    let one : begins.initial ≡ initial = one_initial w method body.max_locals begins.initial initial begins.is_initial is in
    let same : begins.first ≡ first = given_twice (at_offset 0 frames) begins.first first begins.stands (safe.maps_are 0 first at) in
    let fits : IsFrameAssignable w initial begins.first = subst (λ (f : Frame). IsFrameAssignable w f begins.first) one begins.fits in
    not_fit (subst (λ (f : Frame). IsFrameAssignable w initial f) same fits)
never_fails w method body maps frames pc safe (unforced start none) =
    let insn = value_of (at_offset pc body.insns) start in
    let here = typed_forced w method body maps frames pc insn.0 safe insn.1 in
    none here.frame here.forced
never_fails w method body maps frames pc safe (misshapen insn at none) = none (typed_forced w method body maps frames pc insn safe at).typed.operands
never_fails w method body maps frames pc safe (untyped insn frame at forced none) =
    let here = typed_forced w method body maps frames pc insn safe at in
    let same : here.frame ≡ frame = one_forced w method body maps pc here.frame frame here.forced forced in
    none here.typed.after (subst (λ (f : Frame). StepTyping w (site_at method body pc) f insn here.typed.after) same here.typed.typing)
never_fails w method body maps frames pc safe (unfit insn frame after at forced typing not_fit) =
    let here = typed_forced w method body maps frames pc insn safe at in
    let same : here.frame ≡ frame = one_forced w method body maps pc here.frame frame here.forced forced in
    let own : StepTyping w (site_at method body pc) frame insn here.typed.after = subst (λ (f : Frame). StepTyping w (site_at method body pc) f insn here.typed.after) same here.typed.typing in
    let left : here.typed.after ≡ after = one_step w (site_at method body pc) frame insn here.typed.after after own typing in
    let goes = goes_forced w method body maps frames pc insn here.frame here.typed.after safe here.typed.goes in
    let from : FitsWhereItGoes w body (IsForced w method body maps) pc insn frame here.typed.after = subst (λ (f : Frame). FitsWhereItGoes w body (IsForced w method body maps) pc insn f here.typed.after) same goes in
    not_fit (subst (λ (f : Frame). FitsWhereItGoes w body (IsForced w method body maps) pc insn frame f) left from)
