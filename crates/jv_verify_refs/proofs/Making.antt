-- What a `new` leaves.
use Rattle.std.proofs.Common.{◌≡◌, ◌≤◌, ◌<◌, ℕ, List, [], ◌∷◌, ◌++◌, length, refl, ap, arith}
use Rattle.std.specs.List.{Contains}
use Rattle.jv_types.specs.declared.desc.RefType as refs
use Rattle.jv_types.specs.declared.instruction.Arg.TheVariants as args
use Rattle.jv_types.specs.declared.frames.VType.{VType, Top, Uninit}
use Rattle.jv_typing.specs.Transitions.{AreReplaced}
use Rattle.jv_typing.specs.declared.rules.RefRule.TheVariants as rules
use Rattle.jv_verify_refs.specs.declared.step.Step.{Step}
use Rattle.jv_verify_refs.specs.Steps.Parts.{HasTyping, HasNoTyping}

pub makes_one : (step : Step) (locals stack : List VType) → ((name : List ℕ) × (step.insn.now.arg ≡ args.Class (refs.Class name))) → (Contains step.frame.now.stack (Uninit step.pc) → ⊥)
    → AreReplaced (Uninit step.pc) Top step.frame.now.locals locals → stack ≡ step.frame.now.stack ++ Uninit step.pc ∷ [] → length stack ≤ step.body.now.max_stack
    → HasTyping step rules.New (record { locals = locals; stack = stack; this_uninit = step.frame.now.this_uninit })
makes_one step locals stack (name, is) fresh replaced e room = (name, is, record { fresh = fresh; stack = e; room = room; locals = replaced; flag = refl })

pub no_room : (step : Step) → step.body.now.max_stack < length (step.frame.now.stack ++ Uninit step.pc ∷ []) → HasNoTyping step rules.New
no_room step more after h =
    let long : length after.stack ≡ length (step.frame.now.stack ++ Uninit step.pc ∷ []) = ap length h.2.stack in
    let room : length after.stack ≤ step.body.now.max_stack = h.2.room in
    absurd (omega arith)
