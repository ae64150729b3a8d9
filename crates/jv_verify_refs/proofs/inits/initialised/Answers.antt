use Rattle.std.proofs.Common.{◌≡◌, arith}
use Rattle.jv_types.specs.declared.frames.VType.{VType, Class}
use Rattle.jv_resolve.proofs.Tests.{ok_none, ok_some}
use Rattle.jv_verify_refs.specs.Steps.Parts.{IsOfThis, IsMadeAt, IsThisMade, Initialises}
use Rattle.jv_verify_refs.proofs.Initialising.{this_is, no_this, made_is, no_made, no_other, no_class}
use Rattle.jv_verify_refs.proofs.inits.initialised.Goals as goal

pub returns-in_default-clause-none : goal.returns-in_default-clause-none
returns-in_default-clause-none c = no_class c.args.step.now c.args.class.now c.args.before.now c.in_default.ensures.none

pub returns-in-UninitThis-clause-found : goal.returns-in-UninitThis-clause-found
returns-in-UninitThis-clause-found c =
    let s = c.args.step.now in
    let name = c.in-Some.name.now in
    ok_some c.this_made.result (IsThisMade s name) (Initialises s c.args.class.now c.args.before.now)
    (λ made m. this_is s c.args.class.now c.args.before.now made name c.in-Some.ensures.found c.in-UninitThis.is m) c.this_made.ensures.found

pub returns-in-UninitThis-clause-none : goal.returns-in-UninitThis-clause-none
returns-in-UninitThis-clause-none c =
    let s = c.args.step.now in
    let name = c.in-Some.name.now in
    ok_none c.this_made.result (IsOfThis s name → ⊥) ((made : VType) → Initialises s c.args.class.now c.args.before.now made → ⊥)
    (λ n. no_this s c.args.class.now c.args.before.now name c.in-Some.ensures.found c.in-UninitThis.is n) c.this_made.ensures.none

pub returns-in-Uninit-clause-found : goal.returns-in-Uninit-clause-found
returns-in-Uninit-clause-found c =
    let s = c.args.step.now in
    let name = c.in-Some.name.now in
    ok_some c.new_made.result (λ (made : VType). IsMadeAt s c.in-Uninit.pc c.args.class.now × (made ≡ Class name)) (Initialises s c.args.class.now c.args.before.now)
    (λ made m. made_is s c.args.class.now c.args.before.now made c.in-Uninit.pc name c.in-Some.ensures.found c.in-Uninit.is m.0 m.1) c.new_made.ensures.found

pub returns-in-Uninit-clause-none : goal.returns-in-Uninit-clause-none
returns-in-Uninit-clause-none c =
    let s = c.args.step.now in
    ok_none c.new_made.result (IsMadeAt s c.in-Uninit.pc c.args.class.now → ⊥) ((made : VType) → Initialises s c.args.class.now c.args.before.now made → ⊥)
    (λ n. no_made s c.args.class.now c.args.before.now c.in-Uninit.pc c.in-Uninit.is n) c.new_made.ensures.none

pub returns-in-Top-clause-none : goal.returns-in-Top-clause-none
returns-in-Top-clause-none c = no_other c.args.step.now c.args.class.now c.args.before.now (grind arith) (grind arith)
