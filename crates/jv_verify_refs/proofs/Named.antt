-- What operands name is one, and what follows from what an instruction with them has no typing for.
use Rattle.std.proofs.Common.{◌≡◌, ℕ, [], ◌∷◌, Some, sym, ap, ◌∙◌, subst}
use Rattle.jv_types.specs.declared.desc.PrimType.{PrimType}
use Rattle.jv_types.specs.declared.desc.RefType.{RefType}
use Rattle.jv_types.specs.declared.instruction.Arg.{Arg}
use Rattle.jv_types.specs.declared.instruction.Arg.TheVariants as args
use Rattle.jv_types.specs.declared.instruction.Const.{Const}
use Rattle.jv_types.specs.declared.frames.VType.{VType}
use Rattle.jv_types.specs.declared.frames.Frame.{Frame}
use Rattle.jv_types.specs.declared.references.FieldRef.{FieldRef}
use Rattle.jv_types.specs.declared.references.MethodRef.{MethodRef}
use Rattle.jv_typing.specs.References.{const_type}
use Rattle.jv_typing.specs.declared.rules.RefRule.TheVariants as rules
use Rattle.jv_verify_refs.specs.declared.step.Step.{Step}
use Rattle.jv_verify_refs.specs.Steps.Parts.{StepGoes, HasNoTyping}

-- ---- one operand

pub one_constant : (arg : Arg) (a b : Const) → arg ≡ args.Constant a → arg ≡ args.Constant b → a ≡ b
one_constant arg a b e f = let g : args.Constant a ≡ args.Constant b = sym e ∙ f in cc

pub one_field : (arg : Arg) (a b : FieldRef) → arg ≡ args.Field a → arg ≡ args.Field b → a ≡ b
one_field arg a b e f = let g : args.Field a ≡ args.Field b = sym e ∙ f in cc

pub one_method : (arg : Arg) (a b : MethodRef) → arg ≡ args.Method a → arg ≡ args.Method b → a ≡ b
one_method arg a b e f = let g : args.Method a ≡ args.Method b = sym e ∙ f in cc

pub one_type : (arg : Arg) (a b : RefType) → arg ≡ args.Class a → arg ≡ args.Class b → a ≡ b
one_type arg a b e f = let g : args.Class a ≡ args.Class b = sym e ∙ f in cc

pub one_prim : (arg : Arg) (a b : PrimType) → arg ≡ args.NewPrim a → arg ≡ args.NewPrim b → a ≡ b
one_prim arg a b e f = let g : args.NewPrim a ≡ args.NewPrim b = sym e ∙ f in cc

pub one_multi : (arg : Arg) (a b : RefType) (m n : ℕ) → arg ≡ args.Multi a m → arg ≡ args.Multi b n → a ≡ b
one_multi arg a b m n e f = let g : args.Multi a m ≡ args.Multi b n = sym e ∙ f in cc

pub one_count : (arg : Arg) (a b : RefType) (m n : ℕ) → arg ≡ args.Multi a m → arg ≡ args.Multi b n → m ≡ n
one_count arg a b m n e f = let g : args.Multi a m ≡ args.Multi b n = sym e ∙ f in cc

-- ---- constants

pub no_constant : (step : Step) (constant : Const) (type : VType) → step.insn.now.arg ≡ args.Constant constant → const_type constant ≡ Some type
    → ((after : Frame) → StepGoes step [] (type ∷ []) after → ⊥) → HasNoTyping step rules.PushConstant
no_constant step constant type is has none after h =
    let same : h.0 ≡ constant = one_constant step.insn.now.arg h.0 constant h.2 is in
    let types : Some h.1 ≡ Some type = sym h.3 ∙ ap const_type same ∙ has in
    let one : h.1 ≡ type = cc in
    none after (subst (λ (t : VType). StepGoes step [] (t ∷ []) after) one h.4)
