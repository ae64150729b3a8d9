-- The instruction at an offset, and its rule.
use Rattle.std.proofs.Common.{◌≡◌, ℕ, Some, sym, ◌∙◌, subst}
use Rattle.std.specs.Ordering.{nat_cmp}
use Rattle.jv_table.specs.Rows.{row_of}
use Rattle.jv_types.specs.Bodies.{at_offset}
use Rattle.jv_types.specs.declared.instruction.Insn.{Insn}
use Rattle.jv_types.specs.declared.frames.Frame.{Frame}
use Rattle.jv_typing.specs.Rules.{ref_rules}
use Rattle.jv_typing.specs.References.{IsRefTyping}
use Rattle.jv_typing.specs.declared.rules.RefRule.{RefRule}
use Rattle.jv_verify_refs.specs.declared.step.Step.{Step}
use Rattle.jv_verify_refs.specs.Steps.Parts.{site_of, HasTyping, HasNoTyping}
use Rattle.jv_verify_refs.specs.Leads.{LeadsTo}

same_insn : (step : Step) (insn : Insn) → at_offset step.pc step.body.now.insns ≡ Some step.insn.now → at_offset step.pc step.body.now.insns ≡ Some insn → insn ≡ step.insn.now
same_insn step insn at other = let e : Some insn ≡ Some step.insn.now = sym other ∙ at in cc

same_rule : (op : ℕ) (rule other : RefRule) → row_of nat_cmp op ref_rules ≡ Some rule → row_of nat_cmp op ref_rules ≡ Some other → other ≡ rule
same_rule op rule other e f = let g : Some other ≡ Some rule = sym f ∙ e in cc

pub leads_not : (step : Step) (rule : RefRule) → at_offset step.pc step.body.now.insns ≡ Some step.insn.now → row_of nat_cmp step.insn.now.op ref_rules ≡ Some rule
    → HasNoTyping step rule → (after : Frame) → LeadsTo step.world.now (site_of step) step.frame.now after → ⊥
leads_not step rule at is none after (insn, other, h) =
    let k : IsRefTyping step.world.now (site_of step) step.frame.now step.insn.now after =
    subst (λ (i : Insn). IsRefTyping step.world.now (site_of step) step.frame.now i after) (same_insn step insn at other) h in
    none after (subst (λ (r : RefRule). HasTyping step r after) (same_rule step.insn.now.op rule k.rule is k.stands) k.typing)
