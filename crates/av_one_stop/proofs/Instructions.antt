-- The first rule that an instruction of a code fails, and the least offset at which one does, are one.
use Rattle.std.proofs.Common.{◌≡◌, ℕ, inl, inr, List, [], ◌∷◌, sym, ◌∙◌, arith}
use Rattle.std.proofs.lemmas.Bool.{cases_lt}
use Rattle.jv_types.specs.declared.body.Body.{Body}
use Rattle.jv_types.specs.declared.instruction.Insn.{Insn}
use Rattle.jv_types.specs.declared.rule.Rule.{Rule}
use Rattle.av_insn_rules.specs.InsnRules.{Everywhere, FailsFirst, FailsNowhere, IsFirstWithout}

one_first : (P : Insn → Type 0) (body : Body) (pc other : ℕ) → IsFirstWithout P body pc → IsFirstWithout P body other → pc ≡ other
one_first P body pc other p q =
    elim (cases_lt pc other) [
      | inl l ↦ absurd (p.lacks (q.before pc p.insn l p.stands))
      | inr g ↦ elim (cases_lt other pc) [
        | inl l ↦ absurd (q.lacks (p.before other q.insn l q.stands))
        | inr h ↦ omega (arith, g, h)
      ]
    ]

not_everywhere : (P : Insn → Type 0) (body : Body) (pc : ℕ) → IsFirstWithout P body pc → Everywhere P body → ⊥
not_everywhere P body pc p all = p.lacks (all pc p.insn p.stands)

pub one_fails : (keeps : Rule → Insn → Type 0) (rules : List Rule) (body : Body) (rule another : Rule) (pc other : ℕ)
    → FailsFirst keeps rules body rule pc → FailsFirst keeps rules body another other → (rule ≡ another) × (pc ≡ other)
one_fails keeps [] body rule another pc other p q = absurd p
one_fails keeps (next ∷ rules) body rule another pc other (inl p) (inl q) = (p.0 ∙ sym q.0, one_first (keeps next) body pc other p.1 q.1)
one_fails keeps (next ∷ rules) body rule another pc other (inl p) (inr q) = absurd (not_everywhere (keeps next) body pc p.1 q.0)
one_fails keeps (next ∷ rules) body rule another pc other (inr p) (inl q) = absurd (not_everywhere (keeps next) body other q.1 p.0)
one_fails keeps (next ∷ rules) body rule another pc other (inr p) (inr q) = one_fails keeps rules body rule another pc other p.1 q.1

pub not_nowhere : (keeps : Rule → Insn → Type 0) (rules : List Rule) (body : Body) (rule : Rule) (pc : ℕ) → FailsFirst keeps rules body rule pc → FailsNowhere keeps rules body → ⊥
not_nowhere keeps [] body rule pc p none = absurd p
not_nowhere keeps (next ∷ rules) body rule pc (inl p) none = not_everywhere (keeps next) body pc p.1 none.0
not_nowhere keeps (next ∷ rules) body rule pc (inr p) none = not_nowhere keeps rules body rule pc p.1 none.1
