-- An array has one dimension more than its items.
use Rattle.std.proofs.Common.{◌≡◌, ◌≤◌, ◌+◌, ◌-◌, ℕ, Bool, sym, ap, ◌∙◌, arith}
use Rattle.std.specs.Prelude.{IsTrue, ◌↔◌}
use Rattle.jv_types.specs.declared.desc.RefType.{RefType, Array}
use Rattle.jv_desc.specs.Texts.{ref_dims}
use Rattle.jv_desc.proofs.Layers.{ref_dims-Array}
use Rattle.jv_insn.proofs.operands.+has_dims.Goals as goal

dims_of_array : (of item got : RefType) → of ≡ Array item → got ≡ item → ref_dims of ≡ ref_dims got + 1
dims_of_array of item got e f = ap ref_dims e ∙ ref_dims-Array item ∙ ap (λ (t : RefType). ref_dims t + 1) (sym f)

one_more : (b : Bool) (dims inner outer : ℕ) → (dims ≡ 0 → ⊥) → outer ≡ inner + 1 → (IsTrue b ↔ (dims - 1 ≤ inner)) → IsTrue b ↔ (dims ≤ outer)
one_more b dims inner outer some e h = (λ t. let le = h.0 t in omega arith, λ le. h.1 (omega arith))

pub returns-in-Array : goal.returns-in-Array
returns-in-Array t c = one_more c.has_dims.result c.args.dims (ref_dims c.get.result.now) (ref_dims c.args.of.now) c.if-dims-eq0.false (dims_of_array c.args.of.now c.in-Array.item c.get.result.now c.in-Array.is c.get.ensures) c.has_dims.ensures
