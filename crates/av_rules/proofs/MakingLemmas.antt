-- What instructions make.
use Rattle.std.proofs.Common.{◌≡◌, ◌+◌, ◌<◌, ℕ, List, None, Some, sym, ap, ◌∙◌, subst, ⊎_elim, arith}
use Rattle.std.proofs.lemmas.Option.{none-some, same_Some}
use Rattle.jv_types.specs.Bodies.{at_offset}
use Rattle.jv_types.specs.declared.desc.RefType.{RefType}
use Rattle.jv_types.specs.declared.desc.RefType as types
use Rattle.jv_types.specs.declared.frames.FramedBody.{FramedBody}
use Rattle.jv_types.specs.declared.instruction.Arg.{Arg}
use Rattle.jv_types.specs.declared.instruction.Arg.TheVariants as args
use Rattle.jv_types.specs.declared.instruction.Insn.{Insn}
use Rattle.jv_types.specs.declared.shapes.Shape.{Shape}
use Rattle.av_rules.specs.declared.flat_type.FlatType.{FlatType}
use Rattle.av_rules.specs.FlatTypes.{IsFlat}
use Rattle.av_rules.specs.Labels.{IsInner, Makes, MakesBy, MakesOf}
use Rattle.av_rules.specs.Steps.Making.{MakesAt}

-- a class that is none is made by no new
pub class_none : (w : List Shape) (t : RefType) (own made : FlatType) → ((other : FlatType) → IsFlat w t other → other ≡ own) → (own.dims ≡ 0 → ⊥)
    → IsFlat w t made → made.dims ≡ 0 → ⊥
class_none w t own made one array is flat = array (ap (λ (f : FlatType). f.dims) (sym (one made is)) ∙ flat)

pub class_by : (w : List Shape) (t : RefType) (own made : FlatType) → IsFlat w t own → made ≡ own → own.dims ≡ 0 → IsFlat w t made × (made.dims ≡ 0)
class_by w t own made is same flat = (subst (IsFlat w t) (sym same) is, ap (λ (f : FlatType). f.dims) same ∙ flat)

-- new makes what its class is, and nothing else
pub new_only : (w : List Shape) (op : ℕ) (t : RefType) (made : FlatType) → op ≡ 187 → ((other : FlatType) → IsFlat w t other → other.dims ≡ 0 → ⊥) → MakesOf w op t made → ⊥
new_only w op t made is none x = ⊎_elim (λ left. none made left.1 left.2) (λ right. absurd (let e : op ≡ 189 = right.0 in omega (arith, is, e))) x

pub anewarray_only : (w : List Shape) (op : ℕ) (t : RefType) (made : FlatType) → op ≡ 189 → ((other : FlatType) → IsFlat w (types.Array t) other → ⊥) → MakesOf w op t made → ⊥
anewarray_only w op t made is none x = ⊎_elim (λ left. absurd (let e : op ≡ 187 = left.0 in omega (arith, is, e))) (λ right. none made right.1) x

pub neither : (w : List Shape) (op : ℕ) (t : RefType) (made : FlatType) → (op ≡ 187 → ⊥) → (op ≡ 189 → ⊥) → MakesOf w op t made → ⊥
neither w op t made no_new no_array x = ⊎_elim (λ left. no_new left.0) (λ right. no_array right.0) x

-- inner arrays of a type
pub inner_none : (w : List Shape) (t : RefType) (whole made : FlatType) (depth : ℕ) → ((other : FlatType) → IsFlat w t other → other ≡ whole) → whole.dims < depth
    → IsInner w t depth made → ⊥
inner_none w t whole made depth one deep x =
    let same : x.0.dims ≡ whole.dims = ap (λ (f : FlatType). f.dims) (one x.0 x.1) in
    let sum : made.dims + depth ≡ x.0.dims = x.3 in
    absurd (omega (arith, same, sum, deep))

-- multianewarray makes what its inner arrays are
pub multi_none : (w : List Shape) (insn : Insn) (t : RefType) (count depth : ℕ) (made : FlatType) → insn.arg ≡ args.Multi t count
    → ((other : FlatType) → IsInner w t depth other → ⊥) → Makes w insn depth made → ⊥
multi_none w insn t count depth made is none x =
    let P : Arg → Type 0 = λ a. MakesBy w insn.op a depth made in
    let y : MakesBy w insn.op (args.Multi t count) depth made = subst P is x in
    none made y.2

-- where no instruction stands, nothing is made
pub nothing_stands : (w : List Shape) (framed : FramedBody) (pc depth : ℕ) (made : FlatType) → None ≡ at_offset pc framed.body.insns → MakesAt w framed pc depth made → ⊥
nothing_stands w framed pc depth made none x = none-some x.0 (none ∙ x.1)

pub only_there : (w : List Shape) (framed : FramedBody) (pc depth : ℕ) (insn : Insn) (made : FlatType) → Some insn ≡ at_offset pc framed.body.insns
    → (Makes w insn depth made → ⊥) → MakesAt w framed pc depth made → ⊥
only_there w framed pc depth insn made at none x =
    let same : x.0 ≡ insn = same_Some x.0 insn (sym x.1 ∙ sym at) in
    none (subst (λ (i : Insn). Makes w i depth made) same x.2)
