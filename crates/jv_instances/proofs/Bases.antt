-- Bases with dimensions, and the reference types that they are.
use Rattle.std.proofs.Common.{◌≡◌, ℕ, suc, ◌<◌, ◌⊎◌, List, Some, refl, sym, ap, ◌∙◌, subst, inl, inr, arith}
use Rattle.std.specs.Prelude.{◌↔◌}
use Rattle.std.proofs.lemmas.Bool.{cases_lt}
use Rattle.jv_types.specs.declared.desc.RefType.{RefType, Class, PrimArray}
use Rattle.jv_types.specs.declared.label.LibBase.{LibBase}
use Rattle.jv_types.specs.declared.label.LibBase.TheVariants.{Class as LibClass, Prim as LibPrim}
use Rattle.jv_types.specs.declared.shapes.Shape.{Shape}
use Rattle.jv_world.specs.Instances.{IsArraySuper, IsInstanceInDims, IsInstanceOf, IsSubNamed}
use Rattle.jv_world.specs.Worlds.{HaveDistinctNames, IsNamed, Sub, same}
use Rattle.jv_instances.specs.TypesInDims.{IsTypeInDims}
use Rattle.jv_instances.proofs.Arrays.{around}

-- what is below one more is below, or even
cases_le : (m n : ℕ) → m < suc n → (m < n) ⊎ (n ≡ m)
cases_le m n l = elim (cases_lt m n) [ inl less ↦ inl less | inr more ↦ inr (omega (arith, l, more)) ]

-- a number has one name
one_name : (w : List Shape) (c : ℕ) (a b : List ℕ) → IsNamed w c a → IsNamed w c b → a ≡ b
one_name w c a b (shape, at, is) (other, there, are) =
    let e : Some shape ≡ Some other = sym at ∙ there in
    let one : shape ≡ other = cc in
    sym is ∙ ap (λ (s : Shape). s.name) one ∙ are

-- what every array is an instance of, by name and by number
above_by_name : (w : List Shape) (d : ℕ) (of : List ℕ) → IsNamed w d of → ((name : List ℕ) × IsNamed w d name × IsArraySuper name) ↔ IsArraySuper of
above_by_name w d of are = (λ p. subst IsArraySuper (one_name w d p.0 of p.1 are) p.2, λ q. (of, are, q))

module _ (w : List Shape) (distinct : HaveDistinctNames w) where
  -- subtypes by names and by numbers
  sub_by_name : (c d : ℕ) (name of : List ℕ) → IsNamed w c name → IsNamed w d of → Sub w c d ↔ IsSubNamed w name of
  sub_by_name c d name of is are = (
    λ p. inr (c, d, is, are, p),
    λ q. elim q [
      | inl e ↦ same c d (distinct c d of (subst (IsNamed w c) e is) are)
      | inr there ↦
          let from = distinct there.0 c name there.2 is in
          let to = distinct there.1 d of there.3 are in
          subst (λ (x : ℕ). Sub w x d) from (subst (λ (x : ℕ). Sub w there.0 x) to there.4)
    ],
  )

  pub by_dimensions : (base of : LibBase) (dims of_dims : ℕ) (type other : RefType) → IsTypeInDims w base dims type → IsTypeInDims w of of_dims other
      → IsInstanceInDims w base dims of of_dims ↔ IsInstanceOf w type other
  by_dimensions (LibClass c) (LibClass d) dims of_dims type other is are =
      let says = around w dims of_dims (Class is.0) (Class are.0) type other refl refl is.2 are.2 in
      let sub = sub_by_name c.number d.number is.0 are.0 is.1 are.1 in
      let above = above_by_name w d.number are.0 are.1 in (
        λ p. says.1 (elim p [
          | inl here ↦ inl (here.0, sub.0 here.1)
          | inr more ↦ inr (more.0, above.0 more.1)
        ]),
        λ q. elim (says.0 q) [
          | inl here ↦ inl (here.0, sub.1 here.1)
          | inr more ↦ inr (more.0, above.1 more.1)
        ],
      )
  by_dimensions (LibClass c) (LibPrim prim) dims of_dims type other is are =
      let says = around w dims are.0 (Class is.0) (PrimArray prim) type other refl refl is.2 are.2 in (
        λ p. elim p [
          | inl here ↦ absurd here.1
          | inr more ↦ absurd more.1
        ],
        λ q. elim (says.0 q) [
          | inl here ↦ let e : Class is.0 ≡ PrimArray prim = here.1 in absurd cc
          | inr more ↦ absurd more.1
        ],
      )
  by_dimensions (LibPrim prim) (LibClass d) dims of_dims type other is are =
      let says = around w is.0 of_dims (PrimArray prim) (Class are.0) type other refl refl is.2 are.2 in
      let above = above_by_name w d.number are.0 are.1 in (
        λ p. elim p [
          | inl here ↦ absurd here.1
          | inr more ↦ says.1 (elim (cases_le of_dims is.0 (subst (λ (x : ℕ). of_dims < x) is.1 more.0)) [
            | inl less ↦ inr (less, above.0 more.1)
            | inr even ↦ inl (even, above.0 more.1)
          ])
        ],
        λ q. elim (says.0 q) [
          | inl here ↦ inr (omega (arith, here.0, is.1), above.1 here.1)
          | inr more ↦ inr (omega (arith, more.0, is.1), above.1 more.1)
        ],
      )
  by_dimensions (LibPrim prim) (LibPrim own) dims of_dims type other is are =
      let says = around w is.0 are.0 (PrimArray prim) (PrimArray own) type other refl refl is.2 are.2 in (
        λ p. elim p [
          | inl here ↦ says.1 (inl (omega (arith, here.0, is.1, are.1), ap PrimArray here.1))
          | inr more ↦ absurd more.1
        ],
        λ q. elim (says.0 q) [
          | inl here ↦ let e : PrimArray prim ≡ PrimArray own = here.1 in inl (is.1 ∙ ap suc here.0 ∙ sym are.1, cc)
          | inr more ↦ absurd more.1
        ],
      )
