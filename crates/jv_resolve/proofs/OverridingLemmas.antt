-- One method between two is enough: longer rows of overriding are shortened.
use Rattle.std.proofs.Common.{◌≡◌, ℕ, List, subst, sym, ◌∙◌, ap, ◌⊎◌, inl, inr}
use Rattle.jv_types.specs.declared.ids.MethodId.{MethodId}
use Rattle.jv_types.specs.declared.shapes.MethodShape.{MethodShape}
use Rattle.jv_types.specs.declared.shapes.Shape.{Shape}
use Rattle.jv_resolve.specs.Members.{IsMethod, IsPackagePrivate}
use Rattle.jv_resolve.specs.Packages.{package_of, AreInOnePackage}
use Rattle.jv_resolve.specs.Overriding.{IsOpenTo, OverridesDirectly, Overrides, same, direct, through}
use Rattle.jv_resolve.proofs.Hierarchy.{one_shape, sub_trans}
use Rattle.jv_resolve.proofs.MembersLemmas.{one_method}

package_trans : (w : List Shape) (a b c : ℕ) → AreInOnePackage w a b → AreInOnePackage w b c → AreInOnePackage w a c
package_trans w a b c p q =
    (p.0, q.1, p.2, q.3, p.4 ∙ ap (λ (s : Shape). package_of s.name) (one_shape w b p.1 q.0 p.3 q.2) ∙ q.4)

-- a overrides c, where both are in line with b and c is open to a
joined : (w : List Shape) (a b c : MethodId) → (p : OverridesDirectly w a b) → (q : OverridesDirectly w b c)
    → IsOpenTo w a.class.number c.class.number q.other.flags → OverridesDirectly w a c
joined w a b c p q open_to = record {
  shape = p.shape;
  other = q.other;
  place = p.place;
  other_place = q.other_place;
  sub = sub_trans w a.class.number b.class.number c.class.number p.sub q.sub;
  called =
      let e : p.other ≡ q.shape = one_method w b p.other q.shape p.other_place q.place in
      (p.called.0 ∙ ap (λ (x : MethodShape). x.name) e ∙ q.called.0, p.called.1 ∙ ap (λ (x : MethodShape). x.desc) e ∙ q.called.1);
  not_private = p.not_private;
  not_static = p.not_static;
  other_not_private = q.other_not_private;
  other_not_static = q.other_not_static;
  open_to = open_to;
}

-- a overrides b directly, or through one method where b is package-private
pub record OverridesThrough (w : List Shape) (a b : MethodId) : Type 0 where
  pub middle : MethodId
  pub upper : MethodShape
  pub upper_place : IsMethod w b upper
  pub hidden : IsPackagePrivate upper.flags
  pub first : OverridesDirectly w a middle
  pub second : OverridesDirectly w middle b

abbrev pub OverridesShortly : List Shape → MethodId → MethodId → Type 0
OverridesShortly w a b = (a ≡ b) ⊎ (OverridesDirectly w a b ⊎ OverridesThrough w a b)

-- two direct steps
two : (w : List Shape) (a b c : MethodId) → OverridesDirectly w a b → (q : OverridesDirectly w b c) → IsOpenTo w b.class.number c.class.number q.other.flags
    → OverridesDirectly w a c ⊎ OverridesThrough w a c
two w a b c p q (inl open_to) = inl (joined w a b c p q (inl open_to))
two w a b c p q (inr (inl open_to)) = inl (joined w a b c p q (inr (inl open_to)))
two w a b c p q (inr (inr open_to)) = inr (record { middle = b; upper = q.other; upper_place = q.other_place; hidden = open_to.0; first = p; second = q })

-- three direct steps, of which the second is open
three : (w : List Shape) (a b c d : MethodId) → OverridesDirectly w a b → (q : OverridesDirectly w b c) → (r : OverridesDirectly w c d)
    → IsOpenTo w b.class.number c.class.number q.other.flags → IsOpenTo w c.class.number d.class.number r.other.flags
    → OverridesDirectly w a d ⊎ OverridesThrough w a d
unfolding joined
three w a b c d p q r (inl x) open_to = two w a c d (joined w a b c p q (inl x)) r open_to
three w a b c d p q r (inr (inl x)) open_to = two w a c d (joined w a b c p q (inr (inl x))) r open_to
three w a b c d p q r (inr (inr x)) (inl y) = two w a b d p (joined w b c d q r (inl y)) (inl y)
three w a b c d p q r (inr (inr x)) (inr (inl y)) = two w a b d p (joined w b c d q r (inr (inl y))) (inr (inl y))
three w a b c d p q r (inr (inr x)) (inr (inr y)) =
    let o : IsOpenTo w b.class.number d.class.number r.other.flags = inr (inr (y.0, package_trans w b.class.number c.class.number d.class.number x.1 y.1)) in
    two w a b d p (joined w b c d q r o) o

-- one more direct step behind
then_direct : (w : List Shape) (a b c : MethodId) → OverridesDirectly w a b ⊎ OverridesThrough w a b → OverridesDirectly w b c → OverridesDirectly w a c ⊎ OverridesThrough w a c
then_direct w a b c (inl p) q = two w a b c p q q.open_to
then_direct w a b c (inr p) q = three w a p.middle b c p.first p.second q p.second.open_to q.open_to

then_short : (w : List Shape) (a b c : MethodId) → OverridesDirectly w a b ⊎ OverridesThrough w a b → OverridesDirectly w b c ⊎ OverridesThrough w b c
    → OverridesDirectly w a c ⊎ OverridesThrough w a c
then_short w a b c p (inl q) = then_direct w a b c p q
then_short w a b c p (inr q) = then_direct w a q.middle c (then_direct w a b q.middle p q.first) q.second

both : (w : List Shape) (a b c : MethodId) → OverridesShortly w a b → OverridesShortly w b c → OverridesShortly w a c
both w a b c (inl p) q = subst (λ (x : MethodId). OverridesShortly w x c) (sym p) q
both w a b c (inr p) (inl q) = subst (λ (x : MethodId). OverridesShortly w a x) q (inr p)
both w a b c (inr p) (inr q) = inr (then_short w a b c p q)

pub shortened : (w : List Shape) (a b : MethodId) → Overrides w a b → OverridesShortly w a b
shortened w a b (same x y e) = inl e
shortened w a b (direct x y p) = inr (inl p)
shortened w a b (through x m y p q) = both w x m y (shortened w x m p) (shortened w m y q)

pub overrides_from_short : (w : List Shape) (a b : MethodId) → OverridesShortly w a b → Overrides w a b
overrides_from_short w a b (inl e) = same a b e
overrides_from_short w a b (inr (inl p)) = direct a b p
overrides_from_short w a b (inr (inr p)) = through a p.middle b (direct a p.middle p.first) (direct p.middle b p.second)

-- what is left where neither the two are one nor the one overrides the other directly
pub short_rest : (w : List Shape) (a b : MethodId) → Overrides w a b → (a ≡ b → ⊥) → (OverridesDirectly w a b → ⊥) → OverridesThrough w a b
short_rest w a b o differ fails = pick (shortened w a b o)
  where
    pick : OverridesShortly w a b → OverridesThrough w a b
    pick (inl e) = absurd (differ e)
    pick (inr (inl p)) = absurd (fails p)
    pick (inr (inr p)) = p

-- the flags of the method in between's upper end
pub hidden_at : (w : List Shape) (a b : MethodId) (x : MethodShape) → IsMethod w b x → OverridesThrough w a b → IsPackagePrivate x.flags
hidden_at w a b x at t = subst (λ (y : MethodShape). IsPackagePrivate y.flags) (one_method w b t.upper x t.upper_place at) t.hidden
