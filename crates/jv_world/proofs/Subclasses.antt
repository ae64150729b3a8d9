-- Subclasses, by superclass links alone.
use Rattle.std.proofs.Common.{◌≡◌, ℕ, zero, suc, ◌+◌, ◌<◌, ◌≤◌, List, length, true, false, IsTrue, refl, sym, ap, ◌∙◌, subst, inl, arith}
use Rattle.std.proofs.lemmas.Option.{same_Some}
use Rattle.jv_types.specs.declared.shapes.Shape.{Shape}
use Rattle.jv_world.specs.Worlds.{AreNumbered, Climbs, HasSuperclass, IsNamed, IsSubclass, IsWorld}
use Rattle.jv_world.proofs.Subtypes.{HasSuper-below}

-- a class has one superclass at most
pub HasSuperclass-one : (w : List Shape) (c d e : ℕ) → AreNumbered w → HasSuperclass w c d → HasSuperclass w c e → d ≡ e
HasSuperclass-one w c d e numbered p q =
    let shape : p.0 ≡ q.0 = same_Some p.0 q.0 (sym p.2 ∙ q.2) in
    let name : p.1 ≡ q.1 = same_Some p.1 q.1 (sym p.3 ∙ ap (λ (s : Shape). s.parent) shape ∙ q.3) in
    numbered.distinct d e q.1 (subst (IsNamed w d) name p.4) q.4

-- one link more before
pub IsSubclass-back : (w : List Shape) (c e d : ℕ) → HasSuperclass w c e → IsSubclass w e d → IsSubclass w c d
IsSubclass-back w c e d first rest = (suc rest.0, (e, first, rest.1))

-- one link less, unless there is none
pub IsSubclass-on : (w : List Shape) (c e d : ℕ) → AreNumbered w → (c ≡ d → ⊥) → HasSuperclass w c e → IsSubclass w c d → IsSubclass w e d
IsSubclass-on w c e d numbered other first (zero, is) = absurd (other is)
IsSubclass-on w c e d numbered other first (suc n, (x, h, rest)) = (n, subst (λ (y : ℕ). Climbs w n y d) (HasSuperclass-one w c x e numbered h first) rest)

-- without a superclass there is no other
pub IsSubclass-top : (w : List Shape) (c d : ℕ) → (c ≡ d → ⊥) → ((e : ℕ) → HasSuperclass w c e → ⊥) → IsSubclass w c d → ⊥
IsSubclass-top w c d other top (zero, is) = other is
IsSubclass-top w c d other top (suc n, (x, h, rest)) = top x h

-- so many links were climbed, to the class `at`, from where the class d is still to be reached
pub record IsReaching (w : List Shape) (c d links at : ℕ) : Type 0 where
  pub here : at < length w
  pub back : IsSubclass w at d → IsSubclass w c d
  pub on : IsSubclass w c d → IsSubclass w at d
  pub world : IsWorld w
  pub low : world.rank at + links ≤ world.rank c

pub reach_start : (w : List Shape) (c d : ℕ) → IsWorld w → c < length w → IsReaching w c d 0 c
reach_start w c d world here = record { here = here; back = λ p. p; on = λ p. p; world = world; low = omega arith }

pub reach_more : (w : List Shape) (c d links at e : ℕ) → IsReaching w c d links at → (at ≡ d → ⊥) → HasSuperclass w at e → IsReaching w c d (links + 1) e
reach_more w c d links at e before other step = record {
  here = HasSuper-below w at e (inl step);
  back = λ p. before.back (IsSubclass-back w at e d step p);
  on = λ p. IsSubclass-on w at e d before.world.numbered other step (before.on p);
  world = before.world;
  low = let f = before.world.falls at e (inl step) in let l = before.low in omega arith;
}

pub reach_past : (w : List Shape) (c d links at : ℕ) → IsReaching w c d links at → c < length w → length w ≤ links → ⊥
reach_past w c d links at before here past =
    let b = before.world.bound c here in
    let l = before.low in
    omega arith

pub reached : (w : List Shape) (c d links at : ℕ) → IsReaching w c d links at → at ≡ d → (IsTrue true → IsSubclass w c d) × (IsSubclass w c d → IsTrue true)
reached w c d links at before is = (λ t. before.back (0, is), λ p. refl)

pub not_reached : (w : List Shape) (c d links at : ℕ) → IsReaching w c d links at → (at ≡ d → ⊥) → ((e : ℕ) → HasSuperclass w at e → ⊥)
    → (IsTrue false → IsSubclass w c d) × (IsSubclass w c d → IsTrue false)
not_reached w c d links at before other top = (
  λ t. absurd (let e : false ≡ true = t in cc),
  λ p. absurd (IsSubclass-top w at d other top (before.on p)),
)
