-- What is selected.
use Rattle.std.proofs.Common.{◌≡◌, ℕ, List, subst, arith, inl, inr}
use Rattle.std.proofs.lemmas.Bool.{cases_lt}
use Rattle.jv_types.specs.declared.desc.MethodDesc.{MethodDesc}
use Rattle.jv_types.specs.declared.ids.MethodId.{MethodId}
use Rattle.jv_types.specs.declared.shapes.MethodShape.{MethodShape}
use Rattle.jv_types.specs.declared.shapes.Shape.{Shape}
use Rattle.jv_world.specs.Worlds.{Climbs, IsWorld}
use Rattle.jv_resolve.specs.declared.nearest.Wanted.{Wanted}
use Rattle.jv_resolve.specs.Members.{IsMethod, IsConcrete}
use Rattle.jv_resolve.specs.Inheriting.{IsNearest, HasNone, IsSingleDefault}
use Rattle.jv_resolve.specs.Steps.Wanted.{IsWanted}
use Rattle.jv_resolve.specs.Selecting.{IsCandidate, IsOverrider, SelectsBy, SelectsVirtual, SelectsInterface}
use Rattle.jv_resolve.proofs.AboveLemmas.{nearest_or_none}
use Rattle.jv_resolve.proofs.Climbing.{wanted_declared}
use Rattle.jv_resolve.proofs.Hierarchy.{one_climb}
use Rattle.jv_resolve.proofs.MembersLemmas.{one_method, declares_one}

-- the nearest one is one
pub one_nearest : (w : List Shape) (name : List ℕ) (desc : MethodDesc) (wanted : Wanted) (c : ℕ) (m n : MethodId) → IsWorld w
    → IsNearest w (IsWanted w name desc wanted) c m → IsNearest w (IsWanted w name desc wanted) c n → m ≡ n
one_nearest w name desc wanted c m n world p q = elim (cases_lt p.links q.links) [
  | inl l ↦ absurd (q.nearest p.links m l p.leads p.meets)
  | inr g ↦ elim (cases_lt q.links p.links) [
    | inl l ↦ absurd (p.nearest q.links n l q.leads q.meets)
    | inr h ↦
        let links : q.links ≡ p.links = omega arith in
        declares_one w name desc m n (wanted_declared w name desc wanted m p.meets) (wanted_declared w name desc wanted n q.meets)
        (one_climb w world p.links c m.class.number n.class.number p.leads (subst (λ (k : ℕ). Climbs w k c n.class.number) links q.leads))
  ]
]

pub abstract_nearest : (w : List Shape) (name : List ℕ) (desc : MethodDesc) (wanted : Wanted) (c : ℕ) (m : MethodId) → IsWorld w
    → IsNearest w (IsWanted w name desc wanted) c m → (IsConcrete w m → ⊥) → (s : MethodId) → SelectsBy w (IsWanted w name desc wanted) c name desc s → ⊥
abstract_nearest w name desc wanted c m world p abstract s (inl q, concrete) = abstract (subst (IsConcrete w) (one_nearest w name desc wanted c s m world q p) concrete)
abstract_nearest w name desc wanted c m world p abstract s (inr q, concrete) = nearest_or_none w (IsWanted w name desc wanted) c m q.0 p

pub nothing_selected : (w : List Shape) (P : MethodId → Type 0) (c : ℕ) (name : List ℕ) (desc : MethodDesc) → HasNone w P c → ((m : MethodId) → IsSingleDefault w c name desc m → ⊥)
    → (s : MethodId) → SelectsBy w P c name desc s → ⊥
nothing_selected w P c name desc none default s (inl q, concrete) = nearest_or_none w P c s none q
nothing_selected w P c name desc none default s (inr q, concrete) = default s q.1

pub virtual_at : (w : List Shape) (c : ℕ) (m : MethodId) (x : MethodShape) (s : MethodId) → IsMethod w m x → SelectsVirtual w c m s
    → SelectsBy w (IsOverrider w m x.name x.desc) c x.name x.desc s
virtual_at w c m x s at p = subst (λ (y : MethodShape). SelectsBy w (IsOverrider w m y.name y.desc) c y.name y.desc s) (one_method w m p.shape x p.place at) p.selects

pub interface_at : (w : List Shape) (c : ℕ) (m : MethodId) (x : MethodShape) (s : MethodId) → IsMethod w m x → SelectsInterface w c m s
    → SelectsBy w (IsCandidate w x.name x.desc) c x.name x.desc s
interface_at w c m x s at p = subst (λ (y : MethodShape). SelectsBy w (IsCandidate w y.name y.desc) c y.name y.desc s) (one_method w m p.shape x p.place at) p.selects
