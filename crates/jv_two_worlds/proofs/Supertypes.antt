-- Superclasses, supertypes and links to them, in both worlds.
use Rattle.std.proofs.Common.{◌≡◌, ℕ, zero, suc, ◌<◌, List, Some, length, Contains, refl, sym, ap, ◌∙◌, subst, inl, inr}
use Rattle.jv_types.specs.declared.shapes.Shape.{Shape}
use Rattle.jv_world.specs.Worlds.{Climbs, HasInterface, HasSuper, HasSuperclass, IsSubclass, ProperSub, Sub, same, link}
use Rattle.jv_resolve.proofs.Hierarchy.{super_here, sub_here}
use Rattle.jv_two_worlds.specs.Renumbering.{StandsIn}
use Rattle.jv_two_worlds.proofs.Classes.{shape_back, there, named_into, named_only, one_number}

pub climbs_here : (w : List Shape) (n c d : ℕ) → c < length w → Climbs w n c d → d < length w
climbs_here w zero c d here p = subst (λ (x : ℕ). x < length w) p here
climbs_here w (suc n) c d here p = climbs_here w n p.0 d (super_here w c p.0 (inl p.1)) p.2

module _ {w v : List Shape} {to : ℕ → ℕ} (inside : StandsIn w v to) where
  -- ---- links

  pub superclass_into : (c d : ℕ) → HasSuperclass w c d → HasSuperclass v (to c) (to d)
  superclass_into c d p = let r = inside.shapes c p.0 p.2 in (r.0, p.1, r.1, sym r.2.parent ∙ p.3, named_into inside d p.1 p.4)

  pub superclass_back : (c e : ℕ) → c < length w → HasSuperclass v (to c) e → (d : ℕ) × (e ≡ to d) × HasSuperclass w c d
  superclass_back c e here p =
      let r = shape_back inside c p.0 here p.2 in
      let parent : r.0.parent ≡ Some p.1 = r.2.parent ∙ p.3 in
      let found = there w inside.world c r.0 p.1 r.1 (inl parent) in
      (found.0, named_only inside found.0 e p.1 found.1 p.4, (r.0, p.1, r.1, parent, found.1))

  interface_link_into : (c d : ℕ) → HasInterface w c d → HasInterface v (to c) (to d)
  interface_link_into c d p =
      let r = inside.shapes c p.0 p.2 in
      (r.0, p.1, r.1, subst (λ (l : List (List ℕ)). Contains l p.1) r.2.interfaces p.3, named_into inside d p.1 p.4)

  interface_link_back : (c e : ℕ) → c < length w → HasInterface v (to c) e → (d : ℕ) × (e ≡ to d) × HasInterface w c d
  interface_link_back c e here p =
      let r = shape_back inside c p.0 here p.2 in
      let named : Contains r.0.interfaces p.1 = subst (λ (l : List (List ℕ)). Contains l p.1) (sym r.2.interfaces) p.3 in
      let found = there w inside.world c r.0 p.1 r.1 (inr named) in
      (found.0, named_only inside found.0 e p.1 found.1 p.4, (r.0, p.1, r.1, named, found.1))

  super_into : (c d : ℕ) → HasSuper w c d → HasSuper v (to c) (to d)
  super_into c d (inl p) = inl (superclass_into c d p)
  super_into c d (inr p) = inr (interface_link_into c d p)

  super_back : (c e : ℕ) → c < length w → HasSuper v (to c) e → (d : ℕ) × (e ≡ to d) × HasSuper w c d
  super_back c e here (inl p) = let r = superclass_back c e here p in (r.0, r.1, inl r.2)
  super_back c e here (inr p) = let r = interface_link_back c e here p in (r.0, r.1, inr r.2)

  -- ---- superclasses

  pub climbs_into : (n c d : ℕ) → Climbs w n c d → Climbs v n (to c) (to d)
  climbs_into zero c d p = ap to p
  climbs_into (suc n) c d p = (to p.0, superclass_into c p.0 p.1, climbs_into n p.0 d p.2)

  pub climbs_back : (n c e : ℕ) → c < length w → Climbs v n (to c) e → (d : ℕ) × (e ≡ to d) × Climbs w n c d
  climbs_back zero c e here p = (c, sym p, refl)
  climbs_back (suc n) c e here p =
      let step = superclass_back c p.0 here p.1 in
      let more = climbs_back n step.0 e (super_here w c step.0 (inl step.2)) (subst (λ (x : ℕ). Climbs v n x e) step.1 p.2) in
      (more.0, more.1, (step.0, step.2, more.2))

  pub climbs_exact : (n c d : ℕ) → c < length w → d < length w → Climbs v n (to c) (to d) → Climbs w n c d
  climbs_exact n c d here there p =
      let r = climbs_back n c (to d) here p in
      subst (Climbs w n c) (sym (one_number inside d r.0 there (climbs_here w n c r.0 here r.2) r.1)) r.2

  pub subclass_into : (c d : ℕ) → IsSubclass w c d → IsSubclass v (to c) (to d)
  subclass_into c d p = (p.0, climbs_into p.0 c d p.1)

  pub subclass_back : (c e : ℕ) → c < length w → IsSubclass v (to c) e → (d : ℕ) × (e ≡ to d) × IsSubclass w c d
  subclass_back c e here p = let r = climbs_back p.0 c e here p.1 in (r.0, r.1, (p.0, r.2))

  pub subclass_exact : (c d : ℕ) → c < length w → d < length w → IsSubclass v (to c) (to d) → IsSubclass w c d
  subclass_exact c d here there p = (p.0, climbs_exact p.0 c d here there p.1)

  -- ---- supertypes

  pub sub_into : (c d : ℕ) → Sub w c d → Sub v (to c) (to d)
  sub_into c d (same _ _ is) = same (to c) (to d) (ap to is)
  sub_into c d (link _ m _ first rest) = link (to c) (to m) (to d) (super_into c m first) (sub_into m d rest)

  sub_from : (a e : ℕ) → Sub v a e → (c : ℕ) → c < length w → a ≡ to c → (d : ℕ) × (e ≡ to d) × Sub w c d
  sub_from a e (same _ _ is) c here start = (c, sym is ∙ start, same c c refl)
  sub_from a e (link _ m _ first rest) c here start =
      let step = super_back c m here (subst (λ (x : ℕ). HasSuper v x m) start first) in
      let more = sub_from m e rest step.0 (super_here w c step.0 step.2) step.1 in
      (more.0, more.1, link c step.0 more.0 step.2 more.2)

  pub sub_back : (c e : ℕ) → c < length w → Sub v (to c) e → (d : ℕ) × (e ≡ to d) × Sub w c d
  sub_back c e here p = sub_from (to c) e p c here refl

  pub sub_exact : (c d : ℕ) → c < length w → d < length w → Sub v (to c) (to d) → Sub w c d
  sub_exact c d here there p =
      let r = sub_back c (to d) here p in
      subst (Sub w c) (sym (one_number inside d r.0 there (sub_here w c r.0 here r.2) r.1)) r.2

  pub proper_into : (c d : ℕ) → ProperSub w c d → ProperSub v (to c) (to d)
  proper_into c d p = (to p.0, super_into c p.0 p.1, sub_into p.0 d p.2)

  pub proper_back : (c e : ℕ) → c < length w → ProperSub v (to c) e → (d : ℕ) × (e ≡ to d) × ProperSub w c d
  proper_back c e here p =
      let step = super_back c p.0 here p.1 in
      let more = sub_from p.0 e p.2 step.0 (super_here w c step.0 step.2) step.1 in
      (more.0, more.1, (step.0, step.2, more.2))

  pub proper_exact : (c d : ℕ) → c < length w → d < length w → ProperSub v (to c) (to d) → ProperSub w c d
  proper_exact c d here there p =
      let r = proper_back c (to d) here p in
      let within : r.0 < length w = sub_here w r.2.0 r.0 (super_here w c r.2.0 r.2.1) r.2.2 in
      subst (ProperSub w c) (sym (one_number inside d r.0 there within r.1)) r.2
