-- Overriding in both worlds.
use Rattle.std.proofs.Common.{◌≡◌, ℕ, ◌<◌, List, length, refl, sym, ap, ◌∙◌, subst, inl, inr}
use Rattle.std.proofs.lemmas.Option.{slice_get_within}
use Rattle.jv_types.specs.declared.access.Access.{Access}
use Rattle.jv_types.specs.declared.ids.MethodId.{MethodId}
use Rattle.jv_types.specs.declared.shapes.Shape.{Shape}
use Rattle.jv_resolve.specs.Overriding.{IsOpenTo, Overrides, OverridesDirectly, same, direct, through}
use Rattle.jv_resolve.proofs.Hierarchy.{sub_here}
use Rattle.jv_two_worlds.specs.Renumbering.{StandsIn, method_to}
use Rattle.jv_two_worlds.specs.SameClasses.{HaveSameAccess}
use Rattle.jv_two_worlds.proofs.Supertypes.{sub_into, sub_back, sub_exact}
use Rattle.jv_two_worlds.proofs.Members.{method_in, method_at, one_member, method_into, method_back}
use Rattle.jv_two_worlds.proofs.Accessing.{one_package, package_private}

module _ {w v : List Shape} {to : ℕ → ℕ} (inside : StandsIn w v to) where
  open_into : (a b : ℕ) (flags other : Access) → HaveSameAccess flags other → a < length w → b < length w → IsOpenTo w a b flags → IsOpenTo v (to a) (to b) other
  open_into a b flags other alike here there (inl p) = inl (alike.public.0 p)
  open_into a b flags other alike here there (inr (inl p)) = inr (inl (alike.protected.0 p))
  open_into a b flags other alike here there (inr (inr p)) = inr (inr ((package_private flags other alike).0 p.0, (one_package inside a b here there).0 p.1))

  open_back : (a b : ℕ) (flags other : Access) → HaveSameAccess flags other → a < length w → b < length w → IsOpenTo v (to a) (to b) other → IsOpenTo w a b flags
  open_back a b flags other alike here there (inl q) = inl (alike.public.1 q)
  open_back a b flags other alike here there (inr (inl q)) = inr (inl (alike.protected.1 q))
  open_back a b flags other alike here there (inr (inr q)) = inr (inr ((package_private flags other alike).1 q.0, (one_package inside a b here there).1 q.1))

  pub direct_into : (a b : MethodId) → OverridesDirectly w a b → OverridesDirectly v (method_to to a) (method_to to b)
  direct_into a b p =
      let here : a.class.number < length w = slice_get_within w a.class.number p.place.0 p.place.1 in
      let x = method_into inside a p.shape p.place in
      let y = method_into inside b p.other p.other_place in record {
        shape = x.0;
        other = y.0;
        place = x.1;
        other_place = y.1;
        sub = sub_into inside a.class.number b.class.number p.sub;
        called = (sym x.2.name ∙ p.called.0 ∙ y.2.name, sym x.2.desc ∙ p.called.1 ∙ y.2.desc);
        not_private = λ k. p.not_private (x.2.access.private.1 k);
        not_static = λ k. p.not_static (x.2.access.static.1 k);
        other_not_private = λ k. p.other_not_private (y.2.access.private.1 k);
        other_not_static = λ k. p.other_not_static (y.2.access.static.1 k);
        open_to = open_into a.class.number b.class.number p.other.flags y.0.flags y.2.access here (sub_here w a.class.number b.class.number here p.sub) p.open_to;
      }

  direct_exact : (a b : MethodId) → a.class.number < length w → b.class.number < length w → OverridesDirectly v (method_to to a) (method_to to b) → OverridesDirectly w a b
  direct_exact a b here there q =
      let x = method_back inside a q.shape here q.place in
      let y = method_back inside b q.other there q.other_place in record {
        shape = x.0;
        other = y.0;
        place = x.1;
        other_place = y.1;
        sub = sub_exact inside a.class.number b.class.number here there q.sub;
        called = (x.2.name ∙ q.called.0 ∙ sym y.2.name, x.2.desc ∙ q.called.1 ∙ sym y.2.desc);
        not_private = λ k. q.not_private (x.2.access.private.0 k);
        not_static = λ k. q.not_static (x.2.access.static.0 k);
        other_not_private = λ k. q.other_not_private (y.2.access.private.0 k);
        other_not_static = λ k. q.other_not_static (y.2.access.static.0 k);
        open_to = open_back a.class.number b.class.number y.0.flags q.other.flags y.2.access here there q.open_to;
      }

  pub direct_back : (a n : MethodId) → a.class.number < length w → OverridesDirectly v (method_to to a) n → (b : MethodId) × (n ≡ method_to to b) × OverridesDirectly w a b
  direct_back a n here q =
      let above = sub_back inside a.class.number n.class.number here q.sub in
      let b = method_in n above.0 in
      let is : n ≡ method_to to b = method_at to n above.0 above.1 in
      (b, is, direct_exact a b here (sub_here w a.class.number above.0 here above.2) (subst (OverridesDirectly v (method_to to a)) is q))

  pub overrides_into : (a b : MethodId) → Overrides w a b → Overrides v (method_to to a) (method_to to b)
  overrides_into a b (same _ _ e) = same (method_to to a) (method_to to b) (ap (method_to to) e)
  overrides_into a b (direct _ _ p) = direct (method_to to a) (method_to to b) (direct_into a b p)
  overrides_into a b (through _ m _ p q) = through (method_to to a) (method_to to m) (method_to to b) (overrides_into a m p) (overrides_into m b q)

  overrides_from : (x n : MethodId) → Overrides v x n → (a : MethodId) → a.class.number < length w → x ≡ method_to to a
      → (b : MethodId) × (n ≡ method_to to b) × (b.class.number < length w) × Overrides w a b
  overrides_from x n (same _ _ e) a here start = (a, sym e ∙ start, here, same a a refl)
  overrides_from x n (direct _ _ q) a here start =
      let r = direct_back a n here (subst (λ (y : MethodId). OverridesDirectly v y n) start q) in
      (r.0, r.1, sub_here w a.class.number r.0.class.number here r.2.sub, direct a r.0 r.2)
  overrides_from x n (through _ m _ p q) a here start =
      let r = overrides_from x m p a here start in
      let s = overrides_from m n q r.0 r.2 r.1 in
      (s.0, s.1, s.2, through a r.0 s.0 r.3 s.3)

  pub overrides_back : (a n : MethodId) → a.class.number < length w → Overrides v (method_to to a) n → (b : MethodId) × (n ≡ method_to to b) × Overrides w a b
  overrides_back a n here q = let r = overrides_from (method_to to a) n q a here refl in (r.0, r.1, r.3)

  pub overrides_exact : (a b : MethodId) → a.class.number < length w → b.class.number < length w → Overrides v (method_to to a) (method_to to b) → Overrides w a b
  overrides_exact a b here there q =
      let r = overrides_from (method_to to a) (method_to to b) q a here refl in
      subst (Overrides w a) (sym (one_member inside b r.0 there r.2 r.1)) r.3
