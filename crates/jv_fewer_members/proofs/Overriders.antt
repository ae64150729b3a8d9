-- Overriding in the whole world and in the part.
use Rattle.std.proofs.Common.{◌≡◌, ℕ, ◌⊎◌, List, refl, sym, ap, ◌∙◌, subst, inl, inr}
use Rattle.jv_types.specs.declared.access.Access.{Access}
use Rattle.jv_types.specs.declared.desc.MethodDesc.{MethodDesc}
use Rattle.jv_types.specs.declared.ids.MethodId.{MethodId}
use Rattle.jv_types.specs.declared.shapes.MethodShape.{MethodShape}
use Rattle.jv_types.specs.declared.shapes.Shape.{Shape}
use Rattle.jv_world.specs.Worlds.{Sub}
use Rattle.jv_resolve.specs.Members.{HasMethod, IsInheritable}
use Rattle.jv_resolve.specs.Overriding.{IsOpenTo, Overrides, OverridesDirectly, same, direct, through}
use Rattle.jv_resolve.proofs.Hierarchy.{sub_itself, sub_trans}
use Rattle.jv_resolve.proofs.MembersLemmas.{one_method}
use Rattle.jv_two_worlds.specs.SameClasses.{HaveSameAccess}
use Rattle.jv_fewer_members.specs.Keeping.{IsCalled}
use Rattle.jv_fewer_members.specs.Parts.{HasFewerMembers, IsMethodKept, Places, whole_method}
use Rattle.jv_fewer_members.proofs.Heads.{heads_into, heads_back, one_package, sub}
use Rattle.jv_fewer_members.proofs.KeptMembers.{method_part, method_whole, one_whole}
use Rattle.jv_fewer_members.proofs.Together.{KeepsAbove}

-- ---- what overrides a method is above its class and has its name and descriptor

overrides_sub : (w : List Shape) (a b : MethodId) → Overrides w a b → Sub w a.class.number b.class.number
overrides_sub w a b (same _ _ e) = subst (λ (x : MethodId). Sub w a.class.number x.class.number) e (sub_itself w a.class.number)
overrides_sub w a b (direct _ _ p) = p.sub
overrides_sub w a b (through _ m _ p q) = sub_trans w a.class.number m.class.number b.class.number (overrides_sub w a m p) (overrides_sub w m b q)

overrides_called : (w : List Shape) (name : List ℕ) (desc : MethodDesc) (a b : MethodId) → Overrides w a b → IsCalled w b name desc → IsCalled w a name desc
overrides_called w name desc a b (same _ _ e) called = subst (λ (x : MethodId). IsCalled w x name desc) (sym e) called
overrides_called w name desc a b (direct _ _ p) called =
    let is : p.other ≡ called.0 = one_method w b p.other called.0 p.other_place called.1 in
    (p.shape, p.place, (p.called.0 ∙ ap (λ (x : MethodShape). x.name) is ∙ called.2.0, p.called.1 ∙ ap (λ (x : MethodShape). x.desc) is ∙ called.2.1))
overrides_called w name desc a b (through _ m _ p q) called = overrides_called w name desc a m p (overrides_called w name desc m b q called)

overrides_inherits : (w : List Shape) (a b : MethodId) → Overrides w a b → (a ≡ b) ⊎ IsInheritable w a
overrides_inherits w a b (same _ _ e) = inl e
overrides_inherits w a b (direct _ _ p) = inr (p.shape, p.place, p.not_private, p.not_static)
overrides_inherits w a b (through _ m _ p q) = by_first (overrides_inherits w a m p) (overrides_inherits w m b q)
  where
    by_first : (a ≡ m) ⊎ IsInheritable w a → (m ≡ b) ⊎ IsInheritable w m → (a ≡ b) ⊎ IsInheritable w a
    by_first (inr i) rest = inr i
    by_first (inl e) (inl k) = inl (e ∙ k)
    by_first (inl e) (inr i) = inr (subst (IsInheritable w) (sym e) i)

module _ {w v : List Shape} {at : Places} (fewer : HasFewerMembers w v at) where
  open_into : (a b : ℕ) (whole part : Access) → HaveSameAccess whole part → IsOpenTo v a b part → IsOpenTo w a b whole
  open_into a b whole part alike (inl q) = inl (alike.public.1 q)
  open_into a b whole part alike (inr (inl q)) = inr (inl (alike.protected.1 q))
  open_into a b whole part alike (inr (inr q)) =
      inr (inr (((λ p. q.0.0 (alike.public.0 p)), (λ p. q.0.1 (alike.protected.0 p)), λ p. q.0.2 (alike.private.0 p)), one_package (heads_back fewer) a b q.1))

  open_back : (a b : ℕ) (whole part : Access) → HaveSameAccess whole part → IsOpenTo w a b whole → IsOpenTo v a b part
  open_back a b whole part alike (inl p) = inl (alike.public.0 p)
  open_back a b whole part alike (inr (inl p)) = inr (inl (alike.protected.0 p))
  open_back a b whole part alike (inr (inr p)) =
      inr (inr (((λ q. p.0.0 (alike.public.1 q)), (λ q. p.0.1 (alike.protected.1 q)), λ q. p.0.2 (alike.private.1 q)), one_package (heads_into fewer) a b p.1))

  direct_into : (a b : MethodId) → OverridesDirectly v a b → OverridesDirectly w (whole_method at a) (whole_method at b)
  direct_into a b q =
      let x = method_whole fewer a q.shape q.place in
      let y = method_whole fewer b q.other q.other_place in record {
        shape = x.0;
        other = y.0;
        place = x.1;
        other_place = y.1;
        sub = sub (heads_back fewer) a.class.number b.class.number q.sub;
        called = (x.2.name ∙ q.called.0 ∙ sym y.2.name, x.2.desc ∙ q.called.1 ∙ sym y.2.desc);
        not_private = λ k. q.not_private (x.2.access.private.0 k);
        not_static = λ k. q.not_static (x.2.access.static.0 k);
        other_not_private = λ k. q.other_not_private (y.2.access.private.0 k);
        other_not_static = λ k. q.other_not_static (y.2.access.static.0 k);
        open_to = open_into a.class.number b.class.number y.0.flags q.other.flags y.2.access q.open_to;
      }

  direct_back : (a b : MethodId) → HasMethod v a → HasMethod v b → OverridesDirectly w (whole_method at a) (whole_method at b) → OverridesDirectly v a b
  direct_back a b here there p =
      let x = method_part fewer a p.shape here p.place in
      let y = method_part fewer b p.other there p.other_place in record {
        shape = x.0;
        other = y.0;
        place = x.1;
        other_place = y.1;
        sub = sub (heads_into fewer) a.class.number b.class.number p.sub;
        called = (sym x.2.name ∙ p.called.0 ∙ y.2.name, sym x.2.desc ∙ p.called.1 ∙ y.2.desc);
        not_private = λ k. p.not_private (x.2.access.private.1 k);
        not_static = λ k. p.not_static (x.2.access.static.1 k);
        other_not_private = λ k. p.other_not_private (y.2.access.private.1 k);
        other_not_static = λ k. p.other_not_static (y.2.access.static.1 k);
        open_to = open_back a.class.number b.class.number p.other.flags y.0.flags y.2.access p.open_to;
      }

  pub overrides_into : (a b : MethodId) → Overrides v a b → Overrides w (whole_method at a) (whole_method at b)
  overrides_into a b (same _ _ e) = same (whole_method at a) (whole_method at b) (ap (whole_method at) e)
  overrides_into a b (direct _ _ q) = direct (whole_method at a) (whole_method at b) (direct_into a b q)
  overrides_into a b (through _ m _ q r) = through (whole_method at a) (whole_method at m) (whole_method at b) (overrides_into a m q) (overrides_into m b r)

  -- ---- a third method stands in the part too

  module _ {c : ℕ} {name : List ℕ} {desc : MethodDesc} (keeps : KeepsAbove w v at c name desc) where
    third_kept : (m y : MethodId) → Overrides w m y → Sub w c m.class.number → IsMethodKept v at y → IsCalled w y name desc → IsMethodKept v at m
    third_kept m y p above kept called = pick (overrides_inherits w m y p)
      where
        pick : (m ≡ y) ⊎ IsInheritable w m → IsMethodKept v at m
        pick (inl e) = subst (IsMethodKept v at) (sym e) kept
        pick (inr i) = keeps.each m above i (overrides_called w name desc m y p called)

    overrides_from : (x y : MethodId) → Overrides w x y → Sub w c x.class.number → IsCalled w y name desc
        → (a b : MethodId) → HasMethod v a → HasMethod v b → x ≡ whole_method at a → y ≡ whole_method at b → Overrides v a b
    overrides_from x y (same _ _ e) above called a b here there at_a at_b = same a b (one_whole fewer a b here there (sym at_a ∙ e ∙ at_b))
    overrides_from x y (direct _ _ p) above called a b here there at_a at_b =
        direct a b (direct_back a b here there (subst (OverridesDirectly w (whole_method at a)) at_b (subst (λ (z : MethodId). OverridesDirectly w z y) at_a p)))
    overrides_from x y (through _ m _ p q) above called a b here there at_a at_b =
        let up : Sub w c m.class.number = sub_trans w c x.class.number m.class.number above (overrides_sub w x m p) in
        let k = third_kept m y q up (b, there, at_b) called in
        through a k.0 b
        (overrides_from x m p above (overrides_called w name desc m y q called) a k.0 here k.1 at_a k.2)
        (overrides_from m y q up called k.0 b k.1 there k.2 at_b)

    pub overrides_back : (a b : MethodId) → HasMethod v a → HasMethod v b → Sub w c a.class.number → IsCalled w (whole_method at b) name desc
        → Overrides w (whole_method at a) (whole_method at b) → Overrides v a b
    overrides_back a b here there above called p = overrides_from (whole_method at a) (whole_method at b) p above called a b here there refl refl
