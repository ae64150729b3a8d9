-- A reference resolves to one member at most, and a call selects one method at most.
use Rattle.std.proofs.Common.{◌≡◌, ℕ, zero, suc, List, Some, subst, sym, ◌∙◌, ap, ◌⊎◌, inl, inr, arith}
use Rattle.std.specs.Prelude.{unwrap_or}
use Rattle.std.specs.List.{slice_get}
use Rattle.std.proofs.lemmas.Bool.{cases_lt}
use Rattle.jv_types.specs.declared.desc.MethodDesc.{MethodDesc}
use Rattle.jv_types.specs.declared.ids.FieldId.{FieldId}
use Rattle.jv_types.specs.declared.ids.MethodId.{MethodId}
use Rattle.jv_types.specs.declared.references.FieldRef.{FieldRef}
use Rattle.jv_types.specs.declared.references.MethodRef.{MethodRef}
use Rattle.jv_types.specs.declared.shapes.Shape.{Shape}
use Rattle.jv_world.specs.Worlds.{IsNamed, IsWorld, HaveDistinctNames, object_name}
use Rattle.jv_resolve.specs.declared.nearest.Wanted.{Wanted}
use Rattle.jv_resolve.specs.declared.nearest.Wanted.TheVariants.{Declared, Inherited, Overriding, Special}
use Rattle.jv_resolve.specs.Members.{DeclaresMethod}
use Rattle.jv_resolve.specs.Inheriting.{IsSingleDefault, HasNoSingleDefault}
use Rattle.jv_resolve.specs.DepthFirst.{direct_supers, IsFirstLeading, IsFirstWay, IsFirstBy, IsFirst}
use Rattle.jv_resolve.specs.References.{named_class}
use Rattle.jv_resolve.specs.Resolving.{DeclaresFieldIn, ResolvesField, DeclaresFor, ResolvesAbove, ResolvesInClass, ResolvesInInterface, ResolvesMethod, ResolvesInterfaceMethod}
use Rattle.jv_resolve.specs.Selecting.{SelectsBy, SelectsVirtual, SelectsInterface, SpecialStart, FindsInInterface, SelectsFrom, SelectsSpecial}
use Rattle.jv_resolve.specs.Steps.Wanted.{IsWanted}
use Rattle.jv_resolve.proofs.AboveLemmas.{nearest_or_none}
use Rattle.jv_resolve.proofs.Hierarchy.{one_shape, one_superclass}
use Rattle.jv_resolve.proofs.MembersLemmas.{declares_one, declares_one_field}
use Rattle.jv_resolve.proofs.SelectionLemmas.{one_nearest, virtual_at, interface_at}
use Rattle.jv_resolve.proofs.SpecialLemmas.{own_is, object_is, special_at}

-- ---- a search depth first ends at one class

one_leading : (w : List Shape) (P : ℕ → Type 0) (names : List (List ℕ)) (d e : ℕ) → HaveDistinctNames w → IsFirstLeading w P names d → IsFirstLeading w P names e → d ≡ e
one_leading w P names d e distinct p q = elim (cases_lt p.place q.place) [
  | inl l ↦ absurd (q.before p.place p.name d l p.at_place p.named p.leads)
  | inr g ↦ elim (cases_lt q.place p.place) [
    | inl l ↦ absurd (p.before q.place q.name e l q.at_place q.named q.leads)
    | inr h ↦
        let place : p.place ≡ q.place = omega arith in
        let some : Some p.name ≡ Some q.name = sym p.at_place ∙ ap (slice_get names) place ∙ q.at_place in
        let name_is : p.name ≡ q.name = cc in
        distinct d e q.name (subst (IsNamed w d) name_is p.named) q.named
  ]
]

one_way : (w : List Shape) (P : ℕ → Type 0) (c d e : ℕ) → HaveDistinctNames w → IsFirstWay w P c d → IsFirstWay w P c e → d ≡ e
one_way w P c d e distinct p q =
    let same : p.0 ≡ q.0 = one_shape w c p.0 q.0 p.1 q.1 in
    one_leading w P (direct_supers q.0) d e distinct (subst (λ (s : Shape). IsFirstLeading w P (direct_supers s) d) same p.2) q.2

one_first_by : (w : List Shape) (P : ℕ → Type 0) (m n c d e : ℕ) → HaveDistinctNames w → IsFirstBy w P m c d → IsFirstBy w P n c e → d ≡ e
one_first_by w P zero zero c d e distinct p q = sym p.0 ∙ q.0
one_first_by w P zero (suc n) c d e distinct p q = absurd (q.0 (subst P (sym p.0) p.1))
one_first_by w P (suc m) zero c d e distinct p q = absurd (p.0 (subst P (sym q.0) q.1))
one_first_by w P (suc m) (suc n) c d e distinct p q =
    one_first_by w P m n q.1 d e distinct (subst (λ (x : ℕ). IsFirstBy w P m x d) (one_way w P c p.1 q.1 distinct p.2 q.2) p.3) q.3

one_first : (w : List Shape) (P : ℕ → Type 0) (c d e : ℕ) → HaveDistinctNames w → IsFirst w P c d → IsFirst w P c e → d ≡ e
one_first w P c d e distinct p q = one_first_by w P p.0 q.0 c d e distinct p.1 q.1

-- ---- resolution

pub one_field : (w : List Shape) (r : FieldRef) (f g : FieldId) → IsWorld w → ResolvesField w r f → ResolvesField w r g → f ≡ g
one_field w r f g world p q =
    let distinct = world.numbered.distinct in
    let declares = DeclaresFieldIn w r.name r.desc in
    let named : p.named ≡ q.named = distinct p.named q.named r.class p.name q.name in
    let first : IsFirst w declares q.named f.class.number = subst (λ (c : ℕ). IsFirst w declares c f.class.number) named p.first in
    declares_one_field w r.name r.desc f g p.declared q.declared (one_first w declares q.named f.class.number g.class.number distinct first q.first)

one_default : (w : List Shape) (c : ℕ) (name : List ℕ) (desc : MethodDesc) (m n : MethodId) → IsSingleDefault w c name desc m → IsSingleDefault w c name desc n → m ≡ n
one_default w c name desc m n p q = q.only m p.specific p.concrete

one_above : (w : List Shape) (c : ℕ) (name : List ℕ) (desc : MethodDesc) (m n : MethodId) → IsWorld w → ResolvesAbove w c name desc m → ResolvesAbove w c name desc n → m ≡ n
one_above w c name desc m n world p q = pick p.found q.found
  where
    Found : MethodId → Type 0
    Found x = IsSingleDefault w c name desc x ⊎ (HasNoSingleDefault w c name desc × IsFirst w (DeclaresFor w c name desc) c x.class.number)

    pick : Found m → Found n → m ≡ n
    pick (inl a) (inl b) = one_default w c name desc m n a b
    pick (inl a) (inr b) = absurd (b.0 m a)
    pick (inr a) (inl b) = absurd (a.0 n b)
    pick (inr a) (inr b) =
        declares_one w name desc m n p.declared q.declared (one_first w (DeclaresFor w c name desc) c m.class.number n.class.number world.numbered.distinct a.1 b.1)

one_in_class : (w : List Shape) (c : ℕ) (name : List ℕ) (desc : MethodDesc) (m n : MethodId) → IsWorld w → ResolvesInClass w c name desc m → ResolvesInClass w c name desc n → m ≡ n
one_in_class w c name desc m n world (inl a) (inl b) = one_nearest w name desc Declared c m n world a b
one_in_class w c name desc m n world (inl a) (inr b) = absurd (nearest_or_none w (DeclaresMethod w name desc) c m b.0 a)
one_in_class w c name desc m n world (inr a) (inl b) = absurd (nearest_or_none w (DeclaresMethod w name desc) c n a.0 b)
one_in_class w c name desc m n world (inr a) (inr b) = one_above w c name desc m n world a.1 b.1

pub one_resolved : (w : List Shape) (r : MethodRef) (m n : MethodId) → IsWorld w → ResolvesMethod w r m → ResolvesMethod w r n → m ≡ n
one_resolved w r m n world p q =
    let start : p.start ≡ q.start = world.numbered.distinct p.start q.start (unwrap_or (named_class r.class) object_name) p.begins q.begins in
    one_in_class w q.start r.name r.desc m n world (subst (λ (c : ℕ). ResolvesInClass w c r.name r.desc m) start p.found) q.found

one_in_interface : (w : List Shape) (c : ℕ) (name : List ℕ) (desc : MethodDesc) (m n : MethodId) → IsWorld w → ResolvesInInterface w c name desc m → ResolvesInInterface w c name desc n → m ≡ n
one_in_interface w c name desc m n world (inl a) (inl b) = declares_one w name desc m n a.0 b.0 (a.1 ∙ sym b.1)
one_in_interface w c name desc m n world (inl a) (inr b) = absurd (b.0 m a)
one_in_interface w c name desc m n world (inr a) (inl b) = absurd (a.0 n b)
one_in_interface w c name desc m n world (inr (_, inl a)) (inr (_, inl b)) =
    declares_one w name desc m n a.0 b.0 (world.numbered.distinct m.class.number n.class.number object_name a.1 b.1)
one_in_interface w c name desc m n world (inr (_, inl a)) (inr (_, inr b)) = absurd (b.0 m a)
one_in_interface w c name desc m n world (inr (_, inr a)) (inr (_, inl b)) = absurd (a.0 n b)
one_in_interface w c name desc m n world (inr (_, inr a)) (inr (_, inr b)) = one_above w c name desc m n world a.1 b.1

pub one_resolved_interface : (w : List Shape) (r : MethodRef) (m n : MethodId) → IsWorld w → ResolvesInterfaceMethod w r m → ResolvesInterfaceMethod w r n → m ≡ n
one_resolved_interface w r m n world p q =
    let some : Some p.name ≡ Some q.name = sym p.names ∙ q.names in
    let name_is : p.name ≡ q.name = cc in
    let start : p.start ≡ q.start = world.numbered.distinct p.start q.start q.name (subst (IsNamed w p.start) name_is p.begins) q.begins in
    one_in_interface w q.start r.name r.desc m n world (subst (λ (c : ℕ). ResolvesInInterface w c r.name r.desc m) start p.found) q.found

-- ---- selection

one_selected : (w : List Shape) (wanted : Wanted) (c : ℕ) (name : List ℕ) (desc : MethodDesc) (m n : MethodId) → IsWorld w
    → SelectsBy w (IsWanted w name desc wanted) c name desc m → SelectsBy w (IsWanted w name desc wanted) c name desc n → m ≡ n
one_selected w wanted c name desc m n world (inl a, _) (inl b, _) = one_nearest w name desc wanted c m n world a b
one_selected w wanted c name desc m n world (inl a, _) (inr b, _) = absurd (nearest_or_none w (IsWanted w name desc wanted) c m b.0 a)
one_selected w wanted c name desc m n world (inr a, _) (inl b, _) = absurd (nearest_or_none w (IsWanted w name desc wanted) c n a.0 b)
one_selected w wanted c name desc m n world (inr a, _) (inr b, _) = one_default w c name desc m n a.1 b.1

pub one_virtual : (w : List Shape) (c : ℕ) (resolved m n : MethodId) → IsWorld w → SelectsVirtual w c resolved m → SelectsVirtual w c resolved n → m ≡ n
one_virtual w c resolved m n world p q =
    one_selected w (Overriding resolved) c q.shape.name q.shape.desc m n world (virtual_at w c resolved q.shape m q.place p) q.selects

pub one_interface : (w : List Shape) (c : ℕ) (resolved m n : MethodId) → IsWorld w → SelectsInterface w c resolved m → SelectsInterface w c resolved n → m ≡ n
one_interface w c resolved m n world p q =
    one_selected w Inherited c q.shape.name q.shape.desc m n world (interface_at w c resolved q.shape m q.place p) q.selects

one_start : (w : List Shape) (from : ℕ) (r : MethodRef) (name : List ℕ) (d e : ℕ) → IsWorld w → SpecialStart w from r name d → SpecialStart w from r name e → d ≡ e
one_start w from r name d e world (inl a) (inl b) = one_superclass w from d e world a.1 b.1
one_start w from r name d e world (inl a) (inr b) = absurd (b.0 a.0)
one_start w from r name d e world (inr a) (inl b) = absurd (a.0 b.0)
one_start w from r name d e world (inr a) (inr b) = world.numbered.distinct d e (unwrap_or (named_class r.class) object_name) a.1 b.1

one_found : (w : List Shape) (resolved : MethodId) (name : List ℕ) (desc : MethodDesc) (start : ℕ) (m n : MethodId) → IsWorld w
    → FindsInInterface w resolved name desc start m → FindsInInterface w resolved name desc start n → m ≡ n
one_found w resolved name desc start m n world (inl a) q = sym (own_is w resolved name desc start m n a.0 a.1 q)
one_found w resolved name desc start m n world (inr (none, inl a)) q = sym (object_is w resolved name desc start m n none world a q)
one_found w resolved name desc start m n world (inr (none, inr a)) (inl b) = absurd (none n b.1 b.0)
one_found w resolved name desc start m n world (inr (none, inr a)) (inr (_, inl b)) = absurd (a.0 n b)
one_found w resolved name desc start m n world (inr (none, inr a)) (inr (_, inr b)) = one_default w start name desc m n a.1 b.1

one_from : (w : List Shape) (resolved : MethodId) (name : List ℕ) (desc : MethodDesc) (start : ℕ) (m n : MethodId) → IsWorld w
    → SelectsFrom w resolved name desc start m → SelectsFrom w resolved name desc start n → m ≡ n
one_from w resolved name desc start m n world (inl a) (inl b) = one_selected w (Special resolved) start name desc m n world a.1 b.1
one_from w resolved name desc start m n world (inl a) (inr b) = absurd (a.0 b.0)
one_from w resolved name desc start m n world (inr a) (inl b) = absurd (b.0 a.0)
one_from w resolved name desc start m n world (inr a) (inr b) = one_found w resolved name desc start m n world a.1.0 b.1.0

pub one_special : (w : List Shape) (from : ℕ) (r : MethodRef) (resolved m n : MethodId) → IsWorld w → SelectsSpecial w from r resolved m → SelectsSpecial w from r resolved n → m ≡ n
one_special w from r resolved m n world p q =
    one_from w resolved q.shape.name q.shape.desc q.start m n world
    (special_at w from r resolved q.shape q.start m q.place (λ d at. one_start w from r q.shape.name d q.start world at q.starts) p)
    q.selects
