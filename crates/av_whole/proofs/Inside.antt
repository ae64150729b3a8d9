-- Each class of a world whose classes a list has is whole in that list.
use Rattle.std.proofs.Common.{◌≡◌, ℕ, zero, suc, ◌<◌, ◌⊎◌, inl, inr, List, [], ◌∷◌, Option, None, Some, MatchOption, length, slice_get, Contains, refl, ap, sym, ◌∙◌, subst, arith}
use Rattle.std.proofs.lemmas.Option.{slice_get_within, same_Some}
use Rattle.jv_types.specs.declared.shapes.Shape.{Shape}
use Rattle.jv_resolve.proofs.Hierarchy.{not_below_itself, proper_here, sub_here}
use Rattle.jv_resolve.proofs.PlacesLemmas.{among_from_get}
use Rattle.jv_two_worlds.specs.Agreeing.{Agree}
use Rattle.jv_two_worlds.specs.Renumbering.{StandsIn}
use Rattle.jv_two_worlds.specs.SameClasses.{IsSameClass}
use Rattle.jv_world.specs.Whole.{IsSound}
use Rattle.jv_world.specs.Worlds.{object_name, HasRightSupers, HaveDistinctNames, IsFinal, IsInterface, IsNamed, IsWorld, NamesSuper, ProperSub, Sub}
use Rattle.av_collected.proofs.Lists.{at_place, in_none, same_name}
use Rattle.av_collected.proofs.Same.{Longer, same_itself}
use Rattle.av_whole.specs.WholeClasses.{IsWholeIn}

pub record Laws : Type 0 where
  pub any_order : (w v : List Shape) → IsWorld w → HaveDistinctNames v → ((s : Shape) → Contains w s → (other : Shape) × Contains v other × IsSameClass s other) → (to : ℕ → ℕ) × StandsIn w v to
  pub longer : Longer
  pub above : (w v : List Shape) (to : ℕ → ℕ) (c : ℕ) → StandsIn w v to → c < length w → Agree to (Sub w c) (Sub v (to c))
  pub properly : (w v : List Shape) (to : ℕ → ℕ) (c : ℕ) → StandsIn w v to → c < length w → Agree to (ProperSub w c) (ProperSub v (to c))
  pub apart : (w v : List Shape) (to : ℕ → ℕ) (c d : ℕ) → StandsIn w v to → c < length w → d < length w → to c ≡ to d → c ≡ d

-- a class of this name is there or not
find_name : (l : List Shape) (name : List ℕ) → ((c : ℕ) × IsNamed l c name) ⊎ ((c : ℕ) → IsNamed l c name → ⊥)
find_name [] name = inr (λ c h. in_none h.0 (among_from_get [] c h.0 h.1))
find_name (s ∷ l) name = by (same_name s.name name) (find_name l name)
  where
    none : (s.name ≡ name → ⊥) → ((c : ℕ) → IsNamed l c name → ⊥) → (c : ℕ) → IsNamed (s ∷ l) c name → ⊥
    none differs more zero h = differs (ap (λ (t : Shape). t.name) (same_Some s h.0 h.1) ∙ h.2)
    none differs more (suc c) h = more c h

    by : (s.name ≡ name) ⊎ (s.name ≡ name → ⊥) → ((c : ℕ) × IsNamed l c name) ⊎ ((c : ℕ) → IsNamed l c name → ⊥)
        → ((c : ℕ) × IsNamed (s ∷ l) c name) ⊎ ((c : ℕ) → IsNamed (s ∷ l) c name → ⊥)
    by (inl is) rest = inl (0, (s, refl, is))
    by (inr differs) (inl h) = inl (suc h.0, h.1)
    by (inr differs) (inr more) = inr (none differs more)

there_at : (l : List Shape) (k : ℕ) → k < length l → (s : Shape) × (slice_get l k ≡ Some s)
there_at [] k h = absurd (omega (arith, h))
there_at (s ∷ l) zero h = (s, refl)
there_at (s ∷ l) (suc k) h = there_at l k (omega (arith, h))

module _ (laws : Laws) (u w : List Shape) (distinct : HaveDistinctNames u) (world : IsWorld w) (inside : (s : Shape) → Contains w s → Contains u s) where
  stands : (to : ℕ → ℕ) × StandsIn w u to
  stands = laws.any_order w u world distinct (λ s h. (s, inside s h, same_itself laws.longer w world s h))

  to : ℕ → ℕ
  to = stands.0

  shape_at : (c : ℕ) (s : Shape) → slice_get w c ≡ Some s → slice_get u (to c) ≡ Some s
  unfolding to
  shape_at c s at =
      let p = stands.1.shapes c s at in
      let h = inside s (among_from_get w c s at) in
      let is : h.0 ≡ stands.0 c = distinct h.0 (stands.0 c) s.name (s, at_place u s h, refl) (p.0, p.1, sym p.2.name) in
      subst (λ (k : ℕ). slice_get u k ≡ Some s) is (at_place u s h)

  there : (s : Shape) → Contains w s → (name : List ℕ) → NamesSuper s name → (d : ℕ) × IsNamed w d name
  there s h name names = by (find_name w name)
    where
      by : ((c : ℕ) × IsNamed w c name) ⊎ ((c : ℕ) → IsNamed w c name → ⊥) → (d : ℕ) × IsNamed w d name
      by (inl found) = found
      by (inr none) = absurd (world.none_absent name (record { shape = s; here = h; names = names; nowhere = none }))

  -- what the list has under the name of a supertype, the world has
  in_world : (s : Shape) → Contains w s → (name : List ℕ) → NamesSuper s name → (other : Shape) → Contains u other → other.name ≡ name → Contains w other
  in_world s h name names other has is =
      let d = there s h name names in
      let t = d.1.0 in
      let at = shape_at d.0 t d.1.1 in
      let place : has.0 ≡ to d.0 = distinct has.0 (to d.0) name (other, at_place u other has, is) (t, at, d.1.2) in
      let same : t ≡ other = same_Some t other (sym at ∙ ap (slice_get u) (sym place) ∙ at_place u other has) in
      subst (λ (x : Shape). Contains w x) same (among_from_get w d.0 t d.1.1)

  right_parent : (s : Shape) → Contains w s → (o : Option (List ℕ)) → s.parent ≡ o
      → MatchOption o (s.name ≡ object_name) (λ name. (other : Shape) → Contains w other → other.name ≡ name → ¬ IsInterface other × ¬ IsFinal other)
      → MatchOption o (s.name ≡ object_name) (λ name. (other : Shape) → Contains u other → other.name ≡ name → ¬ IsInterface other × ¬ IsFinal other)
  right_parent s h None e p = p
  right_parent s h (Some name) e p = λ other has is. p other (in_world s h name (inl e) other has is) is

  right : (s : Shape) → Contains w s → HasRightSupers u s
  right s h =
      let own = world.right_supers s h in
      record {
        superclass = right_parent s h s.parent refl own.superclass;
        superinterfaces = λ other has names. own.superinterfaces other (in_world s h other.name (inr names) other has refl) names;
        of_interface = own.of_interface;
      }

  no_circle : (c : ℕ) → c < length w → ProperSub u (to c) (to c) → ⊥
  unfolding to
  no_circle c here around =
      let back = (laws.properly w u stands.0 c stands.1 here).back (stands.0 c) around in
      let is : c ≡ back.0 = laws.apart w u stands.0 c back.0 stands.1 here (proper_here w c back.0 back.2) back.1 in
      not_below_itself w world c back.0 back.2 is

  sound : (c : ℕ) (s : Shape) → slice_get w c ≡ Some s → IsSound u (to c)
  sound c s at = record {
    shape = s;
    place = shape_at c s at;
    there = λ name names. let d = there s (among_from_get w c s at) name names in (to d.0, (d.1.0, shape_at d.0 d.1.0 d.1.1, d.1.2));
    right = right s (among_from_get w c s at);
    no_circle = no_circle c (slice_get_within w c s at);
  }

  pub whole : (s : Shape) → Contains w s → IsWholeIn u s
  unfolding to
  whole s h = (stands.0 h.0, shape_at h.0 s (at_place w s h), each)
    where
      each : (d : ℕ) → Sub u (stands.0 h.0) d → IsSound u d
      each d sub =
          let back = (laws.above w u stands.0 h.0 stands.1 h.1).back d sub in
          let t = there_at w back.0 (sub_here w h.0 back.0 h.1 back.2) in
          subst (λ (k : ℕ). IsSound u k) (sym back.1) (sound back.0 t.0 t.1)
