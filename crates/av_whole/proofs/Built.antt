-- The whole classes of a list make a world: none of the causes for which a list is no world holds of them.
use Rattle.std.proofs.Common.{◌≡◌, ℕ, inl, inr, List, Some, slice_get, refl, ap, sym, subst, arith}
use Rattle.jv_types.specs.declared.shapes.Shape.{Shape}
use Rattle.jv_resolve.proofs.PlacesLemmas.{among_from_get}
use Rattle.jv_resolve.proofs.Hierarchy.{one_shape}
use Rattle.jv_world.specs.declared.refusal.HierRefusal.{HierRefusal}
use Rattle.jv_world.specs.declared.refusal.HierRefusal.TheVariants.{Missing, Circular, SuperKind, Memory}
use Rattle.jv_world.specs.Refusals.{HasCause}
use Rattle.jv_world.specs.Whole.{IsSound}
use Rattle.jv_world.specs.Worlds.{AreNumbered, HasRightSupers, HasSuper, HasWrongSuper, IsAbsent, IsCircular, IsWorld, NamesSuper, ProperSub, Sub, same, link}
use Rattle.av_collected.specs.Parts.{IsPart}
use Rattle.av_collected.proofs.Lists.{at_place}
use Rattle.av_collected.proofs.Parts.{Find, spot, spot-is, spot-link, right_in_part}
use Rattle.av_whole.specs.WholeClasses.{HasWholeClasses, IsWholeIn}

module _ (w v : List Shape) (numbered : AreNumbered w) (part : IsPart (IsWholeIn w) w v) where
  find : Find v w
  find s h = (part.from s h).0

  sound : (s : Shape) → IsWholeIn w s → (c : ℕ) × (slice_get w c ≡ Some s) × IsSound w c
  sound s (c, at, whole) = (c, at, whole c (same c c refl))

  -- a supertype of a whole class is whole
  up : (s t : Shape) (d : ℕ) → IsWholeIn w s → NamesSuper s t.name → slice_get w d ≡ Some t → IsWholeIn w t
  up s t d (c, at, whole) names there = (d, there, λ e onward. whole e (link c d e first onward))
    where
      by : NamesSuper s t.name → HasSuper w c d
      by (inl parent) = inl (s, t.name, at, parent, (t, there, refl))
      by (inr has) = inr (s, t.name, at, has, (t, there, refl))

      first : HasSuper w c d
      first = by names

  no_absent : (name : List ℕ) → IsAbsent v name → ⊥
  no_absent name absent =
      let whole = (part.from absent.shape absent.here).1 in
      let own = sound absent.shape whole in
      let is : own.2.shape ≡ absent.shape = one_shape w own.0 own.2.shape absent.shape own.2.place own.1 in
      let there = own.2.there name (subst (λ (s : Shape). NamesSuper s name) (sym is) absent.names) in
      let t = there.1.0 in
      let t_whole = up absent.shape t there.0 whole (subst (λ (n : List ℕ). NamesSuper absent.shape n) (sym there.1.2) absent.names) there.1.1 in
      let in_v = part.all t (among_from_get w there.0 t there.1.1) t_whole in
      absent.nowhere in_v.0 (t, at_place v t in_v, there.1.2)

  abbrev to : ℕ → ℕ
  to c = spot v w find c (slice_get v c) refl

  sub_to : (c d : ℕ) → Sub v c d → Sub w (to c) (to d)
  sub_to c d (same _ _ is) = same (to c) (to d) (ap to is)
  sub_to c d (link _ m _ first rest) = link (to c) (to m) (to d) (spot-link v w find c m first) (sub_to m d rest)

  no_circular : (name : List ℕ) → IsCircular v name → ⊥
  no_circular name (c, (s, at, named), (m, first, rest)) =
      let own = sound s (part.from s (among_from_get v c s at)).1 in
      let place : own.0 ≡ to c = numbered.distinct own.0 (to c) s.name (s, own.1, refl) (s, spot-is v w find c s (slice_get v c) refl at, refl) in
      let around : ProperSub w (to c) (to c) = (to m, spot-link v w find c m first, sub_to m c rest) in
      own.2.no_circle (subst (λ (k : ℕ). ProperSub w k k) (sym place) around)

  no_wrong : (name : List ℕ) → HasWrongSuper v name → ⊥
  no_wrong name (s, has, named, wrong) =
      let own = sound s (part.from s has).1 in
      let is : own.2.shape ≡ s = one_shape w own.0 own.2.shape s own.2.place own.1 in
      wrong (right_in_part w v find s (subst (λ (t : Shape). HasRightSupers w t) is own.2.right))

  pub no_cause : (why : HierRefusal) → HasCause v why → (why ≡ Memory → ⊥) → ⊥
  no_cause (Missing name) h other = no_absent name h.holds
  no_cause (Circular name) h other = no_circular name h.1.holds
  no_cause (SuperKind name) h other = no_wrong name h.2.holds
  no_cause Memory h other = other refl

  pub numbered_part : AreNumbered v
  numbered_part = record {
    distinct = part.apart;
    count = omega (arith, part.count, numbered.count);
    fields = λ s h. numbered.fields s (find s h);
    methods = λ s h. numbered.methods s (find s h);
  }

  pub whole_built : IsWorld v → HasWholeClasses w v
  whole_built world = record {
    world = world;
    only = λ s h. (part.from s h).1;
    all = λ s h. part.all s (among_from_get w h.0 s h.1) h;
  }

-- a cause is not want of memory
pub missing_no_memory : (why : HierRefusal) (name : List ℕ) → why ≡ Missing name → why ≡ Memory → ⊥
missing_no_memory why name is other = cc

pub circular_no_memory : (why : HierRefusal) (name : List ℕ) → why ≡ Circular name → why ≡ Memory → ⊥
circular_no_memory why name is other = cc

pub kind_no_memory : (why : HierRefusal) (name : List ℕ) → why ≡ SuperKind name → why ≡ Memory → ⊥
kind_no_memory why name is other = cc
