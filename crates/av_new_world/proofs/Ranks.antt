-- Each link of a stand-in's world leads to a class of lower rank: those that were there keep theirs, and new classes stand
-- above them all.
use Rattle.std.proofs.Common.{◌≡◌, ℕ, ◌<◌, ◌≤◌, ◌⊎◌, inl, inr, Bool, true, false, List, length, map, Contains, Some, sym, subst, ap, ◌∙◌, refl, arith, length-append}
use Rattle.std.specs.Prelude.{nat_lt}
use Rattle.std.specs.List.{filter, slice_get}
use Rattle.std.proofs.lemmas.Bool.{ltb-true, ltb-false, lt-ltb, le-ltb}
use Rattle.std.proofs.lemmas.List.{length-map}
use Rattle.jv_types.specs.declared.shapes.Shape.{Shape}
use Rattle.jv_world.specs.Worlds.{HasSuper, IsNamed, IsWorld, NamesSuper}
use Rattle.jv_lists.proofs.Among.{mapped_from}
use Rattle.jv_lists.proofs.Places.{among_at}
use Rattle.jv_once.proofs.Keys.{of_kept}
use Rattle.av_standin_of.specs.Classes.{MadeClass}
use Rattle.av_standin_of.specs.Worlds.{kept_class, new_class, is_new, standin_world}
use Rattle.av_new_world.specs.Conditions.{MayMakeWorld}
use Rattle.av_new_world.proofs.Kept.{supers_stay, parent_stays, interfaces_stay}
use Rattle.av_new_world.proofs.Elements.{from_world, new_nowhere}
use Rattle.av_new_world.proofs.Places.{old_at, new_at, old_named}
use Rattle.av_new_world.proofs.Supers.{names_no_new, super_there}

-- what a link says of the class that it leads from
named_by : (w : List Shape) (c d : ℕ) → HasSuper w c d → (x : Shape) × (name : List ℕ) × (slice_get w c ≡ Some x) × NamesSuper x name × IsNamed w d name
named_by w c d (inl (x, name, at, parent, named)) = (x, name, at, inl parent, named)
named_by w c d (inr (x, name, at, interface, named)) = (x, name, at, inr interface, named)

module _ (w : List Shape) (dims : ℕ) (classes : List MadeClass) (world : IsWorld w) (may : MayMakeWorld w dims classes) where
  abbrev pub rank_by : Bool → ℕ → ℕ
  rank_by true c = world.rank c
  rank_by false c = length w

  abbrev pub rank : ℕ → ℕ
  rank c = rank_by (nat_lt c (length w)) c

  low_rank : (c : ℕ) → c < length w → rank c ≡ world.rank c
  low_rank c low = ap (λ (b : Bool). rank_by b c) (lt-ltb c (length w) low)

  high_rank : (c : ℕ) → length w ≤ c → rank c ≡ length w
  high_rank c high = ap (λ (b : Bool). rank_by b c) (le-ltb c (length w) high)

  low_or_high : (c : ℕ) → (c < length w) ⊎ (length w ≤ c)
  low_or_high c = by (nat_lt c (length w)) refl
    where
      by : (b : Bool) → nat_lt c (length w) ≡ b → (c < length w) ⊎ (length w ≤ c)
      by true is = inl (ltb-true c (length w) is)
      by false is = inr (ltb-false c (length w) is)

  -- a supertype is a class that was there
  super_low : (x : Shape) (name : List ℕ) (d : ℕ) → Contains (standin_world w classes) x → NamesSuper x name → IsNamed (standin_world w classes) d name → d < length w
  super_low x name d has names (other, at, named) = elim (low_or_high d) [
    | inl low ↦ low
    | inr high ↦
        let from = mapped_from new_class (filter (is_new w) classes) other (new_at w classes d other high at) in
        let new = of_kept (is_new w) classes from.0 from.1 in
        let same : from.0.name ≡ name = ap (λ (s : Shape). s.name) from.2 ∙ named in
        absurd (elim (from_world w classes x has) [
          | inl old ↦
              names_no_new w dims classes world may old.class old.there name (supers_stay old.class name (subst (λ (s : Shape). NamesSuper s name) (sym old.is) names)) from.0 new.1 same
          | inr added ↦
              let there = super_there w dims classes world may added.made added.new (may.are.only added.made added.there) name (subst (λ (s : Shape). NamesSuper s name) (sym added.is) names) in
              new_nowhere w from.0 new.1 there.0 (subst (λ (n : List ℕ). IsNamed w there.0 n) (sym same) there.1)
        ])
  ]

  -- a link from a class that was there was one
  link_was : (c d : ℕ) (class : Shape) → slice_get w c ≡ Some class → (name : List ℕ) → NamesSuper (kept_class class) name → IsNamed w d name → HasSuper w c d
  link_was c d class at name (inl parent) named = inl (class, name, at, sym (parent_stays class) ∙ parent, named)
  link_was c d class at name (inr interface) named =
      inr (class, name, at, subst (λ (names : List (List ℕ)). Contains names name) (interfaces_stay class) interface, named)

  pub falls : (c d : ℕ) → HasSuper (standin_world w classes) c d → rank d < rank c
  falls c d link =
      let (x, name, at, names, named) = named_by (standin_world w classes) c d link in
      let low = super_low x name d (among_at (standin_world w classes) c x at) names named in
      let named' = old_named w classes d name low named in
      elim (low_or_high c) [
        | inl low_c ↦
            let old = old_at w classes c x low_c at in
            let below = world.falls c d (link_was c d old.0 old.1 name (subst (λ (s : Shape). NamesSuper s name) (sym old.2) names) named') in
            omega (arith, below, low_rank c low_c, low_rank d low)
        | inr high ↦ omega (arith, world.bound d low, low_rank d low, high_rank c high)
      ]

  pub bound : (c : ℕ) → c < length (standin_world w classes) → rank c < length (standin_world w classes)
  bound c within =
      let all = length-append (map kept_class w) (map new_class (filter (is_new w) classes)) in
      let old = length-map w kept_class in
      elim (low_or_high c) [
        | inl low ↦ omega (arith, world.bound c low, low_rank c low, all, old)
        | inr high ↦ omega (arith, within, high, high_rank c high, all, old)
      ]
