-- How many members the classes of a stand-in's world have.
use Rattle.std.proofs.Common.{◌≡◌, ℕ, ◌<◌, ◌≤◌, ◌^◌, ◌+◌, inl, inr, Bool, true, false, List, ◌∷◌, [], ◌++◌, length, map, Contains, Some, sym, subst, ◌∙◌, refl, arith, length-append}
use Rattle.std.specs.Prelude.{if◌then◌else◌, bit_and}
use Rattle.std.specs.List.{slice_get}
use Rattle.std.proofs.lemmas.Bool.Decides.{Decides-eqb}
use Rattle.std.proofs.lemmas.List.{length-map}
use Rattle.std.proofs.lemmas.List.Elements.{Contains-append_cases}
use Rattle.jv_types.specs.declared.shapes.FieldShape.{FieldShape}
use Rattle.jv_types.specs.declared.shapes.MethodShape.{MethodShape}
use Rattle.jv_types.specs.declared.shapes.Shape.{Shape}
use Rattle.jv_world.specs.Worlds.{IsInterface, IsWorld}
use Rattle.jv_desc.specs.Texts.{method_text}
use Rattle.jv_resolve.specs.Members.{init_name}
use Rattle.jv_lists.proofs.Among.{mapped_from, mapped_to, none_there, first_or_later}
use Rattle.jv_lists.proofs.Places.{among_at}
use Rattle.jv_once.specs.Once.{StandOnce}
use Rattle.jv_once.proofs.Parts.{no_more, once_joined}
use Rattle.jv_once.proofs.Keys.{once_placed}
use Rattle.av_standin_of.specs.Names.{extra_desc, method_key}
use Rattle.av_standin_of.specs.Classes.{MadeClass, made_key, kept_method, extra_method, kept_field, is_interface, IsOfCollected, IsStandinClass}
use Rattle.av_standin_of.specs.Classes.{IsMethodOf as methods}
use Rattle.av_standin_of.specs.Classes.{IsStandinClass as kinds}
use Rattle.av_standin_of.specs.Worlds.{in_place, is_new, shape_of, standin_world}
use Rattle.av_sketches.specs.Conditions.{HasDistinctMembers, HasMethodsOnce}
use Rattle.av_new_world.specs.Conditions.{MayMakeWorld}
use Rattle.av_new_world.proofs.Kept.{kept_by}
use Rattle.av_new_world.proofs.Elements.{from_world, new_name}

-- ---- a collected class that is no interface

only_key : (key other : List ℕ × List ℕ) → Contains (key ∷ []) other → key ≡ other
only_key key other has = elim (first_or_later key [] other has) [ inl is ↦ is | inr none ↦ absurd (none_there other none) ]

module _ (class : Shape) (distinct : HasDistinctMembers class) (once : HasMethodsOnce class) where
  keys_once : StandOnce (map method_key class.methods)
  keys_once = once_placed method_key class.methods
      (λ i j x y at_i at_j same. once i j y (subst (λ (m : MethodShape). slice_get class.methods i ≡ Some m) (distinct.methods x y (among_at class.methods i x at_i) (among_at class.methods j y at_j) same) at_i) at_j)

  abbrev keys : List (List ℕ × List ℕ)
  keys = map method_key class.methods ++ (init_name, method_text extra_desc) ∷ []

  all_once : StandOnce keys
  all_once = once_joined (map method_key class.methods) ((init_name, method_text extra_desc) ∷ []) keys_once ((λ has. none_there (init_name, method_text extra_desc) has), tt)
      (λ key here there. let from = mapped_from method_key class.methods key here in
      distinct.none_extra from.0 from.1 (from.2 ∙ sym (only_key (init_name, method_text extra_desc) key there)))

  made_has : (made : MadeClass) → (IsInterface class → ⊥) → IsOfCollected class made → (key : List ℕ × List ℕ) → Contains keys key → Contains (map made_key made.methods) key
  made_has made no_interface of key has = elim (Contains-append_cases (map method_key class.methods) ((init_name, method_text extra_desc) ∷ []) key has) [
    | inl here ↦
        let from = mapped_from method_key class.methods key here in
        subst (λ (k : List ℕ × List ℕ). Contains (map made_key made.methods) k) from.2
        (mapped_to made_key made.methods (kept_method class from.0) (of.methods.all (kept_method class from.0) (methods.collected from.0 from.1 refl)))
    | inr there ↦
        subst (λ (k : List ℕ × List ℕ). Contains (map made_key made.methods) k) (only_key (init_name, method_text extra_desc) key there)
        (mapped_to made_key made.methods (extra_method class.name class.parent) (of.methods.all (extra_method class.name class.parent) (methods.extra no_interface refl)))
  ]

  pub one_more : (made : MadeClass) → (IsInterface class → ⊥) → IsOfCollected class made → length class.methods + 1 ≤ length made.methods
  one_more made no_interface of =
      let fewer = no_more keys (map made_key made.methods) all_once (made_has made no_interface of) in
      omega (arith, fewer, length-append (map method_key class.methods) ((init_name, method_text extra_desc) ∷ []), length-map class.methods method_key, length-map made.methods made_key)

-- ---- all classes

unlike : true ≡ false → ⊥
unlike e = grind (arith, e)

module _ (w : List Shape) (dims : ℕ) (classes : List MadeClass) (world : IsWorld w) (may : MayMakeWorld w dims classes) where
  placed_methods : (class : Shape) → Contains w class → class.application ≡ false → length (in_place class).methods < 2 ^ 16
  placed_methods class has of_library = by (is_interface class) refl
    where
      kept : List MethodShape
      kept = map (λ (declared : MethodShape). shape_of (kept_method class declared)) class.methods

      by : (b : Bool) → is_interface class ≡ b → length (kept ++ (if b then [] else shape_of (extra_method class.name class.parent) ∷ [])) < 2 ^ 16
      by true is = omega (arith, world.numbered.methods class has, length-map class.methods (λ (declared : MethodShape). shape_of (kept_method class declared)), length-append kept [])
      by false is =
          let each = may.each class (has, of_library) in
          let room = may.can.collected class (has, of_library) in
          let no_interface : (IsInterface class → ⊥) = λ flag. unlike (sym ((Decides-eqb (bit_and class.flags.0 512) 512).1 flag) ∙ is) in
          omega (
            arith,
            may.few each.0 each.1,
            one_more class room.distinct room.once each.0 no_interface each.2,
            length-map class.methods (λ (declared : MethodShape). shape_of (kept_method class declared)),
            length-append kept (shape_of (extra_method class.name class.parent) ∷ []),
          )

  few_made : (made : MadeClass) → length made.methods ≤ 65535 → length (map shape_of made.methods) < 2 ^ 16
  few_made made few = omega (arith, few, length-map made.methods shape_of)

  -- a new class has two fields at most
  new_fields : (made : MadeClass) → is_new w made ≡ true → IsStandinClass w dims made → length made.fields ≤ 2
  new_fields made new (kinds.library is) = subst (λ (m : MadeClass). length m.fields ≤ 2) (sym is) (omega arith)
  new_fields made new (kinds.collected class collected of) = absurd (new_name w made new class collected.0 (sym of.name))
  new_fields made new (kinds.any c class at of_library not_final no_interface of) = subst (λ (fields : List FieldShape). length fields ≤ 2) (sym of.fields) (omega arith)
  new_fields made new (kinds.part class collected of) = subst (λ (fields : List FieldShape). length fields ≤ 2) (sym of.fields) (omega arith)

  pub few_methods : (x : Shape) → Contains (standin_world w classes) x → length x.methods < 2 ^ 16
  few_methods x has = elim (from_world w classes x has) [
    | inl old ↦
        subst (λ (s : Shape). length s.methods < 2 ^ 16) old.is
        (kept_by (λ (s : Shape). length s.methods < 2 ^ 16) old.class (λ own. world.numbered.methods old.class old.there) (placed_methods old.class old.there))
    | inr added ↦ subst (λ (s : Shape). length s.methods < 2 ^ 16) added.is (few_made added.made (may.few added.made added.there))
  ]

  pub few_fields : (x : Shape) → Contains (standin_world w classes) x → length x.fields < 2 ^ 16
  few_fields x has = elim (from_world w classes x has) [
    | inl old ↦
        subst (λ (s : Shape). length s.fields < 2 ^ 16) old.is
        (kept_by (λ (s : Shape). length s.fields < 2 ^ 16) old.class (λ own. world.numbered.fields old.class old.there)
        (λ of_library. omega (arith, world.numbered.fields old.class old.there, length-map old.class.fields kept_field)))
    | inr added ↦
        subst (λ (s : Shape). length s.fields < 2 ^ 16) added.is
        (omega (arith, new_fields added.made added.new (may.are.only added.made added.there)))
  ]
