-- Methods of the classes of a stand-in in its world.
use Rattle.std.proofs.Common.{◌≡◌, ℕ, ◌+◌, ◌⊎◌, inl, inr, Bool, true, false, List, ◌∷◌, [], ◌++◌, map, Contains, Some, sym, subst, ap, ◌∙◌, refl}
use Rattle.std.specs.Prelude.{if◌then◌else◌, bit_and, not, ◌||◌, codes}
use Rattle.std.specs.Fmt.{decimal}
use Rattle.std.specs.List.{list_any}
use Rattle.std.specs.Str.{bytes_eq}
use Rattle.std.proofs.lemmas.Bool.Decides.{Decides-eqb}
use Rattle.std.proofs.lemmas.Slice.Eq.{bytes_eq-Decides}
use Rattle.std.proofs.lemmas.List.Elements.{Contains-append_left, Contains-append_right, Contains-append_cases}
use Rattle.jv_types.specs.declared.desc.MethodDesc.{MethodDesc}
use Rattle.jv_types.specs.declared.shapes.MethodShape.{MethodShape}
use Rattle.jv_types.specs.declared.shapes.Shape.{Shape}
use Rattle.jv_desc.specs.Texts.{method_text}
use Rattle.jv_lists.proofs.Among.{mapped_from, mapped_to, none_there, first_or_later, is_first, is_later}
use Rattle.jv_resolve.specs.Packages.{package_of}
use Rattle.av_conditions.specs.CoreClasses.{void_desc}
use Rattle.av_standin_of.specs.Codes.{Code}
use Rattle.av_standin_of.specs.Names.{method_key}
use Rattle.av_standin_of.specs.Classes.{MadeClass, MadeMethod, access, method, kept_method, extra_method, is_interface, item_methods, IsOfCollected}
use Rattle.av_standin_of.specs.Classes.{IsStandinClass as kinds}
use Rattle.av_standin_of.specs.Classes.{IsMethodOf as methods}
use Rattle.av_standin_of.specs.Classes.{IsMethodOfAny as any_methods}
use Rattle.av_standin_of.specs.Worlds.{in_place, new_class, is_new, shape_of, standin_world}
use Rattle.av_sketches.specs.Conditions.{HasDistinctMembers, IsFreeName}
use Rattle.av_new_world.specs.Conditions.{HasMethodsThere, MayMakeWorld}
use Rattle.av_new_world.proofs.Elements.{keeps, adds}

untrue : (b : Bool) → (b ≡ true → ⊥) → b ≡ false
untrue true never = absurd (never refl)
untrue false never = refl

-- ---- a collected class

only_one : {X : Type 0} (x y : X) → Contains (x ∷ []) y → y ≡ x
only_one x y has = elim (first_or_later x [] y has) [ inl is ↦ sym is | inr none ↦ absurd (none_there y none) ]

module _ (class : Shape) where
  -- a method in place is a kept one, or the extra constructor
  cases : (x : MethodShape) → Contains (in_place class).methods x
      → ((declared : MethodShape) × Contains class.methods declared × (shape_of (kept_method class declared) ≡ x)) ⊎ (x ≡ shape_of (extra_method class.name class.parent))
  cases x has = elim (Contains-append_cases (map (λ (declared : MethodShape). shape_of (kept_method class declared)) class.methods) (if is_interface class then [] else shape_of (extra_method class.name class.parent) ∷ []) x has) [
    | inl kept ↦ inl (mapped_from (λ (declared : MethodShape). shape_of (kept_method class declared)) class.methods x kept)
    | inr more ↦ inr (by (is_interface class) more)
  ]
    where
      by : (b : Bool) → Contains (if b then [] else shape_of (extra_method class.name class.parent) ∷ []) x → x ≡ shape_of (extra_method class.name class.parent)
      by true none = absurd (none_there x none)
      by false one = only_one (shape_of (extra_method class.name class.parent)) x one

  key_is : (x y : MethodShape) → x.name ≡ y.name → x.desc ≡ y.desc → method_key x ≡ method_key y
  key_is x y names descs = ap (λ (n : List ℕ). (n, method_text x.desc)) names ∙ ap (λ (d : MethodDesc). (y.name, method_text d)) descs

  apart : HasDistinctMembers class → (x y : MethodShape) → Contains (in_place class).methods x → Contains (in_place class).methods y → x.name ≡ y.name → x.desc ≡ y.desc → x ≡ y
  apart distinct x y in_x in_y names descs = elim (cases x in_x) [
    | inl (a, has_a, is_a) ↦ elim (cases y in_y) [
      | inl (b, has_b, is_b) ↦
          sym is_a ∙ ap (λ (d : MethodShape). shape_of (kept_method class d)) (distinct.methods a b has_a has_b (ap method_key is_a ∙ key_is x y names descs ∙ sym (ap method_key is_b))) ∙ is_b
      | inr is_b ↦ absurd (distinct.none_extra a has_a (ap method_key is_a ∙ key_is x y names descs ∙ ap method_key is_b))
    ]
    | inr is_a ↦ elim (cases y in_y) [
      | inl (b, has_b, is_b) ↦ absurd (distinct.none_extra b has_b (ap method_key is_b ∙ sym (key_is x y names descs) ∙ ap method_key is_a))
      | inr is_b ↦ is_a ∙ sym is_b
    ]
  ]

  method_placed : (made : MadeClass) → IsOfCollected class made → (method : MadeMethod) → Contains made.methods method → Contains (in_place class).methods method.shape
  method_placed made of method has = by (of.methods.only method has)
    where
      by : methods class method → Contains (in_place class).methods method.shape
      by (methods.collected declared there is) =
          subst (λ (m : MadeMethod). Contains (in_place class).methods m.shape) (sym is)
          (Contains-append_left (map (λ (d : MethodShape). shape_of (kept_method class d)) class.methods) (if is_interface class then [] else shape_of (extra_method class.name class.parent) ∷ []) (shape_of (kept_method class declared))
          (mapped_to (λ (d : MethodShape). shape_of (kept_method class d)) class.methods declared there))
      by (methods.extra no_interface is) =
          subst (λ (m : MadeMethod). Contains (in_place class).methods m.shape) (sym is)
          (Contains-append_right (map (λ (d : MethodShape). shape_of (kept_method class d)) class.methods) (if is_interface class then [] else shape_of (extra_method class.name class.parent) ∷ []) (shape_of (extra_method class.name class.parent))
          (subst (λ (b : Bool). Contains (if b then [] else shape_of (extra_method class.name class.parent) ∷ []) (shape_of (extra_method class.name class.parent)))
          (sym (untrue (is_interface class) (λ flag. no_interface ((Decides-eqb (bit_and class.flags.0 512) 512).0 flag)))) (is_first (shape_of (extra_method class.name class.parent)) [])))

-- ---- new classes

none_any : {X : Type 0} (test : X → Bool) (xs : List X) → ((x : X) → Contains xs x → test x ≡ false) → list_any test xs ≡ false
none_any test [] none = refl
none_any test (x ∷ xs) none =
    ap (λ (b : Bool). b || list_any test xs) (none x (is_first x xs)) ∙ none_any test xs (λ y has. none y (is_later x xs y has))

free_new : (w : List Shape) (made : MadeClass) → IsFreeName w made.name → is_new w made ≡ true
free_new w made free =
    ap not (none_any (λ (class : Shape). bytes_eq class.name made.name) w (λ class has. untrue (bytes_eq class.name made.name) (λ same. free class has ((bytes_eq-Decides class.name made.name).0 same))))

-- a method of these flags that has code
abbrev flagged : ℕ → MethodShape → MethodShape
flagged flags x = record { name = x.name; desc = x.desc; flags = access flags; code = true }

flagged_same : (flags : ℕ) (x y : MethodShape) → x ≡ flagged flags x → y ≡ flagged flags y → x.name ≡ y.name → x.desc ≡ y.desc → x ≡ y
flagged_same flags x y is_x is_y names descs =
    is_x
    ∙ ap (λ (n : List ℕ). record { name = n; desc = x.desc; flags = access flags; code = true }) names
    ∙ ap (λ (d : MethodDesc). record { name = y.name; desc = d; flags = access flags; code = true }) descs
    ∙ sym is_y

abbrev item_method : ℕ → Code → MadeMethod
item_method number code = method (codes "i" ++ decimal number) void_desc (access 0x0009) (Some code)

item_flagged : (number : ℕ) (items : List Code) (method : MadeMethod) → Contains (item_methods number items) method → method.shape ≡ flagged 0x0009 method.shape
item_flagged number [] method has = absurd (none_there method has)
item_flagged number (code ∷ items) method has = elim (first_or_later (item_method number code) (item_methods (number + 1) items) method has) [
  | inl is ↦ subst (λ (m : MadeMethod). m.shape ≡ flagged 0x0009 m.shape) is refl
  | inr later ↦ item_flagged (number + 1) items method later
]

module _ (w : List Shape) (dims : ℕ) (classes : List MadeClass) (may : MayMakeWorld w dims classes) where
  new_there : (made : MadeClass) (flags : ℕ) → Contains classes made → IsFreeName w made.name → ((method : MadeMethod) → Contains made.methods method → method.shape ≡ flagged flags method.shape)
      → HasMethodsThere (standin_world w classes) made
  new_there made flags has free each = record {
    class = new_class made;
    here = adds w classes made has (free_new w made free);
    named = refl;
    methods = λ method there. mapped_to shape_of made.methods method there;
    distinct = λ x y in_x in_y names descs.
        let a = mapped_from shape_of made.methods x in_x in
        let b = mapped_from shape_of made.methods y in_y in
        flagged_same flags x y (subst (λ (s : MethodShape). s ≡ flagged flags s) a.2 (each a.0 a.1)) (subst (λ (s : MethodShape). s ≡ flagged flags s) b.2 (each b.0 b.1)) names descs;
  }

  any_flagged : (c : ℕ) (class : Shape) (method : MadeMethod) → any_methods w c class method → method.shape ≡ flagged 0x0001 method.shape
  any_flagged c class method (any_methods.extra is) = subst (λ (m : MadeMethod). m.shape ≡ flagged 0x0001 m.shape) (sym is) refl
  any_flagged c class method (any_methods.awaited name desc ordinary awaits overrides is) = subst (λ (m : MadeMethod). m.shape ≡ flagged 0x0001 m.shape) (sym is) refl

  pub are_there : (made : MadeClass) → Contains classes made → HasMethodsThere (standin_world w classes) made
  are_there made has = by (may.are.only made has)
    where
      by : kinds w dims made → HasMethodsThere (standin_world w classes) made
      by (kinds.library is) =
          new_there made 0 has (subst (λ (m : MadeClass). IsFreeName w m.name) (sym is) may.can.free.library)
          (λ method there. absurd (none_there method (subst (λ (m : MadeClass). Contains m.methods method) is there)))
      by (kinds.collected class (there, of_library) of) = record {
        class = in_place class;
        here = subst (λ (s : Shape). Contains (standin_world w classes) s) (ap (λ (b : Bool). if b then class else in_place class) of_library) (keeps w classes class there);
        named = sym of.name;
        methods = method_placed class made of;
        distinct = apart class (may.can.collected class (there, of_library)).distinct;
      }
      by (kinds.any c class at of_library not_final no_interface of) =
          new_there made 0x0001 has (subst (λ (n : List ℕ). IsFreeName w n) (sym of.name) (may.can.free.any class.name)) (λ method there. any_flagged c class method (of.methods.only method there))
      by (kinds.part class collected of) =
          new_there made 0x0009 has (subst (λ (n : List ℕ). IsFreeName w n) (sym of.name) (may.can.free.part (package_of class.name)))
          (λ method there. item_flagged 0 of.items method (subst (λ (ms : List MadeMethod). Contains ms method) of.methods there))
