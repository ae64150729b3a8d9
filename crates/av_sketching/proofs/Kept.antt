-- The members of a collected class, sketched and in order.
use Rattle.std.proofs.Common.{◌≡◌, ℕ, ⊎_elim, Bool, true, false, List, [], ◌∷◌, map, Contains, Option, Some, None, sym, subst, ap, ◌∙◌, refl, ◌⊎◌, inl, inr}
use Rattle.std.specs.Prelude.{if◌then◌else◌, bit_and, not, ◌&&◌}
use Rattle.std.proofs.lemmas.Bool.Decides.{Decides-eqb}
use Rattle.std.proofs.lemmas.List.Elements.{Contains-append_left, Contains-append_right, Contains-append_cases}
use Rattle.std.specs.declared.cmp.Ordering.{Ordering}
use Rattle.std.specs.Option.{is_some}
use Rattle.std.specs.List.Sorted.{IsStrictlySortedBy}
use Rattle.jv_types.specs.declared.shapes.FieldShape.{FieldShape}
use Rattle.jv_types.specs.declared.shapes.MethodShape.{MethodShape}
use Rattle.jv_types.specs.declared.shapes.Shape.{Shape}
use Rattle.jv_world.specs.Worlds.{IsInterface}
use Rattle.jv_resolve.specs.Members.{init_name}
use Rattle.jv_lists.proofs.Among.{mapped_from, mapped_to, is_first, none_there, first_or_later}
use Rattle.av_standin_of.specs.Codes.{Code}
use Rattle.av_standin_of.specs.Templates.{template, is_object, is_called, is_abstract, makes_fresh, begins_with, method_code}
use Rattle.av_standin_of.specs.Lists.{AreJust}
use Rattle.av_standin_of.specs.Names.{member_order, field_key}
use Rattle.av_standin_of.specs.Classes.{MadeMethod, made_key, masked, kept_field, kept_method, is_interface, IsFieldOf, IsMethodOf}
use Rattle.av_sketches.specs.declared.sketch.SketchedMethod.{SketchedMethod}
use Rattle.av_sketches.specs.declared.sketch.Recipe.TheVariants.{Collected}
use Rattle.av_sketches.specs.Sketches.{code_by, made_method}
use Rattle.av_sorted.specs.Orders.{AreApart, sketched_key}
use Rattle.av_sketches.specs.Conditions.{HasDistinctMembers}
use Rattle.av_sketching.specs.Steps.{kept_shape, kept_sketch, extra_sketch, extras, all_sketched}

-- ---- lists

keys_stay : {X Y K : Type 0} (f : X → Y) (one : X → K) (two : Y → K) → ((x : X) → two (f x) ≡ one x) → (xs : List X) → map two (map f xs) ≡ map one xs
keys_stay f one two same [] = refl
keys_stay {X} {Y} {K} f one two same (x ∷ xs) = ap (λ (k : K). k ∷ map two (map f xs)) (same x) ∙ ap (λ (ks : List K). one x ∷ ks) (keys_stay f one two same xs)

-- values that keep their keys
pub just_mapped : {X Y K : Type 0} (order : K → K → Ordering) (f : X → Y) (one : X → K) (two : Y → K) (P : X → Type 0) (Q : Y → Type 0) (xs : List X)
    → ((x : X) → two (f x) ≡ one x) → ((y : Y) → Q y → (x : X) × P x × (f x ≡ y)) → ((x : X) → P x → Q (f x)) → AreJust order one P xs → AreJust order two Q (map f xs)
just_mapped {X} {Y} {K} order f one two P Q xs same back to just = record {
  rising = subst (IsStrictlySortedBy order) (sym (keys_stay f one two same xs)) just.rising;
  all = λ y q. let from = back y q in subst (λ (z : Y). Contains (map f xs) z) from.2 (mapped_to f xs from.0 (just.all from.0 from.1));
  only = λ y has. let from = mapped_from f xs y has in subst Q from.2 (to from.0 (just.only from.0 from.1));
}

pub just_those : {X K : Type 0} (order : K → K → Ordering) (key : X → K) (P Q : X → Type 0) (xs : List X) → ((x : X) → Q x → P x) → ((x : X) → P x → Q x) → AreJust order key P xs → AreJust order key Q xs
just_those order key P Q xs back to just = record {
  rising = just.rising;
  all = λ x q. just.all x (back x q);
  only = λ x has. to x (just.only x has);
}

-- the same of an equal list of what is given
pub given_is : {X K : Type 0} (order : K → K → Ordering) (key : X → K) (xs ys made : List X) → xs ≡ ys → (AreApart key xs → AreJust order key (Contains xs) made) → AreApart key ys
    → AreJust order key (Contains ys) made
given_is {X} order key xs ys made is just apart = subst (λ (zs : List X). AreJust order key (Contains zs) made) is (just (subst (AreApart key) (sym is) apart))

-- ---- fields

pub fields_apart : (class : Shape) → HasDistinctMembers class → AreApart field_key (map kept_field class.fields)
fields_apart class distinct x y in_x in_y same =
    let a = mapped_from kept_field class.fields x in_x in
    let b = mapped_from kept_field class.fields y in_y in
    let like : field_key a.0 ≡ field_key b.0 = ap field_key a.2 ∙ same ∙ sym (ap field_key b.2) in
    sym a.2 ∙ ap kept_field (distinct.fields a.0 b.0 a.1 b.1 like) ∙ b.2

pub fields_just : (class : Shape) (fields : List FieldShape) → AreJust member_order field_key (Contains (map kept_field class.fields)) fields → AreJust member_order field_key (IsFieldOf class) fields
fields_just class fields =
    just_those member_order field_key (Contains (map kept_field class.fields)) (IsFieldOf class) fields
    (λ x is. subst (λ (z : FieldShape). Contains (map kept_field class.fields) z) (sym is.2) (mapped_to kept_field class.fields is.0 is.1))
    (λ x has. let from = mapped_from kept_field class.fields x has in (from.0, from.1, sym from.2))

-- ---- methods

flag_is : (class : Shape) → is_interface class ≡ true → IsInterface class
flag_is class is = (Decides-eqb (bit_and class.flags.0 512) 512).0 is

is_flag : (class : Shape) → IsInterface class → is_interface class ≡ true
is_flag class is = (Decides-eqb (bit_and class.flags.0 512) 512).1 is

which : (b : Bool) → (b ≡ true) ⊎ (b ≡ false)
which true = inl refl
which false = inr refl

no_flag : (class : Shape) → ¬ IsInterface class → is_interface class ≡ false
no_flag class isn't = ⊎_elim (λ is. absurd (isn't (flag_is class is))) (λ is. is) (which (is_interface class))

other_flag : (b : Bool) → b ≡ false → ¬ (b ≡ true)
other_flag true is is' = absurd cc
other_flag false is is' = absurd cc

-- the extra constructor is there, but in an interface
extra_of : (class : Shape) (b : Bool) → b ≡ is_interface class → (x : SketchedMethod) → Contains (if b then [] else extra_sketch class ∷ []) x → (¬ IsInterface class) × (x ≡ extra_sketch class)
extra_of class true is x has = absurd (none_there x has)
extra_of class false is x has =
    let same : x ≡ extra_sketch class = ⊎_elim (λ first. sym first) (λ more. absurd (none_there x more)) (first_or_later (extra_sketch class) [] x has) in
    ((λ i. other_flag (is_interface class) (sym is) (is_flag class i)), same)

extra_there : (class : Shape) → ¬ IsInterface class → Contains (extras class) (extra_sketch class)
extra_there class isn't =
    subst (λ (b : Bool). Contains (if b then [] else extra_sketch class ∷ []) (extra_sketch class)) (sym (no_flag class isn't)) (is_first (extra_sketch class) [])

is_coded : (a q : Bool) (x y : Code) → not a ≡ is_some (if a then None else if q then Some x else Some y)
is_coded true q x y = refl
is_coded false true x y = refl
is_coded false false x y = refl

code_is : (dims : ℕ) (class : Shape) (declared : MethodShape) (a : Bool) → is_abstract declared ≡ a
    → code_by dims class.name (kept_shape declared) (if a then None else Some (Collected class.parent declared)) ≡ method_code class.name class.parent declared
code_is dims class declared true is =
    sym (ap (λ (b : Bool). if b then None else if is_object class.name && is_called init_name declared then Some makes_fresh else Some (template class.name declared (begins_with class.name declared class.parent))) is)
code_is dims class declared false is = refl

pub kept_is : (dims : ℕ) (class : Shape) (declared : MethodShape) → made_method dims class.name (kept_sketch class declared) ≡ kept_method class declared
kept_is dims class declared =
    ap (λ (code : Option Code). record { shape = kept_shape declared; code = code }) (code_is dims class declared (is_abstract declared) refl)
    ∙ ap (λ (b : Bool). record { shape = record { name = declared.name; desc = declared.desc; flags = masked declared.flags 0x041F; code = b }; code = method_code class.name class.parent declared })
    (is_coded (is_abstract declared) (is_object class.name && is_called init_name declared) makes_fresh (template class.name declared (begins_with class.name declared class.parent)))

pub methods_apart : (class : Shape) → HasDistinctMembers class → AreApart sketched_key (all_sketched class)
methods_apart class distinct x y in_x in_y same =
    ⊎_elim
    (λ has_x. ⊎_elim (λ has_y. both_kept x y same (mapped_from (kept_sketch class) class.methods x has_x) (mapped_from (kept_sketch class) class.methods y has_y))
    (λ has_y. one_kept x y same (mapped_from (kept_sketch class) class.methods x has_x) (extra_of class (is_interface class) refl y has_y).1) (cases_of y in_y))
    (λ has_x. ⊎_elim (λ has_y. sym (one_kept y x (sym same) (mapped_from (kept_sketch class) class.methods y has_y) (extra_of class (is_interface class) refl x has_x).1))
    (λ has_y. (extra_of class (is_interface class) refl x has_x).1 ∙ sym (extra_of class (is_interface class) refl y has_y).1) (cases_of y in_y))
    (cases_of x in_x)
  where
    cases_of : (z : SketchedMethod) → Contains (all_sketched class) z → Contains (map (kept_sketch class) class.methods) z ⊎ Contains (extras class) z
    cases_of z has = Contains-append_cases (map (kept_sketch class) class.methods) (extras class) z has

    both_kept : (x y : SketchedMethod) → sketched_key x ≡ sketched_key y → (a : MethodShape) × Contains class.methods a × (kept_sketch class a ≡ x) → (b : MethodShape) × Contains class.methods b × (kept_sketch class b ≡ y) → x ≡ y
    both_kept x y same (a, in_a, is_a) (b, in_b, is_b) =
        sym is_a ∙ ap (kept_sketch class) (distinct.methods a b in_a in_b (ap sketched_key is_a ∙ same ∙ sym (ap sketched_key is_b))) ∙ is_b

    one_kept : (x y : SketchedMethod) → sketched_key x ≡ sketched_key y → (a : MethodShape) × Contains class.methods a × (kept_sketch class a ≡ x) → y ≡ extra_sketch class → x ≡ y
    one_kept x y same (a, in_a, is_a) is = absurd (distinct.none_extra a in_a (ap sketched_key is_a ∙ same ∙ ap sketched_key is))

pub methods_just : (dims : ℕ) (class : Shape) (methods : List SketchedMethod) → AreJust member_order sketched_key (Contains (all_sketched class)) methods
    → AreJust member_order made_key (IsMethodOf class) (map (made_method dims class.name) methods)
methods_just dims class methods =
    just_mapped member_order (made_method dims class.name) sketched_key made_key (Contains (all_sketched class)) (IsMethodOf class) methods (λ x. refl) back to
  where
    back : (y : MadeMethod) → IsMethodOf class y → (x : SketchedMethod) × Contains (all_sketched class) x × (made_method dims class.name x ≡ y)
    back y (IsMethodOf.collected declared has is) =
        (kept_sketch class declared, Contains-append_left (map (kept_sketch class) class.methods) (extras class) (kept_sketch class declared) (mapped_to (kept_sketch class) class.methods declared has), kept_is dims class declared ∙ sym is)
    back y (IsMethodOf.extra isn't is) =
        (extra_sketch class, Contains-append_right (map (kept_sketch class) class.methods) (extras class) (extra_sketch class) (extra_there class isn't), sym is)

    from_kept : (x : SketchedMethod) → (a : MethodShape) × Contains class.methods a × (kept_sketch class a ≡ x) → IsMethodOf class (made_method dims class.name x)
    from_kept x (a, has, is) = IsMethodOf.collected a has (ap (made_method dims class.name) (sym is) ∙ kept_is dims class a)

    from_extra : (x : SketchedMethod) → (¬ IsInterface class) × (x ≡ extra_sketch class) → IsMethodOf class (made_method dims class.name x)
    from_extra x (isn't, is) = IsMethodOf.extra isn't (ap (made_method dims class.name) is)

    to : (x : SketchedMethod) → Contains (all_sketched class) x → IsMethodOf class (made_method dims class.name x)
    to x has =
        ⊎_elim (λ kept. from_kept x (mapped_from (kept_sketch class) class.methods x kept)) (λ more. from_extra x (extra_of class (is_interface class) refl x more))
        (Contains-append_cases (map (kept_sketch class) class.methods) (extras class) x has)
