-- Names kept as keys.
use Rattle.std.proofs.Common.{◌≡◌, ℕ, ◌<◌, ◌≤◌, ⊎_elim, length, get_or, position, Bool, true, false, List, [], ◌∷◌, ◌++◌, Option, None, Some, IfSome, IfNone, is_some, slice_get, option_map, if◌then◌else◌, map, nat_eq, Contains, refl, ap, sym, ◌∙◌}
use Rattle.std.specs.declared.alloc.Global.{Global}
use Rattle.std.specs.declared.vec.Vec.{Vec}
use Rattle.std.specs.Cmp.Lexicographic.{pointwise, bytes_decides}
use Rattle.std.proofs.lemmas.List.{map_push}
use Rattle.std.proofs.lemmas.List.Folds.{Any-from_list_any}
use Rattle.std.proofs.lemmas.Bool.{false≢true}
use Rattle.std.proofs.lemmas.List.Quantifiers.{position-Some}
use Rattle.std.proofs.lemmas.Map.Keys.{any_passes_from_place}
use Rattle.std.proofs.lemmas.Option.{slice_get_cases, slice_get-map, slice_get-get_or, none-some, same_Some}
use Rattle.std.specs.List.{list_any}
use Rattle.indexmap.specs.IndexSet.{insert_key}
use Rattle.jv_resolve.proofs.PlacesLemmas.{among_from_get}
use Rattle.av_collected.proofs.Lists.{at_place}

abbrev pub items_of : Vec ℕ Global → List ℕ
items_of key = key.items

abbrev is_same_key : Vec ℕ Global → Vec ℕ Global → Bool
is_same_key x y = pointwise nat_eq x.items y.items

-- an element that is mapped to this one
map_back : {A B : Type 0} (f : A → B) (xs : List A) (i : ℕ) (y : B) → slice_get (map f xs) i ≡ Some y → (x : A) × (slice_get xs i ≡ Some x) × (f x ≡ y)
map_back {A} {B} f xs i y at =
    ⊎_elim
    (λ (found : (x : A) × (i < length xs) × (slice_get xs i ≡ Some x) × (get_or xs i x ≡ x)).
    (found.0, found.2, same_Some (f found.0) y (sym (ap (option_map f) found.2) ∙ sym (slice_get-map f xs i) ∙ at)))
    (λ (past : (length xs ≤ i) × (slice_get xs i ≡ None)).
    absurd (none-some y (sym (ap (option_map f) past.1) ∙ sym (slice_get-map f xs i) ∙ at)))
    (slice_get_cases xs i).1

-- the place at which a name was found
name_found : (keys : List (Vec ℕ Global)) (name : List ℕ) (i : ℕ) → Some i ≡ position (λ k. pointwise nat_eq name k.items) keys → slice_get (map items_of keys) i ≡ Some name
name_found [] name i found = absurd (none-some i (sym found))
name_found (n ∷ ns) name i found =
    let at = position-Some (λ (k : Vec ℕ Global). pointwise nat_eq name k.items) (n ∷ ns) i n (sym found) in
    let is : name ≡ (get_or (n ∷ ns) i n).items = (bytes_decides name (get_or (n ∷ ns) i n).items).0 at.1 in
    slice_get-map items_of (n ∷ ns) i
    ∙ ap (option_map items_of) (slice_get-get_or (n ∷ ns) i n at.0)
    ∙ ap Some (sym is)

-- a name that wasn't found is at no place
name_none : (keys : List (Vec ℕ Global)) (name : List ℕ) → false ≡ list_any (λ k. pointwise nat_eq name k.items) keys → (i : ℕ) → slice_get (map items_of keys) i ≡ Some name → ⊥
name_none keys name none i there =
    let at = map_back items_of keys i name there in
    let passes : pointwise nat_eq name at.0.items ≡ true = (bytes_decides name at.0.items).1 (sym at.2) in
    false≢true (none ∙ any_passes_from_place (λ (k : Vec ℕ Global). pointwise nat_eq name k.items) keys i at.0 at.1 passes)

pub name_at : (keys : List (Vec ℕ Global)) (name : List ℕ) (r : Option ℕ) → r ≡ position (λ k. pointwise nat_eq name k.items) keys
    → IfSome r (λ i. slice_get (map (λ k. k.items) keys) i ≡ Some name)
name_at keys name (Some i) found = name_found keys name i found
name_at keys name None found = tt

pub name_nowhere : (keys : List (Vec ℕ Global)) (name : List ℕ) (r : Option ℕ) → is_some r ≡ list_any (λ k. pointwise nat_eq name k.items) keys
    → IfNone r ((i : ℕ) → slice_get (map (λ k. k.items) keys) i ≡ Some name → ⊥)
name_nowhere keys name (Some i) found = tt
name_nowhere keys name None found = name_none keys name found

-- whether a name is there, by its place
pub has_by_place : (names : List (List ℕ)) (name : List ℕ) (r : Option ℕ) → IfSome r (λ place. slice_get names place ≡ Some name) → IfNone r ((place : ℕ) → slice_get names place ≡ Some name → ⊥)
    → (is_some r ≡ true → Contains names name) × (Contains names name → is_some r ≡ true)
has_by_place names name (Some place) found none = (λ there. among_from_get names place name found, λ h. refl)
has_by_place names name None found none = (λ there. absurd cc, λ h. absurd (none h.0 (at_place names name h)))

-- a key of a new name goes last
pub added_last : (keys new_keys : List (Vec ℕ Global)) (key : Vec ℕ Global) (name : List ℕ) → key.items ≡ name → (Contains (map items_of keys) name → ⊥)
    → new_keys ≡ insert_key is_same_key keys key → map items_of new_keys ≡ map items_of keys ++ name ∷ []
added_last keys new_keys key name is fresh inserted = by (list_any (is_same_key key) keys) refl
  where
    by : (b : Bool) → list_any (is_same_key key) keys ≡ b → map items_of new_keys ≡ map items_of keys ++ name ∷ []
    by true there =
        let any = Any-from_list_any (is_same_key key) keys there in
        let same : key.items ≡ any.1.items = (bytes_decides key.items any.1.items).0 any.4 in
        let at : slice_get (map items_of keys) any.0 ≡ Some name =
        slice_get-map items_of keys any.0 ∙ ap (λ (o : Option (Vec ℕ Global)). option_map items_of o) (slice_get-get_or keys any.0 any.1 any.2)
        ∙ ap (λ (n : List ℕ). Some n) (ap items_of any.3 ∙ sym same ∙ is) in
        absurd (fresh (among_from_get (map items_of keys) any.0 name at))
    by false absent =
        ap (map items_of) (inserted ∙ ap (λ (b : Bool). if b then keys else keys ++ key ∷ []) absent)
        ∙ map_push items_of keys key
        ∙ ap (λ (n : List ℕ). map items_of keys ++ n ∷ []) is
