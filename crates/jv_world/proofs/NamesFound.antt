-- Names and the classes of a world that have them.
use Rattle.std.proofs.Common.{◌≡◌, ℕ, zero, suc, ◌+◌, ◌<◌, ◌≤◌, if◌then◌else◌, IfSome, IfNone, take, ◌++◌, arith, Bool, true, false, List, [], ◌∷◌, length, map, get_or, Option, Some, None, position, nat_eq, slice_get, option_map, is_some, refl, sym, ap, ◌∙◌, ⊎_elim}
use Rattle.std.specs.List.{list_any, IsDistinct}
use Rattle.indexmap.specs.IndexSet.{insert_key}
use Rattle.std.proofs.lemmas.List.{map_push, map_more, take_all}
use Rattle.std.proofs.lemmas.List.Folds.{Any-from_list_any}
use Rattle.std.proofs.lemmas.Bool.{false≢true, cases_lt}
use Rattle.std.proofs.lemmas.Option.{slice_get_cases, slice_get-map, slice_get-get_or, none-some, same_Some, slice_get_within, get_or_from_slice_get}
use Rattle.std.proofs.lemmas.List.Quantifiers.{position-Some}
use Rattle.std.proofs.lemmas.Map.Keys.{any_passes_from_place, apart_from_distinct}
use Rattle.std.specs.Cmp.Lexicographic.{pointwise, bytes_decides}
use Rattle.std.specs.declared.alloc.Global.{Global}
use Rattle.std.specs.declared.vec.Vec.{Vec}
use Rattle.jv_world.proofs.Choices.{by_bool}
use Rattle.jv_types.specs.declared.shapes.Shape.{Shape}
use Rattle.jv_world.specs.Worlds.{IsNamed, AreNumbered, HaveDistinctNames}

-- an element that is mapped to this one
pub slice_get-map_back : {A B : Type 0} (f : A → B) (xs : List A) (i : ℕ) (y : B) → slice_get (map f xs) i ≡ Some y → (x : A) × (slice_get xs i ≡ Some x) × (f x ≡ y)
slice_get-map_back {A} {B} f xs i y at =
    ⊎_elim
    (λ (found : (x : A) × (i < length xs) × (slice_get xs i ≡ Some x) × (get_or xs i x ≡ x)).
    (found.0, found.2, same_Some (f found.0) y (sym (ap (option_map f) found.2) ∙ sym (slice_get-map f xs i) ∙ at)))
    (λ (past : (length xs ≤ i) × (slice_get xs i ≡ None)).
    absurd (none-some y (sym (ap (option_map f) past.1) ∙ sym (slice_get-map f xs i) ∙ at)))
    (slice_get_cases xs i).1

-- the names of the classes in order
pub IsNamed-at : (w : List Shape) (c : ℕ) (name : List ℕ) → slice_get (map (λ s. s.name) w) c ≡ Some name → IsNamed w c name
IsNamed-at w c name at = slice_get-map_back (λ (s : Shape). s.name) w c name at

pub at_IsNamed : (w : List Shape) (c : ℕ) (name : List ℕ) → IsNamed w c name → slice_get (map (λ s. s.name) w) c ≡ Some name
at_IsNamed w c name named = slice_get-map (λ (s : Shape). s.name) w c ∙ ap (option_map (λ (s : Shape). s.name)) named.1 ∙ ap Some named.2

-- the place at which a name was found
pub name_found : (keys : List (Vec ℕ Global)) (name : List ℕ) (i : ℕ) → Some i ≡ position (λ k. pointwise nat_eq name k.items) keys → slice_get (map (λ k. k.items) keys) i ≡ Some name
name_found [] name i found = absurd (none-some i (sym found))
name_found (n ∷ ns) name i found =
    let at = position-Some (λ (k : Vec ℕ Global). pointwise nat_eq name k.items) (n ∷ ns) i n (sym found) in
    let is : name ≡ (get_or (n ∷ ns) i n).items = (bytes_decides name (get_or (n ∷ ns) i n).items).0 at.1 in
    slice_get-map (λ (k : Vec ℕ Global). k.items) (n ∷ ns) i
    ∙ ap (option_map (λ (k : Vec ℕ Global). k.items)) (slice_get-get_or (n ∷ ns) i n at.0)
    ∙ ap Some (sym is)

-- a name that wasn't found is at no place
pub name_none : (keys : List (Vec ℕ Global)) (name : List ℕ) → false ≡ list_any (λ k. pointwise nat_eq name k.items) keys → (i : ℕ) → slice_get (map (λ k. k.items) keys) i ≡ Some name → ⊥
name_none keys name none i there =
    let at = slice_get-map_back (λ (k : Vec ℕ Global). k.items) keys i name there in
    let passes : pointwise nat_eq name at.0.items ≡ true = (bytes_decides name at.0.items).1 (sym at.2) in
    false≢true (none ∙ any_passes_from_place (λ (k : Vec ℕ Global). pointwise nat_eq name k.items) keys i at.0 at.1 passes)

-- a class has one name
pub same_name : (w : List Shape) (c : ℕ) (name other : List ℕ) → IsNamed w c name → IsNamed w c other → name ≡ other
same_name w c name other a b = same_Some name other (sym (at_IsNamed w c name a) ∙ at_IsNamed w c other b)

-- what a look-up among the keys says of the names
pub name_at : (keys : List (Vec ℕ Global)) (name : List ℕ) (r : Option ℕ) → r ≡ position (λ k. pointwise nat_eq name k.items) keys
    → IfSome r (λ i. slice_get (map (λ k. k.items) keys) i ≡ Some name)
name_at keys name (Some i) found = name_found keys name i found
name_at keys name None found = tt

pub name_nowhere : (keys : List (Vec ℕ Global)) (name : List ℕ) (r : Option ℕ) → is_some r ≡ list_any (λ k. pointwise nat_eq name k.items) keys
    → IfNone r ((i : ℕ) → slice_get (map (λ k. k.items) keys) i ≡ Some name → ⊥)
name_nowhere keys name (Some i) found = tt
name_nowhere keys name None found = name_none keys name found

-- an element of a front
pub slice_get-take : {A : Type 0} (i : ℕ) (xs : List A) (j : ℕ) (x : A) → slice_get (take i xs) j ≡ Some x → (j < i) × (slice_get xs j ≡ Some x)
slice_get-take zero xs j x h = absurd (none-some x h)
slice_get-take (suc i) [] j x h = absurd (none-some x h)
slice_get-take (suc i) (y ∷ ys) zero x h = (omega arith, h)
slice_get-take (suc i) (y ∷ ys) (suc j) x h =
    let rest = slice_get-take i ys j x h in
    (omega (arith, rest.0), rest.1)

-- whether a key has the items of this one
abbrev is_same_key : Vec ℕ Global → Vec ℕ Global → Bool
is_same_key x y = pointwise nat_eq x.items y.items

-- a key that is there already is of an earlier shape
pub names_twice : (w : List Shape) (i : ℕ) (shape : Shape) (keys : List (Vec ℕ Global)) (v : Vec ℕ Global) → HaveDistinctNames w → i < length w → shape ≡ get_or w i shape → v.items ≡ shape.name
    → map (λ k. k.items) keys ≡ map (λ s. s.name) (take i w) → list_any (λ y. pointwise nat_eq v.items y.items) keys ≡ true → ⊥
names_twice w i shape keys v distinct below is named so_far there =
    let any = Any-from_list_any (is_same_key v) keys there in
    let same_items : v.items ≡ any.1.items = (bytes_decides v.items any.1.items).0 any.4 in
    let at : slice_get (map (λ (k : Vec ℕ Global). k.items) keys) any.0 ≡ Some shape.name =
    slice_get-map (λ (k : Vec ℕ Global). k.items) keys any.0
    ∙ ap (option_map (λ (k : Vec ℕ Global). k.items)) (slice_get-get_or keys any.0 any.1 any.2)
    ∙ ap Some (ap (λ (k : Vec ℕ Global). k.items) any.3 ∙ sym same_items ∙ named) in
    let before = slice_get-map_back (λ (s : Shape). s.name) (take i w) any.0 shape.name (ap (λ (l : List (List ℕ)). slice_get l any.0) (sym so_far) ∙ at) in
    let early = slice_get-take i w any.0 before.0 before.1 in
    let here : slice_get w i ≡ Some shape = slice_get-get_or w i shape below ∙ ap Some (sym is) in
    let both = distinct any.0 i shape.name (before.0, early.1, before.2) (shape, here, refl) in
    absurd (omega (arith, both, early.0))

-- the key of one more shape
pub names_grown : (w : List Shape) (i : ℕ) (shape : Shape) (keys new_keys : List (Vec ℕ Global)) (v : Vec ℕ Global) → i < length w → shape ≡ get_or w i shape
    → v.items ≡ shape.name → new_keys ≡ insert_key (λ x y. pointwise nat_eq x.items y.items) keys v → list_any (λ y. pointwise nat_eq v.items y.items) keys ≡ false
    → map (λ k. k.items) keys ≡ map (λ s. s.name) (take i w) → map (λ k. k.items) new_keys ≡ map (λ s. s.name) (take (i + 1) w)
names_grown w i shape keys new_keys v below is named inserted fresh so_far =
    let grown : new_keys ≡ keys ++ v ∷ [] = inserted ∙ ap (λ b. if b then keys else keys ++ v ∷ []) fresh in
    ap (map (λ (k : Vec ℕ Global). k.items)) grown
    ∙ map_push (λ (k : Vec ℕ Global). k.items) keys v
    ∙ ap (λ l. l ++ v.items ∷ []) so_far
    ∙ ap (λ (n : List ℕ). map (λ (s : Shape). s.name) (take i w) ++ n ∷ []) (named ∙ ap (λ (s : Shape). s.name) is)
    ∙ sym (map_more (λ (s : Shape). s.name) w i shape below)

-- the same, where names are distinct
pub names_more : (w : List Shape) (i : ℕ) (shape : Shape) (keys new_keys : List (Vec ℕ Global)) (v : Vec ℕ Global) → AreNumbered w → i < length w → shape ≡ get_or w i shape
    → v.items ≡ shape.name → new_keys ≡ insert_key (λ x y. pointwise nat_eq x.items y.items) keys v
    → map (λ k. k.items) keys ≡ map (λ s. s.name) (take i w) → map (λ k. k.items) new_keys ≡ map (λ s. s.name) (take (i + 1) w)
names_more w i shape keys new_keys v numbered below is named inserted so_far =
    by_bool (list_any (is_same_key v) keys)
    (λ there. absurd (names_twice w i shape keys v numbered.distinct below is named so_far there))
    (λ fresh. names_grown w i shape keys new_keys v below is named inserted fresh so_far)

-- different keys are of different names
pub names_distinct : (w : List Shape) (i : ℕ) (keys : List (Vec ℕ Global)) → length w ≤ i → map (λ k. k.items) keys ≡ map (λ s. s.name) (take i w)
    → IsDistinct (λ x y. pointwise nat_eq x.items y.items) keys → HaveDistinctNames w
names_distinct w i keys past so_far distinct c d name named_c named_d =
    ⊎_elim
    (λ (low : c < d). absurd (clash c d name named_c named_d low))
    (λ (high : d ≤ c). ⊎_elim (λ (lower : d < c). absurd (clash d c name named_d named_c lower)) (λ (upper : c ≤ d). omega (arith, high, upper)) (cases_lt d c))
    (cases_lt c d)
  where
    key_at : (k : ℕ) (n : List ℕ) → IsNamed w k n → (v : Vec ℕ Global) × (slice_get keys k ≡ Some v) × (v.items ≡ n)
    key_at k n named = slice_get-map_back (λ (v : Vec ℕ Global). v.items) keys k n
        (ap (λ (l : List (List ℕ)). slice_get l k) (so_far ∙ ap (map (λ (s : Shape). s.name)) (take_all i w past)) ∙ at_IsNamed w k n named)

    clash : (k j : ℕ) (n : List ℕ) → IsNamed w k n → IsNamed w j n → k < j → ⊥
    clash k j n named_k named_j before =
        let first = key_at k n named_k in
        let second = key_at j n named_j in
        let apart = apart_from_distinct (λ (x y : Vec ℕ Global). pointwise nat_eq x.items y.items) keys k j first.0 distinct before (slice_get_within keys j second.0 second.1) in
        let at_k = get_or_from_slice_get keys k first.0 first.0 first.1 in
        let at_j = get_or_from_slice_get keys j second.0 first.0 second.1 in
        let equal : pointwise nat_eq (get_or keys k first.0).items (get_or keys j first.0).items ≡ true =
        (bytes_decides (get_or keys k first.0).items (get_or keys j first.0).items).1
        (ap (λ (v : Vec ℕ Global). v.items) at_k ∙ first.2 ∙ sym second.2 ∙ ap (λ (v : Vec ℕ Global). v.items) (sym at_j)) in
        false≢true (sym apart ∙ equal)
