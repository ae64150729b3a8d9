-- Places by name and descriptor, as one more method comes.
use Rattle.std.proofs.Common.{◌≡◌, ℕ, zero, suc, ◌+◌, ◌<◌, ◌≤◌, Bool, true, false, cond, ◌&&◌, List, [], ◌∷◌, ◌++◌, length, get_or, take, drop, min, ◌^◌, below_more, Option, Some, None, refl, sym, ap, subst, ◌∙◌, arith, Decides, inl, inr, ◌⊎◌, ⊎_elim}
use Rattle.std.specs.Prelude.{option_map}
use Rattle.std.specs.List.{slice_get}
use Rattle.std.specs.Str.{bytes_eq}
use Rattle.std.proofs.lemmas.Slice.Eq.{bytes_eq-Decides}
use Rattle.std.proofs.lemmas.Bool.Decides.{Decides-and}
use Rattle.std.proofs.lemmas.Option.{slice_get_within, slice_get_past, none-some}
use Rattle.std.proofs.lemmas.List.{take-append-drop, drop_more, map-append, map_more, length-map, length-take-le}
use Rattle.std.proofs.lemmas.Bool.{false≢true, cases_lt}
use Rattle.std.proofs.lemmas.Cmp.{tied_itself, nat_list_cmp_total}
use Rattle.std.proofs.lemmas.Map.Lookups.{exact_bytes}
use Rattle.std.specs.declared.cmp.Ordering.{Ordering}
use Rattle.std.specs.declared.cmp.Ordering.TheVariants.{Less, Equal, Greater}
use Rattle.std.specs.Ordering.{nat_cmp, ordering_then, is_eq}
use Rattle.std.specs.Cmp.Lexicographic.{slice_cmp}
use Rattle.std.specs.BTreeMap.{BTreeMap, get, is_at, Updates}
use Rattle.calls_form.specs.declared.class_of_places.MemberKey.{MemberKey}
use Rattle.calls_form.specs.declared.outline.Entry.{Entry}
use Rattle.calls_form.specs.declared.target.Target.{Target}
use Rattle.calls_form.specs.declared.class_of_places.Label.{Label}
use Rattle.calls_form.specs.ClassesBodies.{flat, target_in}
use Rattle.calls_form.specs.ClassesPlaces.{Texts, texts_of, all_texts, place_of, AreApart, HasPlaces, key_cmp, target_of}
use Rattle.calls_form.proofs.LayoutFields.{some_is}

-- a member has this name and descriptor
abbrev pub is_same : Texts → List ℕ → List ℕ → Bool
is_same h name desc = bytes_eq h.name name && bytes_eq h.desc desc

Decides-same : (h : Texts) (name desc : List ℕ) → Decides (is_same h name desc) ((h.name ≡ name) × (h.desc ≡ desc))
Decides-same h name desc = Decides-and (bytes_eq h.name name) (bytes_eq h.desc desc) (bytes_eq-Decides h.name name) (bytes_eq-Decides h.desc desc)

-- a place where one was found, else another
abbrev pub or_else : Option ℕ → Option ℕ → Option ℕ
or_else None o = o
or_else (Some p) o = Some p

suc_or : (a b : Option ℕ) → option_map suc (or_else a b) ≡ or_else (option_map suc a) (option_map suc b)
suc_or None b = refl
suc_or (Some p) b = refl

push_cons : (b : Bool) (rest found last : Option ℕ) → rest ≡ or_else found last → cond b (Some 0) (option_map suc rest) ≡ or_else (cond b (Some 0) (option_map suc found)) (option_map suc last)
push_cons true rest found last e = refl
push_cons false rest found last e = ap (option_map suc) e ∙ suc_or found last

suc_cond : (b : Bool) (n : ℕ) → option_map suc (cond b (Some n) None) ≡ cond b (Some (suc n)) None
suc_cond true n = refl
suc_cond false n = refl

-- one member more is found where none was
pub place_of_push : (hs : List Texts) (h : Texts) (name desc : List ℕ) → place_of (hs ++ h ∷ []) name desc ≡ or_else (place_of hs name desc) (cond (is_same h name desc) (Some (length hs)) None)
unfolding place_of
place_of_push [] h name desc = refl
place_of_push (x ∷ hs) h name desc =
    push_cons (is_same x name desc) (place_of (hs ++ h ∷ []) name desc) (place_of hs name desc) (cond (is_same h name desc) (Some (length hs)) None) (place_of_push hs h name desc)
    ∙ ap (or_else (cond (is_same x name desc) (Some 0) (option_map suc (place_of hs name desc)))) (suc_cond (is_same h name desc) (length hs))

suc_some : (o : Option ℕ) (p : ℕ) → option_map suc o ≡ Some p → (q : ℕ) × (o ≡ Some q) × (suc q ≡ p)
suc_some None p e = absurd cc
suc_some (Some q) p e = (q, refl, cc)

-- a member with this name and descriptor stands at the place
abbrev pub Stands : List Texts → List ℕ → List ℕ → ℕ → Type 0
Stands hs name desc p = (h : Texts) × (slice_get hs p ≡ Some h) × (h.name ≡ name) × (h.desc ≡ desc)

stands_step : (x : Texts) (hs : List Texts) (name desc : List ℕ) (b : Bool) (o : Option ℕ) → is_same x name desc ≡ b → ((q : ℕ) → o ≡ Some q → Stands hs name desc q) → (p : ℕ)
    → cond b (Some 0) (option_map suc o) ≡ Some p → Stands (x ∷ hs) name desc p
stands_step x hs name desc true o t later p e = let same = (Decides-same x name desc).0 t in subst (Stands (x ∷ hs) name desc) (some_is 0 p e) (x, refl, same.0, same.1)
stands_step x hs name desc false o t later p e = let q = suc_some o p e in subst (Stands (x ∷ hs) name desc) q.2 (later q.0 q.1)

-- a member stands where it is found
pub place_takes : (hs : List Texts) (name desc : List ℕ) (p : ℕ) → place_of hs name desc ≡ Some p → Stands hs name desc p
unfolding place_of
place_takes [] name desc p e = absurd cc
place_takes (x ∷ hs) name desc p e = stands_step x hs name desc (is_same x name desc) (place_of hs name desc) refl (place_takes hs name desc) p e

found_step : (b : Bool) (o : Option ℕ) (q : ℕ) → o ≡ Some q → (r : ℕ) × (cond b (Some 0) (option_map suc o) ≡ Some r)
found_step true o q e = (0, refl)
found_step false o q e = (suc q, ap (option_map suc) e)

-- a member that stands somewhere is found somewhere
pub place_found : (hs : List Texts) (name desc : List ℕ) (p : ℕ) → Stands hs name desc p → (q : ℕ) × (place_of hs name desc ≡ Some q)
unfolding place_of
place_found [] name desc p s = absurd (none-some s.0 s.1)
place_found (x ∷ hs) name desc zero s =
    let is = some_is x s.0 s.1 in
    let same : is_same x name desc ≡ true = (Decides-same x name desc).1 (ap (λ (h : Texts). h.name) is ∙ s.2, ap (λ (h : Texts). h.desc) is ∙ s.3) in
    (0, ap (λ (b : Bool). cond b (Some 0) (option_map suc (place_of hs name desc))) same)
place_found (x ∷ hs) name desc (suc p) s =
    let later = place_found hs name desc p s in
    found_step (is_same x name desc) (place_of hs name desc) later.0 later.1

-- members that are apart are found where they stand
pub place_again : (hs : List Texts) (name desc : List ℕ) (p : ℕ) → AreApart hs → Stands hs name desc p → place_of hs name desc ≡ Some p
place_again hs name desc p apart s =
    let found = place_found hs name desc p s in
    let t = place_takes hs name desc found.0 found.1 in
    let here = apart found.0 p t.0 s.0 t.1 s.1 (t.2 ∙ sym s.2) (t.3 ∙ sym s.3) in
    found.1 ∙ ap (λ (q : ℕ). Some q) here

pub slice_get_front : {A : Type 0} (xs ys : List A) (p : ℕ) (x : A) → slice_get xs p ≡ Some x → slice_get (xs ++ ys) p ≡ Some x
slice_get_front [] ys p x e = absurd (none-some x e)
slice_get_front (y ∷ xs) ys zero x e = e
slice_get_front (y ∷ xs) ys (suc p) x e = slice_get_front xs ys p x e

pub slice_get_middle : {A : Type 0} (xs ys : List A) (x : A) → slice_get (xs ++ x ∷ ys) (length xs) ≡ Some x
slice_get_middle [] ys x = refl
slice_get_middle (y ∷ xs) ys x = slice_get_middle xs ys x

-- an element of a list with one more at its end
pub push_cases : {A : Type 0} (xs : List A) (y : A) (p : ℕ) (x : A) → slice_get (xs ++ y ∷ []) p ≡ Some x → (slice_get xs p ≡ Some x) ⊎ ((p ≡ length xs) × (y ≡ x))
push_cases [] y zero x e = inr (refl, some_is y x e)
push_cases [] y (suc p) x e = absurd (none-some x e)
push_cases (z ∷ xs) y zero x e = inl e
push_cases (z ∷ xs) y (suc p) x e = ⊎_elim (λ h. inl h) (λ h. inr (ap suc h.0, h.1)) (push_cases xs y p x e)

-- a member that was found before stands twice
pub not_apart : (front rest : List Texts) (h : Texts) (p : ℕ) → place_of front h.name h.desc ≡ Some p → AreApart (front ++ h ∷ rest) → ⊥
not_apart front rest h p found apart =
    let s = place_takes front h.name h.desc p found in
    let same : p ≡ length front = apart p (length front) s.0 h (slice_get_front front (h ∷ rest) p s.0 s.1) (slice_get_middle front rest h) s.2 s.3 in
    let within : p < length front = slice_get_within front p s.0 s.1 in
    absurd (omega (arith, same, within))

no_place : (hs : List Texts) (h x : Texts) (p : ℕ) → place_of hs h.name h.desc ≡ None → slice_get hs p ≡ Some x → x.name ≡ h.name → x.desc ≡ h.desc → ⊥
no_place hs h x p none at name desc =
    let found = place_found hs h.name h.desc p (x, at, name, desc) in
    absurd (none-some found.0 (sym none ∙ found.1))

-- one member more keeps them apart where none was found
pub apart_push : (hs : List Texts) (h : Texts) → AreApart hs → place_of hs h.name h.desc ≡ None → AreApart (hs ++ h ∷ [])
apart_push hs h apart none i j a b at_i at_j name desc =
    elim (push_cases hs h i a at_i) [
      | inl p ↦ elim (push_cases hs h j b at_j) [
        | inl q ↦ apart i j a b p q name desc
        | inr q ↦ absurd (no_place hs h a i none p (name ∙ ap (λ (x : Texts). x.name) (sym q.1)) (desc ∙ ap (λ (x : Texts). x.desc) (sym q.1)))
      ]
      | inr p ↦ elim (push_cases hs h j b at_j) [
        | inl q ↦ absurd (no_place hs h b j none q (sym name ∙ ap (λ (x : Texts). x.name) (sym p.1)) (sym desc ∙ ap (λ (x : Texts). x.desc) (sym p.1)))
        | inr q ↦ p.0 ∙ sym q.0
      ]
    ]

pub apart_none : AreApart []
apart_none i j a b at_i at_j name desc = absurd (none-some a at_i)

-- ---- a map of the places

then_equal : (a b : Ordering) → is_eq (ordering_then a b) ≡ true → (a ≡ Equal) × (b ≡ Equal)
then_equal Less b e = absurd cc
then_equal Equal Less e = absurd cc
then_equal Equal Equal e = (refl, refl)
then_equal Equal Greater e = absurd cc
then_equal Greater b e = absurd cc

key_same : (k q : MemberKey) → is_at (key_cmp k) q ≡ true → (k.name ≡ q.name) × (k.desc ≡ q.desc)
key_same k q e =
    let both = then_equal (slice_cmp nat_cmp k.name q.name) (slice_cmp nat_cmp k.desc q.desc) e in
    (exact_bytes k.name q.name both.0, exact_bytes k.desc q.desc both.1)

key_tied : (k q : MemberKey) → k.name ≡ q.name → k.desc ≡ q.desc → is_at (key_cmp k) q ≡ true
key_tied k q e f =
    let first : slice_cmp nat_cmp k.name q.name ≡ Equal = subst (λ (n : List ℕ). slice_cmp nat_cmp k.name n ≡ Equal) e (tied_itself nat_list_cmp_total k.name) in
    let second : slice_cmp nat_cmp k.desc q.desc ≡ Equal = subst (λ (n : List ℕ). slice_cmp nat_cmp k.desc n ≡ Equal) f (tied_itself nat_list_cmp_total k.desc) in
    ap (λ (o : Ordering). is_eq (ordering_then o (slice_cmp nat_cmp k.desc q.desc))) first ∙ ap is_eq second

or_none : (o : Option ℕ) → or_else o None ≡ o
or_none None = refl
or_none (Some p) = refl

-- what an update says at a key is what one member more says
place_updated : (hs : List Texts) (h : Texts) (k q : MemberKey) (b : Bool) → k.name ≡ h.name → k.desc ≡ h.desc → place_of hs h.name h.desc ≡ None → is_at (key_cmp k) q ≡ b
    → cond b (Some (length hs)) (place_of hs q.name q.desc) ≡ place_of (hs ++ h ∷ []) q.name q.desc
place_updated hs h k q true name desc none t =
    let same = key_same k q t in
    let at_name : h.name ≡ q.name = sym name ∙ same.0 in
    let at_desc : h.desc ≡ q.desc = sym desc ∙ same.1 in
    let absent : place_of hs q.name q.desc ≡ None = subst (λ (n : List ℕ). place_of hs n q.desc ≡ None) at_name (subst (λ (d : List ℕ). place_of hs h.name d ≡ None) at_desc none) in
    let is : is_same h q.name q.desc ≡ true = (Decides-same h q.name q.desc).1 (at_name, at_desc) in
    sym (place_of_push hs h q.name q.desc ∙ ap (λ (o : Option ℕ). or_else o (cond (is_same h q.name q.desc) (Some (length hs)) None)) absent ∙ ap (λ (c : Bool). cond c (Some (length hs)) None) is)
place_updated hs h k q false name desc none t =
    let isnt : is_same h q.name q.desc ≡ false = differs (is_same h q.name q.desc) refl in
    sym (place_of_push hs h q.name q.desc ∙ ap (λ (c : Bool). or_else (place_of hs q.name q.desc) (cond c (Some (length hs)) None)) isnt ∙ or_none (place_of hs q.name q.desc))
  where
    differs : (c : Bool) → is_same h q.name q.desc ≡ c → is_same h q.name q.desc ≡ false
    differs true e = let same = (Decides-same h q.name q.desc).0 e in absurd (false≢true (sym t ∙ key_tied k q (name ∙ same.0) (desc ∙ same.1)))
    differs false e = e

-- a map of the places after one member more
pub places_push : (hs : List Texts) (h : Texts) (m n : BTreeMap MemberKey ℕ) (k : MemberKey) (place : ℕ) → HasPlaces hs m → k.name ≡ h.name → k.desc ≡ h.desc → place ≡ length hs
    → get key_cmp m k ≡ None → Updates key_cmp m n k (Some place) → HasPlaces (hs ++ h ∷ []) n
places_push hs h m n k place has name desc at absent updates q =
    let none : place_of hs h.name h.desc ≡ None = subst (λ (x : List ℕ). place_of hs x h.desc ≡ None) name (subst (λ (x : List ℕ). place_of hs k.name x ≡ None) desc (sym (has k) ∙ absent)) in
    let before : cond (is_at (key_cmp k) q) (Some place) (get key_cmp m q) ≡ cond (is_at (key_cmp k) q) (Some (length hs)) (place_of hs q.name q.desc) =
    ap (λ (o : Option ℕ). cond (is_at (key_cmp k) q) (Some place) o) (has q) ∙ ap (λ (p : ℕ). cond (is_at (key_cmp k) q) (Some p) (place_of hs q.name q.desc)) at in
    updates.0 q ∙ before ∙ place_updated hs h k q (is_at (key_cmp k) q) name desc none refl

-- what a map of the places finds
pub place_is : (hs : List Texts) (m : BTreeMap MemberKey ℕ) (k : MemberKey) (name desc : List ℕ) (o : Option ℕ) → HasPlaces hs m → k.name ≡ name → k.desc ≡ desc → o ≡ get key_cmp m k → o ≡ place_of hs name desc
place_is hs m k name desc o has at_name at_desc found =
    found ∙ has k ∙ ap (λ (n : List ℕ). place_of hs n k.desc) at_name ∙ ap (place_of hs name) at_desc

-- ---- the loop over the members

-- the members before one, it, and those after it
around : (labels : List Label) (i : ℕ) (h : Label) → i < length labels → h ≡ get_or labels i h → all_texts labels ≡ all_texts (take i labels) ++ texts_of h ∷ all_texts (drop (i + 1) labels)
around labels i h lt is =
    let parts : labels ≡ take i labels ++ h ∷ drop (i + 1) labels = sym (take-append-drop i labels) ∙ ap (λ (rest : List Label). take i labels ++ rest) (drop_more labels i h lt ∙ ap (λ (x : Label). x ∷ drop (i + 1) labels) (sym is)) in
    ap all_texts parts ∙ map-append texts_of (take i labels) (h ∷ drop (i + 1) labels)

one_more : (labels : List Label) (i : ℕ) (h : Label) → i < length labels → h ≡ get_or labels i h → all_texts (take (i + 1) labels) ≡ all_texts (take i labels) ++ texts_of h ∷ []
one_more labels i h lt is = map_more texts_of labels i h lt ∙ ap (λ (x : Label). all_texts (take i labels) ++ texts_of x ∷ []) (sym is)

length_taken : (labels : List Label) (i : ℕ) → i < length labels → i ≡ length (all_texts (take i labels))
length_taken labels i lt = sym (length-map (take i labels) texts_of ∙ length-take-le i labels (omega arith))

-- a member that was there already
pub found_twice : (labels : List Label) (i : ℕ) (h : Label) (m : BTreeMap MemberKey ℕ) (k : MemberKey) (p : ℕ) → i < length labels → h ≡ get_or labels i h → HasPlaces (all_texts (take i labels)) m
    → k.name ≡ h.name.now → k.desc ≡ h.desc.now → Some p ≡ get key_cmp m k → AreApart (all_texts labels) → ⊥
found_twice labels i h m k p lt is has at_name at_desc found apart =
    let front = all_texts (take i labels) in
    let found_here : place_of front h.name.now h.desc.now ≡ Some p = sym (found ∙ has k ∙ ap (λ (n : List ℕ). place_of front n k.desc) at_name ∙ ap (place_of front h.name.now) at_desc) in
    not_apart front (all_texts (drop (i + 1) labels)) (texts_of h) p found_here (subst AreApart (around labels i h lt is) apart)

-- a member that is new
pub places_more : (labels : List Label) (i : ℕ) (h : Label) (m n : BTreeMap MemberKey ℕ) (k : MemberKey) → i < length labels → h ≡ get_or labels i h → HasPlaces (all_texts (take i labels)) m
    → k.name ≡ h.name.now → k.desc ≡ h.desc.now → get key_cmp m k ≡ None → Updates key_cmp m n k (Some i) → HasPlaces (all_texts (take (i + 1) labels)) n
places_more labels i h m n k lt is has at_name at_desc absent updates =
    let pushed = places_push (all_texts (take i labels)) (texts_of h) m n k i has at_name at_desc (length_taken labels i lt) absent updates in
    subst (λ (hs : List Texts). HasPlaces hs n) (sym (one_more labels i h lt is)) pushed

pub apart_more : (labels : List Label) (i : ℕ) (h : Label) (m : BTreeMap MemberKey ℕ) (k : MemberKey) → i < length labels → h ≡ get_or labels i h → HasPlaces (all_texts (take i labels)) m
    → k.name ≡ h.name.now → k.desc ≡ h.desc.now → get key_cmp m k ≡ None → AreApart (all_texts (take i labels)) → AreApart (all_texts (take (i + 1) labels))
apart_more labels i h m k lt is has at_name at_desc absent apart =
    let front = all_texts (take i labels) in
    let none : place_of front h.name.now h.desc.now ≡ None = sym (sym absent ∙ has k ∙ ap (λ (n : List ℕ). place_of front n k.desc) at_name ∙ ap (place_of front h.name.now) at_desc) in
    subst AreApart (sym (one_more labels i h lt is)) (apart_push front (texts_of h) apart none)

-- ---- the table of what indices name

pub table_push : (items : List (Option Target)) (f : ℕ → Option Target) (i : ℕ) (o : Option Target) → length items ≡ i → o ≡ f i → ((k : ℕ) → k < i → slice_get items k ≡ Some (f k))
    → (k : ℕ) → k < i + 1 → slice_get (items ++ o ∷ []) k ≡ Some (f k)
table_push items f i o len is known =
    below_more (λ (k : ℕ). slice_get (items ++ o ∷ []) k ≡ Some (f k)) i (λ k lt. slice_get_front items (o ∷ []) k (f k) (known k lt))
    (ap (slice_get (items ++ o ∷ [])) (sym len) ∙ slice_get_middle items [] o ∙ ap (λ (x : Option Target). Some x) is)

-- an index past the pool names nothing
no_target : (pool : List Entry) (own : List ℕ) (fields methods : List Texts) (i : ℕ) → length pool ≤ i → target_of pool own fields methods i ≡ None
unfolding target_of
no_target pool own fields methods i le = rw (slice_get_past pool i le) refl

pub table_done : (pool : List Entry) (own : List ℕ) (fields methods : List Texts) (items : List (Option Target)) (count i : ℕ) → length items ≡ count → count ≡ min (length pool) 65536 → i < 2 ^ 16
    → ((k : ℕ) → k < count → slice_get items k ≡ Some (target_of pool own fields methods k)) → target_in items i ≡ target_of pool own fields methods i
table_done pool own fields methods items count i len is lt known =
    elim (cases_lt i count) [
      | inl low ↦ ap flat (known i low)
      | inr high ↦
          let past : length pool ≤ i = omega (arith, is, lt, high) in
          ap flat (slice_get_past items i (omega (arith, len, high))) ∙ sym (no_target pool own fields methods i past)
    ]
