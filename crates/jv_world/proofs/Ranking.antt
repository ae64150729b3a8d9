-- A class has more proper supertypes than each of those that its links lead to.
use Rattle.std.proofs.Common.{◌≡◌, ℕ, zero, suc, ◌<◌, ◌≤◌, true, false, List, [], ◌∷◌, ◌++◌, append_assoc, length, map, get_or, Contains, Some, nat_eq, slice_get, refl, sym, ap, ◌∙◌, subst, arith}
use Rattle.std.specs.List.{IsDistinct}
use Rattle.std.specs.List.Sorted.{IsStrictlyIncreasing}
use Rattle.std.specs.Cmp.{nat_eq_equiv}
use Rattle.std.specs.declared.alloc.Global.{Global}
use Rattle.std.specs.declared.vec.Vec.{Vec}
use Rattle.std.proofs.lemmas.Bool.{eqb-true}
use Rattle.std.proofs.lemmas.List.{get_or-map, get_or_default, length-map, map_push}
use Rattle.std.proofs.lemmas.List.Elements.{recursion_from_All}
use Rattle.std.proofs.lemmas.Map.Keys.{IsDistinct-cons, IsDistinct-from_apart, sorted_from_strictly_increasing, below_from_sorted}
use Rattle.std.proofs.lemmas.Map.Made.{length-le_from_is_member}
use Rattle.std.proofs.lemmas.Map.Steps.{length-le_from_distinct_below}
use Rattle.std.proofs.lemmas.Option.{none-some, same_Some, slice_get-get_or}
use Rattle.std.proofs.lemmas.Map.Views.{Contains-from_any, list_any-from_Contains}
use Rattle.jv_types.specs.declared.ids.ClassId.{ClassId}
use Rattle.jv_world.proofs.Choices.{by_bool}
use Rattle.jv_types.specs.declared.shapes.Shape.{Shape}
use Rattle.jv_world.specs.Worlds.{HasSuper, HasSuperclass, Sub, ProperSub, AreProperSupers, AreSuperclasses, IsWorld, same, link}
use Rattle.jv_world.specs.declared.members.Members.{Members}
use Rattle.jv_world.specs.Steps.Kept.{IsKept}
use Rattle.jv_world.specs.Steps.Ranks.{count_at}
use Rattle.jv_world.proofs.Subtypes.{Sub-proper, HasSuper-below, HasSuper-from}

abbrev numbers : List ClassId → List ℕ
numbers ds = map (λ (d : ClassId). d.number) ds

-- numbers of a list, and the classes that have them
pub Contains-numbers : (ds : List ClassId) (d : ClassId) → Contains ds d → Contains (numbers ds) d.number
Contains-numbers ds d found =
    let number : ClassId → ℕ = λ e. e.number in
    (found.0, omega (arith, found.1, length-map ds number), get_or-map number ds found.0 d d.number found.1 ∙ ap number found.2)

pub Contains-class : (ds : List ClassId) (n : ℕ) → Contains (numbers ds) n → Contains ds (record { number = n })
Contains-class ds n found =
    let number : ClassId → ℕ = λ e. e.number in
    let d : ClassId = record { number = n } in
    let below : found.0 < length ds = omega (arith, found.1, length-map ds number) in
    let is : (get_or ds found.0 d).number ≡ n = sym (get_or-map number ds found.0 d n below) ∙ found.2 in
    (found.0, below, ap (λ (m : ℕ). let made : ClassId = record { number = m } in made) is)

IsDistinct-rising : (xs : List ℕ) → IsStrictlyIncreasing xs → IsDistinct nat_eq xs
IsDistinct-rising xs rising =
    IsDistinct-from_apart nat_eq xs
    (λ i j d before below.
    let lower = below_from_sorted xs i j d (sorted_from_strictly_increasing xs rising) before below in
    by_bool (nat_eq (get_or xs i d) (get_or xs j d)) (λ equal. let h = eqb-true (get_or xs i d) (get_or xs j d) equal in absurd (omega (arith, h, lower))) (λ other. other))

exact_eq : (x y : ℕ) → nat_eq x y ≡ true → x ≡ y
exact_eq x y h = eqb-true x y h

-- a number that isn't there goes before
IsDistinct-one_more : (n : ℕ) (xs : List ℕ) → IsStrictlyIncreasing xs → (Contains xs n → ⊥) → IsDistinct nat_eq (n ∷ xs)
IsDistinct-one_more n xs rising fresh =
    IsDistinct-cons nat_eq n xs
    (recursion_from_All (λ y. nat_eq n y ≡ false) xs
    (λ k d below. by_bool (nat_eq n (get_or xs k d))
    (λ equal. absurd (fresh (k, below, get_or_default xs k n d below ∙ sym (exact_eq n (get_or xs k d) equal))))
    (λ other. other)))
    (IsDistinct-rising xs rising)

-- what a longer list has, in numbers: a smaller rising list inside a larger one, which has one more
shorter : (n : ℕ) (xs ys : List ℕ) → IsStrictlyIncreasing xs → (Contains xs n → ⊥) → Contains ys n → ((m : ℕ) → Contains xs m → Contains ys m) → length xs < length ys
shorter n xs ys rising fresh has inside =
    let within = length-le_from_is_member nat_eq_equiv (n ∷ xs) ys (IsDistinct-one_more n xs rising fresh)
    (λ q member. list_any-from_Contains nat_eq_equiv q ys (moved q (Contains-from_any exact_eq q (n ∷ xs) member))) in
    omega (arith, within)
  where
    moved : (q : ℕ) → Contains (n ∷ xs) q → Contains ys q
    moved q (zero, below, is) = subst (λ (m : ℕ). Contains ys m) is has
    moved q (suc k, below, is) = inside q (k, omega (arith, below), is)

-- numbers below a bound that miss one of them
pub fewer : (n bound : ℕ) (xs : List ℕ) → IsStrictlyIncreasing xs → (Contains xs n → ⊥) → n < bound → ((m : ℕ) → Contains xs m → m < bound) → length xs < bound
fewer n bound xs rising fresh here inside =
    let within = length-le_from_distinct_below (n ∷ xs) bound (IsDistinct-one_more n xs rising fresh)
    (λ q member. moved q (Contains-from_any exact_eq q (n ∷ xs) member)) in
    omega (arith, within)
  where
    moved : (q : ℕ) → Contains (n ∷ xs) q → q < bound
    moved q (zero, below, is) = subst (λ (m : ℕ). m < bound) is here
    moved q (suc k, below, is) = inside q (k, omega (arith, below), is)

-- the count at a place
pub count_at-is : (rows : List (Vec ClassId Global)) (c : ℕ) (row : Vec ClassId Global) → slice_get rows c ≡ Some row → count_at rows c ≡ length row.items
count_at-is [] c row at = absurd (none-some row at)
count_at-is (r ∷ rows) zero row at = ap (λ (v : Vec ClassId Global). length v.items) (same_Some r row at)
count_at-is (r ∷ rows) (suc c) row at = count_at-is rows c row at

pub count_at-read : (rows : List (Vec ClassId Global)) (c : ℕ) (row : Vec ClassId Global) → c < length rows → row ≡ get_or rows c row → count_at rows c ≡ length row.items
count_at-read rows c row below read = count_at-is rows c row (slice_get-get_or rows c row below ∙ ap Some (sym read))

-- the row of a class
pub row_at : (rows : List (Vec ClassId Global)) (c : ℕ) → c < length rows → (row : Vec ClassId Global) × (slice_get rows c ≡ Some row)
row_at [] c below = absurd (omega (arith, below))
row_at (r ∷ rows) zero below = (r, refl)
row_at (r ∷ rows) (suc c) below = row_at rows c (omega (arith, below))

-- the lists are those of proper supertypes, and no class is one of its own
pub record AreSupers (w : List Shape) (rows : List (Vec ClassId Global)) : Type 0 where
  pub count : length rows ≡ length w
  pub exact : (c : ℕ) (row : Vec ClassId Global) → slice_get rows c ≡ Some row → AreProperSupers w c row.items
  pub apart : (c : ℕ) → ProperSub w c c → ⊥

pub count_falls : (w : List Shape) (rows : List (Vec ClassId Global)) → AreSupers w rows → (c d : ℕ) → HasSuper w c d → count_at rows d < count_at rows c
count_falls w rows supers c d first =
    let low = row_at rows d (rw supers.count (HasSuper-below w c d first)) in
    let high = row_at rows c (rw supers.count (HasSuper-from w c d first)) in
    let lower = supers.exact d low.0 low.1 in
    let higher = supers.exact c high.0 high.1 in
    let xs = numbers low.0.items in
    let ys = numbers high.0.items in
    let up : (m : ℕ) → Contains xs m → Contains ys m =
    λ m has. Contains-numbers high.0.items (record { number = m }) (higher.all (record { number = m }) (d, first, Sub-proper w d m (lower.only (record { number = m }) (Contains-class low.0.items m has)))) in
    let fresh : Contains xs d → ⊥ = λ has. supers.apart d (lower.only (record { number = d }) (Contains-class low.0.items d has)) in
    let has : Contains ys d = Contains-numbers high.0.items (record { number = d }) (higher.all (record { number = d }) (d, first, same d d refl)) in
    let less = shorter d xs ys lower.rising fresh has up in
    omega (arith, less, count_at-is rows d low.0 low.1, count_at-is rows c high.0 high.1, length-map low.0.items (λ (e : ClassId). e.number), length-map high.0.items (λ (e : ClassId). e.number))

ProperSub-below : (w : List Shape) (c d : ℕ) → ProperSub w c d → d < length w
ProperSub-below w c d proper = by proper.0 d proper.2 (HasSuper-below w c proper.0 proper.1)
  where
    by : (m n : ℕ) → Sub w m n → m < length w → n < length w
    by m n (same _ _ is) below = subst (λ (k : ℕ). k < length w) is below
    by m n (link _ k _ first rest) below = by k n rest (HasSuper-below w m k first)

pub count_bound : (w : List Shape) (rows : List (Vec ClassId Global)) → AreSupers w rows → (c : ℕ) → c < length w → count_at rows c < length w
count_bound w rows supers c here =
    let own = row_at rows c (rw supers.count here) in
    let exact = supers.exact c own.0 own.1 in
    let xs = numbers own.0.items in
    let less = fewer c (length w) xs exact.rising (λ has. supers.apart c (exact.only (record { number = c }) (Contains-class own.0.items c has))) here
    (λ m has. ProperSub-below w c m (exact.only (record { number = m }) (Contains-class own.0.items m has))) in
    omega (arith, less, count_at-is rows c own.0 own.1, length-map own.0.items (λ (e : ClassId). e.number))

-- a world's ranks never rise along links, so no class is its own proper supertype
rank_le : (w : List Shape) (world : IsWorld w) (b d : ℕ) → Sub w b d → world.rank d ≤ world.rank b
rank_le w world b d (same _ _ is) = let h = ap world.rank is in omega (arith, h)
rank_le w world b d (link _ c _ first rest) = let h = rank_le w world c d rest in omega (arith, h, world.falls b c first)

pub none_circular : (w : List Shape) → IsWorld w → (c : ℕ) → ProperSub w c c → ⊥
none_circular w world c proper =
    let h = rank_le w world proper.0 c proper.2 in
    absurd (omega (arith, h, world.falls c proper.0 proper.1))

-- what a world keeps are such lists
pub AreSupers-kept : (w : List Shape) (names : List (List ℕ)) (rows : List (Vec ClassId Global)) (members : List Members) → IsKept w names rows members → AreSupers w rows
AreSupers-kept w names rows members kept = record {
  count = kept.supers_count;
  exact = kept.supers_are;
  apart = none_circular w kept.world;
}

-- one superclass more
pub AreSuperclasses-more : (w : List Shape) (from at : ℕ) (found new_found : List ClassId) (next : ClassId) → HasSuperclass w at next.number → new_found ≡ found ++ next ∷ []
    → ((rest : List ℕ) → AreSuperclasses w at rest → AreSuperclasses w from (numbers found ++ rest))
    → (rest : List ℕ) → AreSuperclasses w next.number rest → AreSuperclasses w from (numbers new_found ++ rest)
AreSuperclasses-more w from at found new_found next first grown joins rest above =
    let P : List ℕ → Type 0 = λ l. AreSuperclasses w from l in
    let is : numbers found ++ next.number ∷ rest ≡ numbers new_found ++ rest =
    sym (append_assoc (numbers found) (next.number ∷ []) rest) ∙ ap (λ l. l ++ rest) (sym (map_push (λ (d : ClassId). d.number) found next)) ∙ ap (λ l. numbers l ++ rest) (sym grown) in
    subst P is (joins (next.number ∷ rest) (first, above))
