-- The first names under a root are a listing of it.
use Rattle.std.proofs.Common.{◌≡◌, ℕ, zero, suc, Bool, true, false, ◌&&◌, cond, List, [], ◌∷◌, take, map, filter, Contains, nat_eq, sym, ◌∙◌, refl, subst, true≢false}
use Rattle.std.specs.List.{AllByRecursion, IsDistinct}
use Rattle.std.specs.List.Sorted.{IsPermutation}
use Rattle.std.specs.Cmp.Lexicographic.{pointwise, bytes_decides}
use Rattle.std.proofs.lemmas.List.{take_all, length-take}
use Rattle.std.proofs.lemmas.List.Elements.{All-take, All-contains_itself}
use Rattle.std.proofs.lemmas.List.Sorted.{IsPermutation-refl}
use Rattle.jv_host.specs.declared.host.HostFile.{HostFile}
use Rattle.jv_host.specs.Files.{HasNoTwins, Lists, class_names, is_class_under, is_file}

-- the first test of two has passed where both have
left_passed : (s t : Bool) → (s && t) ≡ true → s ≡ true
left_passed true t h = refl
left_passed false t h = h

-- the second test of two has failed where both together have and the first hasn't
right_failed : (s t : Bool) → (s && t) ≡ false → s ≡ true → t ≡ false
right_failed true t h passed = h
right_failed false t h passed = absurd (true≢false (sym passed))

-- two files under one root have the same root
same_root : (f g : HostFile) (root : List ℕ) → is_class_under root f ≡ true → is_class_under root g ≡ true → pointwise nat_eq f.root g.root ≡ true
same_root f g root at_f at_g =
    let f_is = (bytes_decides f.root root).0 (left_passed _ _ at_f) in
    let g_is = (bytes_decides g.root root).0 (left_passed _ _ at_g) in
    (bytes_decides f.root g.root).1 (f_is ∙ sym g_is)

-- a name differs from that of one more file, and so from each of those behind it
apart_at : (f g : HostFile) (root : List ℕ) (others : List HostFile) (b : Bool) → is_class_under root f ≡ true → is_class_under root g ≡ b → is_file g.root g.name f ≡ false → AllByRecursion (λ n. pointwise nat_eq f.name n ≡ false) (map (λ h. h.name) others) → AllByRecursion (λ n. pointwise nat_eq f.name n ≡ false) (map (λ h. h.name) (cond b (g ∷ others) others))
apart_at f g root others true at_f at_g differ behind = (right_failed _ _ differ (same_root f g root at_f at_g), behind)
apart_at f g root others false at_f at_g differ behind = behind

-- a name differs from each name under the root of the files that aren't its twins
apart : (f : HostFile) (root : List ℕ) (files : List HostFile) → is_class_under root f ≡ true → AllByRecursion (λ g. is_file g.root g.name f ≡ false) files → AllByRecursion (λ n. pointwise nat_eq f.name n ≡ false) (map (λ h. h.name) (filter (is_class_under root) files))
apart f root [] at_f differ = tt
apart f root (g ∷ files) at_f differ = apart_at f g root (filter (is_class_under root) files) (is_class_under root g) at_f refl differ.0 (apart f root files at_f differ.1)

-- the names under a root are distinct, with one more file
distinct_at : (f : HostFile) (root : List ℕ) (files : List HostFile) (b : Bool) → is_class_under root f ≡ b → AllByRecursion (λ g. is_file g.root g.name f ≡ false) files → IsDistinct (pointwise nat_eq) (map (λ h. h.name) (filter (is_class_under root) files)) → IsDistinct (pointwise nat_eq) (map (λ h. h.name) (cond b (f ∷ filter (is_class_under root) files) (filter (is_class_under root) files)))
unfolding IsDistinct
distinct_at f root files true at_f differ behind = (apart f root files at_f differ, behind)
distinct_at f root files false at_f differ behind = behind

-- the names under a root are distinct, where no two files share root and name
names_distinct : (files : List HostFile) (root : List ℕ) → HasNoTwins files → IsDistinct (pointwise nat_eq) (map (λ h. h.name) (filter (is_class_under root) files))
unfolding IsDistinct
names_distinct [] root h = tt
names_distinct (f ∷ files) root h = distinct_at f root files (is_class_under root f) refl h.0 (names_distinct files root h.1)

-- what holds of each holds of the first ones
all_first : {X : Type 0} (P : X → Type 0) (n : ℕ) (xs : List X) → AllByRecursion P xs → AllByRecursion P (take n xs)
all_first P zero xs h = tt
all_first P (suc n) [] h = tt
all_first P (suc n) (x ∷ xs) h = (h.0, all_first P n xs h.1)

-- the first of distinct ones are distinct
distinct_first : {X : Type 0} (same : X → X → Bool) (n : ℕ) (xs : List X) → IsDistinct same xs → IsDistinct same (take n xs)
unfolding IsDistinct
distinct_first same zero xs h = tt
distinct_first same (suc n) [] h = tt
distinct_first same (suc n) (x ∷ xs) h = (all_first (λ y. same x y ≡ false) n xs h.0, distinct_first same n xs h.1)

-- the first names under a root are a listing of it
pub Lists-from_take : (files : List HostFile) (root : List ℕ) (most : ℕ) → HasNoTwins files → Lists files root most (take most (class_names files root))
unfolding class_names
Lists-from_take files root most h = record {
  each_once = distinct_first (pointwise nat_eq) most (class_names files root) (names_distinct files root h);
  only_those = All-take (Contains (class_names files root)) most (class_names files root) (All-contains_itself (class_names files root));
  count = length-take most (class_names files root);
  all = λ few. subst (λ ns. IsPermutation (class_names files root) ns) (sym (take_all most (class_names files root) few)) (IsPermutation-refl (class_names files root));
}
