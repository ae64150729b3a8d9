-- How the names under a root, and the first of them, grow with the files.
use Rattle.std.proofs.Common.{◌≡◌, ◌+◌, ◌<◌, ◌≤◌, ℕ, true, false, List, [], ◌∷◌, ◌++◌, length, take, map, filter, get_or, ap, sym, ◌∙◌, refl, subst, arith, length-append, append-nil}
use Rattle.std.proofs.lemmas.List.{take_more, take_all, take-append-le, length-take, map-append}
use Rattle.std.proofs.lemmas.List.Elements.{filter-append}
use Rattle.jv_host.specs.declared.host.HostFile.{HostFile}
use Rattle.jv_host.specs.Files.{class_names, is_class_under}

-- one more name comes into the front while there is room
front-grows : {X : Type 0} (xs : List X) (y : X) (most : ℕ) → length (take most xs) < most → take most xs ++ y ∷ [] ≡ take most (xs ++ y ∷ [])
front-grows xs y most room =
    let short : length xs < most = omega (arith, length-take most xs) in
    let all : length (xs ++ y ∷ []) ≤ most = omega (arith, length-append xs (y ∷ [])) in
    ap (λ zs. zs ++ y ∷ []) (take_all most xs (omega arith)) ∙ sym (take_all most (xs ++ y ∷ []) all)

-- a full front stays
front-stays : {X : Type 0} (xs ys : List X) (most : ℕ) → most ≤ length (take most xs) → take most xs ≡ take most (xs ++ ys)
front-stays xs ys most full = sym (take-append-le most xs ys (omega (arith, length-take most xs)))

-- one more file adds its name
names-more : (files : List HostFile) (i : ℕ) (root : List ℕ) (file : HostFile) → i < length files → file ≡ get_or files i file → class_names (take (i + 1) files) root ≡ class_names (take i files) root ++ class_names (file ∷ []) root
unfolding class_names
names-more files i root file here is =
    ap (λ fs. map (λ f. f.name) (filter (is_class_under root) fs)) (take_more files i file here ∙ ap (λ f. take i files ++ f ∷ []) (sym is))
    ∙ (ap (map (λ f. f.name)) (filter-append (is_class_under root) (take i files) (file ∷ []))
    ∙ map-append (λ f. f.name) (filter (is_class_under root) (take i files)) (filter (is_class_under root) (file ∷ [])))

-- a class file under the root has its name
names-of_one : (root : List ℕ) (file : HostFile) → is_class_under root file ≡ true → class_names (file ∷ []) root ≡ file.name ∷ []
unfolding class_names
names-of_one root file is_one = rw is_one refl

-- another file has none
names-of_other : (root : List ℕ) (file : HostFile) → is_class_under root file ≡ false → class_names (file ∷ []) root ≡ []
unfolding class_names
names-of_other root file is_other = rw is_other refl

-- a step that takes a name
pub names-taken : (names : List (List ℕ)) (files : List HostFile) (i : ℕ) (root : List ℕ) (file : HostFile) (most : ℕ) → i < length files → file ≡ get_or files i file → names ≡ take most (class_names (take i files) root) → length names < most → is_class_under root file ≡ true → names ++ file.name ∷ [] ≡ take most (class_names (take (i + 1) files) root)
names-taken names files i root file most here is so_far room is_one =
    let more = names-more files i root file here is in
    let room' : length (take most (class_names (take i files) root)) < most = subst (λ (ns : List (List ℕ)). length ns < most) so_far room in
    ap (λ ns. ns ++ file.name ∷ []) so_far
    ∙ (front-grows (class_names (take i files) root) file.name most room'
    ∙ ap (take most) (ap (λ ns. class_names (take i files) root ++ ns) (sym (names-of_one root file is_one)) ∙ sym more))

-- a step at which there is no more room
pub names-full : (names : List (List ℕ)) (files : List HostFile) (i : ℕ) (root : List ℕ) (file : HostFile) (most : ℕ) → i < length files → file ≡ get_or files i file → names ≡ take most (class_names (take i files) root) → most ≤ length names → names ≡ take most (class_names (take (i + 1) files) root)
names-full names files i root file most here is so_far full =
    let more = names-more files i root file here is in
    let full' : most ≤ length (take most (class_names (take i files) root)) = subst (λ (ns : List (List ℕ)). most ≤ length ns) so_far full in
    so_far ∙ (front-stays (class_names (take i files) root) (class_names (file ∷ []) root) most full' ∙ ap (take most) (sym more))

-- a step at another file
pub names-passed : (names : List (List ℕ)) (files : List HostFile) (i : ℕ) (root : List ℕ) (file : HostFile) (most : ℕ) → i < length files → file ≡ get_or files i file → names ≡ take most (class_names (take i files) root) → is_class_under root file ≡ false → names ≡ take most (class_names (take (i + 1) files) root)
names-passed names files i root file most here is so_far is_other =
    let more = names-more files i root file here is in
    so_far ∙ ap (take most) (sym (more ∙ (ap (λ ns. class_names (take i files) root ++ ns) (names-of_other root file is_other) ∙ append-nil (class_names (take i files) root))))
