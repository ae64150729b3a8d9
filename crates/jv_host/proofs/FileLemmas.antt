-- What the bytes under a root and name say of the files, and what an answer of a host says of both.
use Rattle.std.proofs.Common.{◌≡◌, ◌<◌, ◌≤◌, ◌⊎◌, inl, inr, ℕ, Bool, true, false, ◌&&◌, cond, List, [], ◌∷◌, length, take, find, Option, Some, None, option_map, IfSome, Contains, ap, sym, ◌∙◌, refl, subst, true≢false, arith}
use Rattle.std.specs.List.{AllByRecursion, IsDistinct}
use Rattle.std.specs.Cmp.Lexicographic.{bytes_decides}
use Rattle.std.proofs.lemmas.List.{take_all, length-take}
use Rattle.std.proofs.lemmas.List.Elements.{Contains-append_left, Contains-append_right, Contains-push, Contains-push_cases}
use Rattle.jv_lists.proofs.Among.{none_there, first_or_later, of_each}
use Rattle.jv_host.specs.declared.host.HostFile.{HostFile}
use Rattle.jv_host.specs.Files.{HasNoTwins, bytes_of, is_file}

-- an element of a list of one is that one
only_one : {X : Type 0} (x y : X) → Contains [] y ⊎ (x ≡ y) → x ≡ y
only_one x y (inl among) = absurd (none_there y among)
only_one x y (inr is) = is

-- both tests have passed where both together have
both_passed : (s t : Bool) → (s && t) ≡ true → (s ≡ true) × (t ≡ true)
both_passed true t h = (refl, h)
both_passed false t h = absurd (true≢false (sym h))

-- what is found is an element that passes, at the first
found_by : {X : Type 0} (test : X → Bool) (x : X) (xs : List X) (y : X) (b : Bool) → test x ≡ b → (find test xs ≡ Some y → Contains xs y × (test y ≡ true)) → cond b (Some x) (find test xs) ≡ Some y → Contains (x ∷ xs) y × (test y ≡ true)
found_by test x xs y true passed others e =
    let is : x ≡ y = cc in
    (subst (λ z. Contains (x ∷ xs) z) is (Contains-append_left (x ∷ []) xs x (Contains-push [] x)), subst (λ z. test z ≡ true) is passed)
found_by test x xs y false passed others e =
    let other = others e in
    (Contains-append_right (x ∷ []) xs y other.0, other.1)

-- what is found is an element that passes
found : {X : Type 0} (test : X → Bool) (xs : List X) (y : X) → find test xs ≡ Some y → Contains xs y × (test y ≡ true)
found test [] y e = absurd cc
found test (x ∷ xs) y e = found_by test x xs y (test x) refl (found test xs y) e

-- where nothing is found no element passes, at the first
not_found_by : {X : Type 0} (test : X → Bool) (x : X) (xs : List X) (b : Bool) → test x ≡ b → (find test xs ≡ None → AllByRecursion (λ y. test y ≡ false) xs) → cond b (Some x) (find test xs) ≡ None → AllByRecursion (λ y. test y ≡ false) (x ∷ xs)
not_found_by test x xs true passed others e = absurd cc
not_found_by test x xs false failed others e = (failed, others e)

-- where nothing is found no element passes
not_found : {X : Type 0} (test : X → Bool) (xs : List X) → find test xs ≡ None → AllByRecursion (λ y. test y ≡ false) xs
not_found test [] e = tt
not_found test (x ∷ xs) e = not_found_by test x xs (test x) refl (not_found test xs) e

-- a file has its own root and name
is_itself : (file : HostFile) → is_file file.root file.name file ≡ true
is_itself file = rw ((bytes_decides file.root file.root).1 refl, (bytes_decides file.name file.name).1 refl) refl

-- what was told of bytes, as a file
bytes_of-Some_by : (files : List HostFile) (root name bytes : List ℕ) (o : Option HostFile) → (o ≡ find (is_file root name) files) → option_map (λ file. file.bytes) o ≡ Some bytes → Contains files (record { root = root; name = name; bytes = bytes })
bytes_of-Some_by files root name bytes None at e = absurd cc
bytes_of-Some_by files root name bytes (Some file) at e =
    let there = found (is_file root name) files file (sym at) in
    let same = both_passed _ _ there.1 in
    let root_is : file.root ≡ root = (bytes_decides file.root root).0 same.0 in
    let name_is : file.name ≡ name = (bytes_decides file.name name).0 same.1 in
    let bytes_is : file.bytes ≡ bytes = cc in
    let is : file ≡ record { root = root; name = name; bytes = bytes } = λ i. record { root = root_is i; name = name_is i; bytes = bytes_is i } in
    subst (λ (f : HostFile). Contains files f) is there.0

-- where the bytes of a root and name are told, a file of them is there
pub bytes_of-Some : (files : List HostFile) (root name bytes : List ℕ) → bytes_of files root name ≡ Some bytes → Contains files (record { root = root; name = name; bytes = bytes })
unfolding bytes_of
bytes_of-Some files root name bytes e = bytes_of-Some_by files root name bytes (find (is_file root name) files) refl e

-- nothing was found, where no bytes came of it
nothing_found : (o : Option HostFile) → option_map (λ file. file.bytes) o ≡ None → o ≡ None
nothing_found None e = refl
nothing_found (Some file) e = absurd cc

-- where no bytes are told, no file of that root and name is there
pub bytes_of-None : (files : List HostFile) (file : HostFile) → bytes_of files file.root file.name ≡ None → Contains files file → ⊥
unfolding bytes_of
bytes_of-None files file e among =
    let none = not_found (is_file file.root file.name) files (nothing_found (find (is_file file.root file.name) files) e) in
    true≢false (sym (is_itself file) ∙ of_each (λ y. is_file file.root file.name y ≡ false) files file none among)

-- the first file comes first
bytes-first : (first : HostFile) (others : List HostFile) (file : HostFile) → first ≡ file → bytes_of (first ∷ others) file.root file.name ≡ Some file.bytes
unfolding bytes_of
bytes-first first others file is = subst (λ (f : HostFile). option_map (λ g. g.bytes) (cond (is_file f.root f.name first) (Some first) (find (is_file f.root f.name) others)) ≡ Some f.bytes) is (rw (is_itself first) refl)

-- a file behind the first comes too, where the first isn't its twin
bytes-other : (first : HostFile) (others : List HostFile) (file : HostFile) → is_file file.root file.name first ≡ false → bytes_of others file.root file.name ≡ Some file.bytes → bytes_of (first ∷ others) file.root file.name ≡ Some file.bytes
unfolding bytes_of
bytes-other first others file differ e = rw differ e

-- a file is the one of its root and name, at the first
bytes_by : (first : HostFile) (others : List HostFile) (file : HostFile) → AllByRecursion (λ y. is_file y.root y.name first ≡ false) others → (Contains others file → bytes_of others file.root file.name ≡ Some file.bytes) → (first ≡ file) ⊎ Contains others file → bytes_of (first ∷ others) file.root file.name ≡ Some file.bytes
bytes_by first others file apart behind (inl is) = bytes-first first others file is
bytes_by first others file apart behind (inr among) = bytes-other first others file (of_each (λ y. is_file y.root y.name first ≡ false) others file apart among) (behind among)

-- where no two files share root and name, each file's bytes are those of its root and name
pub bytes_of-file : (files : List HostFile) (file : HostFile) → HasNoTwins files → Contains files file → bytes_of files file.root file.name ≡ Some file.bytes
unfolding IsDistinct
bytes_of-file [] file h among = absurd (none_there file among)
bytes_of-file (first ∷ others) file h among = bytes_by first others file h.0 (λ other. bytes_of-file others file h.1 other) (first_or_later first others file among)

-- a read that found nothing says that there is no such file
pub absent_from_read : (most : ℕ) (o : Option (List ℕ)) → None ≡ option_map (take most) o → o ≡ None
absent_from_read most None e = refl
absent_from_read most (Some bytes) e = absurd cc

-- a read that found fewer bytes than it asked for has found the whole file
pub whole_from_read : (most : ℕ) (o : Option (List ℕ)) (front : List ℕ) → Some front ≡ option_map (take most) o → length front < most → o ≡ Some front
whole_from_read most None front e few = absurd cc
whole_from_read most (Some bytes) front e few =
    let is : front ≡ take most bytes = cc in
    let short : length bytes ≤ most = omega (arith, ap length is, length-take most bytes) in
    ap Some (sym (is ∙ take_all most bytes short))

-- a read that found as many bytes as it asked for has found a file of at least as many
pub long_from_read : (most : ℕ) (o : Option (List ℕ)) (front : List ℕ) → Some front ≡ option_map (take most) o → length front ≡ most → IfSome o (λ bytes. most ≤ length bytes)
long_from_read most None front e full = absurd cc
long_from_read most (Some bytes) front e full =
    let is : front ≡ take most bytes = cc in
    omega (arith, ap length is, length-take most bytes)
