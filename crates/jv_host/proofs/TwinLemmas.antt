-- When files have no twins, by the first of them.
use Rattle.std.proofs.Common.{◌≡◌, ◌↔◌, Bool, true, false, List, [], ◌∷◌, sym, ◌∙◌, true≢false, refl}
use Rattle.std.specs.List.{AllByRecursion, IsDistinct, list_any}
use Rattle.jv_lists.proofs.Tests.{both_false}
use Rattle.jv_host.specs.declared.host.HostFile.{HostFile}
use Rattle.jv_host.specs.Files.{HasNoTwins, is_file}

-- a test that fails at each element passes at none
none_passes : {X : Type 0} (test : X → Bool) (xs : List X) → list_any test xs ≡ false → AllByRecursion (λ x. test x ≡ false) xs
none_passes test [] h = tt
none_passes test (x ∷ xs) h =
    let parts = both_false (test x) (list_any test xs) h in
    (parts.0, none_passes test xs parts.1)

-- a test that passes at none fails at each element
each_fails : {X : Type 0} (test : X → Bool) (xs : List X) → AllByRecursion (λ x. test x ≡ false) xs → list_any test xs ≡ false
each_fails test [] h = refl
each_fails test (x ∷ xs) h = rw h.0 (each_fails test xs h.1)

-- where the first file has a twin, the files have
pub twin_of_first : (first : HostFile) (others : List HostFile) → list_any (λ other. is_file other.root other.name first) others ≡ true → HasNoTwins (first ∷ others) → ⊥
unfolding IsDistinct
twin_of_first first others found h = true≢false (sym found ∙ each_fails (λ other. is_file other.root other.name first) others h.0)

-- where the first file has no twin, the files have none exactly where the others have none
pub no_twin_of_first : (first : HostFile) (others : List HostFile) → list_any (λ other. is_file other.root other.name first) others ≡ false → HasNoTwins others ↔ HasNoTwins (first ∷ others)
unfolding IsDistinct
no_twin_of_first first others none = (λ h. (none_passes (λ other. is_file other.root other.name first) others none, h), λ h. h.1)

-- no files have no twins
pub no_twins_of_none : HasNoTwins []
unfolding IsDistinct
no_twins_of_none = tt
