-- The least name so far.
use Rattle.std.proofs.Common.{◌≡◌, ◌≢◌, ℕ, ◌⊎◌, Bool, true, false, if◌then◌else◌, List, Option, Some, None, refl, sym, ap, ◌∙◌, subst, ⊎_elim}
use Rattle.std.proofs.lemmas.Bool.{false≢true}
use Rattle.std.proofs.lemmas.Cmp.{upto, tied_itself}
use Rattle.std.specs.Cmp.Lexicographic.{slice_cmp, nat_list_cmp_total}
use Rattle.std.specs.Ordering.{nat_cmp, is_gt, ordering_reverse}
use Rattle.std.specs.declared.cmp.Ordering.{Ordering}
use Rattle.std.specs.declared.cmp.Ordering.TheVariants.{Less, Equal, Greater}
use Rattle.jv_world.specs.Steps.Causes.{lesser_name, IsLeastOf}
use Rattle.jv_world.proofs.Choices.{by_bool}

not_gt : (o : Ordering) → (o ≡ Greater → ⊥) → is_gt o ≡ false
not_gt Less h = refl
not_gt Equal h = refl
not_gt Greater h = absurd (h refl)

no_Greater : (o : Ordering) → is_gt o ≡ false → o ≡ Greater → ⊥
no_Greater o h is = false≢true (sym h ∙ ap is_gt is)

gt_back : (o : Ordering) → is_gt o ≡ true → is_gt (ordering_reverse o) ≡ false
gt_back Less h = absurd (false≢true h)
gt_back Equal h = absurd (false≢true h)
gt_back Greater h = refl

-- the same names
pub IsLeastOf-same : (P Q : List ℕ → Type 0) (best : Option (List ℕ)) → ((n : List ℕ) → P n → Q n) → ((n : List ℕ) → Q n → P n) → IsLeastOf P best → IsLeastOf Q best
IsLeastOf-same P Q None into back none = λ n h. none n (back n h)
IsLeastOf-same P Q (Some best) into back least = record { holds = into best least.holds; least = λ n h. least.least n (back n h) }

-- no names
pub IsLeastOf-none : (P : List ℕ → Type 0) → ((n : List ℕ) → P n → ⊥) → IsLeastOf P None
IsLeastOf-none P none = none

-- one name more
pub IsLeastOf-more : (P Q : List ℕ → Type 0) (best new : Option (List ℕ)) (name : List ℕ) → new ≡ lesser_name best name → Q name → ((n : List ℕ) → P n → Q n)
    → ((n : List ℕ) → Q n → P n ⊎ (n ≡ name)) → IsLeastOf P best → IsLeastOf Q new
IsLeastOf-more P Q None new name is own into cases none =
    let R : Option (List ℕ) → Type 0 = λ o. IsLeastOf Q o in
    subst R (sym is)
    (record {
      holds = own;
      least = λ n h.
          ⊎_elim
          (λ old. absurd (none n old))
          (λ same. let S : List ℕ → Type 0 = λ m. slice_cmp nat_cmp name m ≢ Greater in
          subst S (sym same) (no_Greater (slice_cmp nat_cmp name name) (ap is_gt (tied_itself nat_list_cmp_total name))))
          (cases n h);
    })
IsLeastOf-more P Q (Some best) new name is own into cases least =
    let R : Option (List ℕ) → Type 0 = λ o. IsLeastOf Q o in
    by_bool (is_gt (slice_cmp nat_cmp best name))
    (λ greater.
    let taken : new ≡ Some name = is ∙ ap (λ (b : Bool). if b then Some name else Some best) greater in
    let below : is_gt (slice_cmp nat_cmp name best) ≡ false =
    ap is_gt (nat_list_cmp_total.antisymm name best) ∙ gt_back (slice_cmp nat_cmp best name) greater in
    subst R (sym taken)
    (record {
      holds = own;
      least = λ n h.
          ⊎_elim
          (λ old. no_Greater (slice_cmp nat_cmp name n) (upto nat_list_cmp_total name best n below (not_gt (slice_cmp nat_cmp best n) (least.least n old))))
          (λ same. let S : List ℕ → Type 0 = λ m. slice_cmp nat_cmp name m ≢ Greater in
          subst S (sym same) (no_Greater (slice_cmp nat_cmp name name) (ap is_gt (tied_itself nat_list_cmp_total name))))
          (cases n h);
    }))
    (λ within.
    let kept : new ≡ Some best = is ∙ ap (λ (b : Bool). if b then Some name else Some best) within in
    subst R (sym kept)
    (record {
      holds = into best least.holds;
      least = λ n h.
          ⊎_elim
          (λ old. least.least n old)
          (λ same. let S : List ℕ → Type 0 = λ m. slice_cmp nat_cmp best m ≢ Greater in subst S (sym same) (no_Greater (slice_cmp nat_cmp best name) within))
          (cases n h);
    }))
