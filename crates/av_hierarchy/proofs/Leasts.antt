-- The least name so far.
use Rattle.std.proofs.Common.{◌≡◌, ◌≢◌, ℕ, ◌+◌, ◌<◌, ◌≤◌, ◌⊎◌, inl, inr, Bool, true, false, if◌then◌else◌, List, length, slice_get, Option, Some, None, refl, sym, ap, ◌∙◌, subst, ⊎_elim, arith}
use Rattle.std.proofs.lemmas.Bool.{cases_lt, false≢true}
use Rattle.std.proofs.lemmas.Option.{same_Some}
use Rattle.std.proofs.lemmas.Cmp.{upto, tied_itself}
use Rattle.std.specs.Cmp.Lexicographic.{slice_cmp, nat_list_cmp_total}
use Rattle.std.specs.Ordering.{nat_cmp, is_gt, ordering_reverse}
use Rattle.std.specs.declared.cmp.Ordering.{Ordering}
use Rattle.std.specs.declared.cmp.Ordering.TheVariants.{Less, Equal, Greater}
use Rattle.jv_types.specs.declared.shapes.Shape.{Shape}
use Rattle.jv_world.specs.Worlds.{IsNamed}
use Rattle.jv_resolve.proofs.Hierarchy.{named_here}
use Rattle.av_conditions.specs.Initialisers.{IsApplicationClass}
use Rattle.av_hierarchy.specs.Hierarchy.{OverridesFinal}
use Rattle.av_hierarchy.specs.Steps.Finals.{lesser_name, IsLeastOf, OverridesFinalAt, OverridesFinalBefore}

by_bool : {G : Type 0} (b : Bool) → (b ≡ true → G) → (b ≡ false → G) → G
by_bool true holds fails = holds refl
by_bool false holds fails = fails refl

not_gt : (o : Ordering) → (o ≡ Greater → ⊥) → is_gt o ≡ false
not_gt Less h = refl
not_gt Equal h = refl
not_gt Greater h = absurd (h refl)

no_Greater : (o : Ordering) → is_gt o ≡ false → o ≡ Greater → ⊥
no_Greater o h is = false≢true (sym h ∙ ap is_gt is)

gt_back : (o : Ordering) → is_gt o ≡ true → is_gt (ordering_reverse o) ≡ false
gt_back Less h = absurd (false≢true h)
gt_back Equal h = absurd (false≢true h)
gt_back Greater h = refl

-- the same names
pub IsLeastOf-same : (P Q : List ℕ → Type 0) (best : Option (List ℕ)) → ((n : List ℕ) → P n → Q n) → ((n : List ℕ) → Q n → P n) → IsLeastOf P best → IsLeastOf Q best
IsLeastOf-same P Q None into back none = λ n h. none n (back n h)
IsLeastOf-same P Q (Some best) into back least = record { holds = into best least.holds; least = λ n h. least.least n (back n h) }

-- no names
pub IsLeastOf-none : (P : List ℕ → Type 0) → ((n : List ℕ) → P n → ⊥) → IsLeastOf P None
IsLeastOf-none P none = none

-- one name more
pub IsLeastOf-more : (P Q : List ℕ → Type 0) (best new : Option (List ℕ)) (name : List ℕ) → new ≡ lesser_name best name → Q name → ((n : List ℕ) → P n → Q n)
    → ((n : List ℕ) → Q n → P n ⊎ (n ≡ name)) → IsLeastOf P best → IsLeastOf Q new
IsLeastOf-more P Q None new name is own into cases none =
    let R : Option (List ℕ) → Type 0 = λ o. IsLeastOf Q o in
    subst R (sym is)
    (record {
      holds = own;
      least = λ n h.
          ⊎_elim
          (λ old. absurd (none n old))
          (λ same. let S : List ℕ → Type 0 = λ m. slice_cmp nat_cmp name m ≢ Greater in
          subst S (sym same) (no_Greater (slice_cmp nat_cmp name name) (ap is_gt (tied_itself nat_list_cmp_total name))))
          (cases n h);
    })
IsLeastOf-more P Q (Some best) new name is own into cases least =
    let R : Option (List ℕ) → Type 0 = λ o. IsLeastOf Q o in
    by_bool (is_gt (slice_cmp nat_cmp best name))
    (λ greater.
    let taken : new ≡ Some name = is ∙ ap (λ (b : Bool). if b then Some name else Some best) greater in
    let below : is_gt (slice_cmp nat_cmp name best) ≡ false =
    ap is_gt (nat_list_cmp_total.antisymm name best) ∙ gt_back (slice_cmp nat_cmp best name) greater in
    subst R (sym taken)
    (record {
      holds = own;
      least = λ n h.
          ⊎_elim
          (λ old. no_Greater (slice_cmp nat_cmp name n) (upto nat_list_cmp_total name best n below (not_gt (slice_cmp nat_cmp best n) (least.least n old))))
          (λ same. let S : List ℕ → Type 0 = λ m. slice_cmp nat_cmp name m ≢ Greater in
          subst S (sym same) (no_Greater (slice_cmp nat_cmp name name) (ap is_gt (tied_itself nat_list_cmp_total name))))
          (cases n h);
    }))
    (λ within.
    let kept : new ≡ Some best = is ∙ ap (λ (b : Bool). if b then Some name else Some best) within in
    subst R (sym kept)
    (record {
      holds = into best least.holds;
      least = λ n h.
          ⊎_elim
          (λ old. least.least n old)
          (λ same. let S : List ℕ → Type 0 = λ m. slice_cmp nat_cmp best m ≢ Greater in subst S (sym same) (no_Greater (slice_cmp nat_cmp best name) within))
          (cases n h);
    }))

-- ---- the classes that have a method that overrides a final one

-- one of the first classes, of this name, does
first_classes : (w : List Shape) (n : ℕ) (name : List ℕ) → OverridesFinalBefore w n name → OverridesFinalBefore w (n + 1) name
first_classes w n name p = (p.0, omega (arith, p.1), p.2, p.3)

pub over-none : (w : List Shape) → IsLeastOf (OverridesFinalBefore w 0) None
over-none w name p = absurd (omega (arith, p.1))

-- the next class is the first ones or itself
next_class : (w : List Shape) (n : ℕ) (shape : Shape) (name : List ℕ) → slice_get w n ≡ Some shape → OverridesFinalBefore w (n + 1) name
    → OverridesFinalBefore w n name ⊎ ((name ≡ shape.name) × OverridesFinalAt w n)
next_class w n shape name at p =
    ⊎_elim
    (λ (early : p.0 < n). inl (p.0, early, p.2, p.3))
    (λ (late : n ≤ p.0).
    let place : p.0 ≡ n = omega (arith, p.1, late) in
    let named : IsNamed w n name = subst (λ (k : ℕ). IsNamed w k name) place p.2 in
    let same : named.0 ≡ shape = same_Some named.0 shape (sym named.1 ∙ at) in
    inr (sym named.2 ∙ ap (λ (s : Shape). s.name) same, subst (OverridesFinalAt w) place p.3))
    (cases_lt p.0 n)

pub over-same : (w : List Shape) (n : ℕ) (shape : Shape) (best : Option (List ℕ)) → slice_get w n ≡ Some shape → (OverridesFinalAt w n → ⊥) → IsLeastOf (OverridesFinalBefore w n) best
    → IsLeastOf (OverridesFinalBefore w (n + 1)) best
over-same w n shape best at none least =
    IsLeastOf-same (OverridesFinalBefore w n) (OverridesFinalBefore w (n + 1)) best (first_classes w n)
    (λ name p. ⊎_elim (λ (old : OverridesFinalBefore w n name). old) (λ (own : (name ≡ shape.name) × OverridesFinalAt w n). absurd (none own.1)) (next_class w n shape name at p))
    least

pub over-more : (w : List Shape) (n : ℕ) (shape : Shape) (best new : Option (List ℕ)) → slice_get w n ≡ Some shape → OverridesFinalAt w n → new ≡ lesser_name best shape.name
    → IsLeastOf (OverridesFinalBefore w n) best → IsLeastOf (OverridesFinalBefore w (n + 1)) new
over-more w n shape best new at over is least =
    IsLeastOf-more (OverridesFinalBefore w n) (OverridesFinalBefore w (n + 1)) best new shape.name is (n, omega arith, (shape, at, refl), over) (first_classes w n)
    (λ name p. ⊎_elim (λ (old : OverridesFinalBefore w n name). inl old) (λ (own : (name ≡ shape.name) × OverridesFinalAt w n). inr own.0) (next_class w n shape name at p))
    least

-- all classes together
pub over-all : (w : List Shape) (n : ℕ) (best : Option (List ℕ)) → length w ≤ n → IsLeastOf (OverridesFinalBefore w n) best → IsLeastOf (OverridesFinal w) best
over-all w n best past least =
    IsLeastOf-same (OverridesFinalBefore w n) (OverridesFinal w) best
    (λ name p.
    let q = p.3.3 in
    record {
      method = p.3.1;
      other = q.0;
      named = subst (λ (k : ℕ). IsNamed w k name) (sym p.3.2) p.2;
      application = subst (IsApplicationClass w) (sym p.3.2) p.3.0;
      apart = q.2;
      overrides = q.3;
      shape = q.1;
      place = q.4;
      final = q.5;
    })
    (λ name p. (
      p.method.class.number,
      omega (arith, past, named_here w p.method.class.number name p.named),
      p.named,
      (p.application, p.method, refl, (p.other, p.shape, p.apart, p.overrides, p.place, p.final)),
    ))
    least
