-- What `==` does not tell apart is one value: for lists, options and pairs of what has it, and for each plain type.
use Rattle.std.proofs.Common.{◌≡◌, Bool, true, ◌&&◌, List, [], ◌∷◌, None, Some, Equal, refl, sym, ap, subst, ◌∙◌}
use Rattle.std.specs.declared.cmp.Ordering.{Ordering}
use Rattle.std.specs.Ordering.{is_eq, eq_by_cmp, int_eq, nat_cmp}
use Rattle.std.specs.Bool.{beq}
use Rattle.std.specs.Prelude.{nat_eq}
use Rattle.std.specs.Cmp.{IsEquivalence, unsigned_Decides, signed_Decides, booleans_Decides}
use Rattle.std.specs.Cmp.Lexicographic.{pointwise, slice_cmp, same_text, texts_ties, nat_list_eq_equiv}
use Rattle.std.specs.Option.{option_eq}
use Rattle.std.proofs.lemmas.Bool.{and_parts, and_from}
use Rattle.jv_lists.proofs.Tests.{is_eq-Equal}
use Rattle.jv_equality.specs.Equality.{TellsApart, Ties}

-- what the test does not tell apart is one value
abbrev pub Exact : {K : Type 0} → (K → K → Bool) → Type 0
Exact {K} E = (x y : K) → E x y ≡ true → x ≡ y

pub nats_exact : Exact nat_eq
nats_exact x y e = (unsigned_Decides x y).0 e

pub ints_exact : Exact int_eq
ints_exact x y e = (signed_Decides x y).0 e

pub bools_exact : Exact beq
bools_exact x y e = (booleans_Decides x y).0 e

pub texts_exact : Exact (pointwise nat_eq)
texts_exact x y e = same_text x y (sym e)

module _ {K : Type 0} {E : K → K → Bool} where
  -- with the laws of `Eq`, it tells each value from the others
  pub told_apart : Exact E → IsEquivalence E → TellsApart E
  told_apart exact laws x y = (exact x y, λ (e : x ≡ y). subst (λ (z : K). E x z ≡ true) e (laws.refl x))

  -- and so does the order that goes with it
  pub ties_told : (R : K → K → Ordering) → TellsApart E → ((x y : K) → E x y ≡ eq_by_cmp R x y) → Ties R
  ties_told R told ties x y = (
    λ (e : R x y ≡ Equal). (told x y).0 (ties x y ∙ ap is_eq e),
    λ (e : x ≡ y). is_eq-Equal (R x y) (sym (ties x y) ∙ (told x y).1 e),
  )

  pub exact_from : TellsApart E → Exact E
  exact_from told x y e = (told x y).0 e

  pub lists_exact : Exact E → Exact (pointwise E)
  lists_exact exact [] [] e = refl
  lists_exact exact [] (y ∷ ys) e = absurd cc
  lists_exact exact (x ∷ xs) [] e = absurd cc
  lists_exact exact (x ∷ xs) (y ∷ ys) e =
      let both = and_parts (E x y) (pointwise E xs ys) e in
      λ i. exact x y both.0 i ∷ lists_exact exact xs ys both.1 i

  pub options_exact : Exact E → Exact (option_eq E)
  options_exact exact None None e = refl
  options_exact exact None (Some y) e = absurd cc
  options_exact exact (Some x) None e = absurd cc
  options_exact exact (Some x) (Some y) e = ap (λ (z : K). Some z) (exact x y e)

  pub pairs_exact : {J : Type 0} {F : J → J → Bool} → Exact E → Exact F → Exact (λ (x y : K × J). E x.0 y.0 && F x.1 y.1)
  pairs_exact {J} {F} first second x y e =
      let both = and_parts (E x.0 y.0) (F x.1 y.1) e in
      λ i. (first x.0 y.0 both.0 i, second x.1 y.1 both.1 i)

pub text_ties : Ties (slice_cmp nat_cmp)
text_ties = ties_told (slice_cmp nat_cmp) (told_apart texts_exact nat_list_eq_equiv) texts_ties

pub lists_told : {K : Type 0} {E : K → K → Bool} → TellsApart E → TellsApart (pointwise E)
lists_told {K} {E} told xs ys = (lists_exact (exact_from told) xs ys, λ (e : xs ≡ ys). subst (λ (zs : List K). pointwise E xs zs ≡ true) e (itself xs))
  where
    itself : (zs : List K) → pointwise E zs zs ≡ true
    itself [] = refl
    itself (z ∷ zs) = and_from (E z z) (pointwise E zs zs) ((told z z).1 refl) (itself zs)
