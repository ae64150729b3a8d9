-- Members whose pairs of numbers differ differ in name or descriptor, and the other way round.
use Rattle.std.proofs.Common.{◌≡◌, ◌-◌, ◌<◌, ℕ, Bool, true, false, cond, eqb, List, length, Option, Some, None, refl, sym, ap, ◌∙◌, arith, inl, inr, ◌⊎◌}
use Rattle.std.specs.Prelude.{◌↔◌, IsTrue, unwrap_or}
use Rattle.std.specs.List.{slice_get, AllByRecursion}
use Rattle.std.specs.Ordering.{nat_cmp, is_eq, eq_by_cmp}
use Rattle.std.specs.Option.{option_and_then}
use Rattle.std.specs.BTreeMap.{is_at}
use Rattle.std.specs.BTreeSet.{BTreeSet}
use Rattle.std.specs.Cmp.{IsTotalOrder}
use Rattle.std.proofs.lemmas.Cmp.{then_total, on_total, nat_cmp_total, eq_by_cmp_equiv}
use Rattle.std.proofs.lemmas.Map.Lookups.{exact_pairs, exact_unsigned}
use Rattle.std.proofs.lemmas.Option.{slice_get_within}
use Rattle.jv_lists.proofs.Tests.{is_eq-Equal}
use Rattle.jv_lists.proofs.Among.{all_from}
use Rattle.jv_read.proofs.Fronts.{some_is}
use Rattle.jv_equality.specs.Equality.{TellsApart}
use Rattle.jv_equality.proofs.Exact.{told_apart}
use Rattle.jv_pool.specs.declared.item.PoolItem.{PoolItem}
use Rattle.jv_pool.specs.Lookups.{text_at, text_in}
use Rattle.jv_class.specs.declared.class_file.Member.{Member}
use Rattle.jv_class.specs.ClassTexts.{IsField, IsMethodMember}
use Rattle.jv_class.specs.Steps.MemberPairs.{number_at, pair_cmp, has, Adds, HasTexts, HaveTexts}
use Rattle.jv_class.specs.Steps.PoolTexts.{NamesText}
use Rattle.jv_class.specs.Steps.TextNumbers.{text_of, AreNumbers}
use Rattle.jv_class.proofs.ListLemmas.{got, no_some}

-- ---- pairs

pair_total : IsTotalOrder pair_cmp
pair_total = then_total (on_total (λ (t : ℕ × ℕ). t.0) nat_cmp_total) (on_total (λ (t : ℕ × ℕ). t.1) nat_cmp_total)

pairs_told : TellsApart (eq_by_cmp pair_cmp)
pairs_told = told_apart (λ p q e. exact_pairs nat_cmp nat_cmp exact_unsigned exact_unsigned p q (is_eq-Equal (pair_cmp p q) e)) (eq_by_cmp_equiv pair_total)

-- what an insertion leaves
pub inserted : (old new : BTreeSet (ℕ × ℕ)) (pair : ℕ × ℕ) → ((q : ℕ × ℕ) → has new q ≡ cond (is_at (pair_cmp pair) q) true (has old q)) → Adds old new pair
inserted old new pair h other = by_test (is_eq (pair_cmp pair other)) refl
  where
    by_test : (b : Bool) → is_eq (pair_cmp pair other) ≡ b → IsTrue (has new other) ↔ ((pair ≡ other) ⊎ IsTrue (has old other))
    by_test true e =
        (λ _. inl ((pairs_told pair other).0 e), λ _. h other ∙ ap (λ (t : Bool). cond t true (has old other)) e)
    by_test false e =
        let kept : has new other ≡ has old other = h other ∙ ap (λ (t : Bool). cond t true (has old other)) e in (
          λ was. inr (sym kept ∙ was),
          λ either. elim either [
            | inl same ↦ absurd (let both : true ≡ false = sym ((pairs_told pair pair).1 refl) ∙ ap (λ (q : ℕ × ℕ). is_eq (pair_cmp pair q)) same ∙ e in cc)
            | inr was ↦ kept ∙ was
          ],
        )

-- ---- texts by their numbers

-- an item that an index names is one of the pool
within : (items : List PoolItem) (place : ℕ) (text : List ℕ) (o : Option PoolItem) → slice_get items place ≡ o → option_and_then text_in o ≡ Some text → place < length items
within items place text (Some item) is e = slice_get_within items place item is
within items place text None is e = absurd (no_some text e)

-- where the text of an index stands, and its number
record Stands (items : List PoolItem) (numbers : List ℕ) (index : ℕ) (text : List ℕ) : Type 0 where
  place : ℕ
  number : ℕ
  text_is : text_of items place ≡ Some text
  number_is : slice_get numbers place ≡ Some number
  at : number_at numbers index ≡ number

stands : (items : List PoolItem) (numbers : List ℕ) (index : ℕ) (text : List ℕ) → AreNumbers items numbers → text_at items index ≡ Some text → Stands items numbers index text
stands items numbers index text h found = by_test (eqb index 0) refl found
  where
    by_test : (b : Bool) → eqb index 0 ≡ b → option_and_then text_in (cond b None (slice_get items (index - 1))) ≡ Some text → Stands items numbers index text
    by_test true e none = absurd (no_some text none)
    by_test false e there =
        let lt = within items (index - 1) text (slice_get items (index - 1)) refl there in
        let it = got numbers (index - 1) (let l = h.len in omega arith) in
        record {
          place = index - 1;
          number = it.0;
          text_is = there;
          number_is = it.1;
          at = ap (λ (t : Bool). cond t 0 (unwrap_or (slice_get numbers (index - 1)) 0)) e ∙ ap (λ (o : Option ℕ). unwrap_or o 0) it.1;
        }

-- equal numbers are those of equal texts
pub texts_same : (items : List PoolItem) (numbers : List ℕ) (x y : ℕ) → AreNumbers items numbers → NamesText items x → NamesText items y → number_at numbers x ≡ number_at numbers y → text_at items x ≡ text_at items y
texts_same items numbers x y h p q e =
    let s = stands items numbers x p.text h p.found in
    let t = stands items numbers y q.text h q.found in
    let same : s.number ≡ t.number = sym s.at ∙ e ∙ t.at in
    let texts : p.text ≡ q.text = h.same s.place t.place s.number p.text q.text s.text_is t.text_is s.number_is (t.number_is ∙ ap (λ (k : ℕ). Some k) (sym same)) in
    p.found ∙ ap (λ (z : List ℕ). Some z) texts ∙ sym q.found

-- equal texts have equal numbers
pub numbers_same : (items : List PoolItem) (numbers : List ℕ) (x y : ℕ) → AreNumbers items numbers → NamesText items x → NamesText items y → text_at items x ≡ text_at items y → number_at numbers x ≡ number_at numbers y
numbers_same items numbers x y h p q e =
    let s = stands items numbers x p.text h p.found in
    let t = stands items numbers y q.text h q.found in
    let texts : p.text ≡ q.text = some_is p.text q.text (sym p.found ∙ e ∙ q.found) in
    s.at ∙ h.one s.place t.place s.number t.number p.text s.text_is (t.text_is ∙ ap (λ (z : List ℕ). Some z) (sym texts)) s.number_is t.number_is ∙ sym t.at

-- ---- members that keep the rules have texts

pub field_texts : (items : List PoolItem) (members : List Member) → AllByRecursion (IsField items) members → HaveTexts items members
field_texts items members h = record { each = all_from (IsField items) (HasTexts items) (λ m f. record { name = record { text = f.name.text; found = f.name.found }; desc = record { text = f.descriptor.text; found = f.descriptor.found } }) members h }

pub method_texts : (items : List PoolItem) (members : List Member) → AllByRecursion (IsMethodMember items) members → HaveTexts items members
method_texts items members h = record { each = all_from (IsMethodMember items) (HasTexts items) (λ m f. record { name = record { text = f.name.text; found = f.name.found }; desc = record { text = f.descriptor.text; found = f.descriptor.found } }) members h }
