-- Members one after the other, whose pairs of numbers are kept in a set.
use Rattle.std.proofs.Common.{◌≡◌, ◌+◌, ◌<◌, ◌≤◌, ℕ, Bool, true, false, not, List, length, Some, refl, sym, ap, ◌∙◌, arith, inl, inr, ◌⊎◌}
use Rattle.std.specs.Prelude.{◌↔◌, IsTrue}
use Rattle.std.specs.List.{slice_get}
use Rattle.std.specs.BTreeSet.{BTreeSet, IsEmpty}
use Rattle.std.proofs.lemmas.Option.{slice_get_within}
use Rattle.jv_lists.proofs.Places.{each_at}
use Rattle.jv_read.proofs.Fronts.{some_is}
use Rattle.jv_pool.specs.declared.item.PoolItem.{PoolItem}
use Rattle.jv_class.specs.declared.class_file.Member.{Member}
use Rattle.jv_class.specs.ClassTexts.{AreDistinct}
use Rattle.jv_class.specs.Steps.MemberPairs.{number_at, pair_of, has, Adds, HasTexts, HaveTexts}
use Rattle.jv_class.specs.Steps.TextNumbers.{AreNumbers}
use Rattle.jv_class.proofs.MemberPairs.{texts_same, numbers_same}

pub record SoFar (numbers : List ℕ) (members : List Member) (count : ℕ) (pairs : BTreeSet (ℕ × ℕ)) : Type 0 where
  pub has_each : (j : ℕ) (a : Member) → j < count → slice_get members j ≡ Some a → IsTrue (has pairs (pair_of numbers a))
  pub from : (p : ℕ × ℕ) → IsTrue (has pairs p) → (j : ℕ) × (a : Member) × (j < count) × (slice_get members j ≡ Some a) × (pair_of numbers a ≡ p)
  pub differ : (j k : ℕ) (a b : Member) → j < count → k < count → slice_get members j ≡ Some a → slice_get members k ≡ Some b → pair_of numbers a ≡ pair_of numbers b → j ≡ k

pub begins : (numbers : List ℕ) (members : List Member) (pairs : BTreeSet (ℕ × ℕ)) → IsEmpty pairs → SoFar numbers members 0 pairs
begins numbers members pairs empty = record {
  has_each = λ j a lt e. absurd (omega arith);
  from = λ p h. absurd (let f : has pairs p ≡ false = rw empty refl in let both : false ≡ true = sym f ∙ h in cc);
  differ = λ j k a b lt lk ea eb e. absurd (omega arith);
}

split_last : (j i : ℕ) → j < i + 1 → (j < i) ⊎ (j ≡ i)
split_last j i lt = grind arith

pub goes_on : (numbers : List ℕ) (members : List Member) (i : ℕ) (old new : BTreeSet (ℕ × ℕ)) (m : Member) → SoFar numbers members i old → slice_get members i ≡ Some m → has old (pair_of numbers m) ≡ false → Adds old new (pair_of numbers m) → SoFar numbers members (i + 1) new
goes_on numbers members i old new m s at none adds = record {
  has_each = λ j a lt e. elim (split_last j i lt) [
    | inl below ↦ (adds (pair_of numbers a)).1 (inr (s.has_each j a below e))
    | inr last ↦ (adds (pair_of numbers a)).1 (inl (ap (pair_of numbers) (member_is j a last e)))
  ];
  from = λ p h. elim ((adds p).0 h) [
    | inl same ↦ (i, m, omega arith, at, same)
    | inr had ↦ let t = s.from p had in (t.0, t.1, (let lt = t.2 in omega arith), t.3, t.4)
  ];
  differ = λ j k a b lt lk ea eb e. elim (split_last j i lt) [
    | inl below ↦ elim (split_last k i lk) [
      | inl under ↦ s.differ j k a b below under ea eb e
      | inr last ↦ absurd (new_pair a b (s.has_each j a below ea) (member_is k b last eb) e)
    ]
    | inr first ↦ elim (split_last k i lk) [
      | inl under ↦ absurd (new_pair b a (s.has_each k b under eb) (member_is j a first ea) (sym e))
      | inr last ↦ first ∙ sym last
    ]
  ];
}
  where
    member_is : (j : ℕ) (a : Member) → j ≡ i → slice_get members j ≡ Some a → m ≡ a
    member_is j a last e = some_is m a (sym at ∙ ap (slice_get members) (sym last) ∙ e)

    new_pair : (a b : Member) → IsTrue (has old (pair_of numbers a)) → m ≡ b → pair_of numbers a ≡ pair_of numbers b → ⊥
    new_pair a b had is e =
        let same : pair_of numbers a ≡ pair_of numbers m = e ∙ ap (pair_of numbers) (sym is) in
        let both : true ≡ false = sym had ∙ ap (has old) same ∙ none in cc

module _ (items : List PoolItem) (numbers : List ℕ) (members : List Member) (numbered : AreNumbers items numbers) (texts : HaveTexts items members) where
  texts_of : (j : ℕ) (a : Member) → slice_get members j ≡ Some a → HasTexts items a
  texts_of j a e = each_at (HasTexts items) members j a texts.each e

  -- all of them were added
  pub all_differ : (i : ℕ) (pairs : BTreeSet (ℕ × ℕ)) → length members ≤ i → SoFar numbers members i pairs → IsTrue true ↔ AreDistinct items members
  all_differ i pairs le s = (
    λ _ j k a b ea eb name desc.
        let p = texts_of j a ea in
        let q = texts_of k b eb in
        let lj = slice_get_within members j a ea in
        let lk = slice_get_within members k b eb in
        let first = numbers_same items numbers a.name b.name numbered p.name q.name name in
        let second = numbers_same items numbers a.desc b.desc numbered p.desc q.desc desc in
        s.differ j k a b (omega arith) (omega arith) ea eb (ap (λ (x : ℕ). (x, number_at numbers a.desc)) first ∙ ap (λ (x : ℕ). (number_at numbers b.name, x)) second),
    λ _. refl,
  )

  -- one wasn't added
  pub one_again : (i : ℕ) (pairs : BTreeSet (ℕ × ℕ)) (m : Member) → SoFar numbers members i pairs → slice_get members i ≡ Some m → IsTrue (has pairs (pair_of numbers m)) → AreDistinct items members → ⊥
  one_again i pairs m s at had distinct =
      let t = s.from (pair_of numbers m) had in
      let p = texts_of t.0 t.1 t.3 in
      let q = texts_of i m at in
      let name = texts_same items numbers t.1.name m.name numbered p.name q.name (ap (λ (x : ℕ × ℕ). x.0) t.4) in
      let desc = texts_same items numbers t.1.desc m.desc numbered p.desc q.desc (ap (λ (x : ℕ × ℕ). x.1) t.4) in
      let same = distinct t.0 i t.1 m t.3 at name desc in
      let lt = t.2 in
      omega arith

-- what the answer of an insertion says
pub was_there : (there added : Bool) → added ≡ not there → added ≡ false → there ≡ true
was_there true added e f = refl
was_there false added e f = absurd (let both : true ≡ false = sym e ∙ f in cc)

pub was_new : (there added : Bool) → added ≡ not there → added ≡ true → there ≡ false
was_new true added e f = absurd (let both : true ≡ false = sym f ∙ e in cc)
was_new false added e f = refl
