-- Texts that are numbered one after the other have one number exactly where they are equal: the steps of the loop.
use Rattle.std.proofs.Common.{◌≡◌, ◌+◌, ◌<◌, ℕ, Bool, true, false, cond, Bor, List, [], ◌∷◌, ◌++◌, length, Option, Some, None, refl, sym, ap, ◌∙◌, arith, length-append, inl, inr, ◌⊎◌}
use Rattle.std.specs.Prelude.{unwrap_or}
use Rattle.std.specs.List.{slice_get}
use Rattle.std.specs.Str.{bytes_eq}
use Rattle.std.specs.BTreeMap.{BTreeMap, IsEmpty}
use Rattle.std.proofs.lemmas.Option.{slice_get_within}
use Rattle.std.proofs.lemmas.Slice.Eq.{bytes_eq-Decides}
use Rattle.std.proofs.lemmas.Bool.{false_from_ne_true}
use Rattle.jv_read.proofs.Fronts.{some_is}
use Rattle.jv_pool.specs.declared.item.PoolItem.{PoolItem}
use Rattle.jv_class.proofs.ListLemmas.{get_last, get_front, got, no_some}
use Rattle.jv_class.specs.Steps.TextNumbers.{number_in, Numbers, NumbersItem, text_of, AreNumbers}

-- ---- as far as the loop has come

pub record SoFar (items : List PoolItem) (count : ℕ) (known : BTreeMap (Bor (List ℕ)) ℕ) (numbers : List ℕ) : Type 0 where
  pub len : length numbers ≡ count
  pub known_is : (j : ℕ) (a : List ℕ) → j < count → text_of items j ≡ Some a → slice_get numbers j ≡ number_in known a
  pub sound : (m : ℕ) (a : List ℕ) → number_in known a ≡ Some m → (m < count) × (text_of items m ≡ Some a)

pub begins : (items : List PoolItem) (known : BTreeMap (Bor (List ℕ)) ℕ) (numbers : List ℕ) → IsEmpty known → numbers ≡ [] → SoFar items 0 known numbers
begins items known numbers empty none = record {
  len = ap (length {A = ℕ}) none;
  known_is = λ j a lt e. absurd (omega arith);
  sound = λ m a e. absurd (let f : number_in known a ≡ None = rw empty refl in no_some m (sym f ∙ e));
}

-- a place below one more is below, or the last
split_last : (j i : ℕ) → j < i + 1 → (j < i) ⊎ (j ≡ i)
split_last j i lt = grind arith

-- an item without a text
skips : (items : List PoolItem) (i : ℕ) (old new : BTreeMap (Bor (List ℕ)) ℕ) (numbers : List ℕ) (number : ℕ) → SoFar items i old numbers → text_of items i ≡ None → NumbersItem old new None i number → SoFar items (i + 1) new (numbers ++ number ∷ [])
skips items i old new numbers number s is h = record {
  len = let a = length-append numbers (number ∷ []) in let b = s.len in omega arith;
  known_is = λ j a lt e. elim (split_last j i lt) [
    | inl below ↦ get_front numbers number j (let b = s.len in omega arith) ∙ s.known_is j a below e ∙ sym (h.1 a)
    | inr last ↦ absurd (no_some a (sym is ∙ sym (ap (text_of items) last) ∙ e))
  ];
  sound = λ m a e. let t = s.sound m a (sym (h.1 a) ∙ e) in (let lt = t.0 in omega arith, t.1);
}

-- the number of the text itself
own_number : (old new : BTreeMap (Bor (List ℕ)) ℕ) (text other : List ℕ) (number : ℕ) → Numbers old new text number → text ≡ other → number_in new other ≡ Some number
own_number old new text other number h same =
    h other ∙ ap (λ (b : Bool). cond b (Some number) (number_in old other)) ((bytes_eq-Decides text other).1 same)

other_number : (old new : BTreeMap (Bor (List ℕ)) ℕ) (text other : List ℕ) (number : ℕ) → Numbers old new text number → (text ≡ other → ⊥) → number_in new other ≡ number_in old other
other_number old new text other number h differ =
    h other ∙ ap (λ (b : Bool). cond b (Some number) (number_in old other)) (false_from_ne_true (bytes_eq text other) (λ e. differ ((bytes_eq-Decides text other).0 e)))

-- two texts are one or they differ
same_or_not : (a b : List ℕ) → (a ≡ b) ⊎ (a ≡ b → ⊥)
same_or_not a b = by_test (bytes_eq a b) refl
  where
    by_test : (t : Bool) → bytes_eq a b ≡ t → (a ≡ b) ⊎ (a ≡ b → ⊥)
    by_test true e = inl ((bytes_eq-Decides a b).0 e)
    by_test false e = inr (λ same. let both : true ≡ false = sym ((bytes_eq-Decides a b).1 same) ∙ e in absurd cc)

-- a text that has a number keeps it
keeps : (old : BTreeMap (Bor (List ℕ)) ℕ) (text : List ℕ) (i number m : ℕ) → number ≡ unwrap_or (number_in old text) i → number_in old text ≡ Some m → number ≡ m
keeps old text i number m is e = is ∙ ap (λ (o : Option ℕ). unwrap_or o i) e

-- an item with a text
takes : (items : List PoolItem) (i : ℕ) (old new : BTreeMap (Bor (List ℕ)) ℕ) (numbers : List ℕ) (number : ℕ) (text : List ℕ) → SoFar items i old numbers → text_of items i ≡ Some text → NumbersItem old new (Some text) i number → SoFar items (i + 1) new (numbers ++ number ∷ [])
takes items i old new numbers number text s is h = record {
  len = let a = length-append numbers (number ∷ []) in let b = s.len in omega arith;
  known_is = λ j a lt e. elim (split_last j i lt) [
    | inl below ↦ get_front numbers number j (let b = s.len in omega arith) ∙ s.known_is j a below e ∙ before j a below e
    | inr last ↦
        let same : text ≡ a = some_is text a (sym is ∙ sym (ap (text_of items) last) ∙ e) in
        ap (slice_get (numbers ++ number ∷ [])) (last ∙ sym s.len) ∙ get_last numbers number ∙ sym (own_number old new text a number h.1 same)
  ];
  sound = λ m a e. elim (same_or_not text a) [
    | inl same ↦ own m a same (some_is number m (sym (own_number old new text a number h.1 same) ∙ e)) (number_in old text) refl
    | inr differ ↦ let t = s.sound m a (sym (other_number old new text a number h.1 differ) ∙ e) in (let lt = t.0 in omega arith, t.1)
  ];
}
  where
    before : (j : ℕ) (a : List ℕ) → j < i → text_of items j ≡ Some a → number_in old a ≡ number_in new a
    before j a below e = elim (same_or_not text a) [
      | inl same ↦
          let it = got numbers j (let b = s.len in omega arith) in
          let had : number_in old a ≡ Some it.0 = sym (s.known_is j a below e) ∙ it.1 in
          let kept : number ≡ it.0 = keeps old text i number it.0 h.0 (ap (number_in old) same ∙ had) in
          had ∙ ap (λ (k : ℕ). Some k) (sym kept) ∙ sym (own_number old new text a number h.1 same)
      | inr differ ↦ sym (other_number old new text a number h.1 differ)
    ]

    own : (m : ℕ) (a : List ℕ) → text ≡ a → number ≡ m → (o : Option ℕ) → number_in old text ≡ o → (m < i + 1) × (text_of items m ≡ Some a)
    own m a same number_is (Some k) had =
        let t = s.sound k text had in
        let k_is : k ≡ m = sym (keeps old text i number k h.0 had) ∙ number_is in
        (let lt = t.0 in omega arith, sym (ap (text_of items) k_is) ∙ t.1 ∙ ap (λ (x : List ℕ). Some x) same)
    own m a same number_is None had =
        let m_is : m ≡ i = sym number_is ∙ h.0 ∙ ap (λ (o : Option ℕ). unwrap_or o i) had in
        (omega arith, ap (text_of items) m_is ∙ is ∙ ap (λ (x : List ℕ). Some x) same)

pub goes_on : (items : List PoolItem) (i : ℕ) (old new : BTreeMap (Bor (List ℕ)) ℕ) (numbers : List ℕ) (number : ℕ) (o : Option (List ℕ)) → SoFar items i old numbers → text_of items i ≡ o → NumbersItem old new o i number → SoFar items (i + 1) new (numbers ++ number ∷ [])
goes_on items i old new numbers number (Some text) s is h = takes items i old new numbers number text s is h
goes_on items i old new numbers number None s is h = skips items i old new numbers number s is h

pub is_done : (items : List PoolItem) (i : ℕ) (known : BTreeMap (Bor (List ℕ)) ℕ) (numbers : List ℕ) → length items ≡ i → SoFar items i known numbers → AreNumbers items numbers
is_done items i known numbers all s = record {
  len = s.len ∙ sym all;
  same = λ j k m a b ta tb na nb.
      let la = slice_get_within numbers j m na in
      let lb = slice_get_within numbers k m nb in
      let ea : number_in known a ≡ Some m = sym (s.known_is j a (let l = s.len in omega arith) ta) ∙ na in
      let eb : number_in known b ≡ Some m = sym (s.known_is k b (let l = s.len in omega arith) tb) ∙ nb in
      some_is a b (sym (s.sound m a ea).1 ∙ (s.sound m b eb).1);
  one = λ j k m n a ta tb na nb.
      let la = slice_get_within numbers j m na in
      let lb = slice_get_within numbers k n nb in
      some_is m n (sym na ∙ s.known_is j a (let l = s.len in omega arith) ta ∙ sym (s.known_is k a (let l = s.len in omega arith) tb) ∙ nb);
}
