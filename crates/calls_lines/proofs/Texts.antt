-- Texts that are made of others, and what has no text.
use Rattle.std.proofs.Common.{◌≡◌, ℕ, List, ◌++◌, Option, Some, None, refl, sym, ap, ◌∙◌, inl, ⊎_elim}
use Rattle.std.specs.Prelude.{option_map, codes}
use Rattle.std.specs.Fmt.{decimal}
use Rattle.std.proofs.lemmas.Option.{none-some, same_Some}
use Rattle.jv_types.specs.declared.ids.MethodId.{MethodId}
use Rattle.calls_form.specs.declared.object_class.ObjectClass.{ObjectClass}
use Rattle.calls_facts.specs.First.Names.{object_init}
use Rattle.calls_lines.specs.First.Lines.{HasMethodText, HasTargetText}
use Rattle.calls_lines.specs.First.Adding.{IsTextOf, worded, numbered, paired}

-- what has no text
IsTextOf-none : (P : List ℕ → Type 0) → ((text : List ℕ) → P text → ⊥) → IsTextOf P None
IsTextOf-none P none = record { exact = λ text. (λ has. absurd (none text has), λ found. absurd (none-some text found)) }

-- one text
IsTextOf-some : (P : List ℕ → Type 0) (found : List ℕ) → P found → ((text : List ℕ) → P text → found ≡ text) → IsTextOf P (Some found)
IsTextOf-some P found has only = record {
  exact = λ text. (λ h. ap Some (only text h), λ h. let same : found ≡ text = same_Some found text h in rw (← same) has);
}

-- a text that is made of one
made : (P : List ℕ → Type 0) (f : List ℕ → List ℕ) (part : Option (List ℕ)) → IsTextOf P part → IsTextOf (λ text. (a : List ℕ) × P a × (text ≡ f a)) (option_map f part)
made P f None is = IsTextOf-none (λ text. (a : List ℕ) × P a × (text ≡ f a)) (λ text has. none-some has.0 ((is.exact has.0).0 has.1))
made P f (Some a) is =
    IsTextOf-some (λ text. (a : List ℕ) × P a × (text ≡ f a)) (f a) (a, (is.exact a).1 refl, refl)
    (λ text has. let same : a ≡ has.0 = same_Some a has.0 ((is.exact has.0).0 has.1) in ap f same ∙ sym has.2)

-- a text that is made of two
made_of_two : (P Q : List ℕ → Type 0) (word : List ℕ) (first second : Option (List ℕ)) → IsTextOf P first → IsTextOf Q second
    → IsTextOf (λ text. (a : List ℕ) × (b : List ℕ) × P a × Q b × (text ≡ word ++ a ++ codes " " ++ b)) (paired word first second)
made_of_two P Q word None second is_first is_second = IsTextOf-none _ (λ text has. none-some has.0 ((is_first.exact has.0).0 has.2))
made_of_two P Q word (Some a) None is_first is_second = IsTextOf-none _ (λ text has. none-some has.1 ((is_second.exact has.1).0 has.3))
made_of_two P Q word (Some a) (Some b) is_first is_second =
    IsTextOf-some _ (word ++ a ++ codes " " ++ b) (a, b, (is_first.exact a).1 refl, (is_second.exact b).1 refl, refl)
    (λ text has.
    let same_a : a ≡ has.0 = same_Some a has.0 ((is_first.exact has.0).0 has.2) in
    let same_b : b ≡ has.1 = same_Some b has.1 ((is_second.exact has.1).0 has.3) in
    ap (λ (x : List ℕ). word ++ x ++ codes " " ++ b) same_a ∙ (ap (λ (x : List ℕ). word ++ has.0 ++ codes " " ++ x) same_b ∙ sym has.4))

-- as the three joins answer
pub IsTextOf-worded : (P : List ℕ → Type 0) (word : List ℕ) (part text : Option (List ℕ)) → IsTextOf P part → text ≡ worded word part
    → IsTextOf (λ text. (a : List ℕ) × P a × (text ≡ word ++ a)) text
IsTextOf-worded P word part text is text_is = rw text_is (made P (λ a. word ++ a) part is)

pub IsTextOf-numbered : (P : List ℕ → Type 0) (word : List ℕ) (part : Option (List ℕ)) (number : ℕ) (text : Option (List ℕ)) → IsTextOf P part → text ≡ numbered word part number
    → IsTextOf (λ text. (a : List ℕ) × P a × (text ≡ word ++ a ++ codes " " ++ decimal number)) text
IsTextOf-numbered P word part number text is text_is = rw text_is (made P (λ a. word ++ a ++ codes " " ++ decimal number) part is)

pub IsTextOf-paired : (P Q : List ℕ → Type 0) (word : List ℕ) (first second text : Option (List ℕ)) → IsTextOf P first → IsTextOf Q second → text ≡ paired word first second
    → IsTextOf (λ text. (a : List ℕ) × (b : List ℕ) × P a × Q b × (text ≡ word ++ a ++ codes " " ++ b)) text
IsTextOf-paired P Q word first second text is_first is_second text_is = rw text_is (made_of_two P Q word first second is_first is_second)

-- what a call enters, where it isn't the constructor of java/lang/Object
pub IsTextOf-own_target : (class : ObjectClass) (to : MethodId) (found : Option (List ℕ)) → ((to ≡ object_init) → ⊥) → IsTextOf (HasMethodText class to) found → IsTextOf (HasTargetText class to) found
IsTextOf-own_target class to found other is = record {
  exact = λ text. (
    λ has. ⊎_elim (λ own. (is.exact text).0 own) (λ library. absurd (other library.0)) has,
    λ same. inl ((is.exact text).1 same),
  );
}
