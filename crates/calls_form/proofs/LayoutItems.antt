-- An item of the constant pool that is read is spelled so, and what is spelled so is read.
use Rattle.std.proofs.Common.{◌≡◌, ℕ, ◌^◌, ◌<◌, Bool, true, false, cond, eqb, List, [], ◌∷◌, ◌++◌, length, Option, Some, None, refl, sym, ap, subst, ◌∙◌, ◌⊎◌, inl, inr, arith}
use Rattle.std.proofs.lemmas.Bool.{eqb-true, ne_eqb}
use Rattle.calls_form.specs.declared.outline.Entry.{Entry}
use Rattle.calls_form.specs.declared.outline.Entry.TheVariants as entry
use Rattle.calls_form.specs.Layout.{u2, Item, Utf8, Class, Fieldref, Methodref, NameAndType, Other, other_width, item_text, IsItem, is_wide}
use Rattle.calls_form.specs.Outlines.{entry_of}
use Rattle.calls_form.specs.Reading.{◌>>=◌, u2_at, bytes_at}
use Rattle.calls_form.specs.LayoutReading.{text_at, pair_at, is_wide_tag, other_at, utf8_at, class_at, fieldref_at, methodref_at, name_and_type_at, tagged_at, item_at}
use Rattle.calls_form.proofs.LayoutFields.{IsBytes, IsBytes-rest, bind_some, given_as, Takes, Takes-then, u2_takes, u2_again, bytes_take, bytes_again}

-- a step that gives a value goes on with it
pub bind_is : {A B : Type 0} (o : Option A) (f : A → Option B) (x : A) → o ≡ Some x → (o >>= f) ≡ f x
bind_is {A} {B} o f x e = ap (λ (p : Option A). p >>= f) e

-- which way a test went
pub chosen : {A : Type 0} (b : Bool) (x y z : A) → cond b x y ≡ z → ((b ≡ true) × (x ≡ z)) ⊎ ((b ≡ false) × (y ≡ z))
chosen true x y z e = inl (refl, e)
chosen false x y z e = inr (refl, e)

-- a tag in front of a text
pub Takes-tag : (tag : ℕ) (bytes text rest : List ℕ) → Takes bytes text rest → Takes (tag ∷ bytes) (tag ∷ text) rest
Takes-tag tag bytes text rest t = record { parts = ap (λ (w : List ℕ). tag ∷ w) t.parts; rest_fits = t.rest_fits }

-- ---- texts and pairs

-- a text that is read is spelled so
pub text_takes : (bytes : List ℕ) (x : List ℕ × List ℕ) → IsBytes bytes → text_at bytes ≡ Some x → Takes bytes (u2 (length x.0) ++ x.0) x.1 × (length x.0 < 2 ^ 16)
unfolding text_at
text_takes bytes x fits e =
    let a = bind_some (u2_at bytes) (λ len. bytes_at len.1 len.0) x e in
    let t = u2_takes bytes a.0 fits a.1 in
    let b = bytes_take a.0.1 a.0.0 x t.0.rest_fits a.2 in
    let both : Takes bytes (u2 a.0.0 ++ x.0) x.1 = Takes-then bytes (u2 a.0.0) a.0.1 x.0 x.1 t.0 b.0 in
    (subst (λ (k : ℕ). Takes bytes (u2 k ++ x.0) x.1) (sym b.1) both, omega (arith, t.1, b.1))

-- a text is read again, whatever follows
pub text_again : (text rest : List ℕ) → length text < 2 ^ 16 → text_at ((u2 (length text) ++ text) ++ rest) ≡ Some (text, rest)
unfolding text_at
text_again text rest lt =
    bind_is (u2_at (u2 (length text) ++ (text ++ rest))) (λ len. bytes_at len.1 len.0) (length text, text ++ rest) (u2_again (length text) (text ++ rest) lt) ∙ bytes_again text rest (length text) refl

-- a pair that is read is spelled so
pub pair_takes : (bytes : List ℕ) (x : ℕ × ℕ × List ℕ) → IsBytes bytes → pair_at bytes ≡ Some x → Takes bytes (u2 x.0 ++ u2 x.1) x.2 × (x.0 < 2 ^ 16) × (x.1 < 2 ^ 16)
unfolding pair_at
pair_takes bytes x fits e =
    let a = bind_some (u2_at bytes) (λ first. u2_at first.1 >>= λ second. Some (first.0, second.0, second.1)) x e in
    let b = bind_some (u2_at a.0.1) (λ second. Some (a.0.0, second.0, second.1)) x a.2 in
    let s = u2_takes bytes a.0 fits a.1 in
    let t = u2_takes a.0.1 b.0 s.0.rest_fits b.1 in
    let both : Takes bytes (u2 a.0.0 ++ u2 b.0.0) b.0.1 = Takes-then bytes (u2 a.0.0) a.0.1 (u2 b.0.0) b.0.1 s.0 t.0 in
    let made : ℕ × ℕ × List ℕ = (a.0.0, b.0.0, b.0.1) in
    given_as (λ (y : ℕ × ℕ × List ℕ). Takes bytes (u2 y.0 ++ u2 y.1) y.2 × (y.0 < 2 ^ 16) × (y.1 < 2 ^ 16)) made x b.2 (both, s.1, t.1)

-- a pair is read again, whatever follows
pub pair_again : (first second : ℕ) (rest : List ℕ) → first < 2 ^ 16 → second < 2 ^ 16 → pair_at ((u2 first ++ u2 second) ++ rest) ≡ Some (first, second, rest)
unfolding pair_at
pair_again first second rest lt lt' =
    bind_is (u2_at (u2 first ++ (u2 second ++ rest))) (λ x. u2_at x.1 >>= λ y. Some (x.0, y.0, y.1)) (first, u2 second ++ rest) (u2_again first (u2 second ++ rest) lt)
    ∙ bind_is (u2_at (u2 second ++ rest)) (λ y. Some (first, y.0, y.1)) (second, rest) (u2_again second rest lt')

-- ---- items

-- an item stands at the front, and this is kept of it
pub record TakesItem (bytes : List ℕ) (x : Entry × Bool × List ℕ) : Type 0 where
  pub item : Item
  pub is_item : IsItem item
  pub taken : Takes bytes (item_text item) x.2
  pub entry_is : entry_of item ≡ x.0
  pub wide_is : is_wide item ≡ x.1

-- each kind of item that is read behind its tag is spelled so
utf8_takes : (bytes : List ℕ) (x : Entry × Bool × List ℕ) → IsBytes bytes → utf8_at bytes ≡ Some x → TakesItem (1 ∷ bytes) x
unfolding utf8_at
utf8_takes bytes x fits e =
    let a = bind_some (text_at bytes) (λ text. Some (entry.Utf8 text.0, false, text.1)) x e in
    let t = text_takes bytes a.0 fits a.1 in
    let made : Entry × Bool × List ℕ = (entry.Utf8 a.0.0, false, a.0.1) in
    given_as (λ (y : Entry × Bool × List ℕ). TakesItem (1 ∷ bytes) y) made x a.2
    (record { item = Utf8 a.0.0; is_item = t.1; taken = Takes-tag 1 bytes (u2 (length a.0.0) ++ a.0.0) a.0.1 t.0; entry_is = refl; wide_is = refl })

-- of a class
class_takes : (bytes : List ℕ) (x : Entry × Bool × List ℕ) → IsBytes bytes → class_at bytes ≡ Some x → TakesItem (7 ∷ bytes) x
unfolding class_at
class_takes bytes x fits e =
    let a = bind_some (u2_at bytes) (λ name. Some (entry.Class name.0, false, name.1)) x e in
    let t = u2_takes bytes a.0 fits a.1 in
    let made : Entry × Bool × List ℕ = (entry.Class a.0.0, false, a.0.1) in
    given_as (λ (y : Entry × Bool × List ℕ). TakesItem (7 ∷ bytes) y) made x a.2
    (record { item = Class a.0.0; is_item = t.1; taken = Takes-tag 7 bytes (u2 a.0.0) a.0.1 t.0; entry_is = refl; wide_is = refl })

-- of a field of a class
fieldref_takes : (bytes : List ℕ) (x : Entry × Bool × List ℕ) → IsBytes bytes → fieldref_at bytes ≡ Some x → TakesItem (9 ∷ bytes) x
unfolding fieldref_at
fieldref_takes bytes x fits e =
    let a = bind_some (pair_at bytes) (λ pair. Some (entry.Fieldref pair.0 pair.1, false, pair.2)) x e in
    let t = pair_takes bytes a.0 fits a.1 in
    let made : Entry × Bool × List ℕ = (entry.Fieldref a.0.0 a.0.1, false, a.0.2) in
    given_as (λ (y : Entry × Bool × List ℕ). TakesItem (9 ∷ bytes) y) made x a.2
    (record { item = Fieldref a.0.0 a.0.1; is_item = (t.1, t.2); taken = Takes-tag 9 bytes (u2 a.0.0 ++ u2 a.0.1) a.0.2 t.0; entry_is = refl; wide_is = refl })

-- of a method of a class
methodref_takes : (bytes : List ℕ) (x : Entry × Bool × List ℕ) → IsBytes bytes → methodref_at bytes ≡ Some x → TakesItem (10 ∷ bytes) x
unfolding methodref_at
methodref_takes bytes x fits e =
    let a = bind_some (pair_at bytes) (λ pair. Some (entry.Methodref pair.0 pair.1, false, pair.2)) x e in
    let t = pair_takes bytes a.0 fits a.1 in
    let made : Entry × Bool × List ℕ = (entry.Methodref a.0.0 a.0.1, false, a.0.2) in
    given_as (λ (y : Entry × Bool × List ℕ). TakesItem (10 ∷ bytes) y) made x a.2
    (record { item = Methodref a.0.0 a.0.1; is_item = (t.1, t.2); taken = Takes-tag 10 bytes (u2 a.0.0 ++ u2 a.0.1) a.0.2 t.0; entry_is = refl; wide_is = refl })

-- of a name and a descriptor
name_and_type_takes : (bytes : List ℕ) (x : Entry × Bool × List ℕ) → IsBytes bytes → name_and_type_at bytes ≡ Some x → TakesItem (12 ∷ bytes) x
unfolding name_and_type_at
name_and_type_takes bytes x fits e =
    let a = bind_some (pair_at bytes) (λ pair. Some (entry.NameAndType pair.0 pair.1, false, pair.2)) x e in
    let t = pair_takes bytes a.0 fits a.1 in
    let made : Entry × Bool × List ℕ = (entry.NameAndType a.0.0 a.0.1, false, a.0.2) in
    given_as (λ (y : Entry × Bool × List ℕ). TakesItem (12 ∷ bytes) y) made x a.2
    (record { item = NameAndType a.0.0 a.0.1; is_item = (t.1, t.2); taken = Takes-tag 12 bytes (u2 a.0.0 ++ u2 a.0.1) a.0.2 t.0; entry_is = refl; wide_is = refl })

-- of an item that is not kept
other_takes : (tag : ℕ) (bytes : List ℕ) (x : Entry × Bool × List ℕ) → IsBytes bytes → other_at tag bytes ≡ Some x → TakesItem (tag ∷ bytes) x
unfolding other_at
other_takes tag bytes x fits e =
    let a = bind_some (other_width tag) (λ width. bytes_at bytes width >>= λ content. Some (entry.Unused, is_wide_tag tag, content.1)) x e in
    let b = bind_some (bytes_at bytes a.0) (λ content. Some (entry.Unused, is_wide_tag tag, content.1)) x a.2 in
    let t = bytes_take bytes a.0 b.0 fits b.1 in
    let made : Entry × Bool × List ℕ = (entry.Unused, is_wide_tag tag, b.0.1) in
    given_as (λ (y : Entry × Bool × List ℕ). TakesItem (tag ∷ bytes) y) made x b.2
    (record { item = Other tag b.0.0; is_item = a.1 ∙ ap (λ (k : ℕ). Some k) (sym t.1); taken = Takes-tag tag bytes b.0.0 b.0.1 t.0; entry_is = refl; wide_is = refl })

-- an item that is read behind its tag, whichever it is, is spelled so
tagged_takes : (tag : ℕ) (bytes : List ℕ) (x : Entry × Bool × List ℕ) → IsBytes bytes → tagged_at tag bytes ≡ Some x → TakesItem (tag ∷ bytes) x
unfolding tagged_at
tagged_takes tag bytes x fits e =
    let At : ℕ → Type 0 = λ t. TakesItem (t ∷ bytes) x in
    elim (chosen (eqb tag 1) (utf8_at bytes) (cond (eqb tag 7) (class_at bytes) (cond (eqb tag 9) (fieldref_at bytes) (cond (eqb tag 10) (methodref_at bytes) (cond (eqb tag 12) (name_and_type_at bytes) (other_at tag bytes))))) (Some x) e) [
      | inl h ↦ subst At (sym (eqb-true tag 1 h.0)) (utf8_takes bytes x fits h.1)
      | inr h ↦ elim (chosen (eqb tag 7) (class_at bytes) (cond (eqb tag 9) (fieldref_at bytes) (cond (eqb tag 10) (methodref_at bytes) (cond (eqb tag 12) (name_and_type_at bytes) (other_at tag bytes)))) (Some x) h.1) [
        | inl g ↦ subst At (sym (eqb-true tag 7 g.0)) (class_takes bytes x fits g.1)
        | inr g ↦ elim (chosen (eqb tag 9) (fieldref_at bytes) (cond (eqb tag 10) (methodref_at bytes) (cond (eqb tag 12) (name_and_type_at bytes) (other_at tag bytes))) (Some x) g.1) [
          | inl i ↦ subst At (sym (eqb-true tag 9 i.0)) (fieldref_takes bytes x fits i.1)
          | inr i ↦ elim (chosen (eqb tag 10) (methodref_at bytes) (cond (eqb tag 12) (name_and_type_at bytes) (other_at tag bytes)) (Some x) i.1) [
            | inl j ↦ subst At (sym (eqb-true tag 10 j.0)) (methodref_takes bytes x fits j.1)
            | inr j ↦ elim (chosen (eqb tag 12) (name_and_type_at bytes) (other_at tag bytes) (Some x) j.1) [
              | inl k ↦ subst At (sym (eqb-true tag 12 k.0)) (name_and_type_takes bytes x fits k.1)
              | inr k ↦ other_takes tag bytes x fits k.1
            ]
          ]
        ]
      ]
    ]

-- an item that is read is spelled so
pub item_takes : (bytes : List ℕ) (x : Entry × Bool × List ℕ) → IsBytes bytes → item_at bytes ≡ Some x → TakesItem bytes x
unfolding item_at
item_takes [] x fits e = absurd cc
item_takes (tag ∷ bytes) x fits e = tagged_takes tag bytes x (IsBytes-rest tag bytes fits) e

-- the tag of another item is none of those that are kept
not_kept : (tag kept width : ℕ) → other_width tag ≡ Some width → other_width kept ≡ None → eqb tag kept ≡ false
not_kept tag kept width h none = ne_eqb tag kept (λ e. let both : None ≡ Some width = sym none ∙ sym (ap other_width e) ∙ h in absurd cc)

-- behind the tag of an item that is not kept such an item is read
tagged_other : (tag width : ℕ) (bytes : List ℕ) → other_width tag ≡ Some width → tagged_at tag bytes ≡ other_at tag bytes
unfolding tagged_at
tagged_other tag width bytes h =
    rw (not_kept tag 1 width h refl, not_kept tag 7 width h refl, not_kept tag 9 width h refl, not_kept tag 10 width h refl, not_kept tag 12 width h refl) refl

-- an item that is not kept is read again, whatever follows
other_again : (tag : ℕ) (content rest : List ℕ) → other_width tag ≡ Some (length content) → other_at tag (content ++ rest) ≡ Some (entry.Unused, is_wide_tag tag, rest)
unfolding other_at
other_again tag content rest h =
    bind_is (other_width tag) (λ width. bytes_at (content ++ rest) width >>= λ x. Some (entry.Unused, is_wide_tag tag, x.1)) (length content) h
    ∙ bind_is (bytes_at (content ++ rest) (length content)) (λ x. Some (entry.Unused, is_wide_tag tag, x.1)) (content, rest) (bytes_again content rest (length content) refl)

-- an item is read again, whatever follows
pub item_again : (item : Item) (rest : List ℕ) → IsItem item → item_at (item_text item ++ rest) ≡ Some (entry_of item, is_wide item, rest)
unfolding item_at tagged_at utf8_at class_at fieldref_at methodref_at name_and_type_at
item_again (Utf8 text) rest h = bind_is (text_at ((u2 (length text) ++ text) ++ rest)) (λ x. Some (entry.Utf8 x.0, false, x.1)) (text, rest) (text_again text rest h)
item_again (Class name) rest h = bind_is (u2_at (u2 name ++ rest)) (λ x. Some (entry.Class x.0, false, x.1)) (name, rest) (u2_again name rest h)
item_again (Fieldref class name_and_type) rest h = bind_is (pair_at ((u2 class ++ u2 name_and_type) ++ rest)) (λ x. Some (entry.Fieldref x.0 x.1, false, x.2)) (class, name_and_type, rest) (pair_again class name_and_type rest h.0 h.1)
item_again (Methodref class name_and_type) rest h = bind_is (pair_at ((u2 class ++ u2 name_and_type) ++ rest)) (λ x. Some (entry.Methodref x.0 x.1, false, x.2)) (class, name_and_type, rest) (pair_again class name_and_type rest h.0 h.1)
item_again (NameAndType name desc) rest h = bind_is (pair_at ((u2 name ++ u2 desc) ++ rest)) (λ x. Some (entry.NameAndType x.0 x.1, false, x.2)) (name, desc, rest) (pair_again name desc rest h.0 h.1)
item_again (Other tag content) rest h = tagged_other tag (length content) (content ++ rest) h ∙ other_again tag content rest h
