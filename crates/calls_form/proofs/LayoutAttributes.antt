-- Attributes that are passed over are spelled so, and what is spelled so is passed over. Code is found
-- among them exactly where it is one of them once.
use Rattle.std.proofs.Common.{◌≡◌, ℕ, zero, suc, true, false, List, [], ◌∷◌, ◌++◌, length, Option, Some, None, refl, sym, ap, subst, ◌∙◌, inl, inr, append_assoc, arith}
use Rattle.std.specs.Prelude.{codes}
use Rattle.std.specs.List.{flat_map, slice_get, AllByRecursion}
use Rattle.std.proofs.lemmas.Bool.{false_from_ne_true}
use Rattle.std.proofs.lemmas.List.Concat.{flat_map-cons}
use Rattle.std.proofs.lemmas.Slice.Eq.{bytes_eq-Decides}
use Rattle.calls_form.specs.declared.outline.Entry.{Entry}
use Rattle.calls_form.specs.declared.outline.Entry.TheVariants as entry
use Rattle.calls_form.specs.Layout.{u2, u4, Attribute, attribute_text, IsAttribute, attributes_text, AreAttributes}
use Rattle.calls_form.specs.Outlines.{IsNamedCode, HasOneCode}
use Rattle.calls_form.specs.Reading.{◌>>=◌, u2_at, u4_at, bytes_at}
use Rattle.calls_form.specs.LayoutReading.{attribute_at, behind_at, passed_at, is_code, found_at, code_at, one_code_at}
use Rattle.calls_form.proofs.LayoutFields.{IsBytes, bind_some, given_as, some_is, Takes, Takes-none, Takes-then, u2_takes, u2_again, u4_takes, u4_again, bytes_take, bytes_again}
use Rattle.calls_form.proofs.LayoutItems.{bind_is, chosen}

-- ---- one attribute

-- an attribute by its parts
abbrev attribute_of : ℕ → List ℕ → Attribute
attribute_of name content = record { name = name; content = content }

-- an attribute that is read is spelled so
attribute_takes : (bytes : List ℕ) (x : ℕ × List ℕ × List ℕ) → IsBytes bytes → attribute_at bytes ≡ Some x → Takes bytes (attribute_text (attribute_of x.0 x.1)) x.2 × IsAttribute (attribute_of x.0 x.1)
unfolding attribute_at
attribute_takes bytes x fits e =
    let a = bind_some (u2_at bytes) (λ name. u4_at name.1 >>= λ len. bytes_at len.1 len.0 >>= λ content. Some (name.0, content.0, content.1)) x e in
    let b = bind_some (u4_at a.0.1) (λ len. bytes_at len.1 len.0 >>= λ content. Some (a.0.0, content.0, content.1)) x a.2 in
    let c = bind_some (bytes_at b.0.1 b.0.0) (λ content. Some (a.0.0, content.0, content.1)) x b.2 in
    let s = u2_takes bytes a.0 fits a.1 in
    let t = u4_takes a.0.1 b.0 s.0.rest_fits b.1 in
    let u = bytes_take b.0.1 b.0.0 c.0 t.0.rest_fits c.1 in
    let head = Takes-then bytes (u2 a.0.0) a.0.1 (u4 b.0.0) b.0.1 s.0 t.0 in
    let both : Takes bytes ((u2 a.0.0 ++ u4 b.0.0) ++ c.0.0) c.0.1 = Takes-then bytes (u2 a.0.0 ++ u4 b.0.0) b.0.1 c.0.0 c.0.1 head u.0 in
    let whole : Takes bytes ((u2 a.0.0 ++ u4 (length c.0.0)) ++ c.0.0) c.0.1 = subst (λ (k : ℕ). Takes bytes ((u2 a.0.0 ++ u4 k) ++ c.0.0) c.0.1) (sym u.1) both in
    let made : ℕ × List ℕ × List ℕ = (a.0.0, c.0.0, c.0.1) in
    given_as (λ (y : ℕ × List ℕ × List ℕ). Takes bytes (attribute_text (attribute_of y.0 y.1)) y.2 × IsAttribute (attribute_of y.0 y.1)) made x c.2
    (whole, record { name = s.1; content = omega (arith, t.1, u.1) })

-- an attribute is read again, whatever follows
attribute_again : (a : Attribute) (rest : List ℕ) → IsAttribute a → attribute_at (attribute_text a ++ rest) ≡ Some (a.name, a.content, rest)
unfolding attribute_at
attribute_again a rest h =
    bind_is (u2_at (u2 a.name ++ (u4 (length a.content) ++ (a.content ++ rest)))) (λ name. u4_at name.1 >>= λ len. bytes_at len.1 len.0 >>= λ content. Some (name.0, content.0, content.1)) (a.name, u4 (length a.content) ++ (a.content ++ rest)) (u2_again a.name (u4 (length a.content) ++ (a.content ++ rest)) h.name)
    ∙ bind_is (u4_at (u4 (length a.content) ++ (a.content ++ rest))) (λ len. bytes_at len.1 len.0 >>= λ content. Some (a.name, content.0, content.1)) (length a.content, a.content ++ rest) (u4_again (length a.content) (a.content ++ rest) h.content)
    ∙ bind_is (bytes_at (a.content ++ rest) (length a.content)) (λ content. Some (a.name, content.0, content.1)) (a.content, rest) (bytes_again a.content rest (length a.content) refl)

-- one attribute in front of the text of others
attributes_regroup : (a : Attribute) (others : List Attribute) (rest : List ℕ) → flat_map attribute_text (a ∷ others) ++ rest ≡ attribute_text a ++ (flat_map attribute_text others ++ rest)
attributes_regroup a others rest = ap (λ (x : List ℕ). x ++ rest) (flat_map-cons attribute_text a others) ∙ append_assoc (attribute_text a) (flat_map attribute_text others) rest

-- ---- attributes that are passed over

-- as many attributes stand at the front
record TakesAttributes (n : ℕ) (bytes rest : List ℕ) : Type 0 where
  attributes : List Attribute
  are_attributes : AllByRecursion IsAttribute attributes
  count_is : length attributes ≡ n
  taken : Takes bytes (flat_map attribute_text attributes) rest

-- attributes that are passed over are spelled so
behind_takes : (n : ℕ) (bytes rest : List ℕ) → IsBytes bytes → behind_at n bytes ≡ Some rest → TakesAttributes n bytes rest
unfolding behind_at
behind_takes zero bytes rest fits e =
    given_as (λ (y : List ℕ). TakesAttributes 0 bytes y) bytes rest e (record { attributes = []; are_attributes = tt; count_is = refl; taken = Takes-none bytes fits })
behind_takes (suc n) bytes rest fits e =
    let a = bind_some (attribute_at bytes) (λ first. behind_at n first.2) rest e in
    let t = attribute_takes bytes a.0 fits a.1 in
    let r = behind_takes n a.0.2 rest t.0.rest_fits a.2 in
    let first : Attribute = attribute_of a.0.0 a.0.1 in
    let both = Takes-then bytes (attribute_text first) a.0.2 (flat_map attribute_text r.attributes) rest t.0 r.taken in
    record { attributes = first ∷ r.attributes; are_attributes = (t.1, r.are_attributes); count_is = ap suc r.count_is; taken = rw flat_map-cons both }

-- attributes are passed over, whatever follows
behind_again : (attributes : List Attribute) (rest : List ℕ) → AllByRecursion IsAttribute attributes → behind_at (length attributes) (flat_map attribute_text attributes ++ rest) ≡ Some rest
unfolding behind_at
behind_again [] rest h = refl
behind_again (a ∷ others) rest h =
    ap (behind_at (suc (length others))) (attributes_regroup a others rest)
    ∙ bind_is (attribute_at (attribute_text a ++ (flat_map attribute_text others ++ rest))) (λ first. behind_at (length others) first.2) (a.name, a.content, flat_map attribute_text others ++ rest) (attribute_again a (flat_map attribute_text others ++ rest) h.0)
    ∙ behind_again others rest h.1

-- a count and as many attributes stand at the front
pub record TakesCounted (bytes rest : List ℕ) : Type 0 where
  pub attributes : List Attribute
  pub are_attributes : AreAttributes attributes
  pub taken : Takes bytes (attributes_text attributes) rest

-- a count of attributes that is passed over is spelled so
pub passed_takes : (bytes rest : List ℕ) → IsBytes bytes → passed_at bytes ≡ Some rest → TakesCounted bytes rest
unfolding passed_at
passed_takes bytes rest fits e =
    let a = bind_some (u2_at bytes) (λ count. behind_at count.0 count.1) rest e in
    let t = u2_takes bytes a.0 fits a.1 in
    let r = behind_takes a.0.0 a.0.1 rest t.0.rest_fits a.2 in
    let both = Takes-then bytes (u2 a.0.0) a.0.1 (flat_map attribute_text r.attributes) rest t.0 r.taken in
    record {
      attributes = r.attributes;
      are_attributes = (omega (arith, t.1, r.count_is), r.are_attributes);
      taken = subst (λ (k : ℕ). Takes bytes (u2 k ++ flat_map attribute_text r.attributes) rest) (sym r.count_is) both;
    }

-- a count of attributes is passed over, whatever follows
pub passed_again : (attributes : List Attribute) (rest : List ℕ) → AreAttributes attributes → passed_at (attributes_text attributes ++ rest) ≡ Some rest
unfolding passed_at
passed_again attributes rest h =
    bind_is (u2_at (u2 (length attributes) ++ (flat_map attribute_text attributes ++ rest))) (λ count. behind_at count.0 count.1) (length attributes, flat_map attribute_text attributes ++ rest) (u2_again (length attributes) (flat_map attribute_text attributes ++ rest) h.0)
    ∙ behind_again attributes rest h.1

-- ---- the one Code

-- an entry that passes the test is the name Code
is_code-true : (o : Option Entry) → is_code o ≡ true → o ≡ Some (entry.Utf8 (codes "Code"))
unfolding is_code
is_code-true None e = absurd cc
is_code-true (Some (entry.Utf8 text)) e = ap (λ (t : List ℕ). Some (entry.Utf8 t)) ((bytes_eq-Decides text (codes "Code")).0 e)
is_code-true (Some (entry.Class name)) e = absurd cc
is_code-true (Some (entry.Fieldref class name_and_type)) e = absurd cc
is_code-true (Some (entry.Methodref class name_and_type)) e = absurd cc
is_code-true (Some (entry.NameAndType name desc)) e = absurd cc
is_code-true (Some entry.Unused) e = absurd cc

-- an attribute named Code passes the test
is_code-named : (pool : List Entry) (a : Attribute) → IsNamedCode pool a → is_code (slice_get pool a.name) ≡ true
unfolding is_code
is_code-named pool a h = ap is_code h

-- an attribute not named Code fails the test
is_code-not_named : (pool : List Entry) (a : Attribute) → (IsNamedCode pool a → ⊥) → is_code (slice_get pool a.name) ≡ false
is_code-not_named pool a h = false_from_ne_true (is_code (slice_get pool a.name)) (λ e. h (is_code-true (slice_get pool a.name) e))

-- an attribute that fails the test is not named Code
is_code-false : (pool : List Entry) (a : Attribute) → is_code (slice_get pool a.name) ≡ false → IsNamedCode pool a → ⊥
is_code-false pool a e h = let both : true ≡ false = sym (is_code-named pool a h) ∙ e in absurd cc

-- what found_at gives, over a list of attributes
found_among : List Entry → Option (List ℕ) → List Attribute → Option (Option (List ℕ))
found_among pool found [] = Some found
found_among pool found (a ∷ others) = found_at pool found a.name a.content >>= λ next. found_among pool next others

-- nothing more is named Code behind the one that was found
none_behind : (pool : List Entry) (content : List ℕ) (attributes : List Attribute) (x : Option (List ℕ)) → found_among pool (Some content) attributes ≡ Some x
    → AllByRecursion (λ a. ¬ IsNamedCode pool a) attributes × (x ≡ Some content)
unfolding found_among found_at
none_behind pool content [] x e = (tt, sym (some_is (Some content) x e))
none_behind pool content (a ∷ others) x e =
    let b = bind_some (found_at pool (Some content) a.name a.content) (λ next. found_among pool next others) x e in
    elim (chosen (is_code (slice_get pool a.name)) None (Some (Some content)) (Some b.0) b.1) [
      | inl h ↦ absurd (let no : None ≡ Some b.0 = h.1 in cc)
      | inr h ↦
          let r = none_behind pool content others x (ap (λ (f : Option (List ℕ)). found_among pool f others) (some_is (Some content) b.0 h.1) ∙ b.2) in
          ((is_code-false pool a h.0, r.0), r.1)
    ]

-- what was found stays where nothing more is named Code
none_behind-again : (pool : List Entry) (content : List ℕ) (attributes : List Attribute) → AllByRecursion (λ a. ¬ IsNamedCode pool a) attributes → found_among pool (Some content) attributes ≡ Some (Some content)
unfolding found_among found_at
none_behind-again pool content [] h = refl
none_behind-again pool content (a ∷ others) h = rw (is_code-not_named pool a h.0) (none_behind-again pool content others h.1)

-- what is found was the one Code
one_code : (pool : List Entry) (content : List ℕ) (attributes : List Attribute) → found_among pool None attributes ≡ Some (Some content) → HasOneCode pool attributes content
unfolding found_among found_at
one_code pool content [] e = absurd cc
one_code pool content (a ∷ others) e =
    let b = bind_some (found_at pool None a.name a.content) (λ next. found_among pool next others) (Some content) e in
    elim (chosen (is_code (slice_get pool a.name)) (Some (Some a.content)) (Some None) (Some b.0) b.1) [
      | inl h ↦
          let r = none_behind pool a.content others (Some content) (ap (λ (f : Option (List ℕ)). found_among pool f others) (some_is (Some a.content) b.0 h.1) ∙ b.2) in
          record { before = []; after = others; code = a; parts = refl; named = is_code-true (slice_get pool a.name) h.0; none_before = tt; none_after = r.0; content_is = sym (some_is content a.content r.1) }
      | inr h ↦
          let r = one_code pool content others (ap (λ (f : Option (List ℕ)). found_among pool f others) (some_is None b.0 h.1) ∙ b.2) in
          record { before = a ∷ r.before; after = r.after; code = r.code; parts = ap (λ (x : List Attribute). a ∷ x) r.parts; named = r.named; none_before = (is_code-false pool a h.0, r.none_before); none_after = r.none_after; content_is = r.content_is }
    ]

-- the one Code is found, whatever stands before and after it
one_code_between : (pool : List Entry) (before after : List Attribute) (code : Attribute) → AllByRecursion (λ a. ¬ IsNamedCode pool a) before → IsNamedCode pool code → AllByRecursion (λ a. ¬ IsNamedCode pool a) after
    → found_among pool None (before ++ code ∷ after) ≡ Some (Some code.content)
unfolding found_among found_at
one_code_between pool [] after code none_before named none_after = rw (is_code-named pool code named) (none_behind-again pool code.content after none_after)
one_code_between pool (a ∷ before) after code none_before named none_after = rw (is_code-not_named pool a none_before.0) (one_code_between pool before after code none_before.1 named none_after)

-- the one Code is found
one_code-again : (pool : List Entry) (content : List ℕ) (attributes : List Attribute) → HasOneCode pool attributes content → found_among pool None attributes ≡ Some (Some content)
one_code-again pool content attributes h =
    ap (found_among pool None) h.parts ∙ one_code_between pool h.before h.after h.code h.none_before h.named h.none_after ∙ ap (λ (c : List ℕ). Some (Some c)) h.content_is

-- ---- the attributes of a method

-- as many attributes stand at the front, and this is found among them
record TakesFound (pool : List Entry) (n : ℕ) (found : Option (List ℕ)) (bytes : List ℕ) (x : Option (List ℕ) × List ℕ) : Type 0 where
  attributes : List Attribute
  are_attributes : AllByRecursion IsAttribute attributes
  count_is : length attributes ≡ n
  taken : Takes bytes (flat_map attribute_text attributes) x.1
  found_is : found_among pool found attributes ≡ Some x.0

-- attributes among which Code is looked for are spelled so
code_takes : (pool : List Entry) (n : ℕ) (found : Option (List ℕ)) (bytes : List ℕ) (x : Option (List ℕ) × List ℕ) → IsBytes bytes → code_at pool n found bytes ≡ Some x → TakesFound pool n found bytes x
unfolding code_at found_among
code_takes pool zero found bytes x fits e =
    given_as (λ (y : Option (List ℕ) × List ℕ). TakesFound pool 0 found bytes y) (found, bytes) x e (record { attributes = []; are_attributes = tt; count_is = refl; taken = Takes-none bytes fits; found_is = refl })
code_takes pool (suc n) found bytes x fits e =
    let a = bind_some (attribute_at bytes) (λ first. found_at pool found first.0 first.1 >>= λ next. code_at pool n next first.2) x e in
    let b = bind_some (found_at pool found a.0.0 a.0.1) (λ next. code_at pool n next a.0.2) x a.2 in
    let t = attribute_takes bytes a.0 fits a.1 in
    let r = code_takes pool n b.0 a.0.2 x t.0.rest_fits b.2 in
    let first : Attribute = attribute_of a.0.0 a.0.1 in
    let both = Takes-then bytes (attribute_text first) a.0.2 (flat_map attribute_text r.attributes) x.1 t.0 r.taken in
    record {
      attributes = first ∷ r.attributes;
      are_attributes = (t.1, r.are_attributes);
      count_is = ap suc r.count_is;
      taken = rw flat_map-cons both;
      found_is = bind_is (found_at pool found a.0.0 a.0.1) (λ next. found_among pool next r.attributes) b.0 b.1 ∙ r.found_is;
    }

-- attributes among which Code is looked for are read again, whatever follows
code_again : (pool : List Entry) (attributes : List Attribute) (found x : Option (List ℕ)) (rest : List ℕ) → AllByRecursion IsAttribute attributes → found_among pool found attributes ≡ Some x
    → code_at pool (length attributes) found (flat_map attribute_text attributes ++ rest) ≡ Some (x, rest)
unfolding code_at found_among
code_again pool [] found x rest h e = ap (λ (y : Option (List ℕ)). Some (y, rest)) (some_is found x e)
code_again pool (a ∷ others) found x rest h e =
    let b = bind_some (found_at pool found a.name a.content) (λ next. found_among pool next others) x e in
    ap (code_at pool (suc (length others)) found) (attributes_regroup a others rest)
    ∙ bind_is (attribute_at (attribute_text a ++ (flat_map attribute_text others ++ rest))) (λ first. found_at pool found first.0 first.1 >>= λ next. code_at pool (length others) next first.2) (a.name, a.content, flat_map attribute_text others ++ rest) (attribute_again a (flat_map attribute_text others ++ rest) h.0)
    ∙ bind_is (found_at pool found a.name a.content) (λ next. code_at pool (length others) next (flat_map attribute_text others ++ rest)) b.0 b.1
    ∙ code_again pool others b.0 x rest h.1 b.2

-- a count and as many attributes stand at the front, one of which is Code, with this content
pub record TakesOneCode (pool : List Entry) (bytes : List ℕ) (x : List ℕ × List ℕ) : Type 0 where
  pub attributes : List Attribute
  pub are_attributes : AreAttributes attributes
  pub taken : Takes bytes (attributes_text attributes) x.1
  pub code : HasOneCode pool attributes x.0

-- attributes of a method that are read are spelled so, and one is Code
pub one_code_takes : (pool : List Entry) (bytes : List ℕ) (x : List ℕ × List ℕ) → IsBytes bytes → one_code_at pool bytes ≡ Some x → TakesOneCode pool bytes x
unfolding one_code_at
one_code_takes pool bytes x fits e =
    let a = bind_some (u2_at bytes) (λ count. code_at pool count.0 None count.1 >>= λ found. found.0 >>= λ content. Some (content, found.1)) x e in
    let b = bind_some (code_at pool a.0.0 None a.0.1) (λ found. found.0 >>= λ content. Some (content, found.1)) x a.2 in
    let c = bind_some b.0.0 (λ content. Some (content, b.0.1)) x b.2 in
    let t = u2_takes bytes a.0 fits a.1 in
    let r = code_takes pool a.0.0 None a.0.1 b.0 t.0.rest_fits b.1 in
    let both = Takes-then bytes (u2 a.0.0) a.0.1 (flat_map attribute_text r.attributes) b.0.1 t.0 r.taken in
    let made : List ℕ × List ℕ = (c.0, b.0.1) in
    given_as (λ (y : List ℕ × List ℕ). TakesOneCode pool bytes y) made x c.2
    (record {
      attributes = r.attributes;
      are_attributes = (omega (arith, t.1, r.count_is), r.are_attributes);
      taken = subst (λ (k : ℕ). Takes bytes (u2 k ++ flat_map attribute_text r.attributes) b.0.1) (sym r.count_is) both;
      code = one_code pool c.0 r.attributes (r.found_is ∙ ap (λ (f : Option (List ℕ)). Some f) c.1);
    })

-- attributes of a method with one Code are read again, whatever follows
pub one_code_again : (pool : List Entry) (attributes : List Attribute) (content rest : List ℕ) → AreAttributes attributes → HasOneCode pool attributes content
    → one_code_at pool (attributes_text attributes ++ rest) ≡ Some (content, rest)
unfolding one_code_at
one_code_again pool attributes content rest h one =
    bind_is (u2_at (u2 (length attributes) ++ (flat_map attribute_text attributes ++ rest))) (λ count. code_at pool count.0 None count.1 >>= λ found. found.0 >>= λ c. Some (c, found.1)) (length attributes, flat_map attribute_text attributes ++ rest) (u2_again (length attributes) (flat_map attribute_text attributes ++ rest) h.0)
    ∙ bind_is (code_at pool (length attributes) None (flat_map attribute_text attributes ++ rest)) (λ found. found.0 >>= λ c. Some (c, found.1)) (Some content, rest) (code_again pool attributes None (Some content) rest h.1 (one_code-again pool content attributes one))
