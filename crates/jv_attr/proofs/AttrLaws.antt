-- An attribute that is read is spelled so, and what is spelled so is read.
use Rattle.std.proofs.Common.{◌≡◌, ℕ, ◌^◌, ◌<◌, ◌≤◌, Bool, true, false, cond, eqb, leb, ltb, ◌||◌, IsTrue, List, [], ◌∷◌, ◌++◌, length, Option, Some, None, refl, sym, ap, ◌∙◌, append_assoc, arith}
use Rattle.std.specs.Prelude.{count_by}
use Rattle.std.specs.List.{AllByRecursion, flat_map}
use Rattle.std.proofs.lemmas.Bool.{eqb-false, ne_eqb, leb-true, le-leb, ltb-false, le-ltb}
use Rattle.std.proofs.lemmas.List.{append-nil}
use Rattle.jv_types.specs.declared.raw_handler.RawHandler.{RawHandler}
use Rattle.jv_pool.specs.declared.item.PoolItem.{PoolItem}
use Rattle.jv_pool.specs.Lookups.{text_at}
use Rattle.jv_pool.specs.PoolText.{u2, u4}
use Rattle.jv_read.specs.Reading.{◌>>=◌, number_at, bytes_at}
use Rattle.jv_read.proofs.Fronts.{bind_some, bind_is, past_true, past_false, given_as, some_is, joined, number_takes, number_again, bytes_take, bytes_again}
use Rattle.jv_attr.specs.declared.frame.MapFrame.{MapFrame}
use Rattle.jv_attr.specs.declared.attr.Attr.{Attr}
use Rattle.jv_attr.specs.declared.attr.AttrBody.{AttrBody}
use Rattle.jv_attr.specs.declared.attr.AttrBody.TheVariants.{Code, Maps, Raw}
use Rattle.jv_attr.specs.declared.attr.CodeAttr.{CodeAttr}
use Rattle.std.specs.declared.convert.Infallible.{Infallible as NoCode}
use Rattle.jv_lists.proofs.Tests.{both_false}
use Rattle.jv_attr.specs.declared.owner.Owner as owners
use Rattle.jv_attr.specs.declared.owner.Owner.TheVariants as owner
use Rattle.jv_attr.specs.FrameText.{frames_text}
use Rattle.jv_attr.specs.AttrText.{is_code, is_maps, body_text, IsBody, HasFewWith, IsShortWith, no_code_text, IsNoCode, inner_text, IsInner, IsInnerFew, IsInnerShort, has_maps, handler_text, is_catch, IsRawHandler, code_text, IsCode, IsFewCode, IsShortCode, attr_text, IsAttr, HasFew, IsShort, IsAttrText, BeginsWithAttr}
use Rattle.jv_read.specs.Reading.{counted_at}
use Rattle.jv_attr.specs.Steps.AttrReading.{maps_at, head_at, other_at, inner_at, handler_at, handlers_at, code_bytes_at, inners_at, code_at, whole_code_at, body_at, attr_at}
use Rattle.jv_read.proofs.Many.{counted_take, counted_again}
use Rattle.jv_attr.proofs.FrameLaws.{maps_take, maps_again, nothing_left}

-- ---- a name and a content

-- they stand in front of what is left
record TakesHead (pool : List PoolItem) (bytes : List ℕ) (x : (ℕ × List ℕ × List ℕ) × List ℕ) : Type 0 where
  name_fits : x.0.0 < 2 ^ 16
  named : text_at pool x.0.0 ≡ Some x.0.1
  short : length x.0.2 < 2 ^ 32
  spelled : bytes ≡ (u2 x.0.0 ++ u4 (length x.0.2) ++ x.0.2) ++ x.1

head_takes : (pool : List PoolItem) (bytes : List ℕ) (x : (ℕ × List ℕ × List ℕ) × List ℕ) → head_at pool bytes ≡ Some x → TakesHead pool bytes x
unfolding head_at
head_takes pool bytes x e =
    let a = bind_some (number_at 2 bytes) (λ name. text_at pool name.0 >>= λ text. number_at 4 name.1 >>= λ len. bytes_at len.0 len.1 >>= λ content. Some ((name.0, text, content.0), content.1)) x e in
    let b = bind_some (text_at pool a.0.0) (λ text. number_at 4 a.0.1 >>= λ len. bytes_at len.0 len.1 >>= λ content. Some ((a.0.0, text, content.0), content.1)) x a.2 in
    let c = bind_some (number_at 4 a.0.1) (λ len. bytes_at len.0 len.1 >>= λ content. Some ((a.0.0, b.0, content.0), content.1)) x b.2 in
    let d = bind_some (bytes_at c.0.0 c.0.1) (λ content. Some ((a.0.0, b.0, content.0), content.1)) x c.2 in
    let s = number_takes 2 bytes a.0 a.1 in
    let t = number_takes 4 a.0.1 c.0 c.1 in
    let u = bytes_take c.0.0 c.0.1 d.0 d.1 in
    let made : (ℕ × List ℕ × List ℕ) × List ℕ = ((a.0.0, b.0, d.0.0), d.0.1) in
    let head : bytes ≡ (u2 a.0.0 ++ u4 (length d.0.0)) ++ c.0.1 = joined bytes (u2 a.0.0) (u4 (length d.0.0)) a.0.1 c.0.1 s.0 (t.0 ∙ ap (λ (k : ℕ). u4 k ++ c.0.1) (sym u.1)) in
    let whole : bytes ≡ (u2 a.0.0 ++ u4 (length d.0.0) ++ d.0.0) ++ d.0.1 = joined bytes (u2 a.0.0 ++ u4 (length d.0.0)) d.0.0 c.0.1 d.0.1 head u.0 in
    given_as (λ (y : (ℕ × List ℕ × List ℕ) × List ℕ). TakesHead pool bytes y) made x d.2
    (record { name_fits = s.1; named = b.1; short = omega (arith, u.1, t.1); spelled = whole })

head_again : (pool : List PoolItem) (name : ℕ) (text content rest : List ℕ) → name < 2 ^ 16 → text_at pool name ≡ Some text → length content < 2 ^ 32
    → head_at pool ((u2 name ++ u4 (length content) ++ content) ++ rest) ≡ Some ((name, text, content), rest)
unfolding head_at
head_again pool name text content rest lt named short =
    let flat : (u2 name ++ u4 (length content) ++ content) ++ rest ≡ u2 name ++ (u4 (length content) ++ (content ++ rest)) = simp append_assoc in
    ap (λ (b : List ℕ). number_at 2 b >>= λ n. text_at pool n.0 >>= λ t. number_at 4 n.1 >>= λ len. bytes_at len.0 len.1 >>= λ c. Some ((n.0, t, c.0), c.1)) flat
    ∙ bind_is (number_at 2 (u2 name ++ (u4 (length content) ++ (content ++ rest)))) (λ n. text_at pool n.0 >>= λ t. number_at 4 n.1 >>= λ len. bytes_at len.0 len.1 >>= λ c. Some ((n.0, t, c.0), c.1)) (name, u4 (length content) ++ (content ++ rest)) (number_again 2 name (u4 (length content) ++ (content ++ rest)) lt)
    ∙ bind_is (text_at pool name) (λ t. number_at 4 (u4 (length content) ++ (content ++ rest)) >>= λ len. bytes_at len.0 len.1 >>= λ c. Some ((name, t, c.0), c.1)) text named
    ∙ bind_is (number_at 4 (u4 (length content) ++ (content ++ rest))) (λ len. bytes_at len.0 len.1 >>= λ c. Some ((name, text, c.0), c.1)) (length content, content ++ rest) (number_again 4 (length content) (content ++ rest) short)
    ∙ bind_is (bytes_at (length content) (content ++ rest)) (λ c. Some ((name, text, c.0), c.1)) (content, rest) (bytes_again content rest (length content) refl)

-- ---- a body that isn't a code

-- what was read of a content
record TakesBody {C : Type 0} (code : C → List ℕ) (IsC : C → Type 0) (Few Short : C → Type 0) (pool : List PoolItem) (as_code as_maps : Bool) (content : List ℕ) (body : AttrBody C) : Type 0 where
  is_body : IsBody IsC pool as_code as_maps body
  few : HasFewWith Few body
  short : IsShortWith Short body
  spelled : content ≡ body_text code body

other_takes : {C : Type 0} (code : C → List ℕ) (IsC Few Short : C → Type 0) (pool : List PoolItem) (as_maps : Bool) (content : List ℕ) (body : AttrBody C) → other_at pool as_maps content ≡ Some body
    → TakesBody code IsC Few Short pool false as_maps content body
unfolding other_at
other_takes {C} code IsC Few Short pool false content body e =
    let made : AttrBody C = Raw content in
    given_as (λ (b : AttrBody C). TakesBody code IsC Few Short pool false false content b) made body e
    (record { is_body = (refl, refl); few = tt; short = tt; spelled = refl })
other_takes {C} code IsC Few Short pool true content body e =
    let made_of : List MapFrame → Option (AttrBody C) = λ frames. Some (Maps frames) in
    let a = bind_some (maps_at pool content) made_of body e in
    let t = maps_take pool content a.0 a.1 in
    let made : AttrBody C = Maps a.0 in
    given_as (λ (b : AttrBody C). TakesBody code IsC Few Short pool false true content b) made body a.2
    (record { is_body = (refl, t.0); few = t.1; short = tt; spelled = t.2 })

other_again : {C : Type 0} (code : C → List ℕ) (IsC Few : C → Type 0) (pool : List PoolItem) (as_maps : Bool) (body : AttrBody C) → IsBody IsC pool false as_maps body → HasFewWith Few body
    → other_at pool as_maps (body_text code body) ≡ Some body
unfolding other_at
other_again {C} code IsC Few pool as_maps (Code c) h few = absurd (no h.0)
  where
    no : IsTrue false → ⊥
    no e = absurd cc
other_again {C} code IsC Few pool true (Maps frames) h few =
    bind_is (maps_at pool (frames_text frames)) (λ fs. Some (Maps fs)) frames (maps_again pool frames h.1 few)
other_again {C} code IsC Few pool false (Maps frames) h few = absurd (no h.0)
  where
    no : IsTrue false → ⊥
    no e = absurd cc
other_again {C} code IsC Few pool true (Raw bytes) h few = absurd (no h.1)
  where
    no : true ≡ false → ⊥
    no e = absurd cc
other_again {C} code IsC Few pool false (Raw bytes) h few = refl

-- ---- attributes of a Code

-- such an attribute, with counts and lengths that fit
abbrev IsWholeInner : List PoolItem → ℕ → Attr NoCode → Type 0
IsWholeInner pool major a = IsInner pool major a × IsInnerFew a × IsInnerShort a

inner_takes : (pool : List PoolItem) (major : ℕ) (bytes : List ℕ) (x : Attr NoCode × List ℕ) → inner_at pool major bytes ≡ Some x → IsWholeInner pool major x.0 × (bytes ≡ inner_text x.0 ++ x.1)
unfolding inner_at
inner_takes pool major bytes x e =
    let a = bind_some (head_at pool bytes) (λ head. other_at {C = NoCode} pool (is_maps owner.Code major head.0.1) head.0.2 >>= λ body. Some (record { name = head.0.0; body = body }, head.1)) x e in
    let b = bind_some (other_at {C = NoCode} pool (is_maps owner.Code major a.0.0.1) a.0.0.2) (λ body. Some (record { name = a.0.0.0; body = body }, a.0.1)) x a.2 in
    let h = head_takes pool bytes a.0 a.1 in
    let t = other_takes no_code_text IsNoCode IsNoCode IsNoCode pool (is_maps owner.Code major a.0.0.1) a.0.0.2 b.0 b.1 in
    let made : Attr NoCode × List ℕ = (record { name = a.0.0.0; body = b.0 }, a.0.1) in
    let is_inner : IsInner pool major made.0 = record { name_fits = h.name_fits; name = a.0.0.1; named = h.named; body = t.is_body } in
    let short : length (body_text no_code_text b.0) < 2 ^ 32 = omega (arith, h.short, ap length t.spelled) in
    let whole : bytes ≡ inner_text made.0 ++ a.0.1 = h.spelled ∙ ap (λ (c : List ℕ). (u2 a.0.0.0 ++ u4 (length c) ++ c) ++ a.0.1) t.spelled in
    given_as (λ (y : Attr NoCode × List ℕ). IsWholeInner pool major y.0 × (bytes ≡ inner_text y.0 ++ y.1)) made x b.2 ((is_inner, t.few, short), whole)

inner_again : (pool : List PoolItem) (major : ℕ) (a : Attr NoCode) (rest : List ℕ) → IsWholeInner pool major a → inner_at pool major (inner_text a ++ rest) ≡ Some (a, rest)
unfolding inner_at
inner_again pool major a rest h =
    let content = body_text no_code_text a.body in
    bind_is (head_at pool (inner_text a ++ rest)) (λ head. other_at {C = NoCode} pool (is_maps owner.Code major head.0.1) head.0.2 >>= λ body. Some (record { name = head.0.0; body = body }, head.1)) ((a.name, h.0.name, content), rest) (head_again pool a.name h.0.name content rest h.0.name_fits h.0.named h.2)
    ∙ bind_is (other_at {C = NoCode} pool (is_maps owner.Code major h.0.name) content) (λ body. Some (record { name = a.name; body = body }, rest)) a.body (other_again no_code_text IsNoCode IsNoCode pool (is_maps owner.Code major h.0.name) a.body h.0.body h.1)

inners_take : (pool : List PoolItem) (major : ℕ) (bytes : List ℕ) (x : List (Attr NoCode) × List ℕ) → inners_at pool major bytes ≡ Some x
    → AllByRecursion (IsWholeInner pool major) x.0 × (length x.0 < 2 ^ 16) × (count_by has_maps x.0 ≤ 1) × (bytes ≡ (u2 (length x.0) ++ flat_map inner_text x.0) ++ x.1)
unfolding inners_at
inners_take pool major bytes x e =
    let b = bind_some (counted_at (inner_at pool major) bytes) (λ attrs. cond (leb (count_by has_maps attrs.0) 1) (Some attrs) None) x e in
    let g = past_true (leb (count_by has_maps b.0.0) 1) (Some b.0) x b.2 in
    let t = counted_take (inner_at pool major) inner_text (IsWholeInner pool major) (inner_takes pool major) bytes b.0 b.1 in
    given_as (λ (y : List (Attr NoCode) × List ℕ). AllByRecursion (IsWholeInner pool major) y.0 × (length y.0 < 2 ^ 16) × (count_by has_maps y.0 ≤ 1) × (bytes ≡ (u2 (length y.0) ++ flat_map inner_text y.0) ++ y.1)) b.0 x g.1
    (t.0, t.1, leb-true (count_by has_maps b.0.0) 1 g.0, t.2)

inners_again : (pool : List PoolItem) (major : ℕ) (attrs : List (Attr NoCode)) (rest : List ℕ) → AllByRecursion (IsWholeInner pool major) attrs → length attrs < 2 ^ 16 → count_by has_maps attrs ≤ 1
    → inners_at pool major ((u2 (length attrs) ++ flat_map inner_text attrs) ++ rest) ≡ Some (attrs, rest)
unfolding inners_at
inners_again pool major attrs rest h few one =
    let test : leb (count_by has_maps attrs) 1 ≡ true = le-leb (count_by has_maps attrs) 1 one in
    bind_is (counted_at (inner_at pool major) ((u2 (length attrs) ++ flat_map inner_text attrs) ++ rest)) (λ x. cond (leb (count_by has_maps x.0) 1) (Some x) None) (attrs, rest) (counted_again (inner_at pool major) inner_text (IsWholeInner pool major) (inner_again pool major) attrs rest h few)
    ∙ ap (λ (b : Bool). cond b (some_attrs (attrs, rest)) None) test
  where
    some_attrs : List (Attr NoCode) × List ℕ → Option (List (Attr NoCode) × List ℕ)
    some_attrs x = Some x

-- ---- handlers

handler_takes : (pool : List PoolItem) (bytes : List ℕ) (x : RawHandler × List ℕ) → handler_at pool bytes ≡ Some x → IsRawHandler pool x.0 × (bytes ≡ handler_text x.0 ++ x.1)
unfolding handler_at
handler_takes pool bytes x e =
    let a = bind_some (number_at 2 bytes) (λ s. number_at 2 s.1 >>= λ n. number_at 2 n.1 >>= λ t. number_at 2 t.1 >>= λ c. cond (is_catch pool c.0) (Some (record { start = s.0; end = n.0; target = t.0; catch = c.0 }, c.1)) None) x e in
    let b = bind_some (number_at 2 a.0.1) (λ n. number_at 2 n.1 >>= λ t. number_at 2 t.1 >>= λ c. cond (is_catch pool c.0) (Some (record { start = a.0.0; end = n.0; target = t.0; catch = c.0 }, c.1)) None) x a.2 in
    let c = bind_some (number_at 2 b.0.1) (λ t. number_at 2 t.1 >>= λ c. cond (is_catch pool c.0) (Some (record { start = a.0.0; end = b.0.0; target = t.0; catch = c.0 }, c.1)) None) x b.2 in
    let d = bind_some (number_at 2 c.0.1) (λ d. cond (is_catch pool d.0) (Some (record { start = a.0.0; end = b.0.0; target = c.0.0; catch = d.0 }, d.1)) None) x c.2 in
    let made : RawHandler × List ℕ = (record { start = a.0.0; end = b.0.0; target = c.0.0; catch = d.0.0 }, d.0.1) in
    let g = past_true (is_catch pool d.0.0) (Some made) x d.2 in
    let p = number_takes 2 bytes a.0 a.1 in
    let q = number_takes 2 a.0.1 b.0 b.1 in
    let r = number_takes 2 b.0.1 c.0 c.1 in
    let s = number_takes 2 c.0.1 d.0 d.1 in
    let two = joined bytes (u2 a.0.0) (u2 b.0.0) a.0.1 b.0.1 p.0 q.0 in
    let three = joined bytes (u2 a.0.0 ++ u2 b.0.0) (u2 c.0.0) b.0.1 c.0.1 two r.0 in
    let four = joined bytes ((u2 a.0.0 ++ u2 b.0.0) ++ u2 c.0.0) (u2 d.0.0) c.0.1 d.0.1 three s.0 in
    given_as (λ (y : RawHandler × List ℕ). IsRawHandler pool y.0 × (bytes ≡ handler_text y.0 ++ y.1)) made x g.1
    (record { start = p.1; end = q.1; target = r.1; catch = s.1; class = g.0 }, four)

handler_again : (pool : List PoolItem) (h : RawHandler) (rest : List ℕ) → IsRawHandler pool h → handler_at pool (handler_text h ++ rest) ≡ Some (h, rest)
unfolding handler_at
handler_again pool h rest i =
    let four = u2 h.catch ++ rest in
    let three = u2 h.target ++ four in
    let two = u2 h.end ++ three in
    let flat : handler_text h ++ rest ≡ u2 h.start ++ two = simp append_assoc in
    ap (λ (b : List ℕ). number_at 2 b >>= λ s. number_at 2 s.1 >>= λ n. number_at 2 n.1 >>= λ t. number_at 2 t.1 >>= λ c. cond (is_catch pool c.0) (some_handler (record { start = s.0; end = n.0; target = t.0; catch = c.0 }, c.1)) None) flat
    ∙ bind_is (number_at 2 (u2 h.start ++ two)) (λ s. number_at 2 s.1 >>= λ n. number_at 2 n.1 >>= λ t. number_at 2 t.1 >>= λ c. cond (is_catch pool c.0) (some_handler (record { start = s.0; end = n.0; target = t.0; catch = c.0 }, c.1)) None) (h.start, two) (number_again 2 h.start two i.start)
    ∙ bind_is (number_at 2 two) (λ n. number_at 2 n.1 >>= λ t. number_at 2 t.1 >>= λ c. cond (is_catch pool c.0) (some_handler (record { start = h.start; end = n.0; target = t.0; catch = c.0 }, c.1)) None) (h.end, three) (number_again 2 h.end three i.end)
    ∙ bind_is (number_at 2 three) (λ t. number_at 2 t.1 >>= λ c. cond (is_catch pool c.0) (some_handler (record { start = h.start; end = h.end; target = t.0; catch = c.0 }, c.1)) None) (h.target, four) (number_again 2 h.target four i.target)
    ∙ bind_is (number_at 2 four) (λ c. cond (is_catch pool c.0) (some_handler (record { start = h.start; end = h.end; target = h.target; catch = c.0 }, c.1)) None) (h.catch, rest) (number_again 2 h.catch rest i.catch)
    ∙ ap (λ (b : Bool). cond b (some_handler (h, rest)) None) i.class
  where
    some_handler : RawHandler × List ℕ → Option (RawHandler × List ℕ)
    some_handler x = Some x

handlers_take : (pool : List PoolItem) (bytes : List ℕ) (x : List RawHandler × List ℕ) → handlers_at pool bytes ≡ Some x
    → AllByRecursion (IsRawHandler pool) x.0 × (length x.0 < 2 ^ 16) × (bytes ≡ (u2 (length x.0) ++ flat_map handler_text x.0) ++ x.1)
handlers_take pool bytes x e = counted_take (handler_at pool) handler_text (IsRawHandler pool) (handler_takes pool) bytes x e

handlers_again : (pool : List PoolItem) (handlers : List RawHandler) (rest : List ℕ) → AllByRecursion (IsRawHandler pool) handlers → length handlers < 2 ^ 16
    → handlers_at pool ((u2 (length handlers) ++ flat_map handler_text handlers) ++ rest) ≡ Some (handlers, rest)
handlers_again pool handlers rest h few = counted_again (handler_at pool) handler_text (IsRawHandler pool) (handler_again pool) handlers rest h few

-- each of its attributes, with one of the three things that are known of it
inner_each : (pool : List PoolItem) (major : ℕ) (attrs : List (Attr NoCode)) → AllByRecursion (IsWholeInner pool major) attrs → AllByRecursion (IsInner pool major) attrs
inner_each pool major [] h = tt
inner_each pool major (a ∷ attrs) h = (h.0.0, inner_each pool major attrs h.1)

few_each : (pool : List PoolItem) (major : ℕ) (attrs : List (Attr NoCode)) → AllByRecursion (IsWholeInner pool major) attrs → AllByRecursion IsInnerFew attrs
few_each pool major [] h = tt
few_each pool major (a ∷ attrs) h = (h.0.1, few_each pool major attrs h.1)

short_each : (pool : List PoolItem) (major : ℕ) (attrs : List (Attr NoCode)) → AllByRecursion (IsWholeInner pool major) attrs → AllByRecursion IsInnerShort attrs
short_each pool major [] h = tt
short_each pool major (a ∷ attrs) h = (h.0.2, short_each pool major attrs h.1)

whole_each : (pool : List PoolItem) (major : ℕ) (attrs : List (Attr NoCode)) → AllByRecursion (IsInner pool major) attrs → AllByRecursion IsInnerFew attrs → AllByRecursion IsInnerShort attrs → AllByRecursion (IsWholeInner pool major) attrs
whole_each pool major [] p q r = tt
whole_each pool major (a ∷ attrs) p q r = ((p.0, q.0, r.0), whole_each pool major attrs p.1 q.1 r.1)

-- ---- a Code

code_bytes_take : (bytes : List ℕ) (x : List ℕ × List ℕ) → code_bytes_at bytes ≡ Some x → (0 < length x.0) × (length x.0 < 2 ^ 16) × (bytes ≡ (u4 (length x.0) ++ x.0) ++ x.1)
unfolding code_bytes_at
code_bytes_take bytes x e =
    let a = bind_some (number_at 4 bytes) (λ len. cond (eqb len.0 0 || ltb 65535 len.0) None (bytes_at len.0 len.1)) x e in
    let g = past_false (eqb a.0.0 0 || ltb 65535 a.0.0) (bytes_at a.0.0 a.0.1) x a.2 in
    let f = both_false (eqb a.0.0 0) (ltb 65535 a.0.0) g.0 in
    let not_zero : a.0.0 ≡ 0 → ⊥ = eqb-false a.0.0 0 f.0 in
    let small : a.0.0 ≤ 65535 = ltb-false 65535 a.0.0 f.1 in
    let s = number_takes 4 bytes a.0 a.1 in
    let t = bytes_take a.0.0 a.0.1 x g.1 in
    (omega (arith, t.1, not_zero), omega (arith, t.1, small), joined bytes (u4 (length x.0)) x.0 a.0.1 x.1 (s.0 ∙ ap (λ (k : ℕ). u4 k ++ a.0.1) (sym t.1)) t.0)

code_bytes_again : (code rest : List ℕ) → 0 < length code → length code < 2 ^ 16 → code_bytes_at ((u4 (length code) ++ code) ++ rest) ≡ Some (code, rest)
unfolding code_bytes_at
code_bytes_again code rest some short =
    let not_zero : eqb (length code) 0 ≡ false = ne_eqb (length code) 0 (λ e. omega (arith, e, some)) in
    let small : ltb 65535 (length code) ≡ false = le-ltb 65535 (length code) (omega (arith, short)) in
    ap (λ (b : List ℕ). number_at 4 b >>= λ len. cond (eqb len.0 0 || ltb 65535 len.0) None (bytes_at len.0 len.1)) (append_assoc (u4 (length code)) code rest)
    ∙ bind_is (number_at 4 (u4 (length code) ++ (code ++ rest))) (λ len. cond (eqb len.0 0 || ltb 65535 len.0) None (bytes_at len.0 len.1)) (length code, code ++ rest) (number_again 4 (length code) (code ++ rest) (omega (arith, short)))
    ∙ rw (not_zero, small) (bytes_again code rest (length code) refl)

-- a code, with counts and lengths that fit
abbrev IsWholeCode : List PoolItem → ℕ → CodeAttr → Type 0
IsWholeCode pool major c = IsCode pool major c × IsFewCode c × IsShortCode c

-- the texts of the parts of a code, one behind the other
regroup : (m n k c l o i j : List ℕ) → (((m ++ n) ++ (k ++ c)) ++ (l ++ o)) ++ (i ++ j) ≡ ((((((m ++ n) ++ k) ++ c) ++ l) ++ o) ++ i) ++ j
regroup m n k c l o i j = simp append_assoc

code_takes : (pool : List PoolItem) (major : ℕ) (bytes : List ℕ) (x : CodeAttr × List ℕ) → code_at pool major bytes ≡ Some x → IsWholeCode pool major x.0 × (bytes ≡ code_text x.0 ++ x.1)
unfolding code_at
code_takes pool major bytes x e =
    let a = bind_some (number_at 2 bytes) (λ s. number_at 2 s.1 >>= λ l. code_bytes_at l.1 >>= λ c. handlers_at pool c.1 >>= λ h. inners_at pool major h.1 >>= λ t. Some (record { max_stack = s.0; max_locals = l.0; code = c.0; handlers = h.0; attrs = t.0 }, t.1)) x e in
    let b = bind_some (number_at 2 a.0.1) (λ l. code_bytes_at l.1 >>= λ c. handlers_at pool c.1 >>= λ h. inners_at pool major h.1 >>= λ t. Some (record { max_stack = a.0.0; max_locals = l.0; code = c.0; handlers = h.0; attrs = t.0 }, t.1)) x a.2 in
    let c = bind_some (code_bytes_at b.0.1) (λ c. handlers_at pool c.1 >>= λ h. inners_at pool major h.1 >>= λ t. Some (record { max_stack = a.0.0; max_locals = b.0.0; code = c.0; handlers = h.0; attrs = t.0 }, t.1)) x b.2 in
    let d = bind_some (handlers_at pool c.0.1) (λ h. inners_at pool major h.1 >>= λ t. Some (record { max_stack = a.0.0; max_locals = b.0.0; code = c.0.0; handlers = h.0; attrs = t.0 }, t.1)) x c.2 in
    let f = bind_some (inners_at pool major d.0.1) (λ t. Some (record { max_stack = a.0.0; max_locals = b.0.0; code = c.0.0; handlers = d.0.0; attrs = t.0 }, t.1)) x d.2 in
    let made : CodeAttr × List ℕ = (record { max_stack = a.0.0; max_locals = b.0.0; code = c.0.0; handlers = d.0.0; attrs = f.0.0 }, f.0.1) in
    let p = number_takes 2 bytes a.0 a.1 in
    let q = number_takes 2 a.0.1 b.0 b.1 in
    let r = code_bytes_take b.0.1 c.0 c.1 in
    let s = handlers_take pool c.0.1 d.0 d.1 in
    let t = inners_take pool major d.0.1 f.0 f.1 in
    let m = u2 a.0.0 in
    let n = u2 b.0.0 in
    let k = u4 (length c.0.0) in
    let l = u2 (length d.0.0) in
    let o = flat_map handler_text d.0.0 in
    let i = u2 (length f.0.0) in
    let j = flat_map inner_text f.0.0 in
    let two = joined bytes m n a.0.1 b.0.1 p.0 q.0 in
    let three = joined bytes (m ++ n) (k ++ c.0.0) b.0.1 c.0.1 two r.2 in
    let four = joined bytes ((m ++ n) ++ (k ++ c.0.0)) (l ++ o) c.0.1 d.0.1 three s.2 in
    let five = joined bytes (((m ++ n) ++ (k ++ c.0.0)) ++ (l ++ o)) (i ++ j) d.0.1 f.0.1 four t.3 in
    let flat : (((m ++ n) ++ (k ++ c.0.0)) ++ (l ++ o)) ++ (i ++ j) ≡ code_text made.0 = regroup m n k c.0.0 l o i j in
    let is_code : IsCode pool major made.0 = record { max_stack = p.1; max_locals = q.1; not_empty = r.0; handlers = s.0; attrs = inner_each pool major f.0.0 t.0; one_map = t.2 } in
    given_as (λ (y : CodeAttr × List ℕ). IsWholeCode pool major y.0 × (bytes ≡ code_text y.0 ++ y.1)) made x f.2
    ((is_code, record { handlers = s.1; attrs = t.1; each = few_each pool major f.0.0 t.0 }, record { code = r.1; each = short_each pool major f.0.0 t.0 }), five ∙ ap (λ (z : List ℕ). z ++ f.0.1) flat)

code_again : (pool : List PoolItem) (major : ℕ) (c : CodeAttr) (rest : List ℕ) → IsWholeCode pool major c → code_at pool major (code_text c ++ rest) ≡ Some (c, rest)
unfolding code_at
code_again pool major c rest h =
    let i = u2 (length c.attrs) ++ flat_map inner_text c.attrs in
    let l = u2 (length c.handlers) ++ flat_map handler_text c.handlers in
    let k = u4 (length c.code) ++ c.code in
    let three = k ++ (l ++ (i ++ rest)) in
    let two = u2 c.max_locals ++ three in
    let flat : code_text c ++ rest ≡ u2 c.max_stack ++ two = simp append_assoc in
    ap (λ (b : List ℕ). number_at 2 b >>= λ s. number_at 2 s.1 >>= λ l. code_bytes_at l.1 >>= λ c. handlers_at pool c.1 >>= λ h. inners_at pool major h.1 >>= λ t. some_code (record { max_stack = s.0; max_locals = l.0; code = c.0; handlers = h.0; attrs = t.0 }, t.1)) flat
    ∙ bind_is (number_at 2 (u2 c.max_stack ++ two)) (λ s. number_at 2 s.1 >>= λ l. code_bytes_at l.1 >>= λ c. handlers_at pool c.1 >>= λ h. inners_at pool major h.1 >>= λ t. some_code (record { max_stack = s.0; max_locals = l.0; code = c.0; handlers = h.0; attrs = t.0 }, t.1)) (c.max_stack, two) (number_again 2 c.max_stack two h.0.max_stack)
    ∙ bind_is (number_at 2 two) (λ l. code_bytes_at l.1 >>= λ d. handlers_at pool d.1 >>= λ h. inners_at pool major h.1 >>= λ t. some_code (record { max_stack = c.max_stack; max_locals = l.0; code = d.0; handlers = h.0; attrs = t.0 }, t.1)) (c.max_locals, three) (number_again 2 c.max_locals three h.0.max_locals)
    ∙ bind_is (code_bytes_at three) (λ d. handlers_at pool d.1 >>= λ h. inners_at pool major h.1 >>= λ t. some_code (record { max_stack = c.max_stack; max_locals = c.max_locals; code = d.0; handlers = h.0; attrs = t.0 }, t.1)) (c.code, l ++ (i ++ rest)) (code_bytes_again c.code (l ++ (i ++ rest)) h.0.not_empty h.2.code)
    ∙ bind_is (handlers_at pool (l ++ (i ++ rest))) (λ h. inners_at pool major h.1 >>= λ t. some_code (record { max_stack = c.max_stack; max_locals = c.max_locals; code = c.code; handlers = h.0; attrs = t.0 }, t.1)) (c.handlers, i ++ rest) (handlers_again pool c.handlers (i ++ rest) h.0.handlers h.1.handlers)
    ∙ bind_is (inners_at pool major (i ++ rest)) (λ t. some_code (record { max_stack = c.max_stack; max_locals = c.max_locals; code = c.code; handlers = c.handlers; attrs = t.0 }, t.1)) (c.attrs, rest) (inners_again pool major c.attrs rest (whole_each pool major c.attrs h.0.attrs h.1.each h.2.each) h.1.attrs h.0.one_map)
  where
    some_code : CodeAttr × List ℕ → Option (CodeAttr × List ℕ)
    some_code x = Some x

whole_code_takes : (pool : List PoolItem) (major : ℕ) (content : List ℕ) (c : CodeAttr) → whole_code_at pool major content ≡ Some c → IsWholeCode pool major c × (content ≡ code_text c)
unfolding whole_code_at
whole_code_takes pool major content c e =
    let a = bind_some (code_at pool major content) (λ x. cond (eqb (length x.1) 0) (Some x.0) None) c e in
    let g = past_true (eqb (length a.0.1) 0) (Some a.0.0) c a.2 in
    let t = code_takes pool major content a.0 a.1 in
    let all : content ≡ code_text a.0.0 = t.1 ∙ ap (λ (r : List ℕ). code_text a.0.0 ++ r) (nothing_left a.0.1 g.0) ∙ append-nil (code_text a.0.0) in
    given_as (λ (d : CodeAttr). IsWholeCode pool major d × (content ≡ code_text d)) a.0.0 c g.1 (t.0, all)

whole_code_again : (pool : List PoolItem) (major : ℕ) (c : CodeAttr) → IsWholeCode pool major c → whole_code_at pool major (code_text c) ≡ Some c
unfolding whole_code_at
whole_code_again pool major c h =
    bind_is (code_at pool major (code_text c)) (λ x. cond (eqb (length x.1) 0) (Some x.0) None) (c, []) (ap (code_at pool major) (sym (append-nil (code_text c))) ∙ code_again pool major c [] h)

-- ---- an attribute of any owner

body_takes : (pool : List PoolItem) (major : ℕ) (as_code as_maps : Bool) (content : List ℕ) (body : AttrBody CodeAttr) → body_at pool major as_code as_maps content ≡ Some body
    → TakesBody code_text (IsCode pool major) IsFewCode IsShortCode pool as_code as_maps content body
unfolding body_at
body_takes pool major false as_maps content body e = other_takes code_text (IsCode pool major) IsFewCode IsShortCode pool as_maps content body e
body_takes pool major true as_maps content body e =
    let a = bind_some (whole_code_at pool major content) (λ c. Some (Code c)) body e in
    let t = whole_code_takes pool major content a.0 a.1 in
    let made : AttrBody CodeAttr = Code a.0 in
    given_as (λ (b : AttrBody CodeAttr). TakesBody code_text (IsCode pool major) IsFewCode IsShortCode pool true as_maps content b) made body a.2
    (record { is_body = (refl, t.0.0); few = t.0.1; short = t.0.2; spelled = t.1 })

-- an attribute isn't read as both
not_both : (o : owners.Owner) (major : ℕ) (name : List ℕ) → is_maps o major name ≡ true → is_code o name ≡ false
not_both owner.Class major name e = refl
not_both owner.Field major name e = refl
not_both owner.Method major name e = absurd cc
not_both owner.Code major name e = refl

body_again : (pool : List PoolItem) (major : ℕ) (as_code as_maps : Bool) (body : AttrBody CodeAttr) → (as_maps ≡ true → as_code ≡ false) → IsBody (IsCode pool major) pool as_code as_maps body → HasFewWith IsFewCode body
    → IsShortWith IsShortCode body → body_at pool major as_code as_maps (body_text code_text body) ≡ Some body
unfolding body_at
body_again pool major true as_maps (Code c) apart h few short = bind_is (whole_code_at pool major (code_text c)) (λ d. Some (Code d)) c (whole_code_again pool major c (h.1, few, short))
body_again pool major false as_maps (Code c) apart h few short = absurd (no h.0)
  where
    no : IsTrue false → ⊥
    no e = absurd cc
body_again pool major false as_maps (Maps frames) apart h few short = other_again code_text (IsCode pool major) IsFewCode pool as_maps (Maps frames) h few
body_again pool major true as_maps (Maps frames) apart h few short = absurd (no (apart h.0))
  where
    no : true ≡ false → ⊥
    no e = absurd cc
body_again pool major false as_maps (Raw bytes) apart h few short = other_again code_text (IsCode pool major) IsFewCode pool as_maps (Raw bytes) h few
body_again pool major true as_maps (Raw bytes) apart h few short = absurd (no h.0)
  where
    no : true ≡ false → ⊥
    no e = absurd cc

-- an attribute that is read is spelled so
pub attr_takes : (pool : List PoolItem) (o : owners.Owner) (major : ℕ) (bytes : List ℕ) (x : Attr CodeAttr × List ℕ) → attr_at pool o major bytes ≡ Some x → BeginsWithAttr pool o major bytes x.0 x.1
unfolding attr_at
attr_takes pool o major bytes x e =
    let a = bind_some (head_at pool bytes) (λ head. body_at pool major (is_code o head.0.1) (is_maps o major head.0.1) head.0.2 >>= λ body. Some (record { name = head.0.0; body = body }, head.1)) x e in
    let b = bind_some (body_at pool major (is_code o a.0.0.1) (is_maps o major a.0.0.1) a.0.0.2) (λ body. Some (record { name = a.0.0.0; body = body }, a.0.1)) x a.2 in
    let h = head_takes pool bytes a.0 a.1 in
    let t = body_takes pool major (is_code o a.0.0.1) (is_maps o major a.0.0.1) a.0.0.2 b.0 b.1 in
    let made : Attr CodeAttr × List ℕ = (record { name = a.0.0.0; body = b.0 }, a.0.1) in
    let is_attr : IsAttr pool o major made.0 = record { name_fits = h.name_fits; name = a.0.0.1; named = h.named; body = t.is_body } in
    let short : length (body_text code_text b.0) < 2 ^ 32 = omega (arith, h.short, ap length t.spelled) in
    let whole : bytes ≡ attr_text made.0 ++ a.0.1 = h.spelled ∙ ap (λ (c : List ℕ). (u2 a.0.0.0 ++ u4 (length c) ++ c) ++ a.0.1) t.spelled in
    given_as (λ (y : Attr CodeAttr × List ℕ). BeginsWithAttr pool o major bytes y.0 y.1) made x b.2
    (record { front = attr_text made.0; is_text = record { is_attr = is_attr; few = t.few; short = record { code = t.short; content = short }; spelled = refl }; parts = whole })

-- an attribute is read again, whatever follows
pub attr_again : (pool : List PoolItem) (o : owners.Owner) (major : ℕ) (a : Attr CodeAttr) (rest : List ℕ) → IsAttr pool o major a → HasFew a → IsShort a → attr_at pool o major (attr_text a ++ rest) ≡ Some (a, rest)
unfolding attr_at
attr_again pool o major a rest h few short =
    let content = body_text code_text a.body in
    bind_is (head_at pool (attr_text a ++ rest)) (λ head. body_at pool major (is_code o head.0.1) (is_maps o major head.0.1) head.0.2 >>= λ body. Some (record { name = head.0.0; body = body }, head.1)) ((a.name, h.name, content), rest) (head_again pool a.name h.name content rest h.name_fits h.named short.content)
    ∙ bind_is (body_at pool major (is_code o h.name) (is_maps o major h.name) content) (λ body. Some (record { name = a.name; body = body }, rest)) a.body (body_again pool major (is_code o h.name) (is_maps o major h.name) a.body (not_both o major h.name) h.body few short.code)

-- bytes that begin with an attribute are read as it
pub attr_found : (pool : List PoolItem) (o : owners.Owner) (major : ℕ) (bytes : List ℕ) (a : Attr CodeAttr) (rest : List ℕ) → BeginsWithAttr pool o major bytes a rest → attr_at pool o major bytes ≡ Some (a, rest)
attr_found pool o major bytes a rest h =
    ap (attr_at pool o major) (h.parts ∙ ap (λ (f : List ℕ). f ++ rest) h.is_text.spelled) ∙ attr_again pool o major a rest h.is_text.is_attr h.is_text.few h.is_text.short

-- no two attributes stand at the front of the same bytes
pub attrs_agree : (pool : List PoolItem) (o : owners.Owner) (major : ℕ) (bytes : List ℕ) (a b : Attr CodeAttr) (x y : List ℕ) → BeginsWithAttr pool o major bytes a x → BeginsWithAttr pool o major bytes b y → (a ≡ b) × (x ≡ y)
attrs_agree pool o major bytes a b x y p q =
    let first : Attr CodeAttr × List ℕ = (a, x) in
    let second : Attr CodeAttr × List ℕ = (b, y) in
    let same : first ≡ second = some_is first second (sym (attr_found pool o major bytes a x p) ∙ attr_found pool o major bytes b y q) in
    (ap (λ (z : Attr CodeAttr × List ℕ). z.0) same, ap (λ (z : Attr CodeAttr × List ℕ). z.1) same)

-- all of the bytes of an attribute
alone : (pool : List PoolItem) (o : owners.Owner) (major : ℕ) (bytes : List ℕ) (a : Attr CodeAttr) → IsAttrText pool o major bytes a → BeginsWithAttr pool o major bytes a []
alone pool o major bytes a h = record { front = bytes; is_text = h; parts = sym (append-nil bytes) }

-- no bytes are the text of two attributes
pub one_reading : (pool : List PoolItem) (o : owners.Owner) (major : ℕ) (bytes : List ℕ) (a b : Attr CodeAttr) → IsAttrText pool o major bytes a → IsAttrText pool o major bytes b → a ≡ b
one_reading pool o major bytes a b p q = (attrs_agree pool o major bytes a b [] [] (alone pool o major bytes a p) (alone pool o major bytes b q)).0

-- no text of an attribute is a front of another
pub no_front : (pool : List PoolItem) (o : owners.Owner) (major : ℕ) (a b : Attr CodeAttr) (front more : List ℕ) → IsAttrText pool o major front a → IsAttrText pool o major (front ++ more) b → more ≡ []
no_front pool o major a b front more p q =
    (attrs_agree pool o major (front ++ more) a b more [] (record { front = front; is_text = p; parts = refl }) (alone pool o major (front ++ more) b q)).1

-- ---- what the reader answers

-- bytes of which nothing was read begin with no attribute
pub is_refused : (pool : List PoolItem) (o : owners.Owner) (major : ℕ) (bytes : List ℕ) → attr_at pool o major bytes ≡ None → (a : Attr CodeAttr) (rest : List ℕ) → BeginsWithAttr pool o major bytes a rest → ⊥
is_refused pool o major bytes none a rest b =
    let made : Attr CodeAttr × List ℕ = (a, rest) in
    let found : none_read ≡ Some made = sym none ∙ attr_found pool o major bytes a rest b in
    absurd cc
  where
    none_read : Option (Attr CodeAttr × List ℕ)
    none_read = None
