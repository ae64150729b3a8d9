-- The tests of counts pass exactly where the counts fit.
use Rattle.std.proofs.Common.{◌≡◌, Bool, true, ltb, ◌&&◌, List, [], ◌∷◌, length, Option, Some, None, refl}
use Rattle.std.specs.List.{list_all, AllByRecursion}
use Rattle.std.proofs.lemmas.Bool.{and_parts, ltb-true, lt-ltb}
use Rattle.jv_table.specs.declared.class_tables.FrameGroup.{FrameGroup}
use Rattle.jv_table.specs.declared.class_tables.FrameGroup.TheVariants.{Same, SameOne, SameOneExtended, Chop, SameExtended, Append, Full}
use Rattle.jv_attr.specs.declared.frame.MapFrame.{MapFrame}
use Rattle.jv_attr.specs.declared.attr.Attr.{Attr}
use Rattle.jv_attr.specs.declared.attr.AttrBody.{AttrBody}
use Rattle.jv_attr.specs.declared.attr.AttrBody.TheVariants.{Code, Maps, Raw}
use Rattle.jv_attr.specs.declared.attr.CodeAttr.{CodeAttr}
use Rattle.std.specs.declared.convert.Infallible.{Infallible as NoCode}
use Rattle.jv_lists.proofs.Tests.{both_true}
use Rattle.jv_attr.specs.FrameText.{group_of, HasFewParts, HasFewTypes, AreFewFrames}
use Rattle.jv_attr.specs.AttrText.{HasFewWith, IsInnerFew, IsNoCode, IsFewCode, HasFew}
use Rattle.jv_attr.specs.Steps.Few.{has_few_parts, has_few_types, are_few_frames, is_body_few, is_no_few, is_inner_few, is_few_code, has_few}

-- ---- of each element

all_to : {A : Type 0} (t : A → Bool) (P : A → Type 0) → ((a : A) → t a ≡ true → P a) → (xs : List A) → list_all t xs ≡ true → AllByRecursion P xs
all_to t P one [] e = tt
all_to t P one (x ∷ xs) e =
    let h = and_parts (t x) (list_all t xs) e in
    (one x h.0, all_to t P one xs h.1)

all_from : {A : Type 0} (t : A → Bool) (P : A → Type 0) → ((a : A) → P a → t a ≡ true) → (xs : List A) → AllByRecursion P xs → list_all t xs ≡ true
all_from t P one [] h = refl
all_from t P one (x ∷ xs) h = both_true (t x) (list_all t xs) (one x h.0) (all_from t P one xs h.1)

-- ---- frames

parts_to : (o : Option FrameGroup) (f : MapFrame) → has_few_parts o f ≡ true → HasFewParts o f
parts_to None f e = tt
parts_to (Some Same) f e = tt
parts_to (Some SameOne) f e = tt
parts_to (Some SameOneExtended) f e = tt
parts_to (Some Chop) f e = tt
parts_to (Some SameExtended) f e = tt
parts_to (Some Append) f e = tt
parts_to (Some Full) f e =
    let h = and_parts (ltb (length f.locals) 65536) (ltb (length f.stack) 65536) e in
    (ltb-true (length f.locals) 65536 h.0, ltb-true (length f.stack) 65536 h.1)

parts_from : (o : Option FrameGroup) (f : MapFrame) → HasFewParts o f → has_few_parts o f ≡ true
parts_from None f h = refl
parts_from (Some Same) f h = refl
parts_from (Some SameOne) f h = refl
parts_from (Some SameOneExtended) f h = refl
parts_from (Some Chop) f h = refl
parts_from (Some SameExtended) f h = refl
parts_from (Some Append) f h = refl
parts_from (Some Full) f h = both_true (ltb (length f.locals) 65536) (ltb (length f.stack) 65536) (lt-ltb (length f.locals) 65536 h.0) (lt-ltb (length f.stack) 65536 h.1)

types_to : (f : MapFrame) → has_few_types f ≡ true → HasFewTypes f
unfolding has_few_types
types_to f e = parts_to (group_of f.kind) f e

types_from : (f : MapFrame) → HasFewTypes f → has_few_types f ≡ true
unfolding has_few_types
types_from f h = parts_from (group_of f.kind) f h

frames_to : (frames : List MapFrame) → are_few_frames frames ≡ true → AreFewFrames frames
frames_to frames e =
    let h = and_parts (ltb (length frames) 65536) (list_all has_few_types frames) e in
    (ltb-true (length frames) 65536 h.0, all_to has_few_types HasFewTypes types_to frames h.1)

frames_from : (frames : List MapFrame) → AreFewFrames frames → are_few_frames frames ≡ true
frames_from frames h =
    both_true (ltb (length frames) 65536) (list_all has_few_types frames) (lt-ltb (length frames) 65536 h.0) (all_from has_few_types HasFewTypes types_from frames h.1)

-- ---- attributes

body_to : {C : Type 0} (t : C → Bool) (P : C → Type 0) → ((c : C) → t c ≡ true → P c) → (body : AttrBody C) → is_body_few t body ≡ true → HasFewWith P body
body_to t P one (Code c) e = one c e
body_to t P one (Maps frames) e = frames_to frames e
body_to t P one (Raw bytes) e = tt

body_from : {C : Type 0} (t : C → Bool) (P : C → Type 0) → ((c : C) → P c → t c ≡ true) → (body : AttrBody C) → HasFewWith P body → is_body_few t body ≡ true
body_from t P one (Code c) h = one c h
body_from t P one (Maps frames) h = frames_from frames h
body_from t P one (Raw bytes) h = refl

inner_to : (a : Attr NoCode) → is_inner_few a ≡ true → IsInnerFew a
unfolding is_inner_few
inner_to a e = body_to is_no_few IsNoCode (λ c e. elim c [ ]) a.body e

inner_from : (a : Attr NoCode) → IsInnerFew a → is_inner_few a ≡ true
unfolding is_inner_few
inner_from a h = body_from is_no_few IsNoCode (λ c h. elim c [ ]) a.body h

code_to : (c : CodeAttr) → is_few_code c ≡ true → IsFewCode c
code_to c e =
    let h = and_parts (ltb (length c.handlers) 65536 && ltb (length c.attrs) 65536) (list_all is_inner_few c.attrs) e in
    let g = and_parts (ltb (length c.handlers) 65536) (ltb (length c.attrs) 65536) h.0 in
    record { handlers = ltb-true (length c.handlers) 65536 g.0; attrs = ltb-true (length c.attrs) 65536 g.1; each = all_to is_inner_few IsInnerFew inner_to c.attrs h.1 }

code_from : (c : CodeAttr) → IsFewCode c → is_few_code c ≡ true
code_from c h =
    both_true (ltb (length c.handlers) 65536 && ltb (length c.attrs) 65536) (list_all is_inner_few c.attrs)
    (both_true (ltb (length c.handlers) 65536) (ltb (length c.attrs) 65536) (lt-ltb (length c.handlers) 65536 h.handlers) (lt-ltb (length c.attrs) 65536 h.attrs))
    (all_from is_inner_few IsInnerFew inner_from c.attrs h.each)

pub few_to : (a : Attr CodeAttr) → has_few a ≡ true → HasFew a
few_to a e = body_to is_few_code IsFewCode code_to a.body e

pub few_from : (a : Attr CodeAttr) → HasFew a → has_few a ≡ true
few_from a h = body_from is_few_code IsFewCode code_from a.body h
