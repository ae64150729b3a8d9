-- How a descriptor begins: what its first byte is, and where a class name ends.
use Rattle.std.proofs.Common.{◌≡◌, ◌≢◌, ℕ, ◌+◌, ◌<◌, ◌⊎◌, inl, inr, Bool, true, false, cond, eqb, not, ◌&&◌, List, [], ◌∷◌, ◌++◌, length, get_or, take, drop, Option, Some, None, Result, Err, refl, sym, ap, subst, ◌∙◌, arith}
use Rattle.std.specs.Prelude.{◌==◌, if◌then◌else◌}
use Rattle.std.proofs.lemmas.Bool.{and_parts, and_from}
use Rattle.std.proofs.lemmas.Bool.Decides.{nat_tests}
use Rattle.std.proofs.lemmas.List.{drop_more, take-append-drop}
use Rattle.jv_types.specs.NameForms.{may_stand, goes_on, is_class_name}
use Rattle.jv_types.specs.declared.desc.PrimType.{PrimType}
use Rattle.jv_types.specs.declared.desc.PrimType.TheVariants.{Boolean, Char, Float, Double, Byte, Short, Int, Long}
use Rattle.jv_types.specs.declared.desc.RefType.{RefType, Class, PrimArray, Array, out-RefType, roll-RefType, roll-out-RefType}
use Rattle.jv_types.specs.declared.desc.RefType.TheVariants.{rolls-Class, rolls-PrimArray, rolls-Array}
use Rattle.jv_types.specs.declared.desc.RefType.TheOpen as layer
use Rattle.jv_desc.specs.declared.fault.BadDesc.{BadDesc}
use Rattle.jv_desc.specs.declared.fault.BadDesc.TheVariants.{Bad}
use Rattle.jv_desc.specs.Texts.{prim_letter}
use Rattle.jv_desc.specs.Steps.Reading.{no_semicolon}

-- ---- letters

-- the primitive type of a letter
abbrev pub prim_of : ℕ → Option PrimType
prim_of letter =
    if letter == 90 then Some Boolean else (if letter == 67 then Some Char else (if letter == 70 then Some Float else (if letter == 68 then Some Double else (if letter == 66 then Some Byte else (if letter == 83 then Some Short else (if letter == 73 then Some Int else (if letter == 74 then Some Long else None)))))))

-- the letter of a type is read as the type
pub prim_of-letter : (prim : PrimType) → prim_of (prim_letter prim) ≡ Some prim
prim_of-letter Boolean = refl
prim_of-letter Char = refl
prim_of-letter Float = refl
prim_of-letter Double = refl
prim_of-letter Byte = refl
prim_of-letter Short = refl
prim_of-letter Int = refl
prim_of-letter Long = refl

-- a letter is that of one type
pub same_letter : (p q : PrimType) → prim_letter p ≡ prim_letter q → p ≡ q
same_letter p q e = let s : Some p ≡ Some q = sym (prim_of-letter p) ∙ ap prim_of e ∙ prim_of-letter q in cc

-- the letters of primitive types are none of `L`, `[`, `)` and `V`
pub no_letter : (prim : PrimType) (letter : ℕ) → prim_of letter ≡ None → prim_letter prim ≡ letter → ⊥
no_letter prim letter none e = let s : Some prim ≡ None = sym (prim_of-letter prim) ∙ ap prim_of e ∙ none in cc

-- ---- the layers of a reference type

abbrev pub Layer : RefType → Type 0
Layer type =
    ((name : List ℕ) × (type ≡ Class name)) ⊎ (((prim : PrimType) × (type ≡ PrimArray prim)) ⊎ ((item : RefType) × (type ≡ Array item)))

layer_of : (type : RefType) (l : layer.RefType-F RefType) → roll-RefType l ≡ type → Layer type
layer_of type (layer.Class name) e = inl (name, sym e ∙ rolls-Class name)
layer_of type (layer.PrimArray prim) e = inr (inl (prim, sym e ∙ rolls-PrimArray prim))
layer_of type (layer.Array item) e = inr (inr (item, sym e ∙ rolls-Array item))

-- a reference type is a class, an array of primitives, or an array of a reference type
pub layers : (type : RefType) → Layer type
layers type = layer_of type (out-RefType type) (roll-out-RefType type)

-- ---- class names and their end

-- `/` is no `;`
slash_is_none : (b : ℕ) → eqb b 47 ≡ true → not (eqb b 59) ≡ true
slash_is_none b e = grind (arith, nat_tests)

-- what may stand in a name is no `;`
stands_is_none : (b : ℕ) → may_stand b ≡ true → not (eqb b 59) ≡ true
stands_is_none b e = grind (arith, nat_tests)

goes_on-no_semicolon : (begun : Bool) (name : List ℕ) → goes_on begun name ≡ true → no_semicolon name ≡ true
goes_on-no_semicolon begun [] e = refl
goes_on-no_semicolon begun (b ∷ bs) e =
    by_slash (eqb b 47) refl e (λ begun' h. goes_on-no_semicolon begun' bs h)
  where
    by_slash : (slash : Bool) → eqb b 47 ≡ slash → cond slash (begun && goes_on false bs) (may_stand b && goes_on true bs) ≡ true → ((begun' : Bool) → goes_on begun' bs ≡ true → no_semicolon bs ≡ true) → no_semicolon (b ∷ bs) ≡ true
    by_slash true is h rest =
        and_from (not (eqb b 59)) (no_semicolon bs) (slash_is_none b is) (rest false (and_parts begun (goes_on false bs) h).1)
    by_slash false is h rest =
        let parts = and_parts (may_stand b) (goes_on true bs) h in
        and_from (not (eqb b 59)) (no_semicolon bs) (stands_is_none b parts.0) (rest true parts.1)

-- no byte of a class name is `;`
pub named-no_semicolon : (name : List ℕ) → is_class_name name ≡ true → no_semicolon name ≡ true
named-no_semicolon name e = goes_on-no_semicolon false name e

-- one byte more that is no `;`
pub no_semicolon-push : (bytes : List ℕ) (b : ℕ) → no_semicolon bytes ≡ true → b ≢ 59 → no_semicolon (bytes ++ b ∷ []) ≡ true
no_semicolon-push [] b e ne = and_from (not (eqb b 59)) true (grind (arith, nat_tests)) refl
no_semicolon-push (x ∷ xs) b e ne =
    let parts = and_parts (not (eqb x 59)) (no_semicolon xs) e in
    and_from (not (eqb x 59)) (no_semicolon (xs ++ b ∷ [])) parts.0 (no_semicolon-push xs b parts.1 ne)

-- what stands at a place cuts a list in three
pub cut_at : (bytes : List ℕ) (i : ℕ) → i < length bytes → get_or bytes i 0 ≡ 59 → bytes ≡ take i bytes ++ 59 ∷ drop (i + 1) bytes
cut_at bytes i lt e =
    sym (take-append-drop i bytes) ∙ ap (λ (z : List ℕ). take i bytes ++ z) (drop_more bytes i 0 lt ∙ ap (λ (b : ℕ). b ∷ drop (i + 1) bytes) e)

semicolon_is : (xs : List ℕ) → no_semicolon (59 ∷ xs) ≡ true → ⊥
semicolon_is xs e = cc

-- the first `;` of a text is in one place
pub one_end : (a b x y : List ℕ) → no_semicolon a ≡ true → no_semicolon b ≡ true → a ++ 59 ∷ x ≡ b ++ 59 ∷ y → (a ≡ b) × (x ≡ y)
one_end [] [] x y p q e = (refl, cc)
one_end [] (c ∷ cs) x y p q e =
    let same : 59 ≡ c = cc in
    absurd (semicolon_is cs (subst (λ (z : ℕ). no_semicolon (z ∷ cs) ≡ true) (sym same) q))
one_end (c ∷ cs) [] x y p q e =
    let same : c ≡ 59 = cc in
    absurd (semicolon_is cs (subst (λ (z : ℕ). no_semicolon (z ∷ cs) ≡ true) same p))
one_end (c ∷ cs) (d ∷ ds) x y p q e =
    let heads : (c ≡ d) × (cs ++ 59 ∷ x ≡ ds ++ 59 ∷ y) = (cc, cc) in
    let rest = one_end cs ds x y (and_parts (not (eqb c 59)) (no_semicolon cs) p).1 (and_parts (not (eqb d 59)) (no_semicolon ds) q).1 heads.1 in
    (ap (λ (z : ℕ). z ∷ cs) heads.0 ∙ ap (λ (z : List ℕ). d ∷ z) rest.0, rest.1)

-- without a `;` there is no end
pub no_end : (bytes a x : List ℕ) → no_semicolon bytes ≡ true → bytes ≡ a ++ 59 ∷ x → ⊥
no_end bytes [] x p e = semicolon_is x (subst (λ (z : List ℕ). no_semicolon z ≡ true) e p)
no_end [] (c ∷ cs) x p e = cc
no_end (b ∷ bs) (c ∷ cs) x p e =
    let rest : bs ≡ cs ++ 59 ∷ x = cc in
    no_end bs cs x (and_parts (not (eqb b 59)) (no_semicolon bs) p).1 rest

-- a refusal, whatever was to be read
abbrev pub refused : {A : Type 0} → BadDesc → Result A BadDesc
refused e = Err e

-- it is the same for each
pub same_refusal : {A B : Type 0} (e : BadDesc) → refused {A = A} e ≡ refused {A = A} Bad → refused {A = B} e ≡ refused {A = B} Bad
same_refusal {A} {B} e h = let is : e ≡ Bad = cc in ap (refused {A = B}) is
