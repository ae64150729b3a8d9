-- Whether bytes are a descriptor (JVMS 4.3) is decided, and of which type.
use Rattle.std.proofs.Common.{◌≡◌, ◌≢◌, ◌+◌, ◌-◌, ◌<◌, ◌≤◌, ◌⊎◌, inl, inr, ℕ, zero, suc, Bool, true, false, eqb, leb, not, List, [], ◌∷◌, ◌++◌, length, Option, Some, None, refl, sym, ap, subst, ◌∙◌, append_assoc, arith}
use Rattle.std.specs.List.{flat_map, AllByRecursion}
use Rattle.std.proofs.lemmas.Bool.{and_from, not_from_false, eqb-true, eqb-false, leb-true, leb-false}
use Rattle.std.proofs.lemmas.Bool.Decides.{leb_tells}
use Rattle.jv_lists.proofs.Places.{heads}
use Rattle.jv_types.specs.NameForms.{is_class_name}
use Rattle.jv_types.specs.declared.desc.PrimType.{PrimType}
use Rattle.jv_types.specs.declared.desc.PrimType.TheVariants.{Boolean, Char, Float, Double, Byte, Short, Int, Long}
use Rattle.jv_types.specs.declared.desc.RefType.{RefType, Class, PrimArray, Array}
use Rattle.jv_types.specs.declared.desc.Desc.{Desc}
use Rattle.jv_types.specs.declared.desc.Desc.TheVariants as descs
use Rattle.jv_types.specs.declared.desc.MethodDesc.{MethodDesc}
use Rattle.jv_desc.specs.Texts.{prim_letter, IsDesc, desc_text, IsFieldText, IsResult, result_text, IsMethodText, words_of}
use Rattle.jv_desc.specs.Steps.Reading.{no_semicolon, ReadsRef, ReadsDesc, ReadsParams}
use Rattle.jv_desc.proofs.Fronts.{no_end}
use Rattle.jv_desc.proofs.RefReading.{class_parts, no_ref_none, no_ref, no_ref_class, no_ref_array, yes_ref_array, no_class}
use Rattle.jv_desc.proofs.Agreement.{reads_shorter, field_as_read, field_trailing, field_whole, method_as_read, method_stuck, one_method}
use Rattle.jv_desc.proofs.DescReading.{params_none, params_more, params_stuck, params_cut}
use Rattle.jv_names.specs.Spellings.{IsFieldDescriptor, IsMethodDescriptor}
use Rattle.jv_stated.proofs.Deciding.{IsDecided, like, same_text}

-- ---- letters and ends

-- bytes are cut at their first `;`, or have none
abbrev Cut : List ℕ → Type 0
Cut bytes = ((name : List ℕ) × (rest : List ℕ) × (no_semicolon name ≡ true) × (bytes ≡ name ++ 59 ∷ rest)) ⊎ (no_semicolon bytes ≡ true)

cut : (bytes : List ℕ) → Cut bytes
cut [] = inr refl
cut (b ∷ bs) = by (eqb b 59) refl (cut bs)
  where
    by : (t : Bool) → eqb b 59 ≡ t → Cut bs → Cut (b ∷ bs)
    by true e rest = inl ([], bs, refl, ap (λ (z : ℕ). z ∷ bs) (eqb-true b 59 e))
    by false e (inl w) = inl (b ∷ w.0, w.1, and_from (not (eqb b 59)) (no_semicolon w.0) (not_from_false (eqb b 59) e) w.2, ap (λ (z : List ℕ). b ∷ z) w.3)
    by false e (inr n) = inr (and_from (not (eqb b 59)) (no_semicolon bs) (not_from_false (eqb b 59) e) n)

-- a byte is the letter of one of some types, or of none of them
letter : (b : ℕ) (prims : List PrimType) → ((prim : PrimType) × (b ≡ prim_letter prim)) ⊎ AllByRecursion (λ (p : PrimType). b ≢ prim_letter p) prims
letter b [] = inr tt
letter b (p ∷ ps) = by (eqb b (prim_letter p)) refl (letter b ps)
  where
    by : (t : Bool) → eqb b (prim_letter p) ≡ t → ((prim : PrimType) × (b ≡ prim_letter prim)) ⊎ AllByRecursion (λ (q : PrimType). b ≢ prim_letter q) ps
        → ((prim : PrimType) × (b ≡ prim_letter prim)) ⊎ AllByRecursion (λ (q : PrimType). b ≢ prim_letter q) (p ∷ ps)
    by true e rest = inl (p, eqb-true b (prim_letter p) e)
    by false e (inl w) = inl w
    by false e (inr n) = inr (eqb-false b (prim_letter p) e, n)

abbrev all_prims : List PrimType
all_prims = Boolean ∷ Char ∷ Float ∷ Double ∷ Byte ∷ Short ∷ Int ∷ Long ∷ []

no_prim : (b : ℕ) → AllByRecursion (λ (p : PrimType). b ≢ prim_letter p) all_prims → (prim : PrimType) → b ≢ prim_letter prim
no_prim b h Boolean = h.0
no_prim b h Char = h.1.0
no_prim b h Float = h.1.1.0
no_prim b h Double = h.1.1.1.0
no_prim b h Byte = h.1.1.1.1.0
no_prim b h Short = h.1.1.1.1.1.0
no_prim b h Int = h.1.1.1.1.1.1.0
no_prim b h Long = h.1.1.1.1.1.1.1.0

-- bytes begin with the letter of a primitive type, or with none
abbrev PrimFront : List ℕ → Type 0
PrimFront bytes = ((prim : PrimType) × (rest : List ℕ) × (bytes ≡ prim_letter prim ∷ rest)) ⊎ ((prim : PrimType) (rest : List ℕ) → bytes ≡ prim_letter prim ∷ rest → ⊥)

prim_front : (bytes : List ℕ) → PrimFront bytes
prim_front [] = inr (λ prim rest e. cc)
prim_front (b ∷ bs) = by (letter b all_prims)
  where
    by : ((prim : PrimType) × (b ≡ prim_letter prim)) ⊎ AllByRecursion (λ (q : PrimType). b ≢ prim_letter q) all_prims → PrimFront (b ∷ bs)
    by (inl w) = inl (w.0, bs, ap (λ (z : ℕ). z ∷ bs) w.1)
    by (inr n) = inr (λ prim rest e. no_prim b n prim (heads b (prim_letter prim) bs rest e).0)

-- ---- types

-- bytes begin with a reference type of at most so many arrays, or with none
abbrev RefFront : ℕ → List ℕ → Type 0
RefFront most bytes = ((type : RefType) × (rest : List ℕ) × ReadsRef most bytes type rest) ⊎ ((type : RefType) (rest : List ℕ) → ReadsRef most bytes type rest → ⊥)

class_front : (most : ℕ) (xs : List ℕ) → RefFront most (76 ∷ xs)
class_front most xs = by (cut xs)
  where
    named : (name rest : List ℕ) → no_semicolon name ≡ true → xs ≡ name ++ 59 ∷ rest → (t : Bool) → is_class_name name ≡ t → RefFront most (76 ∷ xs)
    named name rest none parts true e =
        inl (Class name, rest, record { valid = record { dims = omega arith; named = e }; parts = ap (λ (z : List ℕ). 76 ∷ z) parts ∙ sym (class_parts name rest) })
    named name rest none parts false e = inr (no_ref_class most (76 ∷ xs) xs refl (no_class xs name rest none parts e))

    by : Cut xs → RefFront most (76 ∷ xs)
    by (inl w) = named w.0 w.1 w.2 w.3 (is_class_name w.0) refl
    by (inr n) = inr (no_ref_class most (76 ∷ xs) xs refl (λ name rest is e. no_end xs name rest n e))

array_front : (m : ℕ) (xs : List ℕ) → RefFront m xs → RefFront (suc m) (91 ∷ xs)
array_front m xs item = by (prim_front xs) item
  where
    less : suc m - 1 ≡ m
    less = omega arith

    by : PrimFront xs → RefFront m xs → RefFront (suc m) (91 ∷ xs)
    by (inl w) _ = inl (PrimArray w.0, w.1, record { valid = record { dims = omega arith; named = refl }; parts = ap (λ (z : List ℕ). 91 ∷ z) w.2 })
    by (inr n) (inl w) =
        inl (Array w.0, w.1, yes_ref_array (suc m) (91 ∷ xs) xs w.0 w.0 w.1 refl (λ e. omega arith) refl (subst (λ (k : ℕ). ReadsRef k xs w.0 w.1) (sym less) w.2))
    by (inr n) (inr none) =
        inr (no_ref_array (suc m) (91 ∷ xs) xs refl n (λ type rest r. none type rest (subst (λ (k : ℕ). ReadsRef k xs type rest) less r)))

at_byte : (most a b : ℕ) (xs : List ℕ) → eqb b a ≡ true → RefFront most (a ∷ xs) → RefFront most (b ∷ xs)
at_byte most a b xs e f = subst (λ (z : ℕ). RefFront most (z ∷ xs)) (sym (eqb-true b a e)) f

ref_front : (most : ℕ) (bytes : List ℕ) → RefFront most bytes
ref_front most [] = inr (no_ref_none most [] refl)
ref_front zero (b ∷ xs) = by (eqb b 76) refl
  where
    by : (t : Bool) → eqb b 76 ≡ t → RefFront zero (b ∷ xs)
    by true e = at_byte zero 76 b xs e (class_front zero xs)
    by false e = inr (no_ref zero (b ∷ xs) b xs refl (eqb-false b 76 e) (inr refl))
ref_front (suc m) (b ∷ xs) = by (eqb b 76) (eqb b 91) refl refl (ref_front m xs)
  where
    by : (t u : Bool) → eqb b 76 ≡ t → eqb b 91 ≡ u → RefFront m xs → RefFront (suc m) (b ∷ xs)
    by true u e f item = at_byte (suc m) 76 b xs e (class_front (suc m) xs)
    by false true e f item = at_byte (suc m) 91 b xs f (array_front m xs item)
    by false false e f item = inr (no_ref (suc m) (b ∷ xs) b xs refl (eqb-false b 76 e) (inl (eqb-false b 91 f)))

abbrev DescFront : List ℕ → Type 0
DescFront bytes = ((d : Desc) × (rest : List ℕ) × ReadsDesc bytes d rest) ⊎ ((d : Desc) (rest : List ℕ) → ReadsDesc bytes d rest → ⊥)

desc_front : (bytes : List ℕ) → DescFront bytes
desc_front bytes = by (prim_front bytes) (ref_front 255 bytes)
  where
    none : ((prim : PrimType) (rest : List ℕ) → bytes ≡ prim_letter prim ∷ rest → ⊥) → ((type : RefType) (rest : List ℕ) → ReadsRef 255 bytes type rest → ⊥) → (d : Desc) (rest : List ℕ) → ReadsDesc bytes d rest → ⊥
    none n m (descs.Prim p) rest r = n p rest r.parts
    none n m (descs.Ref t) rest r = m t rest (record { valid = r.valid; parts = r.parts })

    by : PrimFront bytes → RefFront 255 bytes → DescFront bytes
    by (inl w) _ = inl (descs.Prim w.0, w.1, record { valid = tt; parts = w.2 })
    by (inr n) (inl w) = inl (descs.Ref w.0, w.1, record { valid = w.2.valid; parts = w.2.parts })
    by (inr n) (inr m) = inr (none n m)

abbrev IsField : List ℕ → Type 0
IsField text = ((d : Desc) × IsFieldText text d) ⊎ ((d : Desc) → IsFieldText text d → ⊥)

field : (text : List ℕ) → IsField text
field text = by (desc_front text)
  where
    whole : (d : Desc) (rest : List ℕ) → ReadsDesc text d rest → IsField text
    whole d [] r = inl (d, field_whole text d [] r refl)
    whole d (c ∷ cs) r = inr (field_trailing text d (c ∷ cs) r (λ e. cc))

    by : DescFront text → IsField text
    by (inl w) = whole w.0 w.1 w.2
    by (inr n) = inr (λ d t. n d [] (field_as_read text d t))

-- ---- methods

abbrev ParamsFront : List ℕ → Type 0
ParamsFront bytes = ((ds : List Desc) × (rest : List ℕ) × ReadsParams bytes ds rest) ⊎ ((ds : List Desc) (rest : List ℕ) → ReadsParams bytes ds rest → ⊥)

-- a type, and what the bytes after it begin with
params_next : (bytes : List ℕ) (d : Desc) (after : List ℕ) → ((x : List ℕ) → bytes ≡ 41 ∷ x → ⊥) → ReadsDesc bytes d after → ParamsFront after → ParamsFront bytes
params_next bytes d after not_end r (inl w) =
    inl (
      d ∷ w.0,
      w.1,
      record {
        valid = (r.valid, w.2.valid);
        parts = r.parts ∙ ap (λ (z : List ℕ). desc_text d ++ z) w.2.parts ∙ sym (append_assoc (desc_text d) (flat_map desc_text w.0) (41 ∷ w.1));
      },
    )
params_next bytes d after not_end r (inr n) =
    inr (λ ds rest p. let left = (params_more bytes [] bytes d after (params_none bytes) not_end r).only ds rest p in n left.0 rest left.2)

params_front : (fuel : ℕ) (bytes : List ℕ) → length bytes ≤ fuel → ParamsFront bytes
params_front fuel [] le = inr (params_cut [] [] [] (params_none []) refl)
params_front zero (b ∷ bs) le = absurd (omega arith)
params_front (suc fuel) (b ∷ bs) le = by (eqb b 41) refl (desc_front (b ∷ bs)) (λ ys shorter. params_front fuel ys shorter)
  where
    not_end : eqb b 41 ≡ false → (x : List ℕ) → b ∷ bs ≡ 41 ∷ x → ⊥
    not_end e x h = eqb-false b 41 e (heads b 41 bs x h).0

    by : (t : Bool) → eqb b 41 ≡ t → DescFront (b ∷ bs) → ((ys : List ℕ) → length ys ≤ fuel → ParamsFront ys) → ParamsFront (b ∷ bs)
    by true e _ _ = inl ([], bs, record { valid = tt; parts = ap (λ (z : ℕ). z ∷ bs) (eqb-true b 41 e) })
    by false e (inl w) later =
        let less = reads_shorter (b ∷ bs) w.0 w.1 w.2 in
        params_next (b ∷ bs) w.0 w.1 (not_end e) w.2 (later w.1 (omega arith))
    by false e (inr n) later = inr (params_stuck (b ∷ bs) [] (b ∷ bs) (params_none (b ∷ bs)) (not_end e) n)

abbrev ResultFront : List ℕ → Type 0
ResultFront bytes = ((r : Option Desc) × IsResult r × (bytes ≡ result_text r)) ⊎ ((r : Option Desc) → IsResult r → bytes ≡ result_text r → ⊥)

result_front : (bytes : List ℕ) → ResultFront bytes
result_front bytes = by (same_text bytes (86 ∷ [])) (field bytes)
  where
    none : (bytes ≡ 86 ∷ [] → ⊥) → ((d : Desc) → IsFieldText bytes d → ⊥) → (r : Option Desc) → IsResult r → bytes ≡ result_text r → ⊥
    none n m None v e = n e
    none n m (Some d) v e = m d (record { valid = v; spelled = e })

    by : IsDecided (bytes ≡ 86 ∷ []) → IsField bytes → ResultFront bytes
    by (inl e) _ = inl (None, tt, e)
    by (inr n) (inl w) = inl (Some w.0, w.1.valid, w.1.spelled)
    by (inr n) (inr m) = inr (none n m)

abbrev IsMethod : List ℕ → Type 0
IsMethod text = ((d : MethodDesc) × IsMethodText text d) ⊎ ((d : MethodDesc) → IsMethodText text d → ⊥)

method_of : (bs : List ℕ) (ds : List Desc) (after : List ℕ) (r : Option Desc) → ReadsParams bs ds after → IsResult r → after ≡ result_text r → IsMethodText (40 ∷ bs) (record { params = ds; result = r })
method_of bs ds after r p v e = record {
  valid = record { params = p.valid; result = v };
  spelled = ap (λ (z : List ℕ). 40 ∷ z) (p.parts ∙ ap (λ (z : List ℕ). flat_map desc_text ds ++ 41 ∷ z) e);
}

method_after : (bs : List ℕ) → IsMethod (40 ∷ bs)
method_after bs = by (params_front (length bs) bs (omega arith))
  where
    ended : (ds : List Desc) (after : List ℕ) → ReadsParams bs ds after → ResultFront after → IsMethod (40 ∷ bs)
    ended ds after p (inl w) = inl (record { params = ds; result = w.0 }, method_of bs ds after w.0 p w.1 w.2)
    ended ds after p (inr n) = inr (method_stuck (40 ∷ bs) bs ds after refl p n)

    by : ParamsFront bs → IsMethod (40 ∷ bs)
    by (inl w) = ended w.0 w.1 w.2 (result_front w.1)
    by (inr n) = inr (λ d t. n d.params (result_text d.result) (method_as_read (40 ∷ bs) bs d refl t))

method : (text : List ℕ) → IsMethod text
method [] = inr (λ d t. let e : [] ≡ 40 ∷ (flat_map desc_text d.params ++ 41 ∷ result_text d.result) = t.spelled in cc)
method (b ∷ bs) = by (eqb b 40) refl
  where
    by : (t : Bool) → eqb b 40 ≡ t → IsMethod (b ∷ bs)
    by true e = subst (λ (z : ℕ). IsMethod (z ∷ bs)) (sym (eqb-true b 40 e)) (method_after bs)
    by false e = inr (λ d t. eqb-false b 40 e (heads b 40 bs (flat_map desc_text d.params ++ 41 ∷ result_text d.result) t.spelled).0)

-- ---- descriptors

pub field_descriptor : (text : List ℕ) → IsDecided (IsFieldDescriptor text)
field_descriptor text = by (field text)
  where
    by : IsField text → IsDecided (IsFieldDescriptor text)
    by (inl w) = inl (record { type = w.0; spelled = w.1 })
    by (inr n) = inr (λ h. n h.type h.spelled)

pub method_descriptor : (receiver : Bool) (text : List ℕ) → IsDecided (IsMethodDescriptor receiver text)
method_descriptor receiver text = by (method text)
  where
    few : (d : MethodDesc) → IsMethodText text d → (t : Bool) → leb (words_of d receiver) 255 ≡ t → IsDecided (IsMethodDescriptor receiver text)
    few d is true e = inl (record { method = d; spelled = is; words = leb-true (words_of d receiver) 255 e })
    few d is false e = inr (λ h.
        let le : words_of d receiver ≤ 255 = subst (λ (x : MethodDesc). words_of x receiver ≤ 255) (one_method text h.method d h.spelled is) h.words in
        let more = leb-false (words_of d receiver) 255 e in
        omega arith)

    by : IsMethod text → IsDecided (IsMethodDescriptor receiver text)
    by (inl w) = few w.0 w.1 (leb (words_of w.0 receiver) 255) refl
    by (inr n) = inr (λ h. n h.method h.spelled)
