-- No descriptor of a type begins another's, so bytes begin with at most one type, and with at most one
-- list of parameters.
use Rattle.std.proofs.Common.{◌≡◌, ℕ, zero, suc, ◌<◌, ◌≤◌, inl, inr, true, List, [], ◌∷◌, ◌++◌, length, Option, Some, None, refl, sym, ap, ◌∙◌, append_assoc, arith, length-append}
use Rattle.std.specs.List.{flat_map}
use Rattle.std.proofs.lemmas.List.{append-nil}
use Rattle.jv_lists.proofs.Places.{heads}
use Rattle.jv_types.specs.declared.desc.PrimType.{PrimType}
use Rattle.jv_types.specs.declared.desc.RefType.{RefType, Class, PrimArray, Array}
use Rattle.jv_types.specs.declared.desc.Desc.{Desc}
use Rattle.jv_types.specs.declared.desc.Desc.TheVariants as descs
use Rattle.jv_types.specs.declared.desc.MethodDesc.{MethodDesc}
use Rattle.jv_desc.specs.Texts.{prim_letter, ref_text, ref_dims, is_named, IsDesc, desc_text, IsFieldText, result_text, IsResult, IsMethodText}
use Rattle.jv_desc.specs.Steps.Reading.{ReadsDesc, ReadsParams}
use Rattle.jv_desc.proofs.Layers.{ref_text-Array, ref_dims-Array, is_named-Array}
use Rattle.jv_desc.proofs.Fronts.{Layer, layers, named-no_semicolon, one_end, same_letter, no_letter}
use Rattle.jv_desc.proofs.RefReading.{class_parts, array_parts, no_ref}

-- the letter of a primitive type begins no reference type
pub no_ref_letter : (prim : PrimType) (x y : List ℕ) (type : RefType) → is_named type ≡ true → prim_letter prim ∷ x ≡ ref_text type ++ y → ⊥
no_ref_letter prim x y type named e =
    no_ref (ref_dims type) (prim_letter prim ∷ x) (prim_letter prim) x refl (no_letter prim 76 refl) (inl (no_letter prim 91 refl)) type y (record { valid = record { dims = omega arith; named = named }; parts = e })

-- two reference types in front are one, where what they are arrays of is
one_ref_step : (t u : RefType) (x y : List ℕ) → is_named t ≡ true → is_named u ≡ true → ((a b : RefType) → t ≡ Array a → is_named a ≡ true → is_named b ≡ true → ref_text a ++ x ≡ ref_text b ++ y → (a ≡ b) × (x ≡ y)) → ref_text t ++ x ≡ ref_text u ++ y → (t ≡ u) × (x ≡ y)
one_ref_step t u x y p q items e = by_layers (layers t) (layers u)
  where
    by_layers : Layer t → Layer u → (t ≡ u) × (x ≡ y)
    by_layers (inl v) (inl w) =
        let parts : 76 ∷ (v.0 ++ 59 ∷ x) ≡ 76 ∷ (w.0 ++ 59 ∷ y) = sym (ap (λ (r : RefType). ref_text r ++ x) v.1 ∙ class_parts v.0 x) ∙ e ∙ ap (λ (r : RefType). ref_text r ++ y) w.1 ∙ class_parts w.0 y in
        let named_v = named-no_semicolon v.0 (sym (ap is_named v.1) ∙ p) in
        let named_w = named-no_semicolon w.0 (sym (ap is_named w.1) ∙ q) in
        let same = one_end v.0 w.0 x y named_v named_w (heads 76 76 (v.0 ++ 59 ∷ x) (w.0 ++ 59 ∷ y) parts).1 in
        (v.1 ∙ ap Class same.0 ∙ sym w.1, same.1)
    by_layers (inl v) (inr (inl w)) =
        let parts : 76 ∷ (v.0 ++ 59 ∷ x) ≡ 91 ∷ (prim_letter w.0 ∷ y) = sym (ap (λ (r : RefType). ref_text r ++ x) v.1 ∙ class_parts v.0 x) ∙ e ∙ ap (λ (r : RefType). ref_text r ++ y) w.1 in
        let h = heads 76 91 (v.0 ++ 59 ∷ x) (prim_letter w.0 ∷ y) parts in
        absurd (omega arith)
    by_layers (inl v) (inr (inr w)) =
        let parts : 76 ∷ (v.0 ++ 59 ∷ x) ≡ 91 ∷ (ref_text w.0 ++ y) = sym (ap (λ (r : RefType). ref_text r ++ x) v.1 ∙ class_parts v.0 x) ∙ e ∙ ap (λ (r : RefType). ref_text r ++ y) w.1 ∙ array_parts w.0 y in
        let h = heads 76 91 (v.0 ++ 59 ∷ x) (ref_text w.0 ++ y) parts in
        absurd (omega arith)
    by_layers (inr (inl v)) (inl w) =
        let parts : 91 ∷ (prim_letter v.0 ∷ x) ≡ 76 ∷ (w.0 ++ 59 ∷ y) = sym (ap (λ (r : RefType). ref_text r ++ x) v.1) ∙ e ∙ ap (λ (r : RefType). ref_text r ++ y) w.1 ∙ class_parts w.0 y in
        let h = heads 91 76 (prim_letter v.0 ∷ x) (w.0 ++ 59 ∷ y) parts in
        absurd (omega arith)
    by_layers (inr (inl v)) (inr (inl w)) =
        let parts : 91 ∷ (prim_letter v.0 ∷ x) ≡ 91 ∷ (prim_letter w.0 ∷ y) = sym (ap (λ (r : RefType). ref_text r ++ x) v.1) ∙ e ∙ ap (λ (r : RefType). ref_text r ++ y) w.1 in
        let h = heads 91 91 (prim_letter v.0 ∷ x) (prim_letter w.0 ∷ y) parts in
        let k = heads (prim_letter v.0) (prim_letter w.0) x y h.1 in
        (v.1 ∙ ap PrimArray (same_letter v.0 w.0 k.0) ∙ sym w.1, k.1)
    by_layers (inr (inl v)) (inr (inr w)) =
        let parts : 91 ∷ (prim_letter v.0 ∷ x) ≡ 91 ∷ (ref_text w.0 ++ y) = sym (ap (λ (r : RefType). ref_text r ++ x) v.1) ∙ e ∙ ap (λ (r : RefType). ref_text r ++ y) w.1 ∙ array_parts w.0 y in
        let h = heads 91 91 (prim_letter v.0 ∷ x) (ref_text w.0 ++ y) parts in
        absurd (no_ref_letter v.0 x y w.0 (sym (ap is_named w.1 ∙ is_named-Array w.0) ∙ q) h.1)
    by_layers (inr (inr v)) (inl w) =
        let parts : 91 ∷ (ref_text v.0 ++ x) ≡ 76 ∷ (w.0 ++ 59 ∷ y) = sym (ap (λ (r : RefType). ref_text r ++ x) v.1 ∙ array_parts v.0 x) ∙ e ∙ ap (λ (r : RefType). ref_text r ++ y) w.1 ∙ class_parts w.0 y in
        let h = heads 91 76 (ref_text v.0 ++ x) (w.0 ++ 59 ∷ y) parts in
        absurd (omega arith)
    by_layers (inr (inr v)) (inr (inl w)) =
        let parts : 91 ∷ (ref_text v.0 ++ x) ≡ 91 ∷ (prim_letter w.0 ∷ y) = sym (ap (λ (r : RefType). ref_text r ++ x) v.1 ∙ array_parts v.0 x) ∙ e ∙ ap (λ (r : RefType). ref_text r ++ y) w.1 in
        let h = heads 91 91 (ref_text v.0 ++ x) (prim_letter w.0 ∷ y) parts in
        absurd (no_ref_letter w.0 y x v.0 (sym (ap is_named v.1 ∙ is_named-Array v.0) ∙ p) (sym h.1))
    by_layers (inr (inr v)) (inr (inr w)) =
        let parts : 91 ∷ (ref_text v.0 ++ x) ≡ 91 ∷ (ref_text w.0 ++ y) = sym (ap (λ (r : RefType). ref_text r ++ x) v.1 ∙ array_parts v.0 x) ∙ e ∙ ap (λ (r : RefType). ref_text r ++ y) w.1 ∙ array_parts w.0 y in
        let h = heads 91 91 (ref_text v.0 ++ x) (ref_text w.0 ++ y) parts in
        let same = items v.0 w.0 v.1 (sym (ap is_named v.1 ∙ is_named-Array v.0) ∙ p) (sym (ap is_named w.1 ∙ is_named-Array w.0) ∙ q) h.1 in
        (v.1 ∙ ap Array same.0 ∙ sym w.1, same.1)

-- two reference types in front are one
one_ref_below : (n : ℕ) (t u : RefType) (x y : List ℕ) → ref_dims t ≤ n → is_named t ≡ true → is_named u ≡ true → ref_text t ++ x ≡ ref_text u ++ y → (t ≡ u) × (x ≡ y)
one_ref_below zero t u x y le p q e =
    one_ref_step t u x y p q (λ a b is named_a named_b parts. let d = ap ref_dims is ∙ ref_dims-Array a in absurd (omega arith)) e
one_ref_below (suc n) t u x y le p q e =
    one_ref_step t u x y p q (λ a b is named_a named_b parts. let d = ap ref_dims is ∙ ref_dims-Array a in one_ref_below n a b x y (omega arith) named_a named_b parts) e

pub one_ref : (t u : RefType) (x y : List ℕ) → is_named t ≡ true → is_named u ≡ true → ref_text t ++ x ≡ ref_text u ++ y → (t ≡ u) × (x ≡ y)
one_ref t u x y p q e = one_ref_below (ref_dims t) t u x y (omega arith) p q e

-- two types in front are one
pub one_desc : (d e : Desc) (x y : List ℕ) → IsDesc d → IsDesc e → desc_text d ++ x ≡ desc_text e ++ y → (d ≡ e) × (x ≡ y)
one_desc (descs.Prim p) (descs.Prim q) x y v w e =
    let h = heads (prim_letter p) (prim_letter q) x y e in
    (ap descs.Prim (same_letter p q h.0), h.1)
one_desc (descs.Prim p) (descs.Ref u) x y v w e = absurd (no_ref_letter p x y u w.named e)
one_desc (descs.Ref t) (descs.Prim q) x y v w e = absurd (no_ref_letter q y x t v.named (sym e))
one_desc (descs.Ref t) (descs.Ref u) x y v w e =
    let same = one_ref t u x y v.named w.named e in
    (ap descs.Ref same.0, same.1)

pub one_reading : (bytes : List ℕ) (d e : Desc) (x y : List ℕ) → ReadsDesc bytes d x → ReadsDesc bytes e y → (d ≡ e) × (x ≡ y)
one_reading bytes d e x y p q = one_desc d e x y p.valid q.valid (sym p.parts ∙ q.parts)

-- a `)` begins no type
pub no_desc_end : (bytes rest : List ℕ) (d : Desc) (x : List ℕ) → bytes ≡ 41 ∷ rest → ReadsDesc bytes d x → ⊥
no_desc_end bytes rest (descs.Prim p) x e r =
    no_letter p 41 refl (heads (prim_letter p) 41 x rest (sym r.parts ∙ e)).0
no_desc_end bytes rest (descs.Ref t) x e r =
    no_ref 255 bytes 41 rest e (λ h. omega arith) (inl (λ h. omega arith)) t x (record { valid = r.valid; parts = r.parts })

-- no type has an empty text
pub desc_text-some : (d : Desc) → IsDesc d → 0 < length (desc_text d)
desc_text-some (descs.Prim p) v = omega arith
desc_text-some (descs.Ref t) v = by_layer (layers t)
  where
    by_layer : Layer t → 0 < length (ref_text t)
    by_layer (inl w) = rw w.1 (omega arith)
    by_layer (inr (inl w)) = rw w.1 (omega arith)
    by_layer (inr (inr w)) =
        let e : length (ref_text t) ≡ length (91 ∷ ref_text w.0) = ap (length {A = ℕ}) (ap ref_text w.1 ∙ ref_text-Array w.0) in
        omega arith

-- what is left after a type is shorter
pub reads_shorter : (bytes : List ℕ) (d : Desc) (rest : List ℕ) → ReadsDesc bytes d rest → length rest < length bytes
reads_shorter bytes d rest r =
    let some = desc_text-some d r.valid in
    let len = ap (length {A = ℕ}) r.parts in
    let sum = length-append (desc_text d) rest in
    omega arith

-- the type in front of parameters
pub first_param : (bytes : List ℕ) (d : Desc) (ds : List Desc) (rest : List ℕ) → ReadsParams bytes (d ∷ ds) rest → ReadsDesc bytes d (flat_map desc_text ds ++ 41 ∷ rest)
first_param bytes d ds rest r = record {
  valid = r.valid.0;
  parts = r.parts ∙ append_assoc (desc_text d) (flat_map desc_text ds) (41 ∷ rest);
}

-- bytes begin with one list of parameters
pub one_params : (bytes : List ℕ) (ds es : List Desc) (x y : List ℕ) → ReadsParams bytes ds x → ReadsParams bytes es y → (ds ≡ es) × (x ≡ y)
one_params bytes [] [] x y p q = (refl, (heads 41 41 x y (sym p.parts ∙ q.parts)).1)
one_params bytes [] (e ∷ es) x y p q = absurd (no_desc_end bytes x e (flat_map desc_text es ++ 41 ∷ y) p.parts (first_param bytes e es y q))
one_params bytes (d ∷ ds) [] x y p q = absurd (no_desc_end bytes y d (flat_map desc_text ds ++ 41 ∷ x) q.parts (first_param bytes d ds x p))
one_params bytes (d ∷ ds) (e ∷ es) x y p q =
    let first = one_reading bytes d e (flat_map desc_text ds ++ 41 ∷ x) (flat_map desc_text es ++ 41 ∷ y) (first_param bytes d ds x p) (first_param bytes e es y q) in
    let rest_p : ReadsParams (flat_map desc_text ds ++ 41 ∷ x) ds x = record { valid = p.valid.1; parts = refl } in
    let rest_q : ReadsParams (flat_map desc_text ds ++ 41 ∷ x) es y = record { valid = q.valid.1; parts = first.1 } in
    let rest = one_params (flat_map desc_text ds ++ 41 ∷ x) ds es x y rest_p rest_q in
    (ap (λ (z : Desc). z ∷ ds) first.0 ∙ ap (λ (z : List Desc). e ∷ z) rest.0, rest.1)

-- a field descriptor is read to its end
pub field_as_read : (bytes : List ℕ) (d : Desc) → IsFieldText bytes d → ReadsDesc bytes d []
field_as_read bytes d text = record { valid = text.valid; parts = text.spelled ∙ sym (append-nil (desc_text d)) }

-- a type that bytes go on after is no field descriptor
pub field_trailing : (bytes : List ℕ) (d : Desc) (rest : List ℕ) → ReadsDesc bytes d rest → (rest ≡ [] → ⊥) → (e : Desc) → IsFieldText bytes e → ⊥
field_trailing bytes d rest r some e text =
    some (one_reading bytes d e rest [] r (field_as_read bytes e text)).1

-- a type that nothing follows is a field descriptor
pub field_whole : (bytes : List ℕ) (d : Desc) (rest : List ℕ) → ReadsDesc bytes d rest → rest ≡ [] → IsFieldText bytes d
field_whole bytes d rest r none = record {
  valid = r.valid;
  spelled = r.parts ∙ ap (λ (z : List ℕ). desc_text d ++ z) none ∙ append-nil (desc_text d);
}

-- the bytes of a field descriptor stand for one type
pub one_field : (bytes : List ℕ) (d e : Desc) → IsFieldText bytes d → IsFieldText bytes e → d ≡ e
one_field bytes d e p q = (one_reading bytes d e [] [] (field_as_read bytes d p) (field_as_read bytes e q)).0

-- a method descriptor's parameters, as they are read
pub method_as_read : (bytes rest : List ℕ) (d : MethodDesc) → bytes ≡ 40 ∷ rest → IsMethodText bytes d → ReadsParams rest d.params (result_text d.result)
method_as_read bytes rest d first text = record {
  valid = text.valid.params;
  parts = (heads 40 40 rest (flat_map desc_text d.params ++ 41 ∷ result_text d.result) (sym first ∙ text.spelled)).1;
}

-- parameters that no result follows are no method descriptor
pub method_stuck : (bytes rest : List ℕ) (ds : List Desc) (after : List ℕ) → bytes ≡ 40 ∷ rest → ReadsParams rest ds after → ((r : Option Desc) → IsResult r → after ≡ result_text r → ⊥) → (d : MethodDesc) → IsMethodText bytes d → ⊥
method_stuck bytes rest ds after first p no_result d text =
    no_result d.result text.valid.result (one_params rest ds d.params after (result_text d.result) p (method_as_read bytes rest d first text)).1

-- `V` begins no type
no_void : (d : Desc) → IsDesc d → 86 ∷ [] ≡ desc_text d → ⊥
no_void (descs.Prim p) v e = no_letter p 86 refl (sym (heads 86 (prim_letter p) [] [] e).0)
no_void (descs.Ref t) v e =
    no_ref 255 (86 ∷ []) 86 [] refl (λ h. omega arith) (inl (λ h. omega arith)) t [] (record { valid = v; parts = e ∙ sym (append-nil (ref_text t)) })

-- a method of these parameters and this result
abbrev method_of : List Desc → Option Desc → MethodDesc
method_of params found = record { params = params; result = found }

-- methods of the same parameters and result are one
same_method : (ps qs : List Desc) (x y : Option Desc) → ps ≡ qs → x ≡ y → method_of ps x ≡ method_of qs y
same_method ps qs x y a b = ap (λ (ds : List Desc). method_of ds x) a ∙ ap (method_of qs) b

-- the bytes of a result stand for one
pub one_result : (x y : Option Desc) → IsResult x → IsResult y → result_text x ≡ result_text y → x ≡ y
one_result None None v w e = refl
one_result None (Some d) v w e = absurd (no_void d w e)
one_result (Some d) None v w e = absurd (no_void d v (sym e))
one_result (Some d) (Some e) v w same =
    ap Some (one_desc d e [] [] v w (ap (λ (z : List ℕ). z ++ []) same)).0

-- the bytes of a method descriptor stand for one method
pub one_method : (bytes : List ℕ) (d e : MethodDesc) → IsMethodText bytes d → IsMethodText bytes e → d ≡ e
one_method bytes d e p q =
    let rest = flat_map desc_text d.params ++ 41 ∷ result_text d.result in
    let same = one_params rest d.params e.params (result_text d.result) (result_text e.result) (method_as_read bytes rest d p.spelled p) (method_as_read bytes rest e p.spelled q) in
    let results = one_result d.result e.result p.valid.result q.valid.result same.1 in
    same_method d.params e.params d.result e.result same.0 results
