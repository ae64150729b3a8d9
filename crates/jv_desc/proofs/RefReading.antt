-- What the first byte says of a reference type in front.
use Rattle.std.proofs.Common.{◌≡◌, ◌≢◌, ℕ, ◌-◌, ◌⊎◌, inl, inr, true, false, IsTrue, List, [], ◌∷◌, ◌++◌, sym, ap, subst, ◌∙◌, append_assoc, arith}
use Rattle.jv_lists.proofs.Places.{heads}
use Rattle.jv_types.specs.NameForms.{is_class_name}
use Rattle.jv_types.specs.declared.desc.PrimType.{PrimType}
use Rattle.jv_types.specs.declared.desc.RefType.{RefType, Class, PrimArray, Array}
use Rattle.jv_desc.specs.Texts.{prim_letter, ref_text}
use Rattle.jv_desc.specs.Steps.Reading.{no_semicolon, ReadsRef}
use Rattle.jv_desc.proofs.Layers.{ref_text-Array, ref_dims-Array, is_named-Array}
use Rattle.jv_desc.proofs.Fronts.{layers, named-no_semicolon, one_end}

-- the text of a class, and what follows it
pub class_parts : (name rest : List ℕ) → ref_text (Class name) ++ rest ≡ 76 ∷ (name ++ 59 ∷ rest)
class_parts name rest = ap (λ (z : List ℕ). 76 ∷ z) (append_assoc name (59 ∷ []) rest)

-- the text of an array, and what follows it
pub array_parts : (item : RefType) (rest : List ℕ) → ref_text (Array item) ++ rest ≡ 91 ∷ (ref_text item ++ rest)
array_parts item rest = ap (λ (z : List ℕ). z ++ rest) (ref_text-Array item)

-- what is read at a type that is another one
as_read : (most : ℕ) (bytes : List ℕ) (type other : RefType) (rest : List ℕ) → type ≡ other → ReadsRef most bytes type rest → ReadsRef most bytes other rest
as_read most bytes type other rest e r = subst (λ (t : RefType). ReadsRef most bytes t rest) e r

-- no bytes begin with no type
pub no_ref_none : (most : ℕ) (bytes : List ℕ) → bytes ≡ [] → (type : RefType) (rest : List ℕ) → ReadsRef most bytes type rest → ⊥
no_ref_none most bytes e type rest r =
    elim (layers type) [
      | inl w ↦
          let q = as_read most bytes type (Class w.0) rest w.1 r in
          let parts : [] ≡ 76 ∷ (w.0 ++ 59 ∷ rest) = sym e ∙ q.parts ∙ class_parts w.0 rest in
          cc
      | inr v ↦ elim v [
        | inl w ↦
            let q = as_read most bytes type (PrimArray w.0) rest w.1 r in
            let parts : [] ≡ 91 ∷ (prim_letter w.0 ∷ rest) = sym e ∙ q.parts in
            cc
        | inr w ↦
            let q = as_read most bytes type (Array w.0) rest w.1 r in
            let parts : [] ≡ 91 ∷ (ref_text w.0 ++ rest) = sym e ∙ q.parts ∙ array_parts w.0 rest in
            cc
      ]
    ]

-- a byte that is neither `L` nor `[`, or a `[` where no array may stand
pub no_ref : (most : ℕ) (bytes : List ℕ) (b : ℕ) (xs : List ℕ) → bytes ≡ b ∷ xs → b ≢ 76 → (b ≢ 91) ⊎ (most ≡ 0) → (type : RefType) (rest : List ℕ) → ReadsRef most bytes type rest → ⊥
no_ref most bytes b xs e ne other type rest r =
    elim (layers type) [
      | inl w ↦
          let q = as_read most bytes type (Class w.0) rest w.1 r in
          ne (heads b 76 xs (w.0 ++ 59 ∷ rest) (sym e ∙ q.parts ∙ class_parts w.0 rest)).0
      | inr v ↦ elim v [
        | inl w ↦
            let q = as_read most bytes type (PrimArray w.0) rest w.1 r in
            let h = heads b 91 xs (prim_letter w.0 ∷ rest) (sym e ∙ q.parts) in
            elim other [ inl not_bracket ↦ not_bracket h.0 | inr none ↦ let d = q.valid.dims in absurd (omega arith) ]
        | inr w ↦
            let q = as_read most bytes type (Array w.0) rest w.1 r in
            let h = heads b 91 xs (ref_text w.0 ++ rest) (sym e ∙ q.parts ∙ array_parts w.0 rest) in
            elim other [
              | inl not_bracket ↦ not_bracket h.0
              | inr none ↦ let d = q.valid.dims in let n = ref_dims-Array w.0 in absurd (omega arith)
            ]
      ]
    ]

-- an `L` that no class name follows
pub no_ref_class : (most : ℕ) (bytes xs : List ℕ) → bytes ≡ 76 ∷ xs → ((name rest : List ℕ) → IsTrue (is_class_name name) → xs ≡ name ++ 59 ∷ rest → ⊥) → (type : RefType) (rest : List ℕ) → ReadsRef most bytes type rest → ⊥
no_ref_class most bytes xs e bad type rest r =
    elim (layers type) [
      | inl w ↦
          let q = as_read most bytes type (Class w.0) rest w.1 r in
          bad w.0 rest q.valid.named (heads 76 76 xs (w.0 ++ 59 ∷ rest) (sym e ∙ q.parts ∙ class_parts w.0 rest)).1
      | inr v ↦ elim v [
        | inl w ↦
            let q = as_read most bytes type (PrimArray w.0) rest w.1 r in
            let h = heads 76 91 xs (prim_letter w.0 ∷ rest) (sym e ∙ q.parts) in
            absurd (omega arith)
        | inr w ↦
            let q = as_read most bytes type (Array w.0) rest w.1 r in
            let h = heads 76 91 xs (ref_text w.0 ++ rest) (sym e ∙ q.parts ∙ array_parts w.0 rest) in
            absurd (omega arith)
      ]
    ]

-- a `[` that neither a primitive type nor a reference type of fewer arrays follows
pub no_ref_array : (most : ℕ) (bytes xs : List ℕ) → bytes ≡ 91 ∷ xs → ((prim : PrimType) (rest : List ℕ) → xs ≡ prim_letter prim ∷ rest → ⊥) → ((type : RefType) (rest : List ℕ) → ReadsRef (most - 1) xs type rest → ⊥) → (type : RefType) (rest : List ℕ) → ReadsRef most bytes type rest → ⊥
no_ref_array most bytes xs e no_prim no_item type rest r =
    elim (layers type) [
      | inl w ↦
          let q = as_read most bytes type (Class w.0) rest w.1 r in
          let h = heads 91 76 xs (w.0 ++ 59 ∷ rest) (sym e ∙ q.parts ∙ class_parts w.0 rest) in
          absurd (omega arith)
      | inr v ↦ elim v [
        | inl w ↦
            let q = as_read most bytes type (PrimArray w.0) rest w.1 r in
            no_prim w.0 rest (heads 91 91 xs (prim_letter w.0 ∷ rest) (sym e ∙ q.parts)).1
        | inr w ↦
            let q = as_read most bytes type (Array w.0) rest w.1 r in
            let d = q.valid.dims in
            let n = ref_dims-Array w.0 in
            no_item w.0 rest (record {
              valid = record { dims = omega arith; named = sym (is_named-Array w.0) ∙ q.valid.named };
              parts = (heads 91 91 xs (ref_text w.0 ++ rest) (sym e ∙ q.parts ∙ array_parts w.0 rest)).1;
            })
      ]
    ]

-- a `[` and a reference type of fewer arrays
pub yes_ref_array : (most : ℕ) (bytes xs : List ℕ) (item made : RefType) (rest : List ℕ) → bytes ≡ 91 ∷ xs → most ≢ 0 → made ≡ item → ReadsRef (most - 1) xs item rest → ReadsRef most bytes (Array made) rest
yes_ref_array most bytes xs item made rest e some same r =
    let d = r.valid.dims in
    let n = ref_dims-Array item in
    let whole : ReadsRef most bytes (Array item) rest = record {
      valid = record { dims = omega arith; named = is_named-Array item ∙ r.valid.named };
      parts = e ∙ ap (λ (z : List ℕ). 91 ∷ z) r.parts ∙ sym (array_parts item rest);
    } in
    subst (λ (t : RefType). ReadsRef most bytes (Array t) rest) (sym same) whole

-- bytes that are cut at their first `;` where no class name stands begin with none
pub no_class : (bytes name after : List ℕ) → no_semicolon name ≡ true → bytes ≡ name ++ 59 ∷ after → is_class_name name ≡ false → (other rest : List ℕ) → IsTrue (is_class_name other) → bytes ≡ other ++ 59 ∷ rest → ⊥
no_class bytes name after none parts bad other rest named other_parts =
    let same = one_end name other after rest none (named-no_semicolon other named) (sym parts ∙ other_parts) in
    let yes : is_class_name name ≡ true = ap is_class_name same.0 ∙ named in
    cc
