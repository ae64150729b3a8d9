-- Reading types one after the other, as a loop does.
use Rattle.std.proofs.Common.{◌≡◌, ℕ, List, [], ◌∷◌, ◌++◌, length, refl, sym, ap, ◌∙◌, append_assoc, arith, length-append}
use Rattle.std.specs.List.{flat_map, AllByRecursion}
use Rattle.std.proofs.lemmas.List.{append-nil}
use Rattle.jv_types.specs.declared.desc.Desc.{Desc}
use Rattle.jv_desc.specs.Texts.{IsDesc, desc_text}
use Rattle.jv_desc.specs.Steps.Reading.{ReadsDesc, ReadsParams}
use Rattle.jv_desc.proofs.Agreement.{one_reading, first_param}

-- each of some types, and one more
each_push : (ds : List Desc) (d : Desc) → AllByRecursion IsDesc ds → IsDesc d → AllByRecursion IsDesc (ds ++ d ∷ [])
each_push [] d each v = (v, tt)
each_push (e ∷ ds) d each v = (each.0, each_push ds d each.1 v)

-- the texts of some types, and of one more
texts_push : (ds : List Desc) (d : Desc) (rest : List ℕ) → flat_map desc_text (ds ++ d ∷ []) ++ rest ≡ flat_map desc_text ds ++ (desc_text d ++ rest)
texts_push [] d rest = ap (λ (z : List ℕ). z ++ rest) (append-nil (desc_text d))
texts_push (e ∷ ds) d rest =
    append_assoc (desc_text e) (flat_map desc_text (ds ++ d ∷ [])) rest
    ∙ ap (λ (z : List ℕ). desc_text e ++ z) (texts_push ds d rest)
    ∙ sym (append_assoc (desc_text e) (flat_map desc_text ds) (desc_text d ++ rest))

-- what was read so far, and that no other reading is left
pub record ParamsSoFar (bytes : List ℕ) (ds : List Desc) (left : List ℕ) : Type 0 where
  pub each : AllByRecursion IsDesc ds
  pub parts : bytes ≡ flat_map desc_text ds ++ left
  pub only : (all : List Desc) (rest : List ℕ) → ReadsParams bytes all rest → (more : List Desc) × (all ≡ ds ++ more) × ReadsParams left more rest

-- before the first type
pub params_none : (bytes : List ℕ) → ParamsSoFar bytes [] bytes
params_none bytes = record { each = tt; parts = refl; only = λ all rest r. (all, refl, r) }

-- what a type in front leaves of a reading
params_rest : (left : List ℕ) (d : Desc) (after : List ℕ) (more : List Desc) (rest : List ℕ) → ((x : List ℕ) → left ≡ 41 ∷ x → ⊥) → ReadsDesc left d after → ReadsParams left more rest → (others : List Desc) × (more ≡ d ∷ others) × ReadsParams after others rest
params_rest left d after [] rest not_end r p = absurd (not_end rest p.parts)
params_rest left d after (e ∷ es) rest not_end r p =
    let same = one_reading left d e after (flat_map desc_text es ++ 41 ∷ rest) r (first_param left e es rest p) in
    (es, ap (λ (z : Desc). z ∷ es) (sym same.0), record { valid = p.valid.1; parts = same.1 })

-- after one type more
pub params_more : (bytes : List ℕ) (ds : List Desc) (left : List ℕ) (d : Desc) (after : List ℕ) → ParamsSoFar bytes ds left → ((x : List ℕ) → left ≡ 41 ∷ x → ⊥) → ReadsDesc left d after → ParamsSoFar bytes (ds ++ d ∷ []) after
params_more bytes ds left d after so_far not_end r = record {
  each = each_push ds d so_far.each r.valid;
  parts = so_far.parts ∙ ap (λ (z : List ℕ). flat_map desc_text ds ++ z) r.parts ∙ sym (texts_push ds d after);
  only = λ all rest p.
      let left_all = so_far.only all rest p in
      let next = params_rest left d after left_all.0 rest not_end r left_all.2 in
      (next.0, left_all.1 ∙ ap (λ (z : List Desc). ds ++ z) next.1 ∙ sym (append_assoc ds (d ∷ []) next.0), next.2);
}

-- at the `)` all is read
pub params_all : (bytes : List ℕ) (ds : List Desc) (left rest : List ℕ) → ParamsSoFar bytes ds left → left ≡ 41 ∷ rest → ReadsParams bytes ds rest
params_all bytes ds left rest so_far e = record {
  valid = so_far.each;
  parts = so_far.parts ∙ ap (λ (z : List ℕ). flat_map desc_text ds ++ z) e;
}

-- where neither a type nor a `)` is next, there is no reading
pub params_stuck : (bytes : List ℕ) (ds : List Desc) (left : List ℕ) → ParamsSoFar bytes ds left → ((x : List ℕ) → left ≡ 41 ∷ x → ⊥) → ((d : Desc) (after : List ℕ) → ReadsDesc left d after → ⊥) → (all : List Desc) (rest : List ℕ) → ReadsParams bytes all rest → ⊥
params_stuck bytes ds left so_far not_end not_desc all rest p =
    left_stuck (so_far.only all rest p).0 (so_far.only all rest p).2
  where
    left_stuck : (more : List Desc) → ReadsParams left more rest → ⊥
    left_stuck [] q = not_end rest q.parts
    left_stuck (e ∷ es) q = not_desc e (flat_map desc_text es ++ 41 ∷ rest) (first_param left e es rest q)

-- where nothing is left, there is no reading
pub params_cut : (bytes : List ℕ) (ds : List Desc) (left : List ℕ) → ParamsSoFar bytes ds left → left ≡ [] → (all : List Desc) (rest : List ℕ) → ReadsParams bytes all rest → ⊥
params_cut bytes ds left so_far e all rest p =
    let q = (so_far.only all rest p).2 in
    let len = ap (length {A = ℕ}) (sym q.parts ∙ e) in
    let sum = length-append (flat_map desc_text (so_far.only all rest p).0) (41 ∷ rest) in
    omega arith
