-- The loops over parameters that are handed over, and over values that are put.
use Rattle.std.proofs.Common.{◌≡◌, ℕ, zero, suc, ◌+◌, ◌<◌, ◌≤◌, List, [], ◌∷◌, ◌++◌, length, map, take, get_or, sym, ap, ◌∙◌, append_assoc, append-nil, arith}
use Rattle.std.specs.Prelude.{sum_by}
use Rattle.std.proofs.lemmas.List.{take_more, map-append}
use Rattle.std.proofs.lemmas.List.Sums.{sum_by-cons, sum_by-append}
use Rattle.jv_types.specs.declared.desc.Desc.{Desc}
use Rattle.jv_types.specs.declared.desc.Desc.TheVariants as descs
use Rattle.jv_types.specs.declared.frames.VType.{VType}
use Rattle.jv_desc.specs.Texts.{desc_words}
use Rattle.jv_frames.specs.Types.{desc_vtype, ref_vtype}
use Rattle.av_asm.specs.Built.{Built}
use Rattle.av_standin_of.specs.Codes.{Row, value_of, values_of}
use Rattle.av_standin_of.specs.Templates.{hand_over, hand_over_params}
use Rattle.av_templates.specs.Putting.{with_rows}
use Rattle.av_templates.proofs.Adding.{then_rows}

-- ---- lists

sum_cons : (x : Desc) (xs : List Desc) → sum_by desc_words (x ∷ xs) ≡ desc_words x + sum_by desc_words xs
sum_cons x xs = sum_by-cons desc_words x xs

sum_join : (xs ys : List Desc) → sum_by desc_words (xs ++ ys) ≡ sum_by desc_words xs + sum_by desc_words ys
sum_join xs ys = sum_by-append desc_words xs ys

next_param : (params : List Desc) (i : ℕ) (param : Desc) → i < length params → param ≡ get_or params i param → take (i + 1) params ≡ take i params ++ param ∷ []
next_param params i param lt is = take_more params i param lt ∙ ap (λ (p : Desc). take i params ++ p ∷ []) (sym is)

-- what is left fits too
pub sum_within : (params : List Desc) (i : ℕ) (param : Desc) → i < length params → param ≡ get_or params i param → sum_by desc_words (take i params) + desc_words param ≤ sum_by desc_words params
sum_within [] i param lt is = absurd (omega arith)
sum_within (p ∷ params) zero param lt is = let same : desc_words param ≡ desc_words p = ap desc_words is in omega (arith, same, sum_cons p params)
sum_within (p ∷ params) (suc i) param lt is = omega (arith, sum_within params i param (omega arith) is, sum_cons p params, sum_cons p (take i params))

-- ---- parameters that are handed over

params_join : (words : ℕ) (locals : List VType) (first : ℕ) (xs ys : List Desc)
    → hand_over_params words locals first (xs ++ ys) ≡ hand_over_params words locals first xs ++ hand_over_params words locals (first + sum_by desc_words xs) ys
params_join words locals first [] ys = ap (λ (n : ℕ). hand_over_params words locals n ys) (omega arith)
params_join words locals first (descs.Ref type ∷ xs) ys =
    ap (λ (rows : List Row). hand_over words locals first (ref_vtype type) ++ rows) (params_join words locals (first + 1) xs ys)
    ∙ sym (append_assoc (hand_over words locals first (ref_vtype type)) (hand_over_params words locals (first + 1) xs) (hand_over_params words locals (first + 1 + sum_by desc_words xs) ys))
    ∙ ap (λ (n : ℕ). (hand_over words locals first (ref_vtype type) ++ hand_over_params words locals (first + 1) xs) ++ hand_over_params words locals n ys) (omega (arith, sum_cons (descs.Ref type) xs))
params_join words locals first (descs.Prim prim ∷ xs) ys =
    params_join words locals (first + desc_words (descs.Prim prim)) xs ys
    ∙ ap (λ (n : ℕ). hand_over_params words locals (first + desc_words (descs.Prim prim)) xs ++ hand_over_params words locals n ys) (omega (arith, sum_cons (descs.Prim prim) xs))

-- the parameters before a place were handed over, and the next is in a local variable
pub record AreHandedOver (words : ℕ) (locals : List VType) (first : ℕ) (params : List Desc) (i local : ℕ) (old now : Built) : Type 0 where
  pub local_is : local ≡ first + sum_by desc_words (take i params)
  pub built : now ≡ with_rows old (hand_over_params words locals first (take i params))

pub handed_more : (words : ℕ) (locals : List VType) (first : ℕ) (params : List Desc) (i local next : ℕ) (param : Desc) (old now new : Built) → i < length params → param ≡ get_or params i param
    → AreHandedOver words locals first params i local old now → new ≡ with_rows now (hand_over_params words locals local (param ∷ [])) → next ≡ local + desc_words param
    → AreHandedOver words locals first params (i + 1) next old new
handed_more words locals first params i local next param old now new lt is h adds goes =
    let more = next_param params i param lt is in
    let front = take i params in
    let sum : sum_by desc_words (take (i + 1) params) ≡ sum_by desc_words front + sum_by desc_words (param ∷ []) = ap (sum_by desc_words) more ∙ sum_join front (param ∷ []) in
    let there = h.local_is in
    let step : new ≡ with_rows now (hand_over_params words locals (first + sum_by desc_words front) (param ∷ [])) = adds ∙ ap (λ (n : ℕ). with_rows now (hand_over_params words locals n (param ∷ []))) there in
    let all = then_rows old now new (hand_over_params words locals first front) (hand_over_params words locals (first + sum_by desc_words front) (param ∷ [])) h.built step in
    record {
      local_is = omega (arith, goes, there, sum, sum_cons param []);
      built = all ∙ ap (λ (rows : List Row). with_rows old rows) (sym (params_join words locals first front (param ∷ []))) ∙ ap (λ (ps : List Desc). with_rows old (hand_over_params words locals first ps)) (sym more);
    }

-- ---- values that are put

values_join : (words : ℕ) (locals stack : List VType) (xs : List Desc) (y : Desc)
    → values_of words locals stack (xs ++ y ∷ []) ≡ values_of words locals stack xs ++ value_of words locals (stack ++ map desc_vtype xs) y
values_join words locals stack [] y = simp append-nil
values_join words locals stack (x ∷ xs) y =
    ap (λ (rows : List Row). value_of words locals stack x ++ rows) (values_join words locals (stack ++ desc_vtype x ∷ []) xs y)
    ∙ sym (append_assoc (value_of words locals stack x) (values_of words locals (stack ++ desc_vtype x ∷ []) xs) (value_of words locals ((stack ++ desc_vtype x ∷ []) ++ map desc_vtype xs) y))
    ∙ ap (λ (types : List VType). (value_of words locals stack x ++ values_of words locals (stack ++ desc_vtype x ∷ []) xs) ++ value_of words locals types y) (append_assoc stack (desc_vtype x ∷ []) (map desc_vtype xs))

-- values of the types before a place were put, and are on the stack
pub record ArePut (words : ℕ) (locals first stack : List VType) (all : List Desc) (i : ℕ) (old now : Built) : Type 0 where
  pub stack_is : stack ≡ first ++ map desc_vtype (take i all)
  pub built : now ≡ with_rows old (values_of words locals first (take i all))

pub put_more : (words : ℕ) (locals first stack next : List VType) (all : List Desc) (i : ℕ) (one : Desc) (old now new : Built) → i < length all → one ≡ get_or all i one
    → ArePut words locals first stack all i old now → new ≡ with_rows now (value_of words locals stack one) → next ≡ stack ++ desc_vtype one ∷ []
    → ArePut words locals first next all (i + 1) old new
put_more words locals first stack next all i one old now new lt is h adds goes =
    let more = next_param all i one lt is in
    let front = take i all in
    let types : map desc_vtype (take (i + 1) all) ≡ map desc_vtype front ++ desc_vtype one ∷ [] = ap (map desc_vtype) more ∙ map-append desc_vtype front (one ∷ []) in
    let step : new ≡ with_rows now (value_of words locals (first ++ map desc_vtype front) one) = adds ∙ ap (λ (types : List VType). with_rows now (value_of words locals types one)) h.stack_is in
    record {
      stack_is = goes ∙ ap (λ (types : List VType). types ++ desc_vtype one ∷ []) h.stack_is ∙ append_assoc first (map desc_vtype front) (desc_vtype one ∷ []) ∙ ap (λ (types : List VType). first ++ types) (sym types);
      built = then_rows old now new (values_of words locals first front) (value_of words locals (first ++ map desc_vtype front) one) h.built step
          ∙ ap (λ (rows : List Row). with_rows old rows) (sym (values_join words locals first front one)) ∙ ap (λ (ds : List Desc). with_rows old (values_of words locals first ds)) (sym more);
    }
