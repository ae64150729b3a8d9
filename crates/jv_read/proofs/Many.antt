-- Parts of one kind, one after the other: as a loop reads them, and as they are spelled.
use Rattle.std.proofs.Common.{◌≡◌, ℕ, zero, suc, ◌-◌, ◌+◌, ◌≤◌, ◌<◌, ◌^◌, List, [], ◌∷◌, ◌++◌, length, Option, Some, None, refl, sym, ap, ◌∙◌, append_assoc, arith}
use Rattle.std.specs.List.{flat_map, AllByRecursion}
use Rattle.std.proofs.lemmas.List.{append-nil}
use Rattle.std.proofs.lemmas.List.Concat.{flat_map-cons}
use Rattle.jv_bytes.specs.Numbers.{number_text}
use Rattle.jv_read.specs.Reading.{◌>>=◌}
use Rattle.jv_read.proofs.Fronts.{bind_some, bind_is, given_as, joined, number_takes, number_again}
use Rattle.jv_read.proofs.Loops.{with_front, front_none, regroup}
use Rattle.jv_read.specs.declared.fault.ReadFault.{ReadFault}
use Rattle.jv_read.specs.declared.fault.ReadFault.TheVariants as faults
use Rattle.jv_read.specs.Reading.{Fails, number_at, many_at, counted_at}

-- ---- a loop

-- nothing was read yet
pub many_begin : {A : Type 0} (one : List ℕ → Option (A × List ℕ)) (front : List A) (count : ℕ) (bytes : List ℕ) → front ≡ [] → with_front front (many_at one (count - 0) bytes) ≡ many_at one count bytes
many_begin one front count bytes e =
    let k : count - 0 ≡ count = omega arith in
    rw k (front_none front (many_at one count bytes) e)

-- one part more was read
pub many_goes_on : {A : Type 0} (one : List ℕ → Option (A × List ℕ)) (front : List A) (count i : ℕ) (bytes after : List ℕ) (a : A) (total : Option (List A × List ℕ)) → i < count
    → one bytes ≡ Some (a, after) → with_front front (many_at one (count - i) bytes) ≡ total → with_front (front ++ a ∷ []) (many_at one (count - (i + 1)) after) ≡ total
unfolding many_at
many_goes_on one front count i bytes after a total lt h so_far =
    let k : count - i ≡ suc (count - (i + 1)) = omega arith in
    let step : with_front front (many_at one (count - i) bytes) ≡ with_front (front ++ a ∷ []) (many_at one (count - (i + 1)) after) = rw (k, h) (regroup front a (many_at one (count - (i + 1)) after)) in
    sym step ∙ so_far

-- a part that is not read ends it all
pub many_ends : {A : Type 0} (error : ReadFault) (one : List ℕ → Option (A × List ℕ)) (front : List A) (count i : ℕ) (bytes : List ℕ) (total : Option (List A × List ℕ)) → i < count
    → Fails error (one bytes) → with_front front (many_at one (count - i) bytes) ≡ total → Fails error total
unfolding many_at
many_ends faults.Memory one front count i bytes total lt h so_far = tt
many_ends faults.Bad one front count i bytes total lt h so_far =
    let k : count - i ≡ suc (count - (i + 1)) = omega arith in
    let step : with_front front (many_at one (count - i) bytes) ≡ None = rw (k, h) refl in
    sym so_far ∙ step

-- all parts were read
pub many_done : {A : Type 0} (one : List ℕ → Option (A × List ℕ)) (front : List A) (count i : ℕ) (bytes : List ℕ) (total : Option (List A × List ℕ)) → count ≤ i
    → with_front front (many_at one (count - i) bytes) ≡ total → total ≡ Some (front, bytes)
unfolding many_at
many_done {A} one front count i bytes total le so_far =
    let k : count - i ≡ 0 = omega arith in
    let step : with_front front (many_at one (count - i) bytes) ≡ Some (front, bytes) = rw k (ap (λ (es : List A). Some (es, bytes)) (append-nil front)) in
    sym so_far ∙ step

-- ---- their texts

-- parts that are read are spelled so
pub many_take : {A : Type 0} (one : List ℕ → Option (A × List ℕ)) (text : A → List ℕ) (P : A → Type 0) → ((bytes : List ℕ) (x : A × List ℕ) → one bytes ≡ Some x → P x.0 × (bytes ≡ text x.0 ++ x.1))
    → (n : ℕ) (bytes : List ℕ) (x : List A × List ℕ) → many_at one n bytes ≡ Some x → AllByRecursion P x.0 × (length x.0 ≡ n) × (bytes ≡ flat_map text x.0 ++ x.1)
unfolding many_at
many_take {A} one text P takes zero bytes x e =
    let made : List A × List ℕ = ([], bytes) in
    given_as (λ (y : List A × List ℕ). AllByRecursion P y.0 × (length y.0 ≡ 0) × (bytes ≡ flat_map text y.0 ++ y.1)) made x e (tt, refl, refl)
many_take {A} one text P takes (suc n) bytes x e =
    let a = bind_some (one bytes) (λ first. many_at one n first.1 >>= λ others. Some (first.0 ∷ others.0, others.1)) x e in
    let b = bind_some (many_at one n a.0.1) (λ others. Some (a.0.0 ∷ others.0, others.1)) x a.2 in
    let s = takes bytes a.0 a.1 in
    let t = many_take one text P takes n a.0.1 b.0 b.1 in
    let whole : bytes ≡ flat_map text (a.0.0 ∷ b.0.0) ++ b.0.1 = rw flat_map-cons (joined bytes (text a.0.0) (flat_map text b.0.0) a.0.1 b.0.1 s.1 t.2) in
    let made : List A × List ℕ = (a.0.0 ∷ b.0.0, b.0.1) in
    given_as (λ (y : List A × List ℕ). AllByRecursion P y.0 × (length y.0 ≡ suc n) × (bytes ≡ flat_map text y.0 ++ y.1)) made x b.2 ((s.0, t.0), omega (arith, t.1), whole)

-- parts are read again, whatever follows
pub many_again : {A : Type 0} (one : List ℕ → Option (A × List ℕ)) (text : A → List ℕ) (P : A → Type 0) → ((a : A) (rest : List ℕ) → P a → one (text a ++ rest) ≡ Some (a, rest))
    → (parts : List A) (rest : List ℕ) → AllByRecursion P parts → many_at one (length parts) (flat_map text parts ++ rest) ≡ Some (parts, rest)
unfolding many_at
many_again one text P again [] rest h = refl
many_again one text P again (a ∷ parts) rest h =
    let after = flat_map text parts ++ rest in
    let regrouped : flat_map text (a ∷ parts) ++ rest ≡ text a ++ after = ap (λ (x : List ℕ). x ++ rest) (flat_map-cons text a parts) ∙ append_assoc (text a) (flat_map text parts) rest in
    ap (many_at one (length (a ∷ parts))) regrouped
    ∙ bind_is (one (text a ++ after)) (λ first. many_at one (length parts) first.1 >>= λ x. Some (first.0 ∷ x.0, x.1)) (a, after) (again a after h.0)
    ∙ bind_is (many_at one (length parts) after) (λ x. Some (a ∷ x.0, x.1)) (parts, rest) (many_again one text P again parts rest h.1)

-- a count and as many parts that are read are spelled so
pub counted_take : {A : Type 0} (one : List ℕ → Option (A × List ℕ)) (text : A → List ℕ) (P : A → Type 0) → ((bytes : List ℕ) (x : A × List ℕ) → one bytes ≡ Some x → P x.0 × (bytes ≡ text x.0 ++ x.1))
    → (bytes : List ℕ) (x : List A × List ℕ) → counted_at one bytes ≡ Some x → AllByRecursion P x.0 × (length x.0 < 2 ^ 16) × (bytes ≡ (number_text 2 (length x.0) ++ flat_map text x.0) ++ x.1)
unfolding counted_at
counted_take one text P takes bytes x e =
    let a = bind_some (number_at 2 bytes) (λ count. many_at one count.0 count.1) x e in
    let s = number_takes 2 bytes a.0 a.1 in
    let t = many_take one text P takes a.0.0 a.0.1 x a.2 in
    (t.0, omega (arith, t.1, s.1), joined bytes (number_text 2 (length x.0)) (flat_map text x.0) a.0.1 x.1 (s.0 ∙ ap (λ (k : ℕ). number_text 2 k ++ a.0.1) (sym t.1)) t.2)

-- a count and as many parts are read again, whatever follows
pub counted_again : {A : Type 0} (one : List ℕ → Option (A × List ℕ)) (text : A → List ℕ) (P : A → Type 0) → ((a : A) (rest : List ℕ) → P a → one (text a ++ rest) ≡ Some (a, rest))
    → (parts : List A) (rest : List ℕ) → AllByRecursion P parts → length parts < 2 ^ 16 → counted_at one ((number_text 2 (length parts) ++ flat_map text parts) ++ rest) ≡ Some (parts, rest)
unfolding counted_at
counted_again one text P again parts rest h few =
    let after = flat_map text parts ++ rest in
    ap (λ (b : List ℕ). number_at 2 b >>= λ count. many_at one count.0 count.1) (append_assoc (number_text 2 (length parts)) (flat_map text parts) rest)
    ∙ bind_is (number_at 2 (number_text 2 (length parts) ++ after)) (λ count. many_at one count.0 count.1) (length parts, after) (number_again 2 (length parts) after few)
    ∙ many_again one text P again parts rest h

-- each has both
pub both_of : {A : Type 0} (P Q : A → Type 0) (xs : List A) → AllByRecursion P xs → AllByRecursion Q xs → AllByRecursion (λ x. P x × Q x) xs
both_of P Q [] p q = tt
both_of P Q (x ∷ xs) p q = ((p.0, q.0), both_of P Q xs p.1 q.1)

pub first_of_both : {A : Type 0} (P Q : A → Type 0) (xs : List A) → AllByRecursion (λ x. P x × Q x) xs → AllByRecursion P xs
first_of_both P Q [] h = tt
first_of_both P Q (x ∷ xs) h = (h.0.0, first_of_both P Q xs h.1)

pub second_of_both : {A : Type 0} (P Q : A → Type 0) (xs : List A) → AllByRecursion (λ x. P x × Q x) xs → AllByRecursion Q xs
second_of_both P Q [] h = tt
second_of_both P Q (x ∷ xs) h = (h.0.1, second_of_both P Q xs h.1)
