-- One turn of each loop that reads one thing after the other.
use Rattle.std.proofs.Common.{◌≡◌, ℕ, ◌+◌, ◌≤◌, ◌<◌, List, [], ◌∷◌, ◌++◌, length, get_or, drop, append_assoc, Option, Some, None, refl, sym, ap, ◌∙◌}
use Rattle.std.proofs.lemmas.List.{drop_more, drop_all, append-nil}
use Rattle.calls_form.specs.declared.read_error.ReadError.{ReadError}
use Rattle.calls_form.specs.declared.read_error.ReadError.TheVariants as errors
use Rattle.calls_form.specs.Reading.{◌>>=◌, Fails}
use Rattle.calls_form.specs.ClassesHeads.{each}

-- what was read before, and what is still read
abbrev pub with_front : {A : Type 0} → List A → Option (List A) → Option (List A)
with_front front read = read >>= λ others. Some (front ++ others)

pub front_each : {A : Type 0} (front : List A) (y : A) (read : Option (List A)) → with_front front (read >>= λ ys. Some (y ∷ ys)) ≡ with_front (front ++ y ∷ []) read
front_each front y None = refl
front_each {A} front y (Some ys) = ap (λ (list : List A). Some list) (simp append_assoc)

-- an element had a value
pub each_goes_on : {A B : Type 0} (f : A → Option B) (xs : List A) (front : List B) (i : ℕ) (x : A) (y : B) (total : Option (List B)) → i < length xs → x ≡ get_or xs i x → f x ≡ Some y
    → with_front front (each f (drop i xs)) ≡ total → with_front (front ++ y ∷ []) (each f (drop (i + 1) xs)) ≡ total
unfolding each
each_goes_on f xs front i x y total lt is e so_far =
    let step : drop i xs ≡ x ∷ drop (i + 1) xs = drop_more xs i x lt ∙ ap (λ v. v ∷ drop (i + 1) xs) (sym is) in
    let read : each f (drop i xs) ≡ (each f (drop (i + 1) xs) >>= λ ys. Some (y ∷ ys)) = ap (each f) step ∙ rw e refl in
    sym (front_each front y (each f (drop (i + 1) xs))) ∙ ap (with_front front) (sym read) ∙ so_far

-- an element had none
pub each_ends : {A B : Type 0} (f : A → Option B) (xs : List A) (e : ReadError) (front : List B) (i : ℕ) (x : A) (total : Option (List B)) → i < length xs → x ≡ get_or xs i x → Fails e (f x)
    → with_front front (each f (drop i xs)) ≡ total → Fails e total
unfolding each
each_ends f xs errors.Memory front i x total lt is e so_far = tt
each_ends f xs errors.Malformed front i x total lt is e so_far =
    let step : drop i xs ≡ x ∷ drop (i + 1) xs = drop_more xs i x lt ∙ ap (λ v. v ∷ drop (i + 1) xs) (sym is) in
    let read : each f (drop i xs) ≡ None = ap (each f) step ∙ rw e refl in
    sym so_far ∙ ap (with_front front) read

-- no element is left
pub each_done : {A B : Type 0} (f : A → Option B) (xs : List A) (front : List B) (i : ℕ) (total : Option (List B)) → length xs ≤ i
    → with_front front (each f (drop i xs)) ≡ total → total ≡ Some front
unfolding each
each_done {A} {B} f xs front i total le so_far =
    let read : each f (drop i xs) ≡ Some [] = ap (each f) (drop_all i xs le) in
    sym so_far ∙ ap (with_front front) read ∙ ap (λ (list : List B). Some list) (append-nil front)

-- the same of an element that is told with another one in its place
pub each_goes_on_or : {A B : Type 0} (f : A → Option B) (xs : List A) (front : List B) (i : ℕ) (d : A) (y : B) (total : Option (List B)) → i < length xs → f (get_or xs i d) ≡ Some y
    → with_front front (each f (drop i xs)) ≡ total → with_front (front ++ y ∷ []) (each f (drop (i + 1) xs)) ≡ total
unfolding each
each_goes_on_or f xs front i d y total lt e so_far =
    let read : each f (drop i xs) ≡ (each f (drop (i + 1) xs) >>= λ ys. Some (y ∷ ys)) = ap (each f) (drop_more xs i d lt) ∙ rw e refl in
    sym (front_each front y (each f (drop (i + 1) xs))) ∙ ap (with_front front) (sym read) ∙ so_far

pub each_ends_or : {A B : Type 0} (f : A → Option B) (xs : List A) (e : ReadError) (front : List B) (i : ℕ) (d : A) (total : Option (List B)) → i < length xs → Fails e (f (get_or xs i d))
    → with_front front (each f (drop i xs)) ≡ total → Fails e total
unfolding each
each_ends_or f xs errors.Memory front i d total lt e so_far = tt
each_ends_or f xs errors.Malformed front i d total lt e so_far =
    let read : each f (drop i xs) ≡ None = ap (each f) (drop_more xs i d lt) ∙ rw e refl in
    sym so_far ∙ ap (with_front front) read
