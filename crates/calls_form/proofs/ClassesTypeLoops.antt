-- Reading the types of parameters one after the other.
use Rattle.std.proofs.Common.{◌≡◌, ℕ, suc, ◌-◌, ◌+◌, ◌≤◌, ◌<◌, true, false, List, [], ◌∷◌, ◌++◌, Option, Some, None, refl, sym, ap, ◌∙◌, arith}
use Rattle.std.proofs.lemmas.List.{append-nil}
use Rattle.calls_form.specs.declared.object_class.Kind.{Kind}
use Rattle.calls_form.specs.declared.read_error.ReadError.{ReadError}
use Rattle.calls_form.specs.declared.read_error.ReadError.TheVariants as errors
use Rattle.calls_form.specs.Reading.{Fails}
use Rattle.calls_form.specs.ClassesTypes.{is_closed, type_at, types_at}
use Rattle.calls_form.proofs.LayoutLoops.{with_front, regroup}

-- one type more was read
pub type_goes_on : (own : List ℕ) (front : List Kind) (count i : ℕ) (bytes after : List ℕ) (kind : Kind) (total : Option (List Kind × List ℕ)) → i < count → is_closed bytes ≡ false
    → type_at own bytes ≡ Some (kind, after) → with_front front (types_at (count - i) own bytes) ≡ total → with_front (front ++ kind ∷ []) (types_at (count - (i + 1)) own after) ≡ total
unfolding types_at
type_goes_on own front count i bytes after kind total lt opened h so_far =
    let k : count - i ≡ suc (count - (i + 1)) = omega arith in
    let one : with_front front (types_at (count - i) own bytes) ≡ with_front (front ++ kind ∷ []) (types_at (count - (i + 1)) own after) = rw (k, opened, h) (regroup front kind (types_at (count - (i + 1)) own after)) in
    sym one ∙ so_far

-- a type that is not read ends it all
pub type_ends : (error : ReadError) (own : List ℕ) (front : List Kind) (count i : ℕ) (bytes : List ℕ) (total : Option (List Kind × List ℕ)) → i < count → is_closed bytes ≡ false
    → Fails error (type_at own bytes) → with_front front (types_at (count - i) own bytes) ≡ total → Fails error total
unfolding types_at
type_ends errors.Memory own front count i bytes total lt opened h so_far = tt
type_ends errors.Malformed own front count i bytes total lt opened h so_far =
    let k : count - i ≡ suc (count - (i + 1)) = omega arith in
    let one : with_front front (types_at (count - i) own bytes) ≡ None = rw (k, opened, h) refl in
    sym so_far ∙ one

-- the parameters end
pub types_close : (own : List ℕ) (front : List Kind) (count i : ℕ) (bytes : List ℕ) (total : Option (List Kind × List ℕ)) → i < count → is_closed bytes ≡ true
    → with_front front (types_at (count - i) own bytes) ≡ total → total ≡ Some (front, bytes)
unfolding types_at
types_close own front count i bytes total lt closed so_far =
    let k : count - i ≡ suc (count - (i + 1)) = omega arith in
    let one : with_front front (types_at (count - i) own bytes) ≡ Some (front, bytes) = rw (k, closed) (ap (λ (kinds : List Kind). Some (kinds, bytes)) (append-nil front)) in
    sym so_far ∙ one

-- no more parameters may come
pub types_are_done : (own : List ℕ) (front : List Kind) (count i : ℕ) (bytes : List ℕ) (total : Option (List Kind × List ℕ)) → count ≤ i
    → with_front front (types_at (count - i) own bytes) ≡ total → total ≡ Some (front, bytes)
unfolding types_at
types_are_done own front count i bytes total le so_far =
    let k : count - i ≡ 0 = omega arith in
    let one : with_front front (types_at (count - i) own bytes) ≡ Some (front, bytes) = rw k (ap (λ (kinds : List Kind). Some (kinds, bytes)) (append-nil front)) in
    sym so_far ∙ one
