-- How the types of objects compare by their keys.
use Rattle.std.proofs.Common.{◌≡◌, ℕ, List, [], ◌∷◌, map, refl, sym, ap, ◌∙◌}
use Rattle.std.specs.Ordering.{nat_cmp, ordering_then}
use Rattle.std.specs.declared.cmp.Ordering.{Ordering}
use Rattle.std.specs.Cmp.Lexicographic.{slice_cmp}
use Rattle.jv_types.specs.declared.ids.ClassId.{ClassId}
use Rattle.jv_types.specs.contracts.ids.ClassIdOrd as class_id_ord
use Rattle.av_states.specs.declared.run_type.RunType.{RunType, Array}
use Rattle.av_states.specs.RunKeys.{run_key, run_cmp}

-- lists of classes compare as their numbers
pub classes_cmp : (xs ys : List ClassId)
    → slice_cmp class_id_ord.TheImpl.ghosts.cmp xs ys ≡ slice_cmp nat_cmp (map (λ (class : ClassId). class.number) xs) (map (λ (class : ClassId). class.number) ys)
classes_cmp [] [] = refl
classes_cmp [] (y ∷ ys) = refl
classes_cmp (x ∷ xs) [] = refl
classes_cmp (x ∷ xs) (y ∷ ys) = ap (λ (r : Ordering). ordering_then (nat_cmp x.number y.number) r) (classes_cmp xs ys)

-- the key of an array is that of its items under its kind
run_key-Array : (item : RunType) → run_key (Array item) ≡ 3 ∷ run_key item
unfolding Rattle.av_states.specs.declared.run_type.RunType.TheBlock.shape-the_row-RunType-0 Rattle.av_states.specs.declared.run_type.RunType.TheBlock.hidden-the_row-RunType-0 denote.Hole.Carrier.hidden
run_key-Array item = refl

Array-Array : (x y : RunType) → run_cmp x y ≡ run_cmp (Array x) (Array y)
Array-Array x y =
    sym (ap (λ (k : List ℕ). slice_cmp nat_cmp k (run_key (Array y))) (run_key-Array x)
    ∙ ap (λ (k : List ℕ). slice_cmp nat_cmp (3 ∷ run_key x) k) (run_key-Array y))

-- arrays compare as what they are arrays of
pub arrays_compare : (x y p q a b : RunType) (r : Ordering) → a ≡ Array x → b ≡ Array y → p ≡ x → q ≡ y → r ≡ run_cmp p q → r ≡ run_cmp a b
arrays_compare x y p q a b r ea eb ep eq er =
    er ∙ ap (λ (z : RunType). run_cmp z q) ep ∙ ap (run_cmp x) eq ∙ Array-Array x y
    ∙ sym (ap (λ (z : RunType). run_cmp z b) ea ∙ ap (run_cmp (Array x)) eb)
