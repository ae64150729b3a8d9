-- How verification types compare by their keys.
use Rattle.std.proofs.Common.{◌≡◌, ℕ, List, ◌∷◌, refl, sym, ap, ◌∙◌}
use Rattle.std.specs.Ordering.{nat_cmp}
use Rattle.std.specs.declared.cmp.Ordering.{Ordering}
use Rattle.std.specs.Cmp.Lexicographic.{slice_cmp}
use Rattle.jv_types.specs.declared.frames.VType.{VType, Array}
use Rattle.jv_types.specs.Frames.{vtype_key, vtype_cmp}

-- the key of an array is that of its items under its kind
pub vtype_key-Array : (item : VType) → vtype_key (Array item) ≡ 10 ∷ vtype_key item
unfolding Rattle.jv_types.specs.declared.frames.VType.TheBlock.shape-the_row-VType-0 Rattle.jv_types.specs.declared.frames.VType.TheBlock.hidden-the_row-VType-0 denote.Hole.Carrier.hidden
vtype_key-Array item = refl

Array-Array : (x y : VType) → vtype_cmp x y ≡ vtype_cmp (Array x) (Array y)
Array-Array x y =
    sym (ap (λ (k : List ℕ). slice_cmp nat_cmp k (vtype_key (Array y))) (vtype_key-Array x)
    ∙ ap (λ (k : List ℕ). slice_cmp nat_cmp (10 ∷ vtype_key x) k) (vtype_key-Array y))

-- arrays compare as what they are arrays of
pub arrays_compare : (x y p q a b : VType) (r : Ordering) → a ≡ Array x → b ≡ Array y → p ≡ x → q ≡ y → r ≡ vtype_cmp p q → r ≡ vtype_cmp a b
arrays_compare x y p q a b r ea eb ep eq er =
    er ∙ ap (λ (z : VType). vtype_cmp z q) ep ∙ ap (vtype_cmp x) eq ∙ Array-Array x y
    ∙ sym (ap (λ (z : VType). vtype_cmp z b) ea ∙ ap (vtype_cmp (Array x)) eb)
