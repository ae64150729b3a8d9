-- How types compare by their keys.
use Rattle.std.proofs.Common.{◌≡◌, ℕ, ◌+◌, ◌<◌, List, ◌∷◌, refl, sym, ap, ◌∙◌, arith}
use Rattle.std.specs.Cmp.{nat_cmp_is, ranks}
use Rattle.std.specs.Ordering.{nat_cmp, ordering_then, MatchOrdering}
use Rattle.std.specs.declared.cmp.Ordering.{Ordering}
use Rattle.std.specs.declared.cmp.Ordering.TheVariants.{Less, Equal, Greater}
use Rattle.std.specs.Cmp.Lexicographic.{slice_cmp}
use Rattle.jv_types.specs.declared.desc.RefType.{RefType, Class, PrimArray, Array}
use Rattle.jv_types.specs.declared.desc.PrimType.{PrimType}
use Rattle.jv_types.specs.Types.{ref_depth, ref_base, ref_cmp}

-- an array of a type has one array more
pub ref_depth-Array : (item : RefType) → ref_depth (Array item) ≡ ref_depth item + 1
unfolding Rattle.jv_types.specs.declared.desc.RefType.TheBlock.shape-the_row-RefType-0 Rattle.jv_types.specs.declared.desc.RefType.TheBlock.hidden-the_row-RefType-0 denote.Hole.Carrier.hidden
ref_depth-Array item = refl

-- and the same type inside
pub ref_base-Array : (item : RefType) → ref_base (Array item) ≡ ref_base item
unfolding Rattle.jv_types.specs.declared.desc.RefType.TheBlock.shape-the_row-RefType-0 Rattle.jv_types.specs.declared.desc.RefType.TheBlock.hidden-the_row-RefType-0 denote.Hole.Carrier.hidden
ref_base-Array item = refl

-- one more on each side changes no order
nat_cmp-more : (x y : ℕ) → nat_cmp (x + 1) (y + 1) ≡ nat_cmp x y
nat_cmp-more x y = sym (nat_cmp_is (x + 1) (y + 1) (nat_cmp x y) (moved (nat_cmp x y) (ranks x y)))
  where
    moved : (r : Ordering) → MatchOrdering r (x < y) (x ≡ y) (y < x) → MatchOrdering r (x + 1 < y + 1) (x + 1 ≡ y + 1) (y + 1 < x + 1)
    moved Less h = omega arith
    moved Equal h = omega arith
    moved Greater h = omega arith

nat_cmp-less : (x y : ℕ) → x < y → nat_cmp x y ≡ Less
nat_cmp-less x y h = sym (nat_cmp_is x y Less h)

nat_cmp-greater : (x y : ℕ) → y < x → nat_cmp x y ≡ Greater
nat_cmp-greater x y h = sym (nat_cmp_is x y Greater h)

-- a type of fewer arrays comes first
fewer : (x y : RefType) → ref_depth x < ref_depth y → ref_cmp x y ≡ Less
fewer x y h = ap (λ (r : Ordering). ordering_then r (slice_cmp nat_cmp (ref_base x) (ref_base y))) (nat_cmp-less (ref_depth x) (ref_depth y) h)

more : (x y : RefType) → ref_depth y < ref_depth x → ref_cmp x y ≡ Greater
more x y h = ap (λ (r : Ordering). ordering_then r (slice_cmp nat_cmp (ref_base x) (ref_base y))) (nat_cmp-greater (ref_depth x) (ref_depth y) h)

pub Class-Array : (name : List ℕ) (item : RefType) → Less ≡ ref_cmp (Class name) (Array item)
Class-Array name item = sym (fewer (Class name) (Array item) (omega (arith, ref_depth-Array item)))

pub PrimArray-Array : (prim : PrimType) (item : RefType) → Less ≡ ref_cmp (PrimArray prim) (Array item)
PrimArray-Array prim item = sym (fewer (PrimArray prim) (Array item) (omega (arith, ref_depth-Array item)))

pub Array-Class : (item : RefType) (name : List ℕ) → Greater ≡ ref_cmp (Array item) (Class name)
Array-Class item name = sym (more (Array item) (Class name) (omega (arith, ref_depth-Array item)))

pub Array-PrimArray : (item : RefType) (prim : PrimType) → Greater ≡ ref_cmp (Array item) (PrimArray prim)
Array-PrimArray item prim = sym (more (Array item) (PrimArray prim) (omega (arith, ref_depth-Array item)))

pub Array-Array : (x y : RefType) → ref_cmp x y ≡ ref_cmp (Array x) (Array y)
Array-Array x y =
    sym (
    ap (λ (n : ℕ). slice_cmp nat_cmp (n ∷ ref_base (Array x)) (ref_depth (Array y) ∷ ref_base (Array y))) (ref_depth-Array x)
    ∙ ap (λ (n : ℕ). slice_cmp nat_cmp ((ref_depth x + 1) ∷ ref_base (Array x)) (n ∷ ref_base (Array y))) (ref_depth-Array y)
    ∙ ap (λ (b : List ℕ). slice_cmp nat_cmp ((ref_depth x + 1) ∷ b) ((ref_depth y + 1) ∷ ref_base (Array y))) (ref_base-Array x)
    ∙ ap (λ (b : List ℕ). slice_cmp nat_cmp ((ref_depth x + 1) ∷ ref_base x) ((ref_depth y + 1) ∷ b)) (ref_base-Array y)
    ∙ ap (λ (r : Ordering). ordering_then r (slice_cmp nat_cmp (ref_base x) (ref_base y))) (nat_cmp-more (ref_depth x) (ref_depth y))
    )

-- arrays compare as what they are arrays of
pub arrays_compare : (x y p q a b : RefType) (r : Ordering) → a ≡ Array x → b ≡ Array y → p ≡ x → q ≡ y → r ≡ ref_cmp p q → r ≡ ref_cmp a b
arrays_compare x y p q a b r ea eb ep eq er =
    er ∙ ap (λ (z : RefType). ref_cmp z q) ep ∙ ap (ref_cmp x) eq ∙ Array-Array x y
    ∙ sym (ap (λ (z : RefType). ref_cmp z b) ea ∙ ap (ref_cmp (Array x)) eb)
