-- The order of reference types and that of verification types tell each type from the others.
use Rattle.std.proofs.Common.{◌≡◌, ℕ, zero, suc, ◌+◌, ◌<◌, ◌⊎◌, inl, inr, List, [], ◌∷◌, get_or, refl, sym, ap, ◌∙◌, arith}
use Rattle.jv_types.specs.declared.desc.PrimType.{PrimType}
use Rattle.jv_types.specs.declared.desc.PrimType.TheVariants.{Boolean, Char, Float, Double, Byte, Short, Int, Long}
use Rattle.jv_types.specs.declared.desc.RefType.{RefType, Class, PrimArray, Array, Array'}
use Rattle.jv_types.specs.Types.{prim_number, ref_depth, ref_base, ref_key}
use Rattle.jv_types.specs.declared.frames.VType.{VType, Array as VArray, Array' as VArray'}
use Rattle.jv_types.specs.declared.frames.VType.TheVariants as vtypes
use Rattle.jv_types.specs.Frames.{vtype_rank, vtype_key}
use Rattle.jv_types.proofs.TypeKeys.{ref_depth-Array, ref_base-Array}
use Rattle.jv_types.proofs.VTypeKeys.{vtype_key-Array}
use Rattle.jv_equality.proofs.Layers.{ref_layers, vtype_layers}

-- a number is that of one primitive type
pub same_number : (p q : PrimType) → prim_number p ≡ prim_number q → p ≡ q
same_number Boolean Boolean e = refl
same_number Char Char e = refl
same_number Float Float e = refl
same_number Double Double e = refl
same_number Byte Byte e = refl
same_number Short Short e = refl
same_number Int Int e = refl
same_number Long Long e = refl
same_number _ _ e = absurd (omega arith)

-- two types that are no arrays of reference types, with one base
flat : (x y : RefType) → ref_depth x ≡ 0 → ref_depth y ≡ 0 → ref_base x ≡ ref_base y → x ≡ y
flat (Class a) (Class b) dx dy e = let s : a ≡ b = cc in ap (λ (name : List ℕ). Class name) s
flat (PrimArray p) (PrimArray q) dx dy e = let s : prim_number p ≡ prim_number q = cc in ap PrimArray (same_number p q s)
flat (Class a) (PrimArray q) dx dy e = absurd cc
flat (PrimArray p) (Class b) dx dy e = absurd cc
flat (Array' s a) y dx dy e = absurd (omega arith)
flat x (Array' s a) dx dy e = absurd (omega arith)

-- two types of one depth and one base
same_at : (n : ℕ) (x y : RefType) → ref_depth x ≡ n → ref_depth y ≡ n → ref_base x ≡ ref_base y → x ≡ y
same_at zero x y dx dy e = flat x y dx dy e
same_at (suc n) x y dx dy e = by_layers (λ a b da db ea. same_at n a b da db ea) (ref_layers x) (ref_layers y)
  where
    by_layers : ((a b : RefType) → ref_depth a ≡ n → ref_depth b ≡ n → ref_base a ≡ ref_base b → a ≡ b) → ((item : RefType) × (x ≡ Array item)) ⊎ (ref_depth x ≡ 0) → ((item : RefType) × (y ≡ Array item)) ⊎ (ref_depth y ≡ 0) → x ≡ y
    by_layers items (inr none) _ = absurd (omega arith)
    by_layers items _ (inr none) = absurd (omega arith)
    by_layers items (inl a) (inl b) =
        let da : ref_depth x ≡ ref_depth a.0 + 1 = ap ref_depth a.1 ∙ ref_depth-Array a.0 in
        let db : ref_depth y ≡ ref_depth b.0 + 1 = ap ref_depth b.1 ∙ ref_depth-Array b.0 in
        let ba : ref_base x ≡ ref_base a.0 = ap ref_base a.1 ∙ ref_base-Array a.0 in
        let bb : ref_base y ≡ ref_base b.0 = ap ref_base b.1 ∙ ref_base-Array b.0 in
        a.1 ∙ ap Array (items a.0 b.0 (omega arith) (omega arith) (sym ba ∙ e ∙ bb)) ∙ sym b.1

-- types of one key are one type
pub same_ref_key : (x y : RefType) → ref_key x ≡ ref_key y → x ≡ y
same_ref_key x y e =
    let d : ref_depth x ≡ ref_depth y = cc in
    let b : ref_base x ≡ ref_base y = cc in
    same_at (ref_depth x) x y refl (sym d) b

-- ---- verification types

-- two that are no arrays of such types, with one key
plain : (x y : VType) → vtype_rank x ≡ vtype_rank y → vtype_rank x < 10 → vtype_key x ≡ vtype_key y → x ≡ y
plain vtypes.Top vtypes.Top r lt e = refl
plain vtypes.Integer vtypes.Integer r lt e = refl
plain vtypes.Float vtypes.Float r lt e = refl
plain vtypes.Long vtypes.Long r lt e = refl
plain vtypes.Double vtypes.Double r lt e = refl
plain vtypes.Null vtypes.Null r lt e = refl
plain vtypes.UninitThis vtypes.UninitThis r lt e = refl
plain (vtypes.Uninit a) (vtypes.Uninit b) r lt e = let s : a ≡ b = cc in ap vtypes.Uninit s
plain (vtypes.Class a) (vtypes.Class b) r lt e = let s : a ≡ b = cc in ap (λ (name : List ℕ). vtypes.Class name) s
plain (vtypes.PrimArray p) (vtypes.PrimArray q) r lt e = let s : prim_number p ≡ prim_number q = cc in ap vtypes.PrimArray (same_number p q s)
plain _ _ r lt e = absurd (omega arith)

-- the first number of a key is the kind
key_first : (x : VType) → vtype_rank x ≡ get_or (vtype_key x) 0 0
key_first vtypes.Top = refl
key_first vtypes.Integer = refl
key_first vtypes.Float = refl
key_first vtypes.Long = refl
key_first vtypes.Double = refl
key_first vtypes.Null = refl
key_first vtypes.UninitThis = refl
key_first (vtypes.Uninit pc) = refl
key_first (vtypes.Class name) = refl
key_first (vtypes.PrimArray prim) = refl
key_first (VArray' shape all) = refl

-- two types with one key are one type
same_key_at : (key : List ℕ) (x y : VType) → vtype_key x ≡ key → vtype_key y ≡ key → x ≡ y
same_key_at [] x y kx ky = by_rank x y kx ky
  where
    by_rank : (x y : VType) → vtype_key x ≡ [] → vtype_key y ≡ [] → x ≡ y
    by_rank vtypes.Top y kx ky = absurd cc
    by_rank vtypes.Integer y kx ky = absurd cc
    by_rank vtypes.Float y kx ky = absurd cc
    by_rank vtypes.Long y kx ky = absurd cc
    by_rank vtypes.Double y kx ky = absurd cc
    by_rank vtypes.Null y kx ky = absurd cc
    by_rank vtypes.UninitThis y kx ky = absurd cc
    by_rank (vtypes.Uninit pc) y kx ky = absurd cc
    by_rank (vtypes.Class name) y kx ky = absurd cc
    by_rank (vtypes.PrimArray prim) y kx ky = absurd cc
    by_rank (VArray' shape all) y kx ky = absurd cc
same_key_at (n ∷ rest) x y kx ky = by_layers (λ a b ka kb. same_key_at rest a b ka kb) (vtype_layers x) (vtype_layers y)
  where
    same : vtype_rank x ≡ vtype_rank y
    same = key_first x ∙ ap (λ (k : List ℕ). get_or k 0 0) (kx ∙ sym ky) ∙ sym (key_first y)

    by_layers : ((a b : VType) → vtype_key a ≡ rest → vtype_key b ≡ rest → a ≡ b) → ((item : VType) × (x ≡ VArray item)) ⊎ (vtype_rank x < 10) → ((item : VType) × (y ≡ VArray item)) ⊎ (vtype_rank y < 10) → x ≡ y
    by_layers items (inr lt) _ = plain x y same lt (kx ∙ sym ky)
    by_layers items _ (inr lt) = plain x y same (let s : vtype_rank x ≡ vtype_rank y = same in omega arith) (kx ∙ sym ky)
    by_layers items (inl a) (inl b) =
        let ka : n ∷ rest ≡ 10 ∷ vtype_key a.0 = sym kx ∙ ap vtype_key a.1 ∙ vtype_key-Array a.0 in
        let kb : n ∷ rest ≡ 10 ∷ vtype_key b.0 = sym ky ∙ ap vtype_key b.1 ∙ vtype_key-Array b.0 in
        let ra : vtype_key a.0 ≡ rest = cc in
        let rb : vtype_key b.0 ≡ rest = cc in
        a.1 ∙ ap VArray (items a.0 b.0 ra rb) ∙ sym b.1

-- types of one key are one type
pub same_vtype_key : (x y : VType) → vtype_key x ≡ vtype_key y → x ≡ y
same_vtype_key x y e = same_key_at (vtype_key y) x y e refl
