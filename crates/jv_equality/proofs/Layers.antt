-- A type is an array of such types, or none.
use Rattle.std.proofs.Common.{◌≡◌, ◌<◌, ◌⊎◌, inl, inr, sym, ap, ◌∙◌, arith}
use Rattle.jv_types.specs.declared.desc.RefType.{RefType, Array, out-RefType, roll-RefType, roll-out-RefType}
use Rattle.jv_types.specs.declared.desc.RefType.TheVariants.{rolls-Class, rolls-PrimArray, rolls-Array}
use Rattle.jv_types.specs.declared.desc.RefType.TheOpen as ref_layer
use Rattle.jv_types.specs.declared.frames.VType.{VType, Array as VArray, out-VType, roll-VType, roll-out-VType}
use Rattle.jv_types.specs.declared.frames.VType.TheVariants as vtypes
use Rattle.jv_types.specs.declared.frames.VType.TheOpen as vtype_layer
use Rattle.jv_types.specs.Types.{ref_depth}
use Rattle.jv_types.specs.Frames.{vtype_rank}

ref_layer_of : (type : RefType) (l : ref_layer.RefType-F RefType) → roll-RefType l ≡ type → ((item : RefType) × (type ≡ Array item)) ⊎ (ref_depth type ≡ 0)
ref_layer_of type (ref_layer.Class name) e = inr (ap ref_depth (sym e ∙ rolls-Class name))
ref_layer_of type (ref_layer.PrimArray prim) e = inr (ap ref_depth (sym e ∙ rolls-PrimArray prim))
ref_layer_of type (ref_layer.Array item) e = inl (item, sym e ∙ rolls-Array item)

-- a reference type is an array of one, or has none
pub ref_layers : (type : RefType) → ((item : RefType) × (type ≡ Array item)) ⊎ (ref_depth type ≡ 0)
ref_layers type = ref_layer_of type (out-RefType type) (roll-out-RefType type)

vtype_layer_of : (type : VType) (l : vtype_layer.VType-F VType) → roll-VType l ≡ type → ((item : VType) × (type ≡ VArray item)) ⊎ (vtype_rank type < 10)
vtype_layer_of type vtype_layer.Top e = let rank : vtype_rank type ≡ 0 = ap vtype_rank (sym e ∙ vtypes.rolls-Top) in inr (omega arith)
vtype_layer_of type vtype_layer.Integer e = let rank : vtype_rank type ≡ 1 = ap vtype_rank (sym e ∙ vtypes.rolls-Integer) in inr (omega arith)
vtype_layer_of type vtype_layer.Float e = let rank : vtype_rank type ≡ 2 = ap vtype_rank (sym e ∙ vtypes.rolls-Float) in inr (omega arith)
vtype_layer_of type vtype_layer.Long e = let rank : vtype_rank type ≡ 3 = ap vtype_rank (sym e ∙ vtypes.rolls-Long) in inr (omega arith)
vtype_layer_of type vtype_layer.Double e = let rank : vtype_rank type ≡ 4 = ap vtype_rank (sym e ∙ vtypes.rolls-Double) in inr (omega arith)
vtype_layer_of type vtype_layer.Null e = let rank : vtype_rank type ≡ 5 = ap vtype_rank (sym e ∙ vtypes.rolls-Null) in inr (omega arith)
vtype_layer_of type vtype_layer.UninitThis e = let rank : vtype_rank type ≡ 6 = ap vtype_rank (sym e ∙ vtypes.rolls-UninitThis) in inr (omega arith)
vtype_layer_of type (vtype_layer.Uninit pc) e = let rank : vtype_rank type ≡ 7 = ap vtype_rank (sym e ∙ vtypes.rolls-Uninit pc) in inr (omega arith)
vtype_layer_of type (vtype_layer.Class name) e = let rank : vtype_rank type ≡ 8 = ap vtype_rank (sym e ∙ vtypes.rolls-Class name) in inr (omega arith)
vtype_layer_of type (vtype_layer.PrimArray prim) e = let rank : vtype_rank type ≡ 9 = ap vtype_rank (sym e ∙ vtypes.rolls-PrimArray prim) in inr (omega arith)
vtype_layer_of type (vtype_layer.Array item) e = inl (item, sym e ∙ vtypes.rolls-Array item)

-- a verification type is an array of one, or of another kind
pub vtype_layers : (type : VType) → ((item : VType) × (type ≡ VArray item)) ⊎ (vtype_rank type < 10)
vtype_layers type = vtype_layer_of type (out-VType type) (roll-out-VType type)
