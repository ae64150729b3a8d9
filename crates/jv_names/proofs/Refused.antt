-- Why nothing is found: what would be found is found by a callee.
use Rattle.std.proofs.Common.{ℕ, List}
use Rattle.jv_types.specs.declared.desc.PrimType.{PrimType}
use Rattle.jv_types.specs.declared.desc.RefType.{RefType}
use Rattle.jv_types.specs.declared.desc.Desc.TheVariants as descs
use Rattle.jv_desc.specs.Texts.{IsFieldText}
use Rattle.jv_desc.proofs.Agreement.{one_field}
use Rattle.jv_read.specs.declared.fault.ReadFault.{ReadFault}
use Rattle.jv_read.specs.declared.fault.ReadFault.TheVariants as faults
use Rattle.jv_names.specs.Finding.{NoneFor}

-- where there would be one of these, there would be one of those
pub none_for : {X Y : Type 0} (P : X → Type 0) (Q : Y → Type 0) (e : ReadFault) → ((y : Y) → Q y → (x : X) × P x) → NoneFor P e → NoneFor Q e
none_for P Q faults.Bad f none = λ y q. let p = f y q in none p.0 p.1
none_for P Q faults.Memory f none = tt

-- a descriptor of a primitive type is none of an array
pub prim_is_no_ref : (text : List ℕ) (prim : PrimType) (type : RefType) → IsFieldText text (descs.Prim prim) → IsFieldText text (descs.Ref type) → ⊥
prim_is_no_ref text prim type h k = let same = one_field text (descs.Prim prim) (descs.Ref type) h k in absurd cc
