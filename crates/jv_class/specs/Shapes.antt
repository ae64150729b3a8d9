-- What a class file declares, by name (JVMS 4.1, 4.5, 4.6).
use Rattle.std.specs.Prelude.{◌≡◌, ℕ, Bool, List, Option, Some, None}
use Rattle.std.specs.List.{AllZip, list_any}
use Rattle.jv_types.specs.declared.shapes.FieldShape.{FieldShape}
use Rattle.jv_types.specs.declared.shapes.MethodShape.{MethodShape}
use Rattle.jv_types.specs.declared.shapes.Shape.{Shape}
use Rattle.jv_desc.specs.Texts.{IsFieldText, IsMethodText}
use Rattle.jv_pool.specs.declared.item.PoolItem.{PoolItem}
use Rattle.jv_pool.specs.Lookups.{text_at, class_name_at}
use Rattle.jv_names.specs.PoolNames.{HasText}
use Rattle.jv_class.specs.declared.class_file.Member.{Member}
use Rattle.jv_class.specs.declared.class_file.ClassFile.{ClassFile}
use Rattle.jv_class.specs.ClassTexts.{has_code}

-- the field that a member declares
pub record IsFieldShape (items : List PoolItem) (m : Member) (f : FieldShape) : Type 0 where
  pub name : text_at items m.name ≡ Some f.name
  pub desc : HasText items m.desc (λ text. IsFieldText text f.desc)
  pub flags : f.flags.0 ≡ m.access

-- the method that a member declares, and that it has code where it has an attribute Code
pub record IsMethodShape (items : List PoolItem) (m : Member) (s : MethodShape) : Type 0 where
  pub name : text_at items m.name ≡ Some s.name
  pub desc : HasText items m.desc (λ text. IsMethodText text s.desc)
  pub flags : s.flags.0 ≡ m.access
  pub code : s.code ≡ list_any has_code m.attrs

-- the superclass, where there is one
abbrev pub IsParent : List PoolItem → ℕ → Option (List ℕ) → Type 0
IsParent items super None = super ≡ 0
IsParent items super (Some name) = class_name_at items super ≡ Some name

-- what a class declares, with its fields, methods and interfaces in their order
pub record IsShapeOf (c : ClassFile) (application : Bool) (s : Shape) : Type 0 where
  pub name : class_name_at c.pool c.this_class ≡ Some s.name
  pub flags : s.flags.0 ≡ c.access
  pub parent : IsParent c.pool c.super_class s.parent
  pub interfaces : AllZip (λ index name. class_name_at c.pool index ≡ Some name) c.interfaces s.interfaces
  pub fields : AllZip (IsFieldShape c.pool) c.fields s.fields
  pub methods : AllZip (IsMethodShape c.pool) c.methods s.methods
  pub marked : s.application ≡ application
