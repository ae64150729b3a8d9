-- The rules on a class in two parts: names and descriptors by themselves, and members together.
use Rattle.std.specs.Prelude.{◌≡◌, ◌⊎◌}
use Rattle.std.specs.List.{AllByRecursion}
use Rattle.jv_names.specs.PoolNames.{HasClassName, IsNamedPool}
use Rattle.jv_class.specs.declared.class_file.ClassFile.{ClassFile}
use Rattle.jv_class.specs.ClassTexts.{IsField, IsMethodMember, AreDistinct}

-- each name and each descriptor is right, and so are the codes
pub record NamesRight (c : ClassFile) : Type 0 where
  pub named : IsNamedPool c.pool
  pub this_class : HasClassName c.pool c.this_class
  pub super_class : (c.super_class ≡ 0) ⊎ HasClassName c.pool c.super_class
  pub interfaces : AllByRecursion (HasClassName c.pool) c.interfaces
  pub fields : AllByRecursion (IsField c.pool) c.fields
  pub methods : AllByRecursion (IsMethodMember c.pool) c.methods

-- no two fields, and no two methods, share name and descriptor
pub record HasDistinct (c : ClassFile) : Type 0 where
  pub fields : AreDistinct c.pool c.fields
  pub methods : AreDistinct c.pool c.methods
