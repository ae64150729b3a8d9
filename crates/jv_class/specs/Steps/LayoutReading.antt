-- Reading the layout of a class file from the front of a list of bytes, part by part (JVMS 4.1). What stands
-- behind the pool is read with the pool and the version.
use Rattle.std.specs.Prelude.{ℕ, List, length, ◌==◌, Option, Some, None, if◌then◌else◌}
use Rattle.jv_read.specs.Reading.{◌>>=◌, u2_at, u4_at, counted_at}
use Rattle.jv_pool.specs.declared.item.PoolItem.{PoolItem}
use Rattle.jv_pool.specs.Steps.PoolReading.{pool_at}
use Rattle.jv_attr.specs.declared.attr.Attr.{Attr}
use Rattle.jv_attr.specs.declared.attr.CodeAttr.{CodeAttr}
use Rattle.jv_attr.specs.declared.owner.Owner as owners
use Rattle.jv_attr.specs.declared.owner.Owner.TheVariants as owner
use Rattle.jv_attr.specs.Steps.AttrReading.{attr_at}
use Rattle.jv_class.specs.declared.class_file.Member.{Member}
use Rattle.jv_class.specs.declared.class_file.ClassFile.{ClassFile}
use Rattle.jv_class.specs.declared.layout.Opening.{Opening}
use Rattle.jv_class.specs.declared.layout.Declarations.{Declarations}

-- a count, and as many attributes of this owner (JVMS 4.7)
abbrev pub attrs_at : List PoolItem → owners.Owner → ℕ → List ℕ → Option (List (Attr CodeAttr) × List ℕ)
attrs_at items o major bytes = counted_at (attr_at items o major) bytes

-- a field (JVMS 4.5) or a method (JVMS 4.6)
unfoldable pub member_at : List PoolItem → owners.Owner → ℕ → List ℕ → Option (Member × List ℕ)
member_at items o major bytes = do
  access ← u2_at bytes
  name ← u2_at access.1
  desc ← u2_at name.1
  attrs ← attrs_at items o major desc.1
  Some (record { access = access.0; name = name.0; desc = desc.0; attrs = attrs.0 }, attrs.1)

-- a count, and as many fields or methods
abbrev pub members_at : List PoolItem → owners.Owner → ℕ → List ℕ → Option (List Member × List ℕ)
members_at items o major bytes = counted_at (member_at items o major) bytes

-- a count, and as many indices
abbrev pub indices_at : List ℕ → Option (List ℕ × List ℕ)
indices_at bytes = counted_at u2_at bytes

-- the number that each class file begins with
unfoldable pub magic_at : List ℕ → Option (ℕ × List ℕ)
magic_at bytes = do
  number ← u4_at bytes
  if number.0 == 0xCAFEBABE then Some number else None

-- the magic number, the versions and the pool
unfoldable pub opening_at : List ℕ → Option (Opening × List ℕ)
opening_at bytes = do
  magic ← magic_at bytes
  minor ← u2_at magic.1
  major ← u2_at minor.1
  pool ← pool_at major.1
  Some (record { minor = minor.0; major = major.0; pool = pool.0 }, pool.1)

-- the access flags, the class, its superclass, interfaces, fields, methods and attributes
unfoldable pub declarations_at : List PoolItem → ℕ → List ℕ → Option (Declarations × List ℕ)
declarations_at items major bytes = do
  access ← u2_at bytes
  this_class ← u2_at access.1
  super_class ← u2_at this_class.1
  interfaces ← indices_at super_class.1
  fields ← members_at items owner.Field major interfaces.1
  methods ← members_at items owner.Method major fields.1
  attrs ← attrs_at items owner.Class major methods.1
  Some (record { access = access.0; this_class = this_class.0; super_class = super_class.0; interfaces = interfaces.0; fields = fields.0; methods = methods.0; attrs = attrs.0 }, attrs.1)

-- the class of these parts
abbrev pub joined : Opening → Declarations → ClassFile
joined o d = record { minor = o.minor; major = o.major; pool = o.pool; access = d.access; this_class = d.this_class; super_class = d.super_class; interfaces = d.interfaces; fields = d.fields; methods = d.methods; attrs = d.attrs }

-- a class by its layout alone, whether or not it keeps the rules
unfoldable pub class_at : List ℕ → Option (ClassFile × List ℕ)
class_at bytes = do
  opening ← opening_at bytes
  found ← declarations_at opening.0.pool opening.0.major opening.1
  Some (joined opening.0 found.0, found.1)

-- the same, where all of the bytes are read
unfoldable pub layout_at : List ℕ → Option ClassFile
layout_at bytes = do
  class ← class_at bytes
  if length class.1 == 0 then Some class.0 else None
