-- What the writer of a class file writes part by part, and which parts fit their bytes.
use Rattle.std.specs.Prelude.{ℕ, List, ◌++◌}
use Rattle.std.specs.List.{AllByRecursion}
use Rattle.jv_pool.specs.PoolText.{u2, u4, pool_text}
use Rattle.jv_attr.specs.declared.attr.Attr.{Attr}
use Rattle.jv_attr.specs.declared.attr.CodeAttr.{CodeAttr}
use Rattle.jv_attr.specs.AttrText.{HasFew, IsShort}
use Rattle.jv_class.specs.declared.class_file.Member.{Member}
use Rattle.jv_class.specs.declared.class_file.ClassFile.{ClassFile}
use Rattle.jv_class.specs.ClassTexts.{counted_text}

-- the counts and the lengths of an attribute fit
abbrev pub AttrFits : Attr CodeAttr → Type 0
AttrFits a = HasFew a × IsShort a

-- the lengths of a member's attributes fit
abbrev pub IsShortMember : Member → Type 0
IsShortMember m = AllByRecursion IsShort m.attrs

-- the magic number, the versions and the pool
abbrev pub start_text : ClassFile → List ℕ
start_text c = u4 0xCAFEBABE ++ (u2 c.minor ++ (u2 c.major ++ pool_text c.pool))

-- the access flags, the class, its superclass and its interfaces
abbrev pub names_text : ClassFile → List ℕ
names_text c = u2 c.access ++ (u2 c.this_class ++ (u2 c.super_class ++ counted_text u2 c.interfaces))
