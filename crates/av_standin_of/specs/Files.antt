-- The class files of a stand-in (JVMS 4.1), and the limits that they keep.
use Rattle.std.specs.Prelude.{◌≡◌, ℕ, ◌<◌, List, [], ◌∷◌, length, sum_by, Option, Some, None, codes}
use Rattle.std.specs.List.{AllZip}
use Rattle.jv_types.specs.declared.ids.MethodId.{MethodId}
use Rattle.jv_types.specs.declared.shapes.FieldShape.{FieldShape}
use Rattle.jv_types.specs.declared.shapes.Shape.{Shape}
use Rattle.jv_pool.specs.declared.item.PoolItem.{PoolItem}
use Rattle.jv_pool.specs.declared.item.PoolItem.TheVariants.{Utf8}
use Rattle.jv_attr.specs.declared.attr.Attr.{Attr}
use Rattle.jv_attr.specs.declared.attr.AttrBody.TheVariants as bodies
use Rattle.jv_attr.specs.declared.attr.CodeAttr.{CodeAttr}
use Rattle.jv_class.specs.declared.class_file.Member.{Member}
use Rattle.jv_class.specs.declared.class_file.ClassFile.{ClassFile}
use Rattle.jv_class.specs.ClassTexts.{class_text}
use Rattle.jv_desc.specs.Texts.{desc_text, method_text}
use Rattle.jv_read.specs.Reading.{◌>>=◌}
use Rattle.jv_insn.specs.Entries.{put_item, put_class}
use Rattle.av_asm.specs.Mapping.{put_each}
use Rattle.av_asm.specs.Planning.{plan_of}
use Rattle.av_asm.specs.Finishing.{code_of}
use Rattle.av_standin_of.specs.declared.standin.StandinFile.{StandinFile}
use Rattle.av_standin_of.specs.Names.{file_name, name_order}
use Rattle.av_standin_of.specs.Lists.{AreJust}
use Rattle.av_standin_of.specs.Codes.{Code, built_of}
use Rattle.av_standin_of.specs.Classes.{MadeMethod, MadeClass, IsStandinClass}

-- ---- parts of a file, each with the pool that the one before left

abbrev pub put_text : List ℕ → List PoolItem → Option (ℕ × List PoolItem)
put_text text pool = put_item (Utf8 text) pool

-- the superclass, or 0 where there is none
abbrev pub put_parent : Option (List ℕ) → List PoolItem → Option (ℕ × List PoolItem)
put_parent None pool = Some (0, pool)
put_parent (Some name) pool = put_class name pool

abbrev pub put_field : FieldShape → List PoolItem → Option (Member × List PoolItem)
put_field field pool = do
  name ← put_text field.name pool
  desc ← put_text (desc_text field.desc) name.1
  Some (record { access = field.flags.0; name = name.0; desc = desc.0; attrs = [] }, desc.1)

-- a number of a method that nothing here depends on
abbrev pub some_method : MethodId
some_method = record { class = record { number = 0 }; index = 0 }

-- the attribute Code of a method that has code
abbrev pub put_code : Option Code → List PoolItem → Option (List (Attr CodeAttr) × List PoolItem)
put_code None pool = Some ([], pool)
put_code (Some code) pool = do
  name ← put_text (codes "Code") pool
  attr ← code_of (plan_of (built_of some_method code)) name.1
  Some (record { name = name.0; body = bodies.Code attr.0 } ∷ [], attr.1)

abbrev pub put_method : MadeMethod → List PoolItem → Option (Member × List PoolItem)
put_method method pool = do
  name ← put_text method.shape.name pool
  desc ← put_text (method_text method.shape.desc) name.1
  attrs ← put_code method.code desc.1
  Some (record { access = method.shape.flags.0; name = name.0; desc = desc.0; attrs = attrs.0 }, attrs.1)

-- ---- a file

-- The file of a class: of major version 52, with the pool to which is added, in this order, what the file names: the
-- class, its superclass and interfaces, its fields and its methods. There is none where an item finds no room.
abbrev pub class_file : MadeClass → Option ClassFile
class_file made = do
  this ← put_class made.name []
  super ← put_parent made.parent this.1
  interfaces ← put_each put_class made.interfaces super.1
  fields ← put_each put_field made.fields interfaces.1
  methods ← put_each put_method made.methods fields.1
  Some record {
    minor = 0;
    major = 52;
    pool = methods.1;
    access = made.flags.0;
    this_class = this.0;
    super_class = super.0;
    interfaces = interfaces.0;
    fields = fields.0;
    methods = methods.0;
    attrs = [];
  }

pub record IsFileOf (made : MadeClass) (file : StandinFile) : Type 0 where
  pub name : file.name ≡ file_name made.name
  pub class : class_file made ≡ Some file.class

-- ---- all files

-- the classes of the stand-in, in the order of the names of their files
abbrev pub AreStandinClasses : List Shape → ℕ → List MadeClass → Type 0
AreStandinClasses w dims classes = AreJust name_order (λ (made : MadeClass). file_name made.name) (IsStandinClass w dims) classes

-- ---- limits

-- a class has more methods than its file can count
abbrev pub PassesMethods : List Shape → ℕ → Type 0
PassesMethods w dims = (made : MadeClass) × IsStandinClass w dims made × (65535 < length made.methods)

-- what a class names passes the greatest index of a pool
abbrev pub PassesPool : List Shape → ℕ → Type 0
PassesPool w dims = (made : MadeClass) × IsStandinClass w dims made × (class_file made ≡ None)

-- the files together have more bytes than this
abbrev pub PassesBytes : List Shape → ℕ → Type 0
PassesBytes w dims =
    (classes : List MadeClass) × (files : List StandinFile) × AreStandinClasses w dims classes × AllZip IsFileOf classes files
    × (268435456 < sum_by (λ (file : StandinFile). length (class_text file.class)) files)
