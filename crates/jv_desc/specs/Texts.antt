-- The texts of field and method descriptors (JVMS 4.3).
use Rattle.std.specs.Prelude.{◌≡◌, ◌≤◌, ◌+◌, ℕ, Bool, true, IsTrue, List, [], ◌∷◌, ◌++◌, Option, Some, None, if◌then◌else◌, sum_by}
use Rattle.std.specs.List.{flat_map, AllByRecursion}
use Rattle.jv_types.specs.NameForms.{is_class_name}
use Rattle.jv_types.specs.declared.desc.PrimType.{PrimType}
use Rattle.jv_types.specs.declared.desc.PrimType.TheVariants.{Boolean, Char, Float, Double, Byte, Short, Int, Long}
use Rattle.jv_types.specs.declared.desc.RefType.{RefType, Class, PrimArray, Array', Row_of-RefType, end_of-RefType, more_of-RefType}
use Rattle.jv_types.specs.declared.desc.Desc as desc
use Rattle.jv_types.specs.declared.desc.Desc.TheVariants as descs
use Rattle.jv_types.specs.declared.desc.MethodDesc.{MethodDesc}

-- the letter of a primitive type (JVMS table 4.3-A)
abbrev pub prim_letter : PrimType → ℕ
prim_letter Boolean = 90
prim_letter Char = 67
prim_letter Float = 70
prim_letter Double = 68
prim_letter Byte = 66
prim_letter Short = 83
prim_letter Int = 73
prim_letter Long = 74

-- the spelling of a reference type: `L`, a class's name and `;`, and a `[` in front for each array
abbrev mutual
  pub ref_text : RefType → List ℕ
  ref_text (Class name) = 76 ∷ name ++ 59 ∷ []
  ref_text (PrimArray prim) = 91 ∷ prim_letter prim ∷ []
  ref_text (Array' shape all) = 91 ∷ item_text all

  pub item_text : {m : _} → Row_of-RefType m → List ℕ
  item_text end_of-RefType = []
  item_text (more_of-RefType item rest) = ref_text item

-- how many arrays a reference type has
abbrev mutual
  pub ref_dims : RefType → ℕ
  ref_dims (Class name) = 0
  ref_dims (PrimArray prim) = 1
  ref_dims (Array' shape all) = item_dims all + 1

  pub item_dims : {m : _} → Row_of-RefType m → ℕ
  item_dims end_of-RefType = 0
  item_dims (more_of-RefType item rest) = ref_dims item

-- whether the class inside, where there is one, has a name of a class
abbrev mutual
  pub is_named : RefType → Bool
  is_named (Class name) = is_class_name name
  is_named (PrimArray prim) = true
  is_named (Array' shape all) = is_item_named all

  pub is_item_named : {m : _} → Row_of-RefType m → Bool
  is_item_named end_of-RefType = true
  is_item_named (more_of-RefType item rest) = is_named item

-- a reference type of at most so many arrays that has a descriptor
pub record IsRef (most : ℕ) (type : RefType) : Type 0 where
  pub dims : ref_dims type ≤ most
  pub named : IsTrue (is_named type)

-- the spelling of a type
abbrev pub desc_text : desc.Desc → List ℕ
desc_text (descs.Prim prim) = prim_letter prim ∷ []
desc_text (descs.Ref type) = ref_text type

-- a type that has a descriptor: at most 255 arrays, of a class whose name is one
abbrev pub IsDesc : desc.Desc → Type 0
IsDesc (descs.Prim prim) = Unit {0}
IsDesc (descs.Ref type) = IsRef 255 type

-- the spelling of a result, which is `V` where there is none
abbrev pub result_text : Option desc.Desc → List ℕ
result_text None = 86 ∷ []
result_text (Some d) = desc_text d

abbrev pub IsResult : Option desc.Desc → Type 0
IsResult None = Unit {0}
IsResult (Some d) = IsDesc d

-- the spelling of a method's descriptor
abbrev pub method_text : MethodDesc → List ℕ
method_text d = 40 ∷ flat_map desc_text d.params ++ 41 ∷ result_text d.result

-- a method whose types have descriptors
pub record IsMethodDesc (d : MethodDesc) : Type 0 where
  pub params : AllByRecursion IsDesc d.params
  pub result : IsResult d.result

-- the bytes are the field descriptor of this type (JVMS 4.3.2)
pub record IsFieldText (bytes : List ℕ) (d : desc.Desc) : Type 0 where
  pub valid : IsDesc d
  pub spelled : bytes ≡ desc_text d

-- the bytes are the descriptor of this method (JVMS 4.3.3)
pub record IsMethodText (bytes : List ℕ) (d : MethodDesc) : Type 0 where
  pub valid : IsMethodDesc d
  pub spelled : bytes ≡ method_text d

-- how many words an argument of a type takes: two for `long` and `double`, and else one
abbrev pub desc_words : desc.Desc → ℕ
desc_words (descs.Prim Long) = 2
desc_words (descs.Prim Double) = 2
desc_words (descs.Prim Boolean) = 1
desc_words (descs.Prim Char) = 1
desc_words (descs.Prim Float) = 1
desc_words (descs.Prim Byte) = 1
desc_words (descs.Prim Short) = 1
desc_words (descs.Prim Int) = 1
desc_words (descs.Ref type) = 1

-- how many words a method's arguments take, the receiver included where there is one
abbrev pub words_of : MethodDesc → Bool → ℕ
words_of d receiver = sum_by desc_words d.params + (if receiver then 1 else 0)
