-- What a text of a constant pool spells: a name (JVMS 4.2) or a descriptor (JVMS 4.3).
use Rattle.std.specs.Prelude.{◌≡◌, ◌≢◌, ◌≤◌, ◌⊎◌, ℕ, Bool, IsTrue, List, ◌∷◌, codes}
use Rattle.jv_types.specs.NameForms.{is_class_name, is_part, is_method_name}
use Rattle.jv_types.specs.declared.desc.Desc.{Desc}
use Rattle.jv_types.specs.declared.desc.MethodDesc.{MethodDesc}
use Rattle.jv_desc.specs.Texts.{IsFieldText, IsMethodText, words_of}

-- the name of a class or interface in its internal form (JVMS 4.2.1)
abbrev pub IsClassName : List ℕ → Type 0
IsClassName text = IsTrue (is_class_name text)

-- the name of a field (JVMS 4.2.2)
abbrev pub IsFieldName : List ℕ → Type 0
IsFieldName text = IsTrue (is_part text)

-- the name of a method: `<` and `>` stand in `<init>` and `<clinit>` alone (JVMS 4.2.2)
abbrev pub IsMethodName : List ℕ → Type 0
IsMethodName text = IsTrue (is_method_name text)

-- the name of a method that may be called: a class initialiser may not be (JVMS 4.4.2, 2.9)
pub record IsCalledName (text : List ℕ) : Type 0 where
  pub is_name : IsMethodName text
  pub no_initialiser : text ≢ codes "<clinit>"

-- a field descriptor, of at most 255 dimensions (JVMS 4.3.2)
pub record IsFieldDescriptor (text : List ℕ) : Type 0 where
  pub type : Desc
  pub spelled : IsFieldText text type

-- the descriptor of an array type (JVMS 4.4.1)
pub record IsArrayDescriptor (text : List ℕ) : Type 0 where
  pub component : List ℕ
  pub begins : text ≡ 91 ∷ component
  pub descriptor : IsFieldDescriptor text

-- what names a class: the name of a class or interface, or an array descriptor (JVMS 4.4.1)
abbrev pub IsTypeName : List ℕ → Type 0
IsTypeName text = IsClassName text ⊎ IsArrayDescriptor text

-- a method descriptor whose arguments take at most 255 words, a receiver included where there is one: a
-- `long` and a `double` take two, and any other one (JVMS 4.3.3)
pub record IsMethodDescriptor (receiver : Bool) (text : List ℕ) : Type 0 where
  pub method : MethodDesc
  pub spelled : IsMethodText text method
  pub words : words_of method receiver ≤ 255
