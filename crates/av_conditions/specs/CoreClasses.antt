-- The six classes that every world has: Object, Throwable, String, Class and Cloneable of java/lang, and
-- java/io/Serializable.
use Rattle.std.specs.Prelude.{◌≡◌, ℕ, ◌⊎◌, false, List, [], ◌∷◌, None, codes, Contains}
use Rattle.jv_types.specs.declared.desc.MethodDesc.{MethodDesc}
use Rattle.jv_types.specs.declared.shapes.MethodShape.{MethodShape}
use Rattle.jv_types.specs.declared.shapes.Shape.{Shape}
use Rattle.jv_world.specs.Worlds.{object_name, IsInterface}
use Rattle.jv_resolve.specs.Members.{init_name, IsAbstract, IsPrivate, IsStatic}

abbrev pub throwable_name : List ℕ
throwable_name = codes "java/lang/Throwable"

abbrev pub string_name : List ℕ
string_name = codes "java/lang/String"

abbrev pub class_name : List ℕ
class_name = codes "java/lang/Class"

abbrev pub cloneable_name : List ℕ
cloneable_name = codes "java/lang/Cloneable"

abbrev pub serializable_name : List ℕ
serializable_name = codes "java/io/Serializable"

abbrev pub finalize_name : List ℕ
finalize_name = codes "finalize"

-- no parameters and no result: `()V`
abbrev pub void_desc : MethodDesc
void_desc = record { params = []; result = None }

-- the two interfaces among the six
abbrev pub IsCoreInterface : List ℕ → Type 0
IsCoreInterface name = (name ≡ cloneable_name) ⊎ (name ≡ serializable_name)

-- the four classes among the six
abbrev pub IsCoreClass : List ℕ → Type 0
IsCoreClass name = (name ≡ object_name) ⊎ ((name ≡ throwable_name) ⊎ ((name ≡ string_name) ⊎ (name ≡ class_name)))

-- a method of this name, without parameters and result, that is neither static, private nor abstract
abbrev pub IsPlain : List ℕ → MethodShape → Type 0
IsPlain name method = (method.name ≡ name) × (method.desc ≡ void_desc) × ¬ IsStatic method.flags × ¬ IsPrivate method.flags × ¬ IsAbstract method.flags

-- the class declares such a one
abbrev pub DeclaresPlain : Shape → List ℕ → Type 0
DeclaresPlain shape name = (method : MethodShape) × Contains shape.methods method × IsPlain name method

-- Object declares `<init>()V` and `finalize()V`
abbrev pub HasObjectMethods : Shape → Type 0
HasObjectMethods shape = shape.name ≡ object_name → DeclaresPlain shape init_name × DeclaresPlain shape finalize_name

-- A class of one of the six names is as it has to be: Cloneable and Serializable are interfaces and the others
-- are not, and Object declares its two methods. A class of another name is so in any case.
pub record IsAsCore (shape : Shape) : Type 0 where
  pub interface : IsCoreInterface shape.name → IsInterface shape
  pub class : IsCoreClass shape.name → ¬ IsInterface shape
  pub methods : HasObjectMethods shape

-- the world has the six classes, as library classes, and each is as it has to be
pub record CoreClasses (w : List Shape) : Type 0 where
  pub there : (name : List ℕ) → IsCoreClass name ⊎ IsCoreInterface name
      → (shape : Shape) × Contains w shape × (shape.name ≡ name) × (shape.application ≡ false) × IsAsCore shape
