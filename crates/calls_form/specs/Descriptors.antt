-- Descriptors over ints, the class itself and java/lang/Object (JVMS 4.3): what kinds they say.
use Rattle.std.specs.Prelude.{◌≡◌, ◌≢◌, ℕ, ◌≤◌, ◌⊎◌, List, [], ◌∷◌, ◌++◌, length, Option, Some, None, codes}
use Rattle.std.specs.List.{AllByRecursion}
use Rattle.jv_types.specs.declared.access.Access.{Access}
use Rattle.calls_form.specs.declared.object_class.Kind.{Kind}
use Rattle.calls_form.specs.declared.object_class.Kind.TheVariants.{Word, Reference}
use Rattle.calls_form.specs.Flags.{IsStatic}

-- main's descriptor
abbrev pub main_desc : List ℕ
main_desc = codes "([Ljava/lang/String;)V"

-- a class type's name ends at the first semicolon, so it has none
abbrev pub HasNoSemicolon : List ℕ → Type 0
HasNoSemicolon text = AllByRecursion (λ b. b ≢ 59) text

-- L, a name, and a semicolon
abbrev pub class_type : List ℕ → List ℕ
class_type name = 76 ∷ name ++ 59 ∷ []

-- the text is a type of this kind in the class of this name: I, or the class itself or java/lang/Object (JVMS 4.3.2)
abbrev pub IsType : List ℕ → Kind → List ℕ → Type 0
IsType own Word text = text ≡ codes "I"
IsType own Reference text =
    (name : List ℕ) × (text ≡ class_type name) × HasNoSemicolon name × ((name ≡ own) ⊎ (name ≡ codes "java/lang/Object"))

-- the text is types of these kinds, one after the other
abbrev pub AreTypes : List ℕ → List Kind → List ℕ → Type 0
AreTypes own [] text = text ≡ []
AreTypes own (kind ∷ kinds) text =
    (front : List ℕ) × (rest : List ℕ) × (text ≡ front ++ rest) × IsType own kind front × AreTypes own kinds rest

-- the text is a result of this kind, or V (JVMS 4.3.3)
abbrev pub IsResult : List ℕ → Option Kind → List ℕ → Type 0
IsResult own None text = text ≡ codes "V"
IsResult own (Some kind) text = IsType own kind text

-- the argument words before the parameters: the receiver's, unless the method is static
abbrev pub IsReceiver : Access → List Kind → Type 0
IsReceiver access words = (IsStatic access × (words ≡ [])) ⊎ ((¬ IsStatic access) × (words ≡ Reference ∷ []))

-- at most 255 parameters of these types, and such a result or none (JVMS 4.3.3)
pub record IsTypedDesc (own : List ℕ) (access : Access) (desc : List ℕ) (arguments : List Kind) (result : Option Kind) : Type 0 where
  pub receiver : List Kind
  pub parameters : List Kind
  pub types : List ℕ
  pub result_type : List ℕ
  pub few : length parameters ≤ 255
  pub are_types : AreTypes own parameters types
  pub is_result : IsResult own result result_type
  pub is_receiver : IsReceiver access receiver
  pub spelled : desc ≡ 40 ∷ types ++ 41 ∷ result_type
  pub arguments_are : arguments ≡ receiver ++ parameters

-- main's descriptor: one reference behind the receiver's word
pub record IsMainDesc (access : Access) (desc : List ℕ) (arguments : List Kind) (result : Option Kind) : Type 0 where
  pub receiver : List Kind
  pub is_receiver : IsReceiver access receiver
  pub spelled : desc ≡ main_desc
  pub arguments_are : arguments ≡ receiver ++ Reference ∷ []
  pub result_is : result ≡ None

-- the descriptor of a method with these flags says these argument words and this result
abbrev pub IsMethodDesc : List ℕ → Access → List ℕ → List Kind → Option Kind → Type 0
IsMethodDesc own access desc arguments result = IsMainDesc access desc arguments result ⊎ IsTypedDesc own access desc arguments result
