-- Descriptors, by functions on lists that give the kinds that they say, or nothing.
use Rattle.std.specs.Prelude.{ℕ, zero, suc, List, [], ◌∷◌, ◌++◌, length, take, drop, position, Bool, false, ◌&&◌, ◌||◌, ◌==◌, Option, Some, None, codes, if◌then◌else◌, bit_and}
use Rattle.std.specs.Str.{bytes_eq}
use Rattle.jv_types.specs.declared.access.Access.{Access}
use Rattle.calls_form.specs.declared.object_class.Kind.{Kind}
use Rattle.calls_form.specs.declared.object_class.Kind.TheVariants.{Word, Reference}
use Rattle.calls_form.specs.Descriptors.{main_desc}
use Rattle.calls_form.specs.ObjectForm.{object_name}
use Rattle.calls_form.specs.Reading.{◌>>=◌, u1_at}

-- what stands before the first semicolon, and behind it
unfoldable pub name_at : List ℕ → Option (List ℕ × List ℕ)
name_at bytes = do
  i ← position (λ b. b == 59) bytes
  mark ← u1_at (drop i bytes)
  Some (take i bytes, mark.1)

-- a name and a semicolon, where it names the class itself or java/lang/Object
unfoldable pub class_type_at : List ℕ → List ℕ → Option (Kind × List ℕ)
class_type_at own bytes = do
  name ← name_at bytes
  if bytes_eq name.0 own || bytes_eq name.0 object_name then Some (Reference, name.1) else None

-- a type
unfoldable pub type_at : List ℕ → List ℕ → Option (Kind × List ℕ)
type_at own bytes = do
  mark ← u1_at bytes
  if mark.0 == 73 then Some (Word, mark.1) else (if mark.0 == 76 then class_type_at own mark.1 else None)

-- a type and nothing more
unfoldable pub whole_type : List ℕ → List ℕ → Option Kind
whole_type own bytes = do
  t ← type_at own bytes
  if length t.1 == 0 then Some t.0 else None

-- the parameters end here
abbrev pub is_closed : List ℕ → Bool
is_closed [] = false
is_closed (b ∷ rest) = b == 41

-- at most so many types before the closing parenthesis
unfoldable pub types_at : ℕ → List ℕ → List ℕ → Option (List Kind × List ℕ)
types_at zero own bytes = Some ([], bytes)
types_at (suc n) own bytes = if is_closed bytes then Some ([], bytes) else (do
  first ← type_at own bytes
  others ← types_at n own first.1
  Some (first.0 ∷ others.0, others.1))

-- the result, behind the closing parenthesis
unfoldable pub kind_of_result : List ℕ → List ℕ → Option (Option Kind)
kind_of_result own bytes = if bytes_eq bytes (codes "V") then Some None else (whole_type own bytes >>= λ kind. Some (Some kind))

-- a closing parenthesis and a result
unfoldable pub result_at : List ℕ → List ℕ → Option (Option Kind)
result_at own bytes = do
  mark ← u1_at bytes
  if mark.0 == 41 then kind_of_result own mark.1 else None

abbrev pub has_static : Access → Bool
has_static access = bit_and access.0 8 == 8

-- the receiver's word, unless the method is static
abbrev pub receiver_of : Access → List Kind
receiver_of access = if has_static access then [] else Reference ∷ []

-- the receiver's word and then those of the parameters, and what is left
unfoldable pub arguments_at : List ℕ → List Kind → List ℕ → Option (List Kind × List ℕ)
arguments_at own receiver bytes = do
  types ← types_at 255 own bytes
  Some (receiver ++ types.0, types.1)

-- a descriptor over the types of this form
unfoldable pub typed_desc : List ℕ → Access → List ℕ → Option (List Kind × Option Kind)
typed_desc own access desc = do
  mark ← u1_at desc
  arguments ← (if mark.0 == 40 then arguments_at own (receiver_of access) mark.1 else None)
  result ← result_at own arguments.1
  Some (arguments.0, result)

-- the argument words and the result
unfoldable pub method_desc : List ℕ → Access → List ℕ → Option (List Kind × Option Kind)
method_desc own access desc =
    if bytes_eq desc main_desc then Some (receiver_of access ++ Reference ∷ [], None) else typed_desc own access desc
