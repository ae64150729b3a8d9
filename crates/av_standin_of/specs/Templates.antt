-- The code of the methods of a stand-in's classes, but for its items.
use Rattle.std.specs.Prelude.{ℕ, ◌+◌, Bool, true, false, not, ◌==◌, ◌&&◌, if◌then◌else◌, bit_and, List, [], ◌∷◌, ◌++◌, length, map, Option, Some, None}
use Rattle.std.specs.Str.{bytes_eq}
use Rattle.jv_table.specs.declared.ops.TheConstants.{ACONST_NULL, ARETURN, RETURN, ATHROW, IFNULL}
use Rattle.jv_types.specs.declared.desc.Desc.{Desc}
use Rattle.jv_types.specs.declared.desc.Desc.TheVariants as descs
use Rattle.jv_types.specs.declared.desc.RefType as refs
use Rattle.jv_types.specs.declared.shapes.MethodShape.{MethodShape}
use Rattle.jv_types.specs.declared.frames.VType.{VType}
use Rattle.jv_types.specs.declared.frames.VType as types
use Rattle.jv_world.specs.Worlds.{object_name}
use Rattle.jv_resolve.specs.Members.{init_name}
use Rattle.jv_desc.specs.Texts.{desc_words, words_of}
use Rattle.jv_frames.specs.Types.{ref_vtype, desc_vtype, frame_of}
use Rattle.jv_frames.specs.Entry.{is_static, entry_types}
use Rattle.av_asm.specs.declared.step.Step.TheVariants as steps
use Rattle.av_conditions.specs.CoreClasses.{throwable_name, finalize_name}
use Rattle.av_conditions.specs.StandIn.{library_name}
use Rattle.av_standin_of.specs.Codes.{Row, Code, row, plain, aload, get_known, put_known, put_fresh, call_extra, zero_op, return_op, object_vtype, throwable_vtype, known_as}

-- ---- which method it is

-- neither parameters nor a result: `()V`
abbrev pub is_void : List Desc → Option Desc → Bool
is_void [] None = true
is_void [] (Some result) = false
is_void (param ∷ params) result = false

-- it has this name and the descriptor `()V`
abbrev pub is_called : List ℕ → MethodShape → Bool
is_called name method = bytes_eq method.name name && is_void method.desc.params method.desc.result

-- the class is Object
abbrev pub is_object : List ℕ → Bool
is_object class = bytes_eq class object_name

abbrev pub is_constructor : MethodShape → Bool
is_constructor method = bytes_eq method.name init_name

abbrev pub is_finalize_of_object : List ℕ → MethodShape → Bool
is_finalize_of_object class method = is_object class && is_called finalize_name method

abbrev pub is_abstract : MethodShape → Bool
is_abstract method = bit_and method.flags.0 1024 == 1024

-- ---- parts of code

-- what a local variable holds becomes known
abbrev pub hand_over : ℕ → List VType → ℕ → VType → List Row
hand_over words locals local type = row words locals [] (aload local) ∷ row words locals (type ∷ []) put_known ∷ []

-- so do the parameters of reference types, the first of which is in this local variable
abbrev pub hand_over_params : ℕ → List VType → ℕ → List Desc → List Row
hand_over_params words locals local [] = []
hand_over_params words locals local (descs.Ref type ∷ params) = hand_over words locals local (ref_vtype type) ++ hand_over_params words locals (local + 1) params
hand_over_params words locals local (descs.Prim prim ∷ params) = hand_over_params words locals (local + desc_words (descs.Prim prim)) params

-- so does the receiver, which Object's `finalize()V` keeps to itself
abbrev pub hand_over_receiver : ℕ → List VType → List ℕ → MethodShape → List Row
hand_over_receiver words locals class method =
    if is_static method then [] else if is_finalize_of_object class method then [] else hand_over words locals 0 (types.Class class)

-- what is known is thrown, if anything is known; else the code goes on behind. So many instructions stand before.
abbrev pub throws : ℕ → List VType → ℕ → List Row
throws words locals before =
    row words locals [] get_known
    ∷ record { step = steps.Landed IFNULL (before + 5); frame = frame_of words locals (object_vtype ∷ []) }
    ∷ known_as words locals [] (refs.Class throwable_name) ++ row words locals (throwable_vtype ∷ []) (plain ATHROW) ∷ []

-- an answer of the type of the result: what is known, zero, or nothing
abbrev pub answers : ℕ → List VType → Option Desc → List Row
answers words locals None = row words locals [] (plain RETURN) ∷ []
answers words locals (Some (descs.Ref type)) = known_as words locals [] type ++ row words locals (ref_vtype type ∷ []) (plain ARETURN) ∷ []
answers words locals (Some (descs.Prim prim)) =
    row words locals [] (plain (zero_op prim)) ∷ row words locals (desc_vtype (descs.Prim prim) ∷ []) (plain (return_op prim)) ∷ []

-- a receiver that isn't initialised is, by the extra constructor of the superclass
abbrev pub calls_super : ℕ → List VType → List ℕ → List Row
calls_super words locals parent =
    row words locals [] (aload 0)
    ∷ row words locals (types.UninitThis ∷ []) (plain ACONST_NULL)
    ∷ row words locals (types.UninitThis ∷ types.Null ∷ []) (call_extra parent) ∷ []

-- ---- methods

-- the types of the receiver, once it is initialised, and of the parameters
abbrev pub local_types : List ℕ → MethodShape → List VType
local_types class method = (if is_static method then [] else types.Class class ∷ []) ++ map desc_vtype method.desc.params

abbrev pub first_param : MethodShape → ℕ
first_param method = if is_static method then 0 else 1

-- how many words its arguments take
abbrev pub words_in : MethodShape → ℕ
words_in method = words_of method.desc (not (is_static method))

-- all that a method is handed becomes known
abbrev pub hands_over : List ℕ → MethodShape → List Row
hands_over class method =
    let locals = local_types class method in
    hand_over_receiver (words_in method) locals class method ++ hand_over_params (words_in method) locals (first_param method) method.desc.params

-- What most methods do, behind the instructions that they begin with: all that they are handed becomes known, and
-- then they throw what is known or answer.
abbrev pub template : List ℕ → MethodShape → List Row → Code
template class method begin =
    let locals = local_types class method in
    let front = begin ++ hands_over class method in record {
      words = words_in method;
      rows = front ++ (throws (words_in method) locals (length front) ++ answers (words_in method) locals method.desc.result);
      spans = [];
    }

-- Object's `<init>()V`: its receiver is made, and isn't known yet
abbrev pub makes_fresh : Code
makes_fresh =
    let locals = object_vtype ∷ [] in record {
      words = 1;
      rows = row 1 locals [] (aload 0) ∷ row 1 locals (object_vtype ∷ []) put_fresh ∷ row 1 locals [] (plain RETURN) ∷ [];
      spans = [];
    }

-- the extra constructor of a class that has a superclass or not
abbrev pub extra_code : List ℕ → Option (List ℕ) → Code
extra_code class None = record {
  words = 2;
  rows = row 2 (types.Class class ∷ types.Class library_name ∷ []) [] (plain RETURN) ∷ [];
  spans = [];
}
extra_code class (Some parent) = record {
  words = 2;
  rows = calls_super 2 (types.UninitThis ∷ types.Class library_name ∷ []) parent ++ row 2 (types.Class class ∷ types.Class library_name ∷ []) [] (plain RETURN) ∷ [];
  spans = [];
}

-- what a constructor of a class with a superclass begins with
abbrev pub begins_with : List ℕ → MethodShape → Option (List ℕ) → List Row
begins_with class method None = []
begins_with class method (Some parent) = if is_constructor method then calls_super (words_in method) (entry_types class method) parent else []

-- the code of a collected method of a class with this superclass, none where the method is abstract
abbrev pub method_code : List ℕ → Option (List ℕ) → MethodShape → Option Code
method_code class parent method =
    if is_abstract method then None
    else if is_object class && is_called init_name method then Some makes_fresh
    else Some (template class method (begins_with class method parent))
