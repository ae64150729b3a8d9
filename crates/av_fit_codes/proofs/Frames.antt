-- Frames of types that a map can name are those of full maps, and few types take few words.
use Rattle.std.proofs.Common.{◌≡◌, ℕ, ◌+◌, ◌*◌, ◌≤◌, List, [], ◌∷◌, ◌++◌, length, map, refl, length-append, arith}
use Rattle.std.specs.List.{AllByRecursion}
use Rattle.std.proofs.lemmas.Bool.{false≢true}
use Rattle.std.proofs.lemmas.List.Elements.{All-from_recursion}
use Rattle.std.proofs.lemmas.List.Sums.{sum_by-cons}
use Rattle.std.specs.Prelude.{sum_by}
use Rattle.jv_types.specs.declared.desc.Desc.{Desc}
use Rattle.jv_types.specs.declared.desc.Desc.TheVariants as descs
use Rattle.jv_types.specs.declared.desc.PrimType.{PrimType}
use Rattle.jv_types.specs.declared.desc.PrimType.TheVariants as prims
use Rattle.jv_types.specs.declared.desc.RefType.{RefType, Row_of-RefType, end_of-RefType, more_of-RefType}
use Rattle.jv_types.specs.declared.desc.RefType as refs
use Rattle.jv_types.specs.declared.frames.VType.{VType}
use Rattle.jv_types.specs.declared.frames.VType as types
use Rattle.jv_lists.proofs.Among.{all_from}
use Rattle.jv_desc.specs.Texts.{desc_words, IsRef, IsDesc}
use Rattle.jv_names.specs.Spellings.{IsClassName}
use Rattle.jv_frames.specs.Types.{ref_vtype, items_vtype, desc_vtype, type_words, in_words, frame_of}
use Rattle.jv_frames.specs.Maps.{IsMade}
use Rattle.av_asm.specs.Mapping.{IsMapped}
use Rattle.av_asm.specs.Finishing.{IsFullFrame}

-- ---- types

-- a type that a map can name, and not of a value that a `new` made
pub record IsPlain (type : VType) : Type 0 where
  pub mapped : IsMapped type
  pub made : IsMade [] type

pub integer_plain : IsPlain types.Integer
integer_plain = record { mapped = λ is. absurd (false≢true is); made = tt }

float_plain : IsPlain types.Float
float_plain = record { mapped = λ is. absurd (false≢true is); made = tt }

long_plain : IsPlain types.Long
long_plain = record { mapped = λ is. absurd (false≢true is); made = tt }

double_plain : IsPlain types.Double
double_plain = record { mapped = λ is. absurd (false≢true is); made = tt }

pub null_plain : IsPlain types.Null
null_plain = record { mapped = λ is. absurd (false≢true is); made = tt }

pub uninit_this_plain : IsPlain types.UninitThis
uninit_this_plain = record { mapped = λ is. absurd (false≢true is); made = tt }

made_items : {m : _} (items : Row_of-RefType m) → IsMade [] (items_vtype items)
made_items end_of-RefType = tt
made_items (more_of-RefType item rest) = tt

made_ref : (type : RefType) → IsMade [] (ref_vtype type)
made_ref (refs.Class name) = tt
made_ref (refs.PrimArray prim) = tt
made_ref (refs.Array' shape items) = made_items items

pub ref_plain : (type : RefType) → IsRef 255 type → IsPlain (ref_vtype type)
ref_plain type formed = record { mapped = λ is. (type, refl, formed); made = made_ref type }

pub class_plain : (name : List ℕ) → IsClassName name → IsPlain (types.Class name)
class_plain name named = ref_plain (refs.Class name) (record { dims = omega arith; named = named })

prim_plain : (prim : PrimType) → IsPlain (desc_vtype (descs.Prim prim))
prim_plain prims.Boolean = integer_plain
prim_plain prims.Char = integer_plain
prim_plain prims.Float = float_plain
prim_plain prims.Double = double_plain
prim_plain prims.Byte = integer_plain
prim_plain prims.Short = integer_plain
prim_plain prims.Int = integer_plain
prim_plain prims.Long = long_plain

pub desc_plain : (desc : Desc) → IsDesc desc → IsPlain (desc_vtype desc)
desc_plain (descs.Prim prim) formed = prim_plain prim
desc_plain (descs.Ref type) formed = ref_plain type formed

pub descs_plain : (params : List Desc) → AllByRecursion IsDesc params → AllByRecursion IsPlain (map desc_vtype params)
descs_plain [] formed = tt
descs_plain (param ∷ params) formed = (desc_plain param formed.0, descs_plain params formed.1)

-- ---- words

few_words : (type : VType) → length (type_words type) ≤ 2
few_words types.Top = omega arith
few_words types.Integer = omega arith
few_words types.Float = omega arith
few_words types.Long = omega arith
few_words types.Double = omega arith
few_words types.Null = omega arith
few_words types.UninitThis = omega arith
few_words (types.Uninit pc) = omega arith
few_words (types.Class name) = omega arith
few_words (types.PrimArray prim) = omega arith
few_words (types.Array' shape items) = omega arith

-- each type takes at most two words
pub few_in_words : (all : List VType) → length (in_words all) ≤ 2 * length all
few_in_words [] = omega arith
few_in_words (type ∷ all) = omega (arith, few_words type, few_in_words all, length-append (type_words type) (in_words all))

ref_one : (type : RefType) → length (type_words (ref_vtype type)) ≡ 1
ref_one (refs.Class name) = refl
ref_one (refs.PrimArray prim) = refl
ref_one (refs.Array' shape items) = by items
  where
    by : {m : _} (items : Row_of-RefType m) → length (type_words (items_vtype items)) ≡ 1
    by end_of-RefType = refl
    by (more_of-RefType item rest) = refl

-- a value of a type takes as many words as an argument of it
desc_size : (desc : Desc) → length (type_words (desc_vtype desc)) ≡ desc_words desc
desc_size (descs.Ref type) = ref_one type
desc_size (descs.Prim prims.Boolean) = refl
desc_size (descs.Prim prims.Char) = refl
desc_size (descs.Prim prims.Float) = refl
desc_size (descs.Prim prims.Double) = refl
desc_size (descs.Prim prims.Byte) = refl
desc_size (descs.Prim prims.Short) = refl
desc_size (descs.Prim prims.Int) = refl
desc_size (descs.Prim prims.Long) = refl

pub sum_cons : (param : Desc) (params : List Desc) → sum_by desc_words (param ∷ params) ≡ desc_words param + sum_by desc_words params
sum_cons param params = sum_by-cons desc_words param params

-- so do values of many types
pub params_size : (params : List Desc) → length (in_words (map desc_vtype params)) ≡ sum_by desc_words params
params_size [] = refl
params_size (param ∷ params) =
    omega (arith, length-append (type_words (desc_vtype param)) (in_words (map desc_vtype params)), desc_size param, params_size params, sum_cons param params)

-- an argument takes one word at least
pub words_some : (desc : Desc) → 1 ≤ desc_words desc
words_some (descs.Ref type) = omega arith
words_some (descs.Prim prims.Boolean) = omega arith
words_some (descs.Prim prims.Char) = omega arith
words_some (descs.Prim prims.Float) = omega arith
words_some (descs.Prim prims.Double) = omega arith
words_some (descs.Prim prims.Byte) = omega arith
words_some (descs.Prim prims.Short) = omega arith
words_some (descs.Prim prims.Int) = omega arith
words_some (descs.Prim prims.Long) = omega arith

pub params_few : (params : List Desc) → length params ≤ sum_by desc_words params
params_few [] = omega arith
params_few (param ∷ params) = omega (arith, words_some param, params_few params, sum_cons param params)

-- ---- frames

-- types of local variables that fit so many words
pub record FillsLocals (words : ℕ) (locals : List VType) : Type 0 where
  pub few : length (in_words locals) ≤ words
  pub plain : AllByRecursion IsPlain locals

-- few types of stack items
pub record FillsStack (stack : List VType) : Type 0 where
  pub few : length stack ≤ 300
  pub plain : AllByRecursion IsPlain stack

pub full_frame : (words : ℕ) (locals stack : List VType) → FillsLocals words locals → FillsStack stack → IsFullFrame words [] (frame_of words locals stack)
full_frame words locals stack l s = record {
  locals = locals;
  stack = stack;
  is = refl;
  fits = l.few;
  locals_mapped = all_from IsPlain IsMapped (λ type plain. plain.mapped) locals l.plain;
  stack_mapped = all_from IsPlain IsMapped (λ type plain. plain.mapped) stack s.plain;
  locals_made = All-from_recursion (IsMade []) locals (all_from IsPlain (IsMade []) (λ type plain. plain.made) locals l.plain);
  stack_made = All-from_recursion (IsMade []) stack (all_from IsPlain (IsMade []) (λ type plain. plain.made) stack s.plain);
}

pub no_locals : FillsLocals 0 []
no_locals = record { few = omega arith; plain = tt }

pub empty_stack : FillsStack []
empty_stack = record { few = omega arith; plain = tt }

pub one_on_stack : (type : VType) → IsPlain type → FillsStack (type ∷ [])
one_on_stack type plain = record { few = omega arith; plain = (plain, tt) }

-- one value more on the stack
pub plain_more : (stack : List VType) (type : VType) → AllByRecursion IsPlain stack → IsPlain type → AllByRecursion IsPlain (stack ++ type ∷ [])
plain_more [] type all plain = (plain, tt)
plain_more (first ∷ stack) type all plain = (all.0, plain_more stack type all.1 plain)

pub one_more : (stack : List VType) (type : VType) → length stack ≤ 299 → AllByRecursion IsPlain stack → IsPlain type → FillsStack (stack ++ type ∷ [])
one_more stack type few all plain = record { few = omega (arith, length-append stack (type ∷ [])); plain = plain_more stack type all plain }
