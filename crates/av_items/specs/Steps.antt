-- Parts of items.
use Rattle.std.specs.Prelude.{ℕ, Bool, false, List, [], ◌∷◌, ◌++◌, map, Option}
use Rattle.jv_table.specs.declared.ops.TheConstants.{ACONST_NULL, ICONST_0, ICONST_1, NEWARRAY, AALOAD, AASTORE, DUP, NEW, GETSTATIC, GETFIELD, PUTFIELD, PUTSTATIC}
use Rattle.jv_types.specs.declared.desc.Desc.{Desc}
use Rattle.jv_types.specs.declared.desc.MethodDesc.{MethodDesc}
use Rattle.jv_types.specs.declared.desc.PrimType.{PrimType}
use Rattle.jv_types.specs.declared.desc.RefType.{RefType}
use Rattle.jv_types.specs.declared.desc.RefType as refs
use Rattle.jv_types.specs.declared.instruction.Arg.TheVariants as args
use Rattle.jv_types.specs.declared.instruction.Insn.{Insn}
use Rattle.jv_types.specs.declared.shapes.FieldShape.{FieldShape}
use Rattle.jv_types.specs.declared.frames.VType.{VType}
use Rattle.jv_types.specs.declared.frames.VType as types
use Rattle.jv_frames.specs.Types.{ref_vtype, desc_vtype}
use Rattle.av_standin_of.specs.Codes.{Row, row, insn, plain, get_known, call_extra, checkcast, object_vtype, throwable_vtype, known_as, values_of}
use Rattle.av_conditions.specs.CoreClasses.{finalize_name, void_desc}
use Rattle.jv_world.specs.Worlds.{object_name}
use Rattle.av_sketches.specs.declared.sketch.Callee.{Callee}
use Rattle.av_standin_of.specs.Items.{ends, keeps, make_arrays, one_less, takes_result, call_insn, field_insn, objects_type}

-- an item's row: it has no local variables
abbrev pub bare : List VType → Insn → Row
bare stack insn = row 0 [] stack insn

-- what is on the stack becomes known, and the item ends
abbrev pub keeps_last : VType → List Row
keeps_last type = keeps type ++ ends

-- an object is made, and is twice on the stack
abbrev pub new_twice : List ℕ → List Row
new_twice class = bare [] (insn NEW (args.Class (refs.Class class))) ∷ bare (types.Uninit 0 ∷ []) (plain DUP) ∷ []

-- one of the two is initialised
abbrev pub initialised : List ℕ → List Row
initialised class =
    bare (types.Uninit 0 ∷ types.Uninit 0 ∷ []) (plain ACONST_NULL)
    ∷ bare (types.Uninit 0 ∷ types.Uninit 0 ∷ types.Null ∷ []) (call_extra class) ∷ []

-- a length of one, and an array of that length
abbrev pub one_and : Insn → List Row
one_and insn = bare [] (plain ICONST_1) ∷ bare (types.Integer ∷ []) insn ∷ []

abbrev pub prim_array : PrimType → List Row
prim_array prim = one_and (insn NEWARRAY (args.NewPrim prim)) ++ keeps (types.PrimArray prim)

abbrev pub more_arrays : ℕ → PrimType → List Row
more_arrays dims prim = make_arrays (one_less dims) (refs.PrimArray prim) ++ ends

-- ---- calls

-- what an instruction gives, as an object of a class
abbrev pub got_as : Insn → List ℕ → List Row
got_as get class = bare [] get ∷ bare (object_vtype ∷ []) (checkcast (refs.Class class)) ∷ []

-- known values and zeros, and the call that takes them
abbrev pub called : Bool → List ℕ → List ℕ → MethodDesc → List Row
called interface class name desc =
    values_of 0 [] (types.Class class ∷ []) desc.params
    ++ bare (types.Class class ∷ map desc_vtype desc.params) (call_insn interface class name desc) ∷ []

abbrev pub answered : Option Desc → List Row
answered result = takes_result result ++ ends

abbrev pub throwable_known : List Row
throwable_known = keeps throwable_vtype ++ ends

abbrev pub finalize_of_object : Callee
finalize_of_object = record { interface = false; class = object_name; name = finalize_name; desc = void_desc }

-- ---- fields

abbrev pub static_got : List ℕ → FieldShape → RefType → List Row
static_got class field type = bare [] (field_insn GETSTATIC class field) ∷ keeps (ref_vtype type)

abbrev pub static_put : List ℕ → FieldShape → RefType → List Row
static_put class field type = known_as 0 [] [] type ++ (bare (ref_vtype type ∷ []) (field_insn PUTSTATIC class field) ∷ ends)

abbrev pub instance_got : List ℕ → FieldShape → RefType → List Row
instance_got class field type =
    known_as 0 [] [] (refs.Class class) ++ (bare (types.Class class ∷ []) (field_insn GETFIELD class field) ∷ keeps (ref_vtype type))

-- the object and the value that it gets
abbrev pub both_known : List ℕ → RefType → List Row
both_known class type = known_as 0 [] [] (refs.Class class) ++ known_as 0 [] (types.Class class ∷ []) type

abbrev pub put_last : List ℕ → FieldShape → RefType → List Row
put_last class field type = bare (types.Class class ∷ ref_vtype type ∷ []) (field_insn PUTFIELD class field) ∷ ends

abbrev pub instance_put : List ℕ → FieldShape → RefType → List Row
instance_put class field type = both_known class type ++ put_last class field type

-- ---- elements

-- the first place of what is known, an array
abbrev pub first_place : List Row
first_place = known_as 0 [] [] objects_type ++ bare (ref_vtype objects_type ∷ []) (plain ICONST_0) ∷ []

abbrev pub element_got : List Row
element_got = first_place ++ (bare (ref_vtype objects_type ∷ types.Integer ∷ []) (plain AALOAD) ∷ keeps object_vtype)

abbrev pub element_put : List Row
element_put =
    first_place
    ++ (bare (ref_vtype objects_type ∷ types.Integer ∷ []) get_known
    ∷ bare (ref_vtype objects_type ∷ types.Integer ∷ object_vtype ∷ []) (plain AASTORE) ∷ ends)

abbrev pub static_set : List ℕ → FieldShape → RefType → List Row
static_set class field type = bare (ref_vtype type ∷ []) (field_insn PUTSTATIC class field) ∷ ends

abbrev pub field_got : List ℕ → FieldShape → RefType → List Row
field_got class field type = bare (types.Class class ∷ []) (field_insn GETFIELD class field) ∷ keeps (ref_vtype type)

abbrev pub element_kept : List Row
element_kept = bare (ref_vtype objects_type ∷ types.Integer ∷ []) (plain AALOAD) ∷ keeps object_vtype

abbrev pub element_stored : List Row
element_stored =
    bare (ref_vtype objects_type ∷ types.Integer ∷ []) get_known
    ∷ bare (ref_vtype objects_type ∷ types.Integer ∷ object_vtype ∷ []) (plain AASTORE) ∷ []
