-- The items of a package: static methods that do what a library may do by itself. Each makes objects, or calls, reads
-- or writes what is known.
use Rattle.std.specs.Prelude.{ℕ, zero, suc, Bool, false, ◌==◌, if◌then◌else◌, bit_and, List, [], ◌∷◌, ◌++◌, length, map, Option, Some, None}
use Rattle.jv_table.specs.declared.ops.TheConstants.{ACONST_NULL, ICONST_0, ICONST_1, AALOAD, AASTORE, DUP, RETURN, GETSTATIC, PUTSTATIC, GETFIELD, PUTFIELD, INVOKEVIRTUAL, INVOKEINTERFACE, NEW, NEWARRAY, ANEWARRAY}
use Rattle.jv_types.specs.declared.desc.Desc.{Desc}
use Rattle.jv_types.specs.declared.desc.Desc.TheVariants as descs
use Rattle.jv_types.specs.declared.desc.MethodDesc.{MethodDesc}
use Rattle.jv_types.specs.declared.desc.PrimType.{PrimType}
use Rattle.jv_types.specs.declared.desc.PrimType.TheVariants as prims
use Rattle.jv_types.specs.declared.desc.RefType.{RefType}
use Rattle.jv_types.specs.declared.desc.RefType as refs
use Rattle.jv_types.specs.declared.instruction.Arg.TheVariants as args
use Rattle.jv_types.specs.declared.instruction.Insn.{Insn}
use Rattle.jv_types.specs.declared.shapes.FieldShape.{FieldShape}
use Rattle.jv_types.specs.declared.shapes.MethodShape.{MethodShape}
use Rattle.jv_types.specs.declared.frames.VType.{VType}
use Rattle.jv_types.specs.declared.frames.VType as types
use Rattle.jv_world.specs.Worlds.{object_name}
use Rattle.jv_frames.specs.Types.{ref_vtype, desc_vtype}
use Rattle.av_conditions.specs.CoreClasses.{finalize_name, void_desc}
use Rattle.av_standin_of.specs.Codes.{Row, Code, row, insn, plain, get_known, put_known, get_fresh, checkcast, call_extra, pop_op, object_vtype, throwable_vtype, known_as, values_of}

-- an item of these instructions: it has neither parameters nor local variables
abbrev pub item : List Row → Code
item rows = record { words = 0; rows = rows; spans = [] }

-- the end of an item
abbrev pub ends : List Row
ends = row 0 [] [] (plain RETURN) ∷ []

-- what is on the stack becomes known
abbrev pub keeps : VType → List Row
keeps type = row 0 [] (type ∷ []) put_known ∷ []

-- ---- objects and arrays

-- an object of a class is made and becomes known
abbrev pub make_item : List ℕ → Code
make_item class =
    item (
    row 0 [] [] (insn NEW (args.Class (refs.Class class)))
    ∷ row 0 [] (types.Uninit 0 ∷ []) (plain DUP)
    ∷ row 0 [] (types.Uninit 0 ∷ types.Uninit 0 ∷ []) (plain ACONST_NULL)
    ∷ row 0 [] (types.Uninit 0 ∷ types.Uninit 0 ∷ types.Null ∷ []) (call_extra class)
    ∷ keeps (types.Class class) ++ ends
    )

-- an array of items of a type is made and becomes known
abbrev pub make_array : RefType → List Row
make_array type =
    row 0 [] [] (plain ICONST_1)
    ∷ row 0 [] (types.Integer ∷ []) (insn ANEWARRAY (args.Class type))
    ∷ keeps (ref_vtype (refs.Array type))

-- so are arrays of more and more dimensions, the first of which has items of the type
abbrev pub make_arrays : ℕ → RefType → List Row
make_arrays zero type = []
make_arrays (suc more) type = make_array type ++ make_arrays more (refs.Array type)

-- arrays of a class in up to so many dimensions
abbrev pub arrays_item : ℕ → List ℕ → Code
arrays_item dims class = item (make_arrays dims (refs.Class class) ++ ends)

-- how many dimensions are left behind the first
abbrev pub one_less : ℕ → ℕ
one_less zero = zero
one_less (suc dims) = dims

-- arrays of a primitive type in up to so many dimensions
abbrev pub prim_arrays_item : ℕ → PrimType → Code
prim_arrays_item dims prim =
    item (
    row 0 [] [] (plain ICONST_1)
    ∷ row 0 [] (types.Integer ∷ []) (insn NEWARRAY (args.NewPrim prim))
    ∷ keeps (types.PrimArray prim) ++ (make_arrays (one_less dims) (refs.PrimArray prim) ++ ends)
    )

-- ---- calls

-- what a call leaves becomes known, or is dropped where it is primitive
abbrev pub takes_result : Option Desc → List Row
takes_result None = []
takes_result (Some (descs.Ref type)) = keeps (ref_vtype type)
takes_result (Some (descs.Prim prim)) = row 0 [] (desc_vtype (descs.Prim prim) ∷ []) (plain (pop_op prim)) ∷ []

-- a method is called by a reference to this class or interface
abbrev pub call_op : Bool → ℕ
call_op interface = if interface then INVOKEINTERFACE else INVOKEVIRTUAL

abbrev pub call_insn : Bool → List ℕ → List ℕ → MethodDesc → Insn
call_insn interface class name desc =
    insn (call_op interface) (args.Method (record { class = refs.Class class; name = name; desc = desc; interface = interface }))

-- It is called on what the instruction `get` gives, with known values and zeros. What it answers becomes known, and so
-- does what it throws: the handler covers all to the end of the call.
abbrev pub call_rows : Insn → Bool → List ℕ → List ℕ → MethodDesc → List Row
call_rows get interface class name desc =
    row 0 [] [] get
    ∷ row 0 [] (object_vtype ∷ []) (checkcast (refs.Class class))
    ∷ values_of 0 [] (types.Class class ∷ []) desc.params
    ++ row 0 [] (types.Class class ∷ map desc_vtype desc.params) (call_insn interface class name desc) ∷ []

abbrev pub call_item_of : Insn → Bool → List ℕ → List ℕ → MethodDesc → Code
call_item_of get interface class name desc =
    let covered = call_rows get interface class name desc in
    let front = covered ++ (takes_result desc.result ++ ends) in record {
      words = 0;
      rows = front ++ (keeps throwable_vtype ++ ends);
      spans = record { start = 0; end = length covered; target = length front } ∷ [];
    }

abbrev pub call_item : Bool → List ℕ → MethodShape → Code
call_item interface class method = call_item_of get_known interface class method.name method.desc

-- ---- fields

abbrev pub field_insn : ℕ → List ℕ → FieldShape → Insn
field_insn op class field = insn op (args.Field (record { class = class; name = field.name; desc = field.desc }))

-- what a static field has becomes known, and the field gets what is known
abbrev pub static_rows : List ℕ → FieldShape → RefType → List Row
static_rows class field type =
    row 0 [] [] (field_insn GETSTATIC class field)
    ∷ keeps (ref_vtype type)
    ++ (known_as 0 [] [] type ++ (row 0 [] (ref_vtype type ∷ []) (field_insn PUTSTATIC class field) ∷ ends))

-- the same of a field of what is known
abbrev pub instance_rows : List ℕ → FieldShape → RefType → List Row
instance_rows class field type =
    known_as 0 [] [] (refs.Class class)
    ++ (row 0 [] (types.Class class ∷ []) (field_insn GETFIELD class field)
    ∷ keeps (ref_vtype type)
    ++ (known_as 0 [] [] (refs.Class class)
    ++ (known_as 0 [] (types.Class class ∷ []) type ++ (row 0 [] (types.Class class ∷ ref_vtype type ∷ []) (field_insn PUTFIELD class field) ∷ ends))))

abbrev pub is_static_field : FieldShape → Bool
is_static_field field = bit_and field.flags.0 8 == 8

abbrev pub field_item : List ℕ → FieldShape → RefType → Code
field_item class field type = item (if is_static_field field then static_rows class field type else instance_rows class field type)

-- the item of a field of a reference type; a field of a primitive type has none
abbrev pub items_of_field : List ℕ → FieldShape → Desc → List Code
items_of_field class field (descs.Ref type) = field_item class field type ∷ []
items_of_field class field (descs.Prim prim) = []

-- ---- the items of java/lang alone

-- the eight primitive types in the order of their items: Z, B, C, S, I, J, F and D
abbrev pub prims_in_order : List PrimType
prims_in_order =
    prims.Boolean ∷ prims.Byte ∷ prims.Char ∷ prims.Short ∷ prims.Int ∷ prims.Long ∷ prims.Float ∷ prims.Double ∷ []

abbrev pub objects_type : RefType
objects_type = refs.Array (refs.Class object_name)

-- an element of what is known becomes known, and what is known is stored as one
abbrev pub elements_item : Code
elements_item =
    item (
    known_as 0 [] [] objects_type
    ++ (row 0 [] (ref_vtype objects_type ∷ []) (plain ICONST_0)
    ∷ row 0 [] (ref_vtype objects_type ∷ types.Integer ∷ []) (plain AALOAD)
    ∷ keeps object_vtype
    ++ (known_as 0 [] [] objects_type
    ++ (row 0 [] (ref_vtype objects_type ∷ []) (plain ICONST_0)
    ∷ row 0 [] (ref_vtype objects_type ∷ types.Integer ∷ []) get_known
    ∷ row 0 [] (ref_vtype objects_type ∷ types.Integer ∷ object_vtype ∷ []) (plain AASTORE) ∷ ends)))
    )

-- Object's `finalize()V` is called on what was only made
abbrev pub finalize_item : Code
finalize_item = call_item_of get_fresh false object_name finalize_name void_desc

abbrev pub core_items : ℕ → List Code
core_items dims = map (prim_arrays_item dims) prims_in_order ++ elements_item ∷ finalize_item ∷ []
