-- Objects that an instruction makes (JVMS 6.5, new, newarray, anewarray, multianewarray), and those that the load of a
-- String or class constant gives (JVMS 6.5 ldc).
use Rattle.std.specs.Prelude.{◌≡◌, ℕ, suc, ◌+◌, ◌*◌, List, [], ◌∷◌, Option, Some, None, Contains, length, map, slice_get}
use Rattle.std.specs.List.{flat_map, range_with_len}
use Rattle.jv_table.specs.declared.ops.TheConstants.{NEW, NEWARRAY, ANEWARRAY, MULTIANEWARRAY}
use Rattle.jv_types.specs.declared.desc.PrimType.{PrimType}
use Rattle.jv_types.specs.declared.desc.RefType.{RefType}
use Rattle.jv_types.specs.declared.desc.RefType as refs
use Rattle.jv_types.specs.declared.ids.ClassId.{ClassId}
use Rattle.jv_types.specs.declared.instruction.Arg.TheVariants as args
use Rattle.jv_types.specs.declared.instruction.Const.{Const}
use Rattle.jv_types.specs.declared.instruction.Const.TheVariants as consts
use Rattle.jv_types.specs.declared.instruction.Insn.{Insn}
use Rattle.jv_types.specs.declared.label.Label.TheVariants as labels
use Rattle.jv_types.specs.declared.label.LibBase.TheVariants as bases
use Rattle.jv_types.specs.declared.shapes.Shape.{Shape}
use Rattle.jv_world.specs.Worlds.{IsNamed}
use Rattle.av_conditions.specs.CoreClasses.{class_name, string_name}
use Rattle.av_states.specs.declared.held.Held.{Held}
use Rattle.av_states.specs.declared.held.Held.TheVariants.{Ref}
use Rattle.av_states.specs.declared.run_type.RunType.{RunType, Class, Lib, Prim, Array}
use Rattle.av_states.specs.declared.state.CellKey.TheVariants.{Index}
use Rattle.av_states.specs.declared.state.HeapObject.{HeapObject}
use Rattle.av_states.specs.declared.state.State.{State}
use Rattle.av_model.specs.Holding.{make, make_known}
use Rattle.av_model.specs.LibraryTypes.{AreInterfacesOf}
use Rattle.av_model.specs.RunTypes.{IsTypeOf}
use Rattle.av_model.specs.Spots.{Spot}

-- an object that the instruction at a spot makes, inside so many arrays that it makes too; nothing in it is written
abbrev pub made_at : Spot → ℕ → RunType → HeapObject
made_at spot depth type = record { made = type; label = labels.Site spot.framed.method spot.pc depth; cells = [] }

-- ---- one object

-- the instruction makes an object of this type
pub data Makes (w : List Shape) (insn : Insn) : RunType → Type 0 where
  by_new : (name : List ℕ) (c : ClassId) → insn.op ≡ NEW → insn.arg ≡ args.Class (refs.Class name) → IsNamed w c.number name → Makes w insn (Class c)
  by_newarray : (prim : PrimType) → insn.op ≡ NEWARRAY → insn.arg ≡ args.NewPrim prim → Makes w insn (Array (Prim prim))
  by_anewarray : (named : RefType) (item : RunType) → insn.op ≡ ANEWARRAY → insn.arg ≡ args.Class named → IsTypeOf w named item
      → Makes w insn (Array item)

-- it gives a reference to the new object
pub record MakesOne (w : List Shape) (spot : Spot) (insn : Insn) (old : State) (given : List Held) (new : State) : Type 0 where
  pub type : RunType
  pub makes : Makes w insn type
  pub gives : given ≡ Ref (length old.heap) ∷ []
  pub after : new ≡ make old (made_at spot 0 type ∷ [])

-- ---- arrays of arrays

-- how many arrays are made for one array whose dimensions hold so many arrays each, this one among them
abbrev pub count_made : List ℕ → ℕ
count_made [] = 1
count_made (number ∷ numbers) = 1 + number * count_made numbers

-- An array of one of these types, the outermost first, and all arrays in it, where each array of a type holds so many of
-- the next. It has the number `first`; an array is made before those in it, and these one after the other.
abbrev pub arrays_made : Spot → ℕ → List RunType → List ℕ → ℕ → List HeapObject
arrays_made spot depth [] numbers first = []
arrays_made spot depth (type ∷ types) [] first = made_at spot depth type ∷ []
arrays_made spot depth (type ∷ types) (number ∷ numbers) first =
    let place = λ (k : ℕ). first + 1 + k * count_made numbers in
    record (made_at spot depth type) { cells = map (λ (k : ℕ). (Index k, Ref (place k))) (range_with_len 0 number) }
    ∷ flat_map (λ (k : ℕ). arrays_made spot (suc depth) types numbers (place k)) (range_with_len 0 number)

-- each type is an array of the next
abbrev pub AreNested : List RunType → Type 0
AreNested [] = Unit {0}
AreNested (type ∷ []) = Unit {0}
AreNested (type ∷ inner ∷ types) = (type ≡ Array inner) × AreNested (inner ∷ types)

-- multianewarray makes an array for the first dimension and all arrays in it, down to the last dimension that is given;
-- the event has a number for each dimension but the last
pub record MakesNested (w : List Shape) (spot : Spot) (insn : Insn) (numbers : List ℕ) (old : State) (given : List Held) (new : State) : Type 0 where
  pub op : insn.op ≡ MULTIANEWARRAY
  pub named : RefType
  pub dims : ℕ
  pub operands : insn.arg ≡ args.Multi named dims
  pub outer : RunType
  pub inner : List RunType
  pub is_type : IsTypeOf w named outer
  pub nested : AreNested (outer ∷ inner)
  pub count : length (outer ∷ inner) ≡ dims
  pub number_count : length numbers ≡ length inner
  pub gives : given ≡ Ref (length old.heap) ∷ []
  pub after : new ≡ make old (arrays_made spot 0 (outer ∷ inner) numbers (length old.heap))

-- ---- constants

-- the class of the object that a constant is
abbrev pub constant_class : Const → Option (List ℕ)
constant_class consts.Text = Some string_name
constant_class (consts.Class type) = Some class_name
constant_class _ = None

-- the instruction loads a constant that is an object of this class
pub record LoadsObject (w : List Shape) (insn : Insn) (c : ClassId) : Type 0 where
  pub constant : Const
  pub operand : insn.arg ≡ args.Constant constant
  pub name : List ℕ
  pub is_object : constant_class constant ≡ Some name
  pub named : IsNamed w c.number name

-- It gives an object of the library's that is known, of that class or of one below it, with any interfaces: one that was
-- made before, or a new one that has the interfaces of the class alone. The event has the number of the object.
pub data LoadsConstant (w : List Shape) (insn : Insn) (index : ℕ) (old : State) : List Held → State → Type 0 where
  made_before : (c : ClassId) (ifs : List ClassId) (object : HeapObject) → LoadsObject w insn c → slice_get old.heap index ≡ Some object
      → object.made ≡ Lib c ifs → Contains old.known index
      → LoadsConstant w insn index old (Ref index ∷ []) old
  made_now : (c : ClassId) (ifs : List ClassId) → LoadsObject w insn c → index ≡ length old.heap → AreInterfacesOf w c ifs
      → LoadsConstant w insn index old (Ref index ∷ [])
      (make_known (make old (record { made = Lib c ifs; label = labels.Lib (bases.Class c) 0; cells = [] } ∷ [])) (Ref index))
