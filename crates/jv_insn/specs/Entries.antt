-- What instructions name of a constant pool, where that stands there, and the pool to which it is added.
use Rattle.std.specs.Prelude.{◌≡◌, ◌+◌, ℕ, Bool, if◌then◌else◌, nat_le, List, [], ◌∷◌, ◌++◌, length, Option, Some, None}
use Rattle.std.specs.Option.{option_map_or}
use Rattle.jv_types.specs.declared.instruction.Const.{Const}
use Rattle.jv_types.specs.declared.instruction.Const.TheVariants as consts
use Rattle.jv_types.specs.declared.instruction.Arg.{Arg}
use Rattle.jv_types.specs.declared.instruction.Arg.TheVariants as args
use Rattle.jv_types.specs.declared.instruction.Insn.{Insn}
use Rattle.jv_desc.specs.Texts.{desc_text, method_text}
use Rattle.jv_pool.specs.declared.item.PoolItem.{PoolItem}
use Rattle.jv_pool.specs.declared.item.PoolItem.TheVariants as items
use Rattle.jv_pool.specs.Adding.{slots_of, place_of}
use Rattle.jv_read.specs.Reading.{◌>>=◌}
use Rattle.jv_names.specs.Naming.{type_text}
use Rattle.jv_insn.specs.declared.entries.MemberKind.{MemberKind}
use Rattle.jv_insn.specs.declared.entries.MemberKind.TheVariants as kinds

-- ---- what is named

-- an item that names no other, a class or array type by its text, or a member by the text of its class, its
-- name and its descriptor (JVMS 4.4)
pub data Entry : Type 0 where
  Plain : PoolItem → Entry
  ClassOf : List ℕ → Entry
  MemberOf : MemberKind → List ℕ → List ℕ → List ℕ → Entry

-- the item of a member, by the indices of its class and of its name and descriptor (JVMS 4.4.2)
abbrev pub member_item : MemberKind → ℕ → ℕ → PoolItem
member_item kinds.Field class pair = items.Field class pair
member_item kinds.Method class pair = items.Method class pair
member_item kinds.InterfaceMethod class pair = items.InterfaceMethod class pair

-- a method's item tells whether it is an interface's
abbrev pub method_kind : Bool → MemberKind
method_kind interface = if interface then kinds.InterfaceMethod else kinds.Method

-- what a constant is in a pool. Those that are left out of bodies have nothing.
abbrev pub const_entry : Const → Option Entry
const_entry (consts.Int value) = Some (Plain (items.Integer value))
const_entry (consts.Float bits) = Some (Plain (items.Float bits))
const_entry (consts.Long value) = Some (Plain (items.Long value))
const_entry (consts.Double bits) = Some (Plain (items.Double bits))
const_entry (consts.Class type) = Some (ClassOf (type_text type))
const_entry consts.Text = None
const_entry consts.Handle = None
const_entry consts.MethodKind = None

-- what operands name of a pool, if they do
abbrev pub entry_of : Arg → Option Entry
entry_of (args.Constant constant) = const_entry constant
entry_of (args.Class type) = Some (ClassOf (type_text type))
entry_of (args.Field field) = Some (MemberOf kinds.Field field.class field.name (desc_text field.desc))
entry_of (args.Method method) = Some (MemberOf (method_kind method.interface) (type_text method.class) method.name (method_text method.desc))
entry_of (args.Multi type dims) = Some (ClassOf (type_text type))
entry_of args.Nothing = None
entry_of (args.Local local) = None
entry_of (args.Small value) = None
entry_of (args.Inc local by) = None
entry_of args.Dynamic = None
entry_of (args.NewPrim prim) = None
entry_of (args.Jump target) = None
entry_of (args.Table default low targets) = None
entry_of (args.Lookup default cases) = None

-- ---- where it stands

-- the index of a class by its text, and of a name and descriptor: each item's first one
unfoldable pub class_place : List PoolItem → List ℕ → Option ℕ
class_place pool text = do
  name ← place_of pool (items.Utf8 text)
  place_of pool (items.Class name)

unfoldable pub pair_place : List PoolItem → List ℕ → List ℕ → Option ℕ
pair_place pool name desc = do
  first ← place_of pool (items.Utf8 name)
  second ← place_of pool (items.Utf8 desc)
  place_of pool (items.NameAndType first second)

unfoldable pub member_place : List PoolItem → MemberKind → List ℕ → List ℕ → List ℕ → Option ℕ
member_place pool kind class name desc = do
  owner ← class_place pool class
  pair ← pair_place pool name desc
  place_of pool (member_item kind owner pair)

-- the index at which an entry stands
abbrev pub entry_place : List PoolItem → Entry → Option ℕ
entry_place pool (Plain item) = place_of pool item
entry_place pool (ClassOf text) = class_place pool text
entry_place pool (MemberOf kind class name desc) = member_place pool kind class name desc

-- the index of what operands name, and 0 where they name nothing
abbrev pub arg_place : List PoolItem → Option Entry → Option ℕ
arg_place pool None = Some 0
arg_place pool (Some entry) = entry_place pool entry

-- ---- adding it

-- the greatest index that a pool may have (JVMS 4.1)
abbrev pub last_index : ℕ
last_index = 65534

-- a new last item, where it finds room
abbrev pub put_last : PoolItem → List PoolItem → Option (ℕ × List PoolItem)
put_last item pool = if nat_le (length pool + length (slots_of item)) last_index then Some (length pool + 1, pool ++ slots_of item) else None

-- an item is added where it doesn't stand yet: its index, and the pool with it. There is none where it finds
-- no room.
unfoldable pub put_item : PoolItem → List PoolItem → Option (ℕ × List PoolItem)
put_item item pool = option_map_or (λ (i : ℕ). Some (i, pool)) (place_of pool item) (put_last item pool)

-- an entry is added, its parts first
unfoldable pub put_class : List ℕ → List PoolItem → Option (ℕ × List PoolItem)
put_class text pool = do
  name ← put_item (items.Utf8 text) pool
  put_item (items.Class name.0) name.1

unfoldable pub put_pair : List ℕ → List ℕ → List PoolItem → Option (ℕ × List PoolItem)
put_pair name desc pool = do
  first ← put_item (items.Utf8 name) pool
  second ← put_item (items.Utf8 desc) first.1
  put_item (items.NameAndType first.0 second.0) second.1

unfoldable pub put_member : MemberKind → List ℕ → List ℕ → List ℕ → List PoolItem → Option (ℕ × List PoolItem)
put_member kind class name desc pool = do
  owner ← put_class class pool
  pair ← put_pair name desc owner.1
  put_item (member_item kind owner.0 pair.0) pair.1

abbrev pub put_entry : Entry → List PoolItem → Option (ℕ × List PoolItem)
put_entry (Plain item) pool = put_item item pool
put_entry (ClassOf text) pool = put_class text pool
put_entry (MemberOf kind class name desc) pool = put_member kind class name desc pool

-- what operands name is added, if they name something
abbrev pub put_named : Option Entry → List PoolItem → Option (ℕ × List PoolItem)
put_named None pool = Some (0, pool)
put_named (Some entry) pool = put_entry entry pool

-- the pool to which all is added that instructions name, in their order
unfoldable pub put_all : List (ℕ × Insn) → List PoolItem → Option (List PoolItem)
put_all [] pool = Some pool
put_all (row ∷ rows) pool = do
  named ← put_named (entry_of row.1.arg) pool
  put_all rows named.1

-- items were added behind those of a pool, or none
abbrev pub Grows : List PoolItem → List PoolItem → Type 0
Grows old new = (more : List PoolItem) × (new ≡ old ++ more)
