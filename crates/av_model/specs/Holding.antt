-- What objects and static fields hold, how they are written, and what the library has in its hands (JVMS 2.3, 2.4,
-- 2.5.3).
use Rattle.std.specs.Prelude.{ℕ, ◌++◌, List, [], ◌∷◌, Option, unwrap_or, slice_set}
use Rattle.std.specs.BTreeMap.{insert_entry, is_at}
use Rattle.std.specs.BTreeSet.{insert_key}
use Rattle.std.specs.Map.{lookup}
use Rattle.std.specs.Ordering.{nat_cmp, ordering_then}
use Rattle.std.specs.declared.cmp.Ordering.{Ordering}
use Rattle.std.specs.declared.cmp.Ordering.TheVariants.{Less, Greater}
use Rattle.jv_types.specs.declared.desc.Desc.{Desc}
use Rattle.jv_types.specs.declared.desc.Desc.TheVariants as descs
use Rattle.jv_types.specs.declared.ids.FieldId.{FieldId}
use Rattle.av_states.specs.declared.held.Held.{Held}
use Rattle.av_states.specs.declared.held.Held.TheVariants.{Null, Ref, Word}
use Rattle.av_states.specs.declared.state.CellKey.{CellKey}
use Rattle.av_states.specs.declared.state.CellKey.TheVariants.{Field, Index}
use Rattle.av_states.specs.declared.state.HeapObject.{HeapObject}
use Rattle.av_states.specs.declared.state.State.{State}

-- ---- the order of parts

-- fields are in order by their classes, and then by their places in them
abbrev pub field_cmp : FieldId → FieldId → Ordering
field_cmp x y = ordering_then (nat_cmp x.class.number y.class.number) (nat_cmp x.index y.index)

-- the fields of an object come before the items of an array
abbrev pub cell_cmp : CellKey → CellKey → Ordering
cell_cmp (Field x) (Field y) = field_cmp x y
cell_cmp (Field x) (Index k) = Less
cell_cmp (Index j) (Field y) = Greater
cell_cmp (Index j) (Index k) = nat_cmp j k

-- ---- reading

-- what a place of this type holds until it is written
abbrev pub unwritten : Desc → Held
unwritten (descs.Prim prim) = Word
unwritten (descs.Ref type) = Null

-- what the part of an object holds, where it was written
abbrev pub cell_at : HeapObject → CellKey → Option Held
cell_at object key = lookup (is_at (cell_cmp key)) object.cells

-- What a field of this type holds in an object. One that the object lacks was never written.
abbrev pub field_of : HeapObject → FieldId → Desc → Held
field_of object field desc = unwrap_or (cell_at object (Field field)) (unwritten desc)

-- what an array of references holds at an index
abbrev pub item_of : HeapObject → ℕ → Held
item_of array index = unwrap_or (cell_at array (Index index)) Null

-- what a static field of this type holds
abbrev pub static_of : State → FieldId → Desc → Held
static_of state field desc = unwrap_or (lookup (is_at (field_cmp field)) state.statics) (unwritten desc)

-- ---- writing

-- the object with one part written
abbrev pub write_cell : HeapObject → CellKey → Held → HeapObject
write_cell object key held = record object { cells = insert_entry cell_cmp object.cells key held }

-- the state with one part of an object written
abbrev pub write_object : State → ℕ → HeapObject → CellKey → Held → State
write_object state number object key held = record state { heap = slice_set state.heap number (write_cell object key held) }

abbrev pub write_static : State → FieldId → Held → State
write_static state field held = record state { statics = insert_entry field_cmp state.statics field held }

-- the state with new objects, which have the next numbers
abbrev pub make : State → List HeapObject → State
make state objects = record state { heap = state.heap ++ objects }

-- ---- what the library has in its hands

-- the numbers with those of references among them
abbrev pub insert_held : List ℕ → Held → List ℕ
insert_held numbers Null = numbers
insert_held numbers (Ref number) = insert_key nat_cmp numbers number
insert_held numbers Word = numbers

-- the library gets what a word holds into its hands: PassesKnown
abbrev pub make_known : State → Held → State
make_known state held = record state { known = insert_held state.known held }

-- and what each of these words holds
abbrev pub make_all_known : State → List Held → State
make_all_known state [] = state
make_all_known state (held ∷ rest) = make_all_known (make_known state held) rest

-- the library may finalize the object from now on: FreshUntilKnown
abbrev pub make_fresh : State → ℕ → State
make_fresh state number = record state { fresh = insert_key nat_cmp state.fresh number }
