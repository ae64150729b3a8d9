-- The text of a stack map's frames (JVMS 4.7.4).
use Rattle.std.specs.Prelude.{◌≡◌, ◌<◌, ℕ, ◌-◌, ◌^◌, Bool, true, false, not, ◌||◌, ◌==◌, IsTrue, List, [], ◌∷◌, ◌++◌, length, Option, Some, None, option_map}
use Rattle.std.specs.List.{flat_map, AllByRecursion}
use Rattle.std.specs.Ordering.{nat_cmp}
use Rattle.jv_table.specs.Rows.{row_of}
use Rattle.jv_table.specs.ClassRows.{frame_kind_rows, type_tag_rows}
use Rattle.jv_table.specs.declared.class_tables.FrameRow.{FrameRow}
use Rattle.jv_table.specs.declared.class_tables.TypeRow.{TypeRow}
use Rattle.jv_table.specs.declared.class_tables.FrameGroup.{FrameGroup}
use Rattle.jv_table.specs.declared.class_tables.FrameGroup.TheVariants.{Same, SameOne, SameOneExtended, Chop, SameExtended, Append, Full}
use Rattle.jv_table.specs.declared.frame_tags.TheConstants.{SAME_EXTENDED}
use Rattle.jv_table.specs.declared.vtype_tags.TheConstants.{OBJECT}
use Rattle.jv_pool.specs.declared.item.PoolItem.{PoolItem}
use Rattle.jv_pool.specs.Lookups.{names, is_class}
use Rattle.jv_pool.specs.PoolText.{u2}
use Rattle.jv_attr.specs.declared.frame.MapType.{MapType}
use Rattle.jv_attr.specs.declared.frame.MapFrame.{MapFrame}

-- whether a number follows the tag of a verification type, where there is such a tag
unfoldable pub has_arg : ℕ → Option Bool
has_arg tag = option_map (λ (row : TypeRow). row.arg) (row_of nat_cmp tag type_tag_rows)

-- the group of a frame's kind, where there is such a kind
unfoldable pub group_of : ℕ → Option FrameGroup
group_of kind = option_map (λ (row : FrameRow). row.group) (row_of nat_cmp kind frame_kind_rows)

-- the text of a verification type: its tag, and its number where it has one
abbrev pub type_arg_text : Option Bool → ℕ → List ℕ
type_arg_text (Some true) arg = u2 arg
type_arg_text _ arg = []

abbrev pub type_text : MapType → List ℕ
type_text t = t.tag ∷ type_arg_text (has_arg t.tag) t.arg

-- the tag is known, and a number that isn't written is 0
abbrev pub IsArg : Option Bool → ℕ → Type 0
IsArg None arg = ⊥
IsArg (Some false) arg = arg ≡ 0
IsArg (Some true) arg = arg < 2 ^ 16

-- the number of an object names a class
abbrev pub is_typed : List PoolItem → ℕ → ℕ → Bool
is_typed pool tag arg = not (tag == OBJECT) || names is_class pool arg

-- a verification type
pub record IsType (pool : List PoolItem) (t : MapType) : Type 0 where
  pub arg : IsArg (has_arg t.tag) t.arg
  pub class : IsTrue (is_typed pool t.tag t.arg)

abbrev pub types_text : List MapType → List ℕ
types_text types = flat_map type_text types

-- what is written behind the kind of a frame of each group
abbrev pub parts_text : Option FrameGroup → MapFrame → List ℕ
parts_text (Some SameOne) f = types_text f.stack
parts_text (Some SameOneExtended) f = u2 f.delta ++ types_text f.stack
parts_text (Some Chop) f = u2 f.delta
parts_text (Some SameExtended) f = u2 f.delta
parts_text (Some Append) f = u2 f.delta ++ types_text f.locals
parts_text (Some Full) f = u2 f.delta ++ u2 (length f.locals) ++ types_text f.locals ++ u2 (length f.stack) ++ types_text f.stack
parts_text _ f = []

abbrev pub frame_text : MapFrame → List ℕ
frame_text f = f.kind ∷ parts_text (group_of f.kind) f

-- what a frame of a group has: what isn't written is 0 or empty, one type on the stack where there is one,
-- and as many appended locals as its kind is above that of a frame that has the same ones
abbrev pub HasParts : Option FrameGroup → MapFrame → Type 0
HasParts None f = ⊥
HasParts (Some Same) f = (f.delta ≡ 0) × (f.locals ≡ []) × (f.stack ≡ [])
HasParts (Some SameOne) f = (f.delta ≡ 0) × (f.locals ≡ []) × (length f.stack ≡ 1)
HasParts (Some SameOneExtended) f = (f.delta < 2 ^ 16) × (f.locals ≡ []) × (length f.stack ≡ 1)
HasParts (Some Chop) f = (f.delta < 2 ^ 16) × (f.locals ≡ []) × (f.stack ≡ [])
HasParts (Some SameExtended) f = (f.delta < 2 ^ 16) × (f.locals ≡ []) × (f.stack ≡ [])
HasParts (Some Append) f = (f.delta < 2 ^ 16) × (length f.locals ≡ f.kind - SAME_EXTENDED) × (f.stack ≡ [])
HasParts (Some Full) f = f.delta < 2 ^ 16

-- a frame, apart from how many types a full one may have
pub record IsFrame (pool : List PoolItem) (f : MapFrame) : Type 0 where
  pub parts : HasParts (group_of f.kind) f
  pub locals : AllByRecursion (IsType pool) f.locals
  pub stack : AllByRecursion (IsType pool) f.stack

-- the counts of types of a full frame fit two bytes
abbrev pub HasFewParts : Option FrameGroup → MapFrame → Type 0
HasFewParts (Some Full) f = (length f.locals < 2 ^ 16) × (length f.stack < 2 ^ 16)
HasFewParts _ f = Unit {0}

abbrev pub HasFewTypes : MapFrame → Type 0
HasFewTypes f = HasFewParts (group_of f.kind) f

-- the content of a StackMapTable: a count, and as many frames
abbrev pub frames_text : List MapFrame → List ℕ
frames_text frames = u2 (length frames) ++ flat_map frame_text frames

abbrev pub AreFewFrames : List MapFrame → Type 0
AreFewFrames frames = (length frames < 2 ^ 16) × AllByRecursion HasFewTypes frames
