-- The frames of a method's stack map, as they are written and what they stand for (JVMS 4.7.4, 4.10.1.4).
use Rattle.std.specs.Prelude.{◌≡◌, ◌≤◌, ℕ, ◌+◌, ◌-◌, ◌⊎◌, List, [], ◌∷◌, ◌++◌, length, Option, None, Some, MatchOption, unwrap_or, All}
use Rattle.std.specs.List.{AllZip}
use Rattle.std.specs.Ordering.{nat_cmp}
use Rattle.jv_table.specs.Rows.{row_of}
use Rattle.jv_table.specs.declared.class_tables.FrameGroup.{FrameGroup}
use Rattle.jv_table.specs.declared.class_tables.FrameGroup.TheVariants.{Same, SameOne, Chop, Append, Full}
use Rattle.jv_table.specs.declared.ops.TheConstants.{NEW}
use Rattle.jv_table.specs.declared.frame_tags.TheConstants.{FIRST_SAME_LOCALS_1_STACK_ITEM, SAME_EXTENDED}
use Rattle.jv_table.specs.declared.vtype_tags.TheConstants.{TOP, INTEGER, FLOAT, DOUBLE, LONG, NULL, UNINITIALIZED_THIS, OBJECT, UNINITIALIZED}
use Rattle.jv_types.specs.Bodies.{at_offset, IsStart}
use Rattle.jv_types.specs.declared.desc.RefType.{RefType}
use Rattle.jv_types.specs.declared.ids.MethodId.{MethodId}
use Rattle.jv_types.specs.declared.shapes.Shape.{Shape}
use Rattle.jv_types.specs.declared.instruction.Insn.{Insn}
use Rattle.jv_types.specs.declared.body.Body.{Body}
use Rattle.jv_types.specs.declared.frames.VType.{VType}
use Rattle.jv_types.specs.declared.frames.VType as types
use Rattle.jv_types.specs.declared.frames.Frame.{Frame}
use Rattle.std.specs.declared.convert.Infallible.{Infallible as NoCode}
use Rattle.jv_pool.specs.declared.item.PoolItem.{PoolItem}
use Rattle.jv_attr.specs.declared.attr.Attr.{Attr}
use Rattle.jv_attr.specs.declared.attr.AttrBody.{AttrBody}
use Rattle.jv_attr.specs.declared.attr.AttrBody.TheVariants.{Maps}
use Rattle.jv_attr.specs.declared.attr.CodeAttr.{CodeAttr}
use Rattle.jv_attr.specs.declared.frame.MapType.{MapType}
use Rattle.jv_attr.specs.declared.frame.MapFrame.{MapFrame}
use Rattle.jv_attr.specs.FrameText.{group_of}
use Rattle.jv_names.specs.Naming.{NamesType}
use Rattle.jv_frames.specs.declared.fault.BadMap.{BadMap}
use Rattle.jv_frames.specs.declared.fault.BadMap.TheVariants as maps
use Rattle.jv_frames.specs.Types.{ref_vtype, in_words, frame_of}
use Rattle.jv_frames.specs.Entry.{AreEntryTypes}

-- ---- a written type

-- the types of the tags that have no number behind them
abbrev pub plain_types : List (ℕ × VType)
plain_types =
    (TOP, types.Top)
    ∷ (INTEGER, types.Integer)
    ∷ (FLOAT, types.Float)
    ∷ (DOUBLE, types.Double)
    ∷ (LONG, types.Long)
    ∷ (NULL, types.Null)
    ∷ (UNINITIALIZED_THIS, types.UninitThis) ∷ []

abbrev pub plain_type : ℕ → Option VType
plain_type tag = row_of nat_cmp tag plain_types

-- the types of the two tags that have one
pub data IsNumbered (pool : List PoolItem) (t : MapType) (type : VType) : Type 0 where
  -- the class or array type that the pool has at the index
  object : (of : RefType) → t.tag ≡ OBJECT → NamesType pool t.arg of → type ≡ ref_vtype of → IsNumbered pool t type
  -- what the `new` at the offset makes
  uninit : t.tag ≡ UNINITIALIZED → type ≡ types.Uninit t.arg → IsNumbered pool t type

-- a type as it is written over a pool is this one
abbrev pub IsTypeOf : List PoolItem → MapType → VType → Type 0
IsTypeOf pool t type = MatchOption (plain_type t.tag) (IsNumbered pool t type) (λ plain. type ≡ plain)

-- ---- a written frame

-- how far the frame lies behind the place from which it is counted, the standard's offset_delta: the first two
-- groups have it in their kind, the standard's frame_type
abbrev pub delta_in : Option FrameGroup → MapFrame → ℕ
delta_in (Some Same) f = f.kind
delta_in (Some SameOne) f = f.kind - FIRST_SAME_LOCALS_1_STACK_ITEM
delta_in _ f = f.delta

abbrev pub frame_delta : MapFrame → ℕ
frame_delta f = delta_in (group_of f.kind) f

-- so many types are taken from the end
abbrev pub IsFront : List VType → ℕ → List VType → Type 0
IsFront before count front = (last : List VType) × (before ≡ front ++ last) × (length last ≡ count)

-- these written types are added at the end
abbrev pub IsLonger : List PoolItem → List VType → List MapType → List VType → Type 0
IsLonger pool before written longer = (more : List VType) × AllZip (IsTypeOf pool) written more × (longer ≡ before ++ more)

-- the types of local variables that a frame of a group has, where these were before it
abbrev pub AreLocalsIn : Option FrameGroup → List PoolItem → List VType → MapFrame → List VType → Type 0
AreLocalsIn None pool before f locals = ⊥
AreLocalsIn (Some Chop) pool before f locals = IsFront before (SAME_EXTENDED - f.kind) locals
AreLocalsIn (Some Append) pool before f locals = IsLonger pool before f.locals locals
AreLocalsIn (Some Full) pool before f locals = AllZip (IsTypeOf pool) f.locals locals
AreLocalsIn (Some _) pool before f locals = locals ≡ before

-- the types of local variables and of stack items that a frame has, each once, the topmost last
pub record HasTypes (pool : List PoolItem) (before : List VType) (f : MapFrame) (locals stack : List VType) : Type 0 where
  pub locals_are : AreLocalsIn (group_of f.kind) pool before f locals
  pub stack_is : AllZip (IsTypeOf pool) f.stack stack

-- a frame that takes types of local variables away takes no more than there are
abbrev pub HasLocalsToChopIn : Option FrameGroup → List VType → MapFrame → Type 0
HasLocalsToChopIn (Some Chop) before f = SAME_EXTENDED - f.kind ≤ length before
HasLocalsToChopIn _ before f = Unit {0}

abbrev pub HasLocalsToChop : List VType → MapFrame → Type 0
HasLocalsToChop before f = HasLocalsToChopIn (group_of f.kind) before f

-- a `new` stands at the offset
pub record IsNewAt (insns : List (ℕ × Insn)) (pc : ℕ) : Type 0 where
  pub insn : Insn
  pub stands : at_offset pc insns ≡ Some insn
  pub makes : insn.op ≡ NEW

-- a type that isn't initialised yet is that of a `new` of the code
abbrev pub IsMade : List (ℕ × Insn) → VType → Type 0
IsMade insns (types.Uninit pc) = IsNewAt insns pc
IsMade insns _ = Unit {0}

-- the types take no more words than the body has, and name no offset that isn't at a `new`
pub record FitsBody (body : Body) (locals stack : List VType) : Type 0 where
  pub locals_fit : length (in_words locals) ≤ body.max_locals
  pub stack_fits : length (in_words stack) ≤ body.max_stack
  pub locals_made : All (IsMade body.insns) locals
  pub stack_made : All (IsMade body.insns) stack

-- A frame of a body's map, counted from a place, where the local variables had these types before it: it
-- stands at an instruction, has these types, and they fit the body.
pub record IsMapFrame (pool : List PoolItem) (body : Body) (base : ℕ) (before : List VType) (f : MapFrame) (locals stack : List VType) : Type 0 where
  pub at_instruction : IsStart body.insns (base + frame_delta f)
  pub types : HasTypes pool before f locals stack
  pub fits : FitsBody body locals stack

-- it is none, whatever types it has
abbrev pub IsNoMapFrame : List PoolItem → Body → ℕ → List VType → MapFrame → Type 0
IsNoMapFrame pool body base before f = (locals stack : List VType) → IsMapFrame pool body base before f locals stack → ⊥

-- ---- a map

-- The frames of a map, with their offsets. Each is counted from behind the one before, and the first from 0.
abbrev pub AreMapFrames : List PoolItem → Body → ℕ → List VType → List MapFrame → List (ℕ × Frame) → Type 0
AreMapFrames pool body base before [] rows = rows ≡ []
AreMapFrames pool body base before (f ∷ frames) rows =
    (locals : List VType) × (stack : List VType) × (rest : List (ℕ × Frame)) × IsMapFrame pool body base before f locals stack
    × (rows ≡ (base + frame_delta f, frame_of body.max_locals locals stack) ∷ rest)
    × AreMapFrames pool body (base + frame_delta f + 1) locals frames rest

-- the first frame of a map that is none is at this offset
abbrev pub IsFirstBad : List PoolItem → Body → ℕ → List VType → List MapFrame → ℕ → Type 0
IsFirstBad pool body base before [] pc = ⊥
IsFirstBad pool body base before (f ∷ frames) pc =
    ((pc ≡ base + frame_delta f) × IsNoMapFrame pool body base before f)
    ⊎ ((locals : List VType) × (stack : List VType) × IsMapFrame pool body base before f locals stack
    × IsFirstBad pool body (base + frame_delta f + 1) locals frames pc)

-- ---- a method

-- the frames of a StackMapTable
abbrev pub frames_in : AttrBody NoCode → Option (List MapFrame)
frames_in (Maps frames) = Some frames
frames_in _ = None

-- those of the StackMapTable among the attributes of a code, which has one at most; none without it
abbrev pub written_frames : List (Attr NoCode) → List MapFrame
written_frames [] = []
written_frames (attr ∷ attrs) = unwrap_or (frames_in attr.body) (written_frames attrs)

-- The frames of a method's map, each with its offset. The types before the first one are those of the
-- receiver and the parameters.
pub record AreFramesOf (w : List Shape) (id : MethodId) (pool : List PoolItem) (code : CodeAttr) (body : Body) (rows : List (ℕ × Frame)) : Type 0 where
  pub types : List VType
  pub entry : AreEntryTypes w id types
  pub frames : AreMapFrames pool body 0 types (written_frames code.attrs) rows

-- the first frame of a method's map that is none is at this offset
pub record FailsFirstAt (w : List Shape) (id : MethodId) (pool : List PoolItem) (code : CodeAttr) (body : Body) (pc : ℕ) : Type 0 where
  pub types : List VType
  pub entry : AreEntryTypes w id types
  pub bad : IsFirstBad pool body 0 types (written_frames code.attrs) pc

-- the offset that an answer names has a property
abbrev pub BadAt : (ℕ → Type 0) → BadMap → Type 0
BadAt P (maps.At pc) = P pc
BadAt P maps.Memory = Unit {0}
