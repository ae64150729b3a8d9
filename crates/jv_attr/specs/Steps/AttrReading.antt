-- Reading attributes from the front of a list of bytes, part by part.
use Rattle.std.specs.Prelude.{ℕ, ◌-◌, List, [], length, count_by, Bool, true, false, ◌||◌, ◌==◌, nat_le, nat_lt, Option, Some, None, if◌then◌else◌}
use Rattle.jv_table.specs.declared.class_tables.FrameGroup.{FrameGroup}
use Rattle.jv_table.specs.declared.class_tables.FrameGroup.TheVariants.{Same, SameOne, SameOneExtended, Chop, SameExtended, Append, Full}
use Rattle.jv_table.specs.declared.frame_tags.TheConstants.{SAME_EXTENDED}
use Rattle.jv_types.specs.declared.raw_handler.RawHandler.{RawHandler}
use Rattle.jv_pool.specs.declared.item.PoolItem.{PoolItem}
use Rattle.jv_pool.specs.Lookups.{text_at}
use Rattle.jv_read.specs.Reading.{◌>>=◌, u1_at, u2_at, u4_at, bytes_at, many_at, counted_at}
use Rattle.jv_attr.specs.declared.frame.MapType.{MapType}
use Rattle.jv_attr.specs.declared.frame.MapFrame.{MapFrame}
use Rattle.jv_attr.specs.declared.attr.Attr.{Attr}
use Rattle.jv_attr.specs.declared.attr.AttrBody.{AttrBody}
use Rattle.jv_attr.specs.declared.attr.AttrBody.TheVariants as bodies
use Rattle.jv_attr.specs.declared.attr.CodeAttr.{CodeAttr}
use Rattle.std.specs.declared.convert.Infallible.{Infallible as NoCode}
use Rattle.jv_attr.specs.declared.owner.Owner as owners
use Rattle.jv_attr.specs.declared.owner.Owner.TheVariants as owner
use Rattle.jv_attr.specs.FrameText.{has_arg, group_of, is_typed}
use Rattle.jv_attr.specs.AttrText.{is_code, is_maps, is_catch, has_maps}

-- ---- frames

-- the number behind a tag, and 0 where none is written
unfoldable pub arg_at : Bool → List ℕ → Option (ℕ × List ℕ)
arg_at true bytes = u2_at bytes
arg_at false bytes = Some (0, bytes)

-- a verification type
unfoldable pub type_at : List PoolItem → List ℕ → Option (MapType × List ℕ)
type_at pool bytes = do
  tag ← u1_at bytes
  written ← has_arg tag.0
  arg ← arg_at written tag.1
  if is_typed pool tag.0 arg.0 then Some (record { tag = tag.0; arg = arg.0 }, arg.1) else None

-- a frame's types of one kind
abbrev pub types_at : List PoolItem → ℕ → List ℕ → Option (List MapType × List ℕ)
types_at pool count bytes = many_at (type_at pool) count bytes

abbrev pub counted_types_at : List PoolItem → List ℕ → Option (List MapType × List ℕ)
counted_types_at pool bytes = counted_at (type_at pool) bytes

-- frames of the groups that have types
unfoldable pub same_one_at : List PoolItem → ℕ → List ℕ → Option (MapFrame × List ℕ)
same_one_at pool kind bytes = do
  stack ← types_at pool 1 bytes
  Some (record { kind = kind; delta = 0; locals = []; stack = stack.0 }, stack.1)

unfoldable pub same_one_extended_at : List PoolItem → ℕ → List ℕ → Option (MapFrame × List ℕ)
same_one_extended_at pool kind bytes = do
  delta ← u2_at bytes
  stack ← types_at pool 1 delta.1
  Some (record { kind = kind; delta = delta.0; locals = []; stack = stack.0 }, stack.1)

-- frames that have a delta alone
unfoldable pub delta_at : ℕ → List ℕ → Option (MapFrame × List ℕ)
delta_at kind bytes = do
  delta ← u2_at bytes
  Some (record { kind = kind; delta = delta.0; locals = []; stack = [] }, delta.1)

unfoldable pub append_at : List PoolItem → ℕ → List ℕ → Option (MapFrame × List ℕ)
append_at pool kind bytes = do
  delta ← u2_at bytes
  locals ← types_at pool (kind - SAME_EXTENDED) delta.1
  Some (record { kind = kind; delta = delta.0; locals = locals.0; stack = [] }, locals.1)

unfoldable pub full_at : List PoolItem → ℕ → List ℕ → Option (MapFrame × List ℕ)
full_at pool kind bytes = do
  delta ← u2_at bytes
  locals ← counted_types_at pool delta.1
  stack ← counted_types_at pool locals.1
  Some (record { kind = kind; delta = delta.0; locals = locals.0; stack = stack.0 }, stack.1)

-- what is behind the kind of a frame of a group
unfoldable pub parts_at : List PoolItem → FrameGroup → ℕ → List ℕ → Option (MapFrame × List ℕ)
parts_at pool Same kind bytes = Some (record { kind = kind; delta = 0; locals = []; stack = [] }, bytes)
parts_at pool SameOne kind bytes = same_one_at pool kind bytes
parts_at pool SameOneExtended kind bytes = same_one_extended_at pool kind bytes
parts_at pool Chop kind bytes = delta_at kind bytes
parts_at pool SameExtended kind bytes = delta_at kind bytes
parts_at pool Append kind bytes = append_at pool kind bytes
parts_at pool Full kind bytes = full_at pool kind bytes

unfoldable pub frame_at : List PoolItem → List ℕ → Option (MapFrame × List ℕ)
frame_at pool bytes = do
  kind ← u1_at bytes
  group ← group_of kind.0
  parts_at pool group kind.0 kind.1

-- a count, and as many frames
abbrev pub frames_at : List PoolItem → List ℕ → Option (List MapFrame × List ℕ)
frames_at pool bytes = counted_at (frame_at pool) bytes

-- the same, where all of the bytes are read
unfoldable pub maps_at : List PoolItem → List ℕ → Option (List MapFrame)
maps_at pool content = do
  frames ← frames_at pool content
  if length frames.1 == 0 then Some frames.0 else None

-- ---- attributes

-- a name with its text, and a content
unfoldable pub head_at : List PoolItem → List ℕ → Option ((ℕ × List ℕ × List ℕ) × List ℕ)
head_at pool bytes = do
  name ← u2_at bytes
  text ← text_at pool name.0
  len ← u4_at name.1
  content ← bytes_at len.0 len.1
  Some ((name.0, text, content.0), content.1)

-- what stands in an attribute that isn't read as code
unfoldable pub other_at : {C : Type 0} → List PoolItem → Bool → List ℕ → Option (AttrBody C)
other_at pool false content = Some (bodies.Raw content)
other_at pool true content = do
  frames ← maps_at pool content
  Some (bodies.Maps frames)

-- an attribute of a Code
unfoldable pub inner_at : List PoolItem → ℕ → List ℕ → Option (Attr NoCode × List ℕ)
inner_at pool major bytes = do
  head ← head_at pool bytes
  body ← other_at pool (is_maps owner.Code major head.0.1) head.0.2
  Some (record { name = head.0.0; body = body }, head.1)

-- a handler
unfoldable pub handler_at : List PoolItem → List ℕ → Option (RawHandler × List ℕ)
handler_at pool bytes = do
  start ← u2_at bytes
  end ← u2_at start.1
  target ← u2_at end.1
  catch ← u2_at target.1
  if is_catch pool catch.0 then Some (record { start = start.0; end = end.0; target = target.0; catch = catch.0 }, catch.1) else None

abbrev pub handlers_at : List PoolItem → List ℕ → Option (List RawHandler × List ℕ)
handlers_at pool bytes = counted_at (handler_at pool) bytes

-- the bytes of a code, of which there are 1 to 65535
unfoldable pub code_bytes_at : List ℕ → Option (List ℕ × List ℕ)
code_bytes_at bytes = do
  len ← u4_at bytes
  if len.0 == 0 || nat_lt 65535 len.0 then None else bytes_at len.0 len.1

-- the attributes of a Code, at most one of which has frames
unfoldable pub inners_at : List PoolItem → ℕ → List ℕ → Option (List (Attr NoCode) × List ℕ)
inners_at pool major bytes = do
  attrs ← counted_at (inner_at pool major) bytes
  if nat_le (count_by has_maps attrs.0) 1 then Some attrs else None

-- the content of a Code
unfoldable pub code_at : List PoolItem → ℕ → List ℕ → Option (CodeAttr × List ℕ)
code_at pool major bytes = do
  max_stack ← u2_at bytes
  max_locals ← u2_at max_stack.1
  code ← code_bytes_at max_locals.1
  handlers ← handlers_at pool code.1
  attrs ← inners_at pool major handlers.1
  Some (record { max_stack = max_stack.0; max_locals = max_locals.0; code = code.0; handlers = handlers.0; attrs = attrs.0 }, attrs.1)

unfoldable pub whole_code_at : List PoolItem → ℕ → List ℕ → Option CodeAttr
whole_code_at pool major content = do
  code ← code_at pool major content
  if length code.1 == 0 then Some code.0 else None

-- what stands in an attribute
unfoldable pub body_at : List PoolItem → ℕ → Bool → Bool → List ℕ → Option (AttrBody CodeAttr)
body_at pool major false as_maps content = other_at pool as_maps content
body_at pool major true as_maps content = do
  code ← whole_code_at pool major content
  Some (bodies.Code code)

-- an attribute
unfoldable pub attr_at : List PoolItem → owners.Owner → ℕ → List ℕ → Option (Attr CodeAttr × List ℕ)
attr_at pool o major bytes = do
  head ← head_at pool bytes
  body ← body_at pool major (is_code o head.0.1) (is_maps o major head.0.1) head.0.2
  Some (record { name = head.0.0; body = body }, head.1)
