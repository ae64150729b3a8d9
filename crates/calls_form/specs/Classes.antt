-- What the indices of a constant pool name, and the content of an attribute Code, by functions on lists
-- that give a value or nothing. The reader is proved to give what these functions give.
use Rattle.std.specs.Prelude.{ℕ, ◌*◌, ◌<◌, List, length, slice_index, ◌||◌, ◌==◌, nat_lt, Option, Some, None, if◌then◌else◌}
use Rattle.std.specs.List.{slice_get}
use Rattle.std.specs.Borrow.{Bor}
use Rattle.calls_form.specs.declared.outline.Entry.{Entry}
use Rattle.calls_form.specs.declared.outline.Entry.TheVariants.{Utf8, Class, Fieldref, Methodref, NameAndType, Unused}
use Rattle.calls_form.specs.declared.class_of_pool.Member.{Member}
use Rattle.calls_form.specs.declared.code_content.CodeContent.{CodeContent}
use Rattle.calls_form.specs.Reading.{◌>>=◌, u2_at, u4_at, bytes_at}
use Rattle.calls_form.specs.LayoutReading.{passed_at}

-- ---- the pool

-- the text of an entry
abbrev pub text_of : Entry → Option (List ℕ)
text_of (Utf8 text) = Some text
text_of (Class name) = None
text_of (Fieldref class pair) = None
text_of (Methodref class pair) = None
text_of (NameAndType name desc) = None
text_of Unused = None

-- the index of the name of a class
abbrev pub class_name_of : Entry → Option ℕ
class_name_of (Utf8 text) = None
class_name_of (Class name) = Some name
class_name_of (Fieldref class pair) = None
class_name_of (Methodref class pair) = None
class_name_of (NameAndType name desc) = None
class_name_of Unused = None

-- the indices of a field's class and of its name and descriptor
abbrev pub field_of : Entry → Option (ℕ × ℕ)
field_of (Utf8 text) = None
field_of (Class name) = None
field_of (Fieldref class pair) = Some (class, pair)
field_of (Methodref class pair) = None
field_of (NameAndType name desc) = None
field_of Unused = None

-- the indices of a method's class and of its name and descriptor
abbrev pub method_of : Entry → Option (ℕ × ℕ)
method_of (Utf8 text) = None
method_of (Class name) = None
method_of (Fieldref class pair) = None
method_of (Methodref class pair) = Some (class, pair)
method_of (NameAndType name desc) = None
method_of Unused = None

-- the indices of a name and a descriptor
abbrev pub pair_of : Entry → Option (ℕ × ℕ)
pair_of (Utf8 text) = None
pair_of (Class name) = None
pair_of (Fieldref class pair) = None
pair_of (Methodref class pair) = None
pair_of (NameAndType name desc) = Some (name, desc)
pair_of Unused = None

unfoldable pub text_at : List Entry → ℕ → Option (List ℕ)
text_at pool i = slice_get pool i >>= text_of

unfoldable pub class_at : List Entry → ℕ → Option (List ℕ)
class_at pool i = slice_get pool i >>= class_name_of >>= text_at pool

-- a member's class, name and descriptor
pub record Named : Type 0 where
  pub class : List ℕ
  pub name : List ℕ
  pub desc : List ℕ

unfoldable pub pair_at : List Entry → ℕ → Option (List ℕ × List ℕ)
pair_at pool i = do
  pair ← slice_get pool i >>= pair_of
  name ← text_at pool pair.0
  desc ← text_at pool pair.1
  Some (name, desc)

-- the member of these indices
unfoldable pub member_at : List Entry → ℕ → ℕ → Option Named
member_at pool class_index pair_index = do
  class ← class_at pool class_index
  pair ← pair_at pool pair_index
  Some (record { class = class; name = pair.0; desc = pair.1 })

-- a pair of texts, without where they lie in memory
abbrev pub pair_view : Bor (List ℕ) × Bor (List ℕ) → List ℕ × List ℕ
pair_view p = (p.0.now, p.1.now)

-- what a member says, without where it lies in memory
abbrev pub named_of : Member → Named
named_of t = record { class = t.class.now; name = t.name.now; desc = t.desc.now }

-- numbers of one byte
abbrev pub IsBytes : List ℕ → Type 0
IsBytes bytes = (i : ℕ) → slice_index bytes i < 256

-- ---- the content of an attribute Code (JVMS 4.7.3)

-- a code of 1 to 65535 bytes, and what follows it
unfoldable pub code_bytes_at : List ℕ → Option (List ℕ × List ℕ)
code_bytes_at bytes = do
  size ← u4_at bytes
  if size.0 == 0 || nat_lt 65535 size.0 then None else bytes_at size.1 size.0

-- how many handlers there are, and what follows them
unfoldable pub handlers_at : List ℕ → Option (ℕ × List ℕ)
handlers_at bytes = do
  count ← u2_at bytes
  handlers ← bytes_at count.1 (8 * count.0)
  Some (count.0, handlers.1)

-- what is kept of the content of an attribute Code
pub record Content : Type 0 where
  pub max_stack : ℕ
  pub max_locals : ℕ
  pub bytes : List ℕ
  pub handler_count : ℕ

-- the same, without where it lies in memory
abbrev pub content_of : CodeContent → Content
content_of c = record { max_stack = c.max_stack; max_locals = c.max_locals; bytes = c.bytes.now; handler_count = c.handler_count }

unfoldable pub code_of : List ℕ → Option Content
code_of content = do
  stack ← u2_at content
  locals ← u2_at stack.1
  code ← code_bytes_at locals.1
  handlers ← handlers_at code.1
  rest ← passed_at handlers.1
  if length rest == 0 then Some (record { max_stack = stack.0; max_locals = locals.0; bytes = code.0; handler_count = handlers.0 }) else None
