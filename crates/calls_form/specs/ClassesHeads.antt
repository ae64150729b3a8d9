-- The members of a file with the texts of their names and descriptors, and the class that they make, by
-- functions on lists that give a value or nothing.
use Rattle.std.specs.Prelude.{ℕ, List, [], ◌∷◌, Bool, not, ◌&&◌, ◌==◌, nat_le, Option, Some, None, codes, if◌then◌else◌, bit_and, map}
use Rattle.std.specs.List.{list_all}
use Rattle.std.specs.Str.{bytes_eq}
use Rattle.jv_types.specs.declared.access.Access.{Access}
use Rattle.calls_form.specs.declared.outline.Entry.{Entry}
use Rattle.calls_form.specs.declared.outline.RawField.{RawField}
use Rattle.calls_form.specs.declared.outline.RawMethod.{RawMethod}
use Rattle.calls_form.specs.declared.class_of_heads.Head.{Head}
use Rattle.calls_form.specs.declared.object_class.Placed.{Placed}
use Rattle.calls_form.specs.declared.object_class.Field.{Field}
use Rattle.calls_form.specs.declared.object_class.Method.{Method}
use Rattle.calls_form.specs.declared.target.Target.{Target}
use Rattle.calls_form.specs.Reading.{◌>>=◌}
use Rattle.calls_form.specs.Classes.{text_at, Content, code_of}
use Rattle.calls_form.specs.ClassesTypes.{has_static, whole_type, method_desc}
use Rattle.calls_form.specs.ClassesBodies.{placed_from}

-- visible ASCII and no percent sign
abbrev pub is_visible_byte : ℕ → Bool
is_visible_byte b = nat_le 0x21 b && (nat_le b 0x7E && not (b == 0x25))

abbrev pub is_visible : List ℕ → Bool
is_visible text = list_all is_visible_byte text

-- the value of each element, where each has one
unfoldable pub each : {A B : Type 0} → (A → Option B) → List A → Option (List B)
each f [] = Some []
each f (x ∷ xs) = f x >>= λ y. each f xs >>= λ ys. Some (y ∷ ys)

-- ---- fields

-- a field of these texts
unfoldable pub typed_field : List ℕ → Access → List ℕ → List ℕ → Option Field
typed_field own access name desc = do
  kind ← whole_type own desc
  if is_visible name && is_visible desc then Some (record { access = access; name = name; desc = desc; kind = kind }) else None

-- a field of the class
unfoldable pub field_at : List Entry → List ℕ → RawField → Option Field
field_at pool own raw = do
  name ← text_at pool raw.name
  desc ← text_at pool raw.desc
  typed_field own raw.access name desc

-- ---- methods

-- a method with its texts, and the content of its Code
pub record Heading : Type 0 where
  pub access : Access
  pub name : List ℕ
  pub desc : List ℕ
  pub code : List ℕ

-- the same, without where it lies in memory
abbrev pub heading_of : Head → Heading
heading_of h = record { access = h.access; name = h.name.now; desc = h.desc.now; code = h.code.now }

abbrev pub headings_of : List Head → List Heading
headings_of heads = map heading_of heads

-- a method that has code, and isn't <clinit> or a static <init>
abbrev pub is_allowed : Access → List ℕ → Bool
is_allowed access name =
    (not (bit_and access.0 0x100 == 0x100) && not (bit_and access.0 0x400 == 0x400))
    && (not (bytes_eq name (codes "<clinit>")) && not (has_static access && bytes_eq name (codes "<init>")))

unfoldable pub heading_at : List Entry → RawMethod → Option Heading
heading_at pool raw = do
  name ← text_at pool raw.name
  desc ← text_at pool raw.desc
  if (is_visible name && is_visible desc) && is_allowed raw.access name
      then Some (record { access = raw.access; name = name; desc = desc; code = raw.code }) else None

abbrev pub headings_at : List Entry → List RawMethod → Option (List Heading)
headings_at pool raws = each (heading_at pool) raws

-- the instructions of a code without handlers
unfoldable pub body_at : (ℕ → Option Target) → Content → Option (List Placed)
body_at target code = if code.handler_count == 0 then placed_from target 0 code.bytes else None

unfoldable pub method_at : List ℕ → (ℕ → Option Target) → Heading → Option Method
method_at own target h = do
  types ← method_desc own h.access h.desc
  code ← code_of h.code
  body ← body_at target code
  Some (record { access = h.access; name = h.name; desc = h.desc; arguments = types.0; result = types.1; max_stack = code.max_stack; max_locals = code.max_locals; code = body })
