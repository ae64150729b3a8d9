-- What is read of an outline: the test of what stands around its members, and its members by the
-- functions that read them.
use Rattle.std.specs.Prelude.{◌≡◌, ℕ, ◌^◌, ◌<◌, List, length, map, Bool, false, ◌&&◌, nat_le, nat_lt, Option, Some, None}
use Rattle.std.specs.List.{slice_get, AllByRecursion}
use Rattle.std.specs.Str.{bytes_eq}
use Rattle.calls_form.specs.declared.outline.Entry.{Entry}
use Rattle.calls_form.specs.declared.outline.Outline.{Outline}
use Rattle.calls_form.specs.declared.object_class.Field.{Field}
use Rattle.calls_form.specs.declared.object_class.Method.{Method}
use Rattle.calls_form.specs.declared.object_class.ObjectClass.{ObjectClass}
use Rattle.calls_form.specs.declared.target.Target.{Target}
use Rattle.calls_form.specs.Kinds.{Frame, IsWalk}
use Rattle.calls_form.specs.ObjectForm.{object_name}
use Rattle.calls_form.specs.Classes.{IsBytes, class_at}
use Rattle.calls_form.specs.ClassesHeads.{is_visible, each, field_at, Heading, headings_at, method_at}
use Rattle.calls_form.specs.ClassesPlaces.{Texts, AreApart, target_of}

-- a text that is there is this one
abbrev pub is_text : List ℕ → Option (List ℕ) → Bool
is_text text None = false
is_text text (Some found) = bytes_eq found text

abbrev pub is_class_named : List Entry → ℕ → List ℕ → Bool
is_class_named pool i name = is_text name (class_at pool i)

-- the version, the name and the superclass are right, and the members can be numbered by two bytes
abbrev pub is_framed : List ℕ → Outline → Bool
is_framed name o = ((nat_le 50 o.major && nat_le o.major 52) && (nat_lt (length o.fields) 65536 && nat_lt (length o.methods) 65536))
    && (is_visible name && (is_class_named o.pool o.this_class name && is_class_named o.pool o.super_class object_name))

-- a member's name and descriptor
abbrev pub field_texts : Field → Texts
field_texts x = record { name = x.name; desc = x.desc }

abbrev pub heading_texts : Heading → Texts
heading_texts h = record { name = h.name; desc = h.desc }

abbrev pub method_texts : Method → Texts
method_texts m = record { name = m.name; desc = m.desc }

-- a table has what the pool names
abbrev pub Agrees : List Entry → List ℕ → List Texts → List Texts → (ℕ → Option Target) → Type 0
Agrees pool own fields methods target = (i : ℕ) → i < 2 ^ 16 → target i ≡ target_of pool own fields methods i

-- the members of an outline are read as those of the class
pub record IsReadAs (name : List ℕ) (o : Outline) (class : ObjectClass) : Type 0 where
  pub name_is : class.name ≡ name
  pub fields : each (field_at o.pool name) o.fields ≡ Some class.fields
  pub heads : List Heading
  pub headings : headings_at o.pool o.methods ≡ Some heads
  pub fields_apart : AreApart (map field_texts class.fields)
  pub methods_apart : AreApart (map heading_texts heads)
  pub target : ℕ → Option Target
  pub agrees : Agrees o.pool name (map field_texts class.fields) (map heading_texts heads) target
  pub methods : each (method_at name target) heads ≡ Some class.methods
  pub bytes : AllByRecursion (λ h. IsBytes h.code) heads

-- each method has a walk of kinds
abbrev pub HasWalks : ObjectClass → Type 0
HasWalks class = (i : ℕ) (m : Method) → slice_get class.methods i ≡ Some m → (frames : List Frame) × IsWalk class m frames
