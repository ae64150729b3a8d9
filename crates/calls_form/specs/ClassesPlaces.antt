-- The places of a class's members by name and descriptor, and what an index of the pool names, by
-- functions on lists that give a value or nothing.
use Rattle.std.specs.Prelude.{◌≡◌, ℕ, suc, List, [], ◌∷◌, ◌&&◌, Bool, Option, Some, None, option_map, codes, if◌then◌else◌, map}
use Rattle.std.specs.List.{slice_get}
use Rattle.std.specs.Str.{bytes_eq}
use Rattle.std.specs.declared.cmp.Ordering.{Ordering}
use Rattle.std.specs.Ordering.{nat_cmp, ordering_then}
use Rattle.std.specs.Cmp.Lexicographic.{slice_cmp}
use Rattle.std.specs.BTreeMap.{BTreeMap, get}
use Rattle.calls_form.specs.declared.outline.Entry.{Entry}
use Rattle.calls_form.specs.declared.outline.Entry.TheVariants as entry
use Rattle.calls_form.specs.declared.class_of_places.Label.{Label}
use Rattle.calls_form.specs.declared.class_of_places.MemberKey.{MemberKey}
use Rattle.calls_form.specs.declared.target.Target.{Target}
use Rattle.calls_form.specs.declared.target.Target.TheVariants.{Field, Method, ObjectInit, This}
use Rattle.calls_form.specs.ObjectForm.{object_name}
use Rattle.calls_form.specs.Reading.{◌>>=◌}
use Rattle.calls_form.specs.Classes.{Named, class_at, member_at}

-- a member's name and descriptor
pub record Texts : Type 0 where
  pub name : List ℕ
  pub desc : List ℕ

-- the same, without where it lies in memory
abbrev pub texts_of : Label → Texts
texts_of l = record { name = l.name.now; desc = l.desc.now }

abbrev pub all_texts : List Label → List Texts
all_texts labels = map texts_of labels

-- keys are in order by name, and then by descriptor
abbrev pub key_cmp : MemberKey → MemberKey → Ordering
key_cmp a b = ordering_then (slice_cmp nat_cmp a.name b.name) (slice_cmp nat_cmp a.desc b.desc)

-- the first place with this name and descriptor
unfoldable pub place_of : List Texts → List ℕ → List ℕ → Option ℕ
place_of [] name desc = None
place_of (h ∷ hs) name desc = if bytes_eq h.name name && bytes_eq h.desc desc then Some 0 else option_map suc (place_of hs name desc)

-- a map has the place of each member
abbrev pub HasPlaces : List Texts → BTreeMap MemberKey ℕ → Type 0
HasPlaces hs m = (q : MemberKey) → get key_cmp m q ≡ place_of hs q.name q.desc

-- no two members share name and descriptor
abbrev pub AreApart : List Texts → Type 0
AreApart hs = (i j : ℕ) (a b : Texts) → slice_get hs i ≡ Some a → slice_get hs j ≡ Some b → a.name ≡ b.name → a.desc ≡ b.desc → i ≡ j

-- ---- what an index names

-- the field of the class that this is
abbrev pub field_target : List ℕ → List Texts → Named → Option Target
field_target own fields n = if bytes_eq n.class own then option_map Field (place_of fields n.name n.desc) else None

-- this is the constructor of java/lang/Object
abbrev pub is_object_init : Named → Bool
is_object_init n = bytes_eq n.class object_name && (bytes_eq n.name (codes "<init>") && bytes_eq n.desc (codes "()V"))

-- the method of the class that this is, or the constructor of java/lang/Object
abbrev pub method_target : List ℕ → List Texts → Named → Option Target
method_target own methods n =
    if bytes_eq n.class own then option_map Method (place_of methods n.name n.desc)
    else (if is_object_init n then Some ObjectInit else None)

-- the class itself
abbrev pub class_target : List ℕ → List ℕ → Option Target
class_target own name = if bytes_eq name own then Some This else None

-- what an entry names
unfoldable pub entry_target : List Entry → List ℕ → List Texts → List Texts → ℕ → Entry → Option Target
entry_target pool own fields methods i (entry.Utf8 text) = None
entry_target pool own fields methods i (entry.Class name) = class_at pool i >>= class_target own
entry_target pool own fields methods i (entry.Fieldref class pair) = member_at pool class pair >>= field_target own fields
entry_target pool own fields methods i (entry.Methodref class pair) = member_at pool class pair >>= method_target own methods
entry_target pool own fields methods i (entry.NameAndType name desc) = None
entry_target pool own fields methods i entry.Unused = None

-- what an index names, where an instruction may name it
unfoldable pub target_of : List Entry → List ℕ → List Texts → List Texts → ℕ → Option Target
target_of pool own fields methods i = slice_get pool i >>= entry_target pool own fields methods i
