-- The printed lines of the facts of one class: which method calls which, and which objects stand where.
-- The form of such a class has visible names and descriptors alone: bytes from 0x21 to 0x7E, and no
-- percent sign. So they are printed as they are, no escape is needed, and a space divides them.
use Rattle.std.specs.Prelude.{◌≡◌, ℕ, ◌⊎◌, ◌↔◌, List, [], ◌∷◌, ◌++◌, Some, codes, Contains, AllPairs}
use Rattle.std.specs.List.{slice_get, flat_map}
use Rattle.std.specs.Ordering.{nat_cmp}
use Rattle.std.specs.declared.cmp.Ordering.TheVariants.{Less}
use Rattle.std.specs.Cmp.Lexicographic.{slice_cmp}
use Rattle.std.specs.Fmt.{decimal}
use Rattle.jv_types.specs.declared.ids.FieldId.{FieldId}
use Rattle.jv_types.specs.declared.ids.MethodId.{MethodId}
use Rattle.jv_types.specs.declared.label.Label.{Label}
use Rattle.jv_types.specs.declared.label.Label.TheVariants as label
use Rattle.jv_types.specs.declared.place.Place.{Place}
use Rattle.jv_types.specs.declared.place.Place.TheVariants as place
use Rattle.jv_types.specs.declared.fact.CallFrom.TheVariants as from
use Rattle.jv_types.specs.declared.fact.Fact.{Fact}
use Rattle.jv_types.specs.declared.fact.Fact.TheVariants.{Reach, Edge, Pt}
use Rattle.calls_form.specs.declared.object_class.Field as declared_field
use Rattle.calls_form.specs.declared.object_class.Method as declared_method
use Rattle.calls_form.specs.declared.object_class.ObjectClass.{ObjectClass}
use Rattle.calls_facts.specs.First.Names.{own, own_field, object_init}

-- ---- names

-- a member is the class, its name and its descriptor, divided by spaces
abbrev pub member_text : ObjectClass → List ℕ → List ℕ → List ℕ
member_text class name desc = class.name ++ codes " " ++ name ++ codes " " ++ desc

-- the text of a method of the class
abbrev pub HasMethodText : ObjectClass → MethodId → List ℕ → Type 0
HasMethodText class id text =
    (index : ℕ) × (m : declared_method.Method) × (id ≡ own index) × (slice_get class.methods index ≡ Some m) × (text ≡ member_text class m.name m.desc)

-- the text of a field of the class
abbrev pub HasFieldText : ObjectClass → FieldId → List ℕ → Type 0
HasFieldText class id text =
    (index : ℕ) × (x : declared_field.Field) × (id ≡ own_field index) × (slice_get class.fields index ≡ Some x) × (text ≡ member_text class x.name x.desc)

-- an instruction is its method and its offset, in decimal
abbrev pub HasSiteText : ObjectClass → MethodId → ℕ → List ℕ → Type 0
HasSiteText class method pc text = (m : List ℕ) × HasMethodText class method m × (text ≡ m ++ codes " " ++ decimal pc)

-- a label is the instruction `new` that made its objects, and how deep inside of an array they are. An
-- object of the library has none
abbrev pub HasLabelText : ObjectClass → Label → List ℕ → Type 0
HasLabelText class (label.Site method pc depth) text = (s : List ℕ) × HasSiteText class method pc s × (text ≡ codes "new " ++ s ++ codes " " ++ decimal depth)
HasLabelText class (label.Lib base dims) text = ⊥

-- a place; a local and a word of the stack are named without the offset of the instruction. What a method
-- returns or throws has no name, and nor have items of arrays, of which this form has none
abbrev pub HasPlaceText : ObjectClass → Place → List ℕ → Type 0
HasPlaceText class (place.Local method pc word) text = (m : List ℕ) × HasMethodText class method m × (text ≡ codes "local " ++ m ++ codes " " ++ decimal word)
HasPlaceText class (place.Stack method pc word) text = (m : List ℕ) × HasMethodText class method m × (text ≡ codes "stack " ++ m ++ codes " " ++ decimal word)
HasPlaceText class (place.Static field) text = (f : List ℕ) × HasFieldText class field f × (text ≡ codes "static " ++ f)
HasPlaceText class (place.Field of field) text =
    (l : List ℕ) × (f : List ℕ) × HasLabelText class of l × HasFieldText class field f × (text ≡ codes "field " ++ l ++ codes " " ++ f)
HasPlaceText class (place.Elem of) text = ⊥
HasPlaceText class (place.Ret method) text = ⊥
HasPlaceText class (place.Raise method pc) text = ⊥
HasPlaceText class (place.Thr method) text = ⊥

-- what a call enters: a method of the class, or the library, whose one method here is the constructor of
-- java/lang/Object
abbrev pub HasTargetText : ObjectClass → MethodId → List ℕ → Type 0
HasTargetText class to text = HasMethodText class to text ⊎ ((to ≡ object_init) × (text ≡ codes "library"))

-- ---- lines

-- the line of a fact: of a call, at least one of whose ends is in the class, and of an object at a place.
-- That a method is entered has no line of its own
abbrev pub HasLine : ObjectClass → Fact → List ℕ → Type 0
HasLine class (Reach method) line = ⊥
HasLine class (Edge from.Root to) line = (t : List ℕ) × HasMethodText class to t × (line ≡ codes "edge library " ++ t)
HasLine class (Edge (from.Site method pc) to) line =
    (s : List ℕ) × (t : List ℕ) × HasSiteText class method pc s × HasTargetText class to t × (line ≡ codes "edge " ++ s ++ codes " " ++ t)
HasLine class (Pt at made) line =
    (p : List ℕ) × (l : List ℕ) × HasPlaceText class at p × HasLabelText class made l × (line ≡ codes "pt " ++ p ++ codes " " ++ l)

-- a line of one of these facts
abbrev pub IsLine : ObjectClass → (Fact → Type 0) → List ℕ → Type 0
IsLine class facts line = (fact : Fact) × facts fact × HasLine class fact line

-- exactly the lines of these facts, sorted by bytes, none twice
pub record AreLines (class : ObjectClass) (facts : Fact → Type 0) (lines : List (List ℕ)) : Type 0 where
  pub sorted : AllPairs (λ a b. slice_cmp nat_cmp a b ≡ Less) lines
  pub exact : (line : List ℕ) → Contains lines line ↔ IsLine class facts line

-- each line ends with a newline
abbrev pub text_of_lines : List (List ℕ) → List ℕ
text_of_lines lines = flat_map (λ line. line ++ 10 ∷ []) lines
