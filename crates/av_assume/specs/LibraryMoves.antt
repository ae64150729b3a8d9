-- One move of the library: of a thread whose last frame is the library's, or the beginning of a thread.
use Rattle.std.specs.Prelude.{◌≡◌, ℕ, suc, true, false, List, [], ◌∷◌, ◌++◌, Option, None, Some, Contains, length, slice_get}
use Rattle.std.specs.Option.{option_map_or}
use Rattle.jv_types.specs.declared.desc.Desc.{Desc}
use Rattle.jv_types.specs.declared.desc.RefType.{RefType}
use Rattle.jv_types.specs.declared.frames.FramedBody.{FramedBody}
use Rattle.jv_types.specs.declared.ids.ClassId.{ClassId}
use Rattle.jv_types.specs.declared.ids.FieldId.{FieldId}
use Rattle.jv_types.specs.declared.ids.MethodId.{MethodId}
use Rattle.jv_types.specs.declared.label.Label.{Label}
use Rattle.jv_types.specs.declared.references.MethodRef.{MethodRef}
use Rattle.jv_types.specs.declared.shapes.FieldShape.{FieldShape}
use Rattle.jv_types.specs.declared.shapes.MethodShape.{MethodShape}
use Rattle.jv_types.specs.declared.shapes.Shape.{Shape}
use Rattle.jv_world.specs.Worlds.{IsNamed}
use Rattle.jv_resolve.specs.Members.{IsStatic}
use Rattle.av_conditions.specs.CoreClasses.{string_name}
use Rattle.av_conditions.specs.Initialisers.{MayEnterFirst}
use Rattle.av_states.specs.declared.event.Choice.{Choice}
use Rattle.av_states.specs.declared.event.Choice.TheVariants as choices
use Rattle.av_states.specs.declared.held.Held.{Held}
use Rattle.av_states.specs.declared.held.Held.TheVariants.{Null, Ref}
use Rattle.av_states.specs.declared.run_type.RunType.{RunType, Class, Array}
use Rattle.av_states.specs.declared.state.Activation.{Activation}
use Rattle.av_states.specs.declared.state.Activation.TheVariants.{Library}
use Rattle.av_states.specs.declared.state.CellKey.{CellKey}
use Rattle.av_states.specs.declared.state.CellKey.TheVariants.{Field, Index}
use Rattle.av_states.specs.declared.state.HeapObject.{HeapObject}
use Rattle.av_states.specs.declared.state.State.{State}
use Rattle.av_model.specs.AppSteps.{Outcome, quiet}
use Rattle.av_model.specs.Events.{MethodCall, FromLibrary, IntoMethod}
use Rattle.av_model.specs.Holding.{cell_at, field_of, item_of, make, make_known, static_of, write_object, write_static}
use Rattle.av_model.specs.LibraryTypes.{IsLibraryType, LabelOf}
use Rattle.av_model.specs.Operands.{words_of}
use Rattle.av_model.specs.Raising.{add_known}
use Rattle.av_model.specs.Returning.{IsApplicationFrame, Resumes}
use Rattle.av_model.specs.RunTypes.{IsOfClass, IsThrowable, dims_of}
use Rattle.av_model.specs.Spots.{entered, set_thread}
use Rattle.av_assume.specs.Assumption.{AreHandedOver, CallsApplication, FitsKnown, IsHandedOver, IsKnown, IsKnownArray, IsLibraryField}

-- ---- the start

-- the call of a method that the library enters
abbrev pub calls_back : MethodId → List MethodCall
calls_back m = record { origin = FromLibrary; target = IntoMethod m } ∷ []

-- main's array of strings
abbrev pub IsStringArray : List Shape → RunType → Type 0
IsStringArray w type = (c : ClassId) × IsNamed w c.number string_name × (type ≡ Array (Class c))

-- EntersOnlyAtStart: before main is entered, the first thread may enter the initialisers of main's class and of what is
-- above it, and main once, on a new array of strings that is known.
pub data EntersAtStart (w : List Shape) (methods : List FramedBody) (old : State) (below : List Activation) : Choice → Outcome → Type 0 where
  enters_first : (framed : FramedBody) → Contains methods framed → MayEnterFirst w old.main framed.method
      → EntersAtStart w methods old below (choices.First framed.method) (record {
        calls = calls_back framed.method;
        state = old;
        frames = below ++ Library ∷ entered framed [] ∷ [];
        thrown = None;
      })
  enters_main : (framed : FramedBody) (type : RunType) (label : Label) → Contains methods framed → framed.method ≡ old.main → IsStringArray w type
      → LabelOf w old.dims type label
      → EntersAtStart w methods old below choices.Main (record {
        calls = calls_back framed.method;
        state = record (add_known old type label) { entered = true };
        frames = below ++ Library ∷ entered framed (Ref (length old.heap) ∷ []) ∷ [];
        thrown = None;
      })

-- ---- objects

-- the parts of a copy: the item at each place from k on is the original's at the index that stands there
abbrev pub copied_items : HeapObject → ℕ → List ℕ → List (CellKey × Held)
copied_items original k [] = []
copied_items original k (index ∷ indices) =
    let rest = copied_items original (suc k) indices in option_map_or (λ (held : Held). (Index k, held) ∷ rest) (cell_at original (Index index)) rest

-- what the copy of an object holds: of an array the items at these indices, and of another object all that it holds
pub data HoldsCopy (original : HeapObject) (indices : List ℕ) : List (CellKey × Held) → Type 0 where
  copies_array : (item : RunType) → original.made ≡ Array item → HoldsCopy original indices (copied_items original 0 indices)
  copies_fields : dims_of original.made ≡ 0 → indices ≡ [] → HoldsCopy original indices original.cells

-- MakesAndCopies: the library makes an object of one of its types, or a copy of a known object, which has the type and the
-- label of the original. The new object is known.
pub data MakesObject (w : List Shape) (old : State) : Choice → State → Type 0 where
  makes_own : (type : RunType) (label : Label) → IsLibraryType w type → LabelOf w old.dims type label
      → MakesObject w old (choices.Make type) (add_known old type label)
  makes_copy : (number : ℕ) (original : HeapObject) (indices : List ℕ) (cells : List (CellKey × Held)) → IsKnown old number original
      → HoldsCopy original indices cells
      → MakesObject w old (choices.Copy number indices) (make_known (make old (record original { cells = cells } ∷ [])) (Ref (length old.heap)))

-- ---- fields and items

-- UsesNamedFields: the library reads a field of its own classes, as a static one or of a known object, and what it reads
-- becomes known; or it writes one, null or what it hands over.
pub data UsesLibraryField (w : List Shape) (old : State) : Choice → State → Type 0 where
  sees_static : (field : FieldId) (shape : FieldShape) (type : RefType) → IsLibraryField w field shape type → IsStatic shape.flags
      → UsesLibraryField w old (choices.See None field) (make_known old (static_of old field shape.desc))
  sees_field : (field : FieldId) (shape : FieldShape) (type : RefType) (number : ℕ) (object : HeapObject) → IsLibraryField w field shape type
      → (IsStatic shape.flags → ⊥) → IsKnown old number object → IsOfClass w object.made field.class
      → UsesLibraryField w old (choices.See (Some number) field) (make_known old (field_of object field shape.desc))
  sets_static : (field : FieldId) (shape : FieldShape) (type : RefType) (value : Held) → IsLibraryField w field shape type → IsStatic shape.flags
      → IsHandedOver w old shape.desc value
      → UsesLibraryField w old (choices.Set None field value) (write_static old field value)
  sets_field : (field : FieldId) (shape : FieldShape) (type : RefType) (number : ℕ) (object : HeapObject) (value : Held) → IsLibraryField w field shape type
      → (IsStatic shape.flags → ⊥) → IsKnown old number object → IsOfClass w object.made field.class → IsHandedOver w old shape.desc value
      → UsesLibraryField w old (choices.Set (Some number) field value) (write_object old number object (Field field) value)

-- UsesElements: the library reads an item of a known array of references, which becomes known, or writes one
pub data UsesKnownArray (w : List Shape) (old : State) : Choice → State → Type 0 where
  looks_at : (number index : ℕ) (array : HeapObject) (item : RunType) → IsKnownArray old number array item
      → UsesKnownArray w old (choices.Look number index) (make_known old (item_of array index))
  puts : (number index : ℕ) (array : HeapObject) (item : RunType) (value : Held) → IsKnownArray old number array item → FitsKnown w old item value
      → UsesKnownArray w old (choices.Put number index value) (write_object old number array (Index index) value)

-- ---- calls and returns

-- what a call of the application is given back, as a value of its result: null where there is none
abbrev pub IsResult : List Shape → State → Option Desc → Held → Type 0
IsResult w state None value = value ≡ Null
IsResult w state (Some desc) value = IsHandedOver w state desc value

-- the words of a result
abbrev pub result_words : Option Desc → Held → List Held
result_words None value = []
result_words (Some desc) value = words_of desc value

-- the words of arguments, one after the other
abbrev pub argument_words : List Desc → List Held → List Held
argument_words [] values = []
argument_words (desc ∷ descs) [] = []
argument_words (desc ∷ descs) (value ∷ values) = words_of desc value ++ argument_words descs values

-- The library's frame, over these, is left or calls an application method.
-- CallsBack: a method of the application is entered on a receiver and on arguments that are handed over.
-- PassesKnown: the library returns to the application's frame below it, and hands over the result.
-- ThrowsKnownThrowables: it throws a known object there.
pub data Leaves (w : List Shape) (methods : List FramedBody) (old : State) (below : List Activation) : Choice → Outcome → Type 0 where
  calls_method : (m : MethodId) (shape : MethodShape) (number : ℕ) (args : List Held) (framed : FramedBody)
      → CallsApplication w old m shape number framed.method → Contains methods framed → AreHandedOver w old shape.desc.params args
      → Leaves w methods old below (choices.Call m number args) (record {
        calls = calls_back framed.method;
        state = old;
        frames = below ++ Library ∷ entered framed (Ref number ∷ argument_words shape.desc.params args) ∷ [];
        thrown = None;
      })
  returns_value : (lower : List Activation) (caller after : Activation) (r : MethodRef) (value : Held) → below ≡ lower ++ caller ∷ []
      → IsResult w old r.desc.result value → Resumes methods caller r (result_words r.desc.result value) after
      → Leaves w methods old below (choices.Return value) (quiet old (lower ++ after ∷ []))
  throws_known : (lower : List Activation) (caller : Activation) (number : ℕ) (object : HeapObject) → below ≡ lower ++ caller ∷ []
      → IsApplicationFrame caller → IsKnown old number object → IsThrowable w object.made
      → Leaves w methods old below (choices.Throw number) (record { calls = []; state = old; frames = below; thrown = Some number })

-- ---- one move

-- the last frame of a thread is the library's, over these frames, and it throws nothing
abbrev pub RunsLibrary : State → ℕ → List Activation → Type 0
RunsLibrary state thread below = slice_get state.threads thread ≡ Some (record { frames = below ++ Library ∷ []; thrown = None })

-- From the old state, the thread may do what is chosen, which makes these calls and leads to the new state.
pub data LibraryMove (w : List Shape) (methods : List FramedBody) (old : State) (thread : ℕ) : Choice → List MethodCall → State → Type 0 where
  begins : thread ≡ length old.threads
      → LibraryMove w methods old thread choices.Begin [] (record old { threads = old.threads ++ record { frames = Library ∷ []; thrown = None } ∷ [] })
  starts : (below : List Activation) (choice : Choice) (out : Outcome) → thread ≡ 0 → old.entered ≡ false → RunsLibrary old thread below
      → EntersAtStart w methods old below choice out
      → LibraryMove w methods old thread choice out.calls (set_thread out.state thread out.frames out.thrown)
  makes : (below : List Activation) (choice : Choice) (new : State) → RunsLibrary old thread below → MakesObject w old choice new
      → LibraryMove w methods old thread choice [] new
  uses_field : (below : List Activation) (choice : Choice) (new : State) → RunsLibrary old thread below → UsesLibraryField w old choice new
      → LibraryMove w methods old thread choice [] new
  uses_array : (below : List Activation) (choice : Choice) (new : State) → RunsLibrary old thread below → UsesKnownArray w old choice new
      → LibraryMove w methods old thread choice [] new
  leaves : (below : List Activation) (choice : Choice) (out : Outcome) → RunsLibrary old thread below → Leaves w methods old below choice out
      → LibraryMove w methods old thread choice out.calls (set_thread out.state thread out.frames out.thrown)
