-- Cells whose objects have their facts: where a cell goes, and what happens to the heap.
use Rattle.std.proofs.Common.{◌≡◌, ℕ, Bool, List, [], ◌∷◌, ◌++◌, length, Option, Some, None, refl, sym, ap, ◌∙◌}
use Rattle.std.specs.List.{slice_get}
use Rattle.std.proofs.lemmas.Option.{same_Some}
use Rattle.jv_types.specs.declared.label.Label.{Label}
use Rattle.jv_types.specs.declared.place.Place.{Place}
use Rattle.jv_types.specs.declared.fact.Fact.{Fact}
use Rattle.jv_types.specs.declared.fact.Fact.TheVariants.{Pt}
use Rattle.calls_form.specs.declared.object_class.Kind.{Kind}
use Rattle.calls_form.specs.declared.object_class.Kind.TheVariants as kind
use Rattle.calls_form.specs.declared.object_class.Field.{Field}
use Rattle.calls_form.specs.declared.object_class.ObjectClass.{ObjectClass}
use Rattle.calls_model.specs.First.Machine.{Cell, Null, Int, Object, Making, Arguments, New, HeapObject, IsOwnObject, zero_of, zero_field}
use Rattle.calls_model.specs.First.Keeping.{KeepsObjects}
use Rattle.calls_facts.specs.First.Names.{new_at}
use Rattle.calls_facts.specs.First.Rules.{Has}
use Rattle.calls_facts.specs.First.Covered.{CellCovered}

-- an object of this making has its fact at the place
abbrev pub MakingStands : (Fact → Bool) → Place → Making → Type 0
MakingStands set at Arguments = Unit {0}
MakingStands set at (New method pc) = Has set (Pt at (new_at method pc))

-- the object of this number is there, and has its fact at the place
pub record ObjectStands (set : Fact → Bool) (heap : List HeapObject) (at : Place) (number : ℕ) : Type 0 where
  pub object : HeapObject
  pub is : slice_get heap number ≡ Some object
  pub stands : MakingStands set at object.making

-- the cell's object, if it has one, is there and has its fact at the place
abbrev pub Stands : (Fact → Bool) → List HeapObject → Place → Cell → Type 0
Stands set heap at Null = Unit {0}
Stands set heap at Int = Unit {0}
Stands set heap at (Object number) = ObjectStands set heap at number

making_moves : (set : Fact → Bool) (a b : Place) (making : Making) → ((l : Label) → Has set (Pt a l) → Has set (Pt b l)) → MakingStands set a making → MakingStands set b making
making_moves set a b Arguments goes h = tt
making_moves set a b (New method pc) goes h = goes (new_at method pc) h

-- from a place to one that has all of its labels
pub Stands-move : (set : Fact → Bool) (heap : List HeapObject) (a b : Place) (cell : Cell) → ((l : Label) → Has set (Pt a l) → Has set (Pt b l)) → Stands set heap a cell → Stands set heap b cell
Stands-move set heap a b Null goes h = tt
Stands-move set heap a b Int goes h = tt
Stands-move set heap a b (Object number) goes h = record { object = h.object; is = h.is; stands = making_moves set a b h.object.making goes h.stands }

-- in a heap that keeps the objects
pub Stands-keep : (set : Fact → Bool) (old new : List HeapObject) (at : Place) (cell : Cell) → KeepsObjects old new → Stands set old at cell → Stands set new at cell
Stands-keep set old new at Null keeps h = tt
Stands-keep set old new at Int keeps h = tt
Stands-keep set old new at (Object number) keeps h =
    let k = keeps.kept number h.object h.is in
    record { object = k.0; is = k.1; stands = rw k.2 h.stands }

-- as the definitions say it
pub CellCovered-stands : (set : Fact → Bool) (heap : List HeapObject) (at : Place) (cell : Cell) → Stands set heap at cell → CellCovered set heap at cell
CellCovered-stands set heap at Null h number o method pc is at_number made = absurd cc
CellCovered-stands set heap at Int h number o method pc is at_number made = absurd cc
CellCovered-stands set heap at (Object n) h number o method pc is at_number made =
    let same : n ≡ number = cc in
    let one : h.object ≡ o = same_Some h.object o (sym h.is ∙ (ap (slice_get heap) same ∙ at_number)) in
    let making : h.object.making ≡ New method pc = ap (λ (x : HeapObject). x.making) one ∙ made in
    rw making at h.stands

-- an object of the class has its label's fact where it stands
pub own_label : (set : Fact → Bool) (heap : List HeapObject) (at : Place) (number : ℕ) (o : HeapObject) (own : IsOwnObject heap number o)
    → Stands set heap at (Object number) → Has set (Pt at (new_at own.1.0 own.1.1))
own_label set heap at number o own h = CellCovered-stands set heap at (Object number) h number o own.1.0 own.1.1 refl own.0 own.1.2

-- what isn't written yet refers to nothing
zero_of_stands : (set : Fact → Bool) (heap : List HeapObject) (at : Place) (k : Kind) → Stands set heap at (zero_of k)
zero_of_stands set heap at kind.Word = tt
zero_of_stands set heap at kind.Reference = tt

pub zero_stands : (class : ObjectClass) (set : Fact → Bool) (heap : List HeapObject) (at : Place) (field : ℕ) → Stands set heap at (zero_field class field)
zero_stands class set heap at field =
    elim (slice_get class.fields field) as (λ (found : Option Field). Stands set heap at (elim found [ None ↦ Null | Some x ↦ zero_of x.kind ])) [
      | None ↦ tt
      | Some x ↦ zero_of_stands set heap at x.kind
    ]
