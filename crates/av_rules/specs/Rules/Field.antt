-- Field. A getfield pushes what stands in the field of the objects of its label, and a putfield puts its value there
-- (JVMS 6.5, getfield and putfield).
use Rattle.std.specs.Prelude.{◌≡◌, ◌+◌, ◌⊎◌}
use Rattle.jv_fix.specs.Facts.{Premises, Two}
use Rattle.jv_types.specs.declared.fact.Fact.{Fact}
use Rattle.jv_types.specs.declared.fact.Fact.TheVariants as facts
use Rattle.jv_table.specs.declared.ops.TheConstants.{GETFIELD, PUTFIELD}
use Rattle.jv_types.specs.declared.ids.FieldId.{FieldId}
use Rattle.jv_types.specs.declared.label.Label.{Label}
use Rattle.jv_types.specs.declared.place.Place.{Place}
use Rattle.jv_types.specs.declared.place.Place.TheVariants as places
use Rattle.av_conditions.specs.Members.{RefersToField}
use Rattle.av_rules.specs.Program.{Program, Point, IsPoint, IsPushed, lowest_word, stack_place}

-- the object of this label stands at the one place, what its field holds at the other, and the instruction pushes it
-- to the third
pub record GetsField (p : Program) (at : Point) (object : Place) (label : Label) (held to : Place) : Type 0 where
  pub op : at.insn.op ≡ GETFIELD
  pub field : FieldId
  pub refers : RefersToField p.world at.insn field
  pub receiver : object ≡ stack_place at (lowest_word at)
  pub field_place : held ≡ places.Field label field
  pub pushed : IsPushed at to

-- the object of this label stands at the one place and the value at the other, and the instruction puts it to the third
pub record PutsField (p : Program) (at : Point) (object : Place) (label : Label) (value to : Place) : Type 0 where
  pub op : at.insn.op ≡ PUTFIELD
  pub field : FieldId
  pub refers : RefersToField p.world at.insn field
  pub receiver : object ≡ stack_place at (lowest_word at)
  pub value_place : value ≡ stack_place at (lowest_word at + 1)
  pub field_place : to ≡ places.Field label field

-- what follows at a program point
abbrev pub FieldAt : Program → Point → Premises Fact → Fact → Type 0
FieldAt p at (Two (facts.Pt object label) (facts.Pt from held)) (facts.Pt to gone) =
    (GetsField p at object label from to ⊎ PutsField p at object label from to) × (gone ≡ held)
FieldAt p at _ _ = ⊥

abbrev pub Field : Program → Premises Fact → Fact → Type 0
Field p premises fact = (at : Point) × IsPoint p at × FieldAt p at premises fact
