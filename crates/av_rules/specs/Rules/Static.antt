-- Static. A getstatic of a method that is entered pushes what stands in its field, and a putstatic puts its value
-- there (JVMS 6.5, getstatic and putstatic).
use Rattle.std.specs.Prelude.{◌≡◌}
use Rattle.jv_fix.specs.Facts.{Premises, One, Two}
use Rattle.jv_types.specs.declared.fact.Fact.{Fact}
use Rattle.jv_types.specs.declared.fact.Fact.TheVariants as facts
use Rattle.jv_table.specs.declared.ops.TheConstants.{GETSTATIC, PUTSTATIC}
use Rattle.jv_types.specs.declared.ids.FieldId.{FieldId}
use Rattle.jv_types.specs.declared.place.Place.{Place}
use Rattle.jv_types.specs.declared.place.Place.TheVariants as places
use Rattle.av_conditions.specs.Members.{RefersToField}
use Rattle.av_rules.specs.Program.{Program, Point, IsPoint, IsPushed, method_of, lowest_word, stack_place}

-- the instruction pushes what stands in a static field
pub record GetsStatic (p : Program) (at : Point) (from to : Place) : Type 0 where
  pub op : at.insn.op ≡ GETSTATIC
  pub field : FieldId
  pub refers : RefersToField p.world at.insn field
  pub source : from ≡ places.Static field
  pub pushed : IsPushed at to

-- the instruction puts its value to a static field
pub record PutsStatic (p : Program) (at : Point) (from to : Place) : Type 0 where
  pub op : at.insn.op ≡ PUTSTATIC
  pub field : FieldId
  pub refers : RefersToField p.world at.insn field
  pub source : from ≡ stack_place at (lowest_word at)
  pub field_place : to ≡ places.Static field

-- what follows at a program point
abbrev pub StaticAt : Program → Point → Premises Fact → Fact → Type 0
StaticAt p at (Two (facts.Reach m) (facts.Pt from label)) (facts.Pt to gone) =
    (method_of at ≡ m) × GetsStatic p at from to × (gone ≡ label)
StaticAt p at (One (facts.Pt from label)) (facts.Pt to gone) = PutsStatic p at from to × (gone ≡ label)
StaticAt p at _ _ = ⊥

abbrev pub Static : Program → Premises Fact → Fact → Type 0
Static p premises fact = (at : Point) × IsPoint p at × StaticAt p at premises fact
