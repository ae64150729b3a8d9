-- Cast. A checkcast lets the labels go on that pass its type (JVMS 6.5, checkcast).
use Rattle.std.specs.Prelude.{◌≡◌}
use Rattle.jv_fix.specs.Facts.{Premises, One}
use Rattle.jv_types.specs.declared.fact.Fact.{Fact}
use Rattle.jv_types.specs.declared.fact.Fact.TheVariants as facts
use Rattle.jv_table.specs.declared.ops.TheConstants.{CHECKCAST}
use Rattle.jv_types.specs.declared.desc.RefType.{RefType}
use Rattle.jv_types.specs.declared.instruction.Arg.TheVariants as args
use Rattle.jv_types.specs.declared.label.Label.{Label}
use Rattle.jv_types.specs.declared.place.Place.{Place}
use Rattle.av_rules.specs.Labels.{Passes}
use Rattle.av_rules.specs.Program.{Program, Point, IsPoint, IsPushed, lowest_word, stack_place}

-- the instruction lets a label go from the one place to the other
pub record Casts (p : Program) (at : Point) (from to : Place) (label : Label) : Type 0 where
  pub op : at.insn.op ≡ CHECKCAST
  pub type : RefType
  pub names : at.insn.arg ≡ args.Class type
  pub source : from ≡ stack_place at (lowest_word at)
  pub passes : Passes p label type
  pub pushed : IsPushed at to

-- what follows at a program point
abbrev pub CastAt : Program → Point → Premises Fact → Fact → Type 0
CastAt p at (One (facts.Pt from label)) (facts.Pt to cast) = Casts p at from to label × (cast ≡ label)
CastAt p at _ _ = ⊥

abbrev pub Cast : Program → Premises Fact → Fact → Type 0
Cast p premises fact = (at : Point) × IsPoint p at × CastAt p at premises fact
