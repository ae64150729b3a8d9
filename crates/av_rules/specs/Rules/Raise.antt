-- Raise. An athrow throws the labels that pass Throwable, and a call throws what leaves a method that it calls (JVMS
-- 6.5, athrow; 2.10).
use Rattle.std.specs.Prelude.{◌≡◌}
use Rattle.jv_fix.specs.Facts.{Premises, One, Two}
use Rattle.jv_types.specs.declared.fact.Fact.{Fact}
use Rattle.jv_types.specs.declared.fact.Fact.TheVariants as facts
use Rattle.jv_table.specs.declared.ops.TheConstants.{ATHROW}
use Rattle.jv_types.specs.declared.label.Label.{Label}
use Rattle.jv_types.specs.declared.place.Place.{Place}
use Rattle.jv_types.specs.declared.place.Place.TheVariants as places
use Rattle.av_rules.specs.Labels.{Passes, throwable_type}
use Rattle.av_rules.specs.Program.{Program, Point, IsPoint, method_of, lowest_word, site_of, stack_place}

-- what the instruction of a program point throws
abbrev pub raise_place : Point → Place
raise_place at = places.Raise (method_of at) at.pc

-- an athrow throws the word
pub record ThrowsWord (p : Program) (at : Point) (from : Place) (label : Label) : Type 0 where
  pub op : at.insn.op ≡ ATHROW
  pub source : from ≡ stack_place at (lowest_word at)
  pub throwable : Passes p label throwable_type

-- what follows at a program point
abbrev pub RaiseAt : Program → Point → Premises Fact → Fact → Type 0
RaiseAt p at (One (facts.Pt from label)) (facts.Pt to gone) =
    ThrowsWord p at from label × (to ≡ raise_place at) × (gone ≡ label)
RaiseAt p at (Two (facts.Edge origin t) (facts.Pt from label)) (facts.Pt to gone) =
    (origin ≡ site_of at) × (from ≡ places.Thr t) × (to ≡ raise_place at) × (gone ≡ label)
RaiseAt p at _ _ = ⊥

abbrev pub Raise : Program → Premises Fact → Fact → Type 0
Raise p premises fact = (at : Point) × IsPoint p at × RaiseAt p at premises fact
