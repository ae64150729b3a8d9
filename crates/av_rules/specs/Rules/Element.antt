-- Element. An aaload pushes what stands in the arrays of its label, and an aastore puts its value there where the
-- label may stand in such an array (JVMS 6.5, aaload and aastore). Only arrays of references count.
use Rattle.std.specs.Prelude.{◌≡◌, ◌+◌, ◌⊎◌}
use Rattle.jv_fix.specs.Facts.{Premises, Two}
use Rattle.jv_types.specs.declared.fact.Fact.{Fact}
use Rattle.jv_types.specs.declared.fact.Fact.TheVariants as facts
use Rattle.jv_table.specs.declared.ops.TheConstants.{AALOAD, AASTORE}
use Rattle.jv_types.specs.declared.label.Label.{Label}
use Rattle.jv_types.specs.declared.place.Place.{Place}
use Rattle.jv_types.specs.declared.place.Place.TheVariants as places
use Rattle.av_rules.specs.Labels.{HasItems, MayStandIn}
use Rattle.av_rules.specs.Program.{Program, Point, IsPoint, IsPushed, lowest_word, stack_place}

-- an array of this label stands at the one place, what it holds at the other, and the instruction pushes it to the
-- third
pub record GetsItem (p : Program) (at : Point) (array : Place) (label : Label) (held to : Place) : Type 0 where
  pub op : at.insn.op ≡ AALOAD
  pub receiver : array ≡ stack_place at (lowest_word at)
  pub items : HasItems p label
  pub item_place : held ≡ places.Elem label
  pub pushed : IsPushed at to

-- an array of this label stands at the one place and a value of that label at the other, above the index, and the
-- instruction puts it to the third
pub record PutsItem (p : Program) (at : Point) (array : Place) (label : Label) (value : Place) (item : Label) (to : Place) : Type 0 where
  pub op : at.insn.op ≡ AASTORE
  pub receiver : array ≡ stack_place at (lowest_word at)
  pub value_place : value ≡ stack_place at (lowest_word at + 2)
  pub fits : MayStandIn p item label
  pub item_place : to ≡ places.Elem label

-- what follows at a program point
abbrev pub ElementAt : Program → Point → Premises Fact → Fact → Type 0
ElementAt p at (Two (facts.Pt array label) (facts.Pt from item)) (facts.Pt to gone) =
    (GetsItem p at array label from to ⊎ PutsItem p at array label from item to) × (gone ≡ item)
ElementAt p at _ _ = ⊥

abbrev pub Element : Program → Premises Fact → Fact → Type 0
Element p premises fact = (at : Point) × IsPoint p at × ElementAt p at premises fact
