-- Catch. A throwable goes to the first handler, in the order of the table, that covers the instruction and catches it,
-- and where there is none it leaves the method (JVMS 2.10).
use Rattle.std.specs.Prelude.{◌≡◌, ℕ, List, Option, Some, None, slice_get}
use Rattle.jv_fix.specs.Facts.{Premises, One}
use Rattle.jv_types.specs.declared.fact.Fact.{Fact}
use Rattle.jv_types.specs.declared.fact.Fact.TheVariants as facts
use Rattle.jv_types.specs.declared.body.Handler.{Handler}
use Rattle.jv_types.specs.declared.desc.RefType.{Class}
use Rattle.jv_types.specs.declared.label.Label.{Label}
use Rattle.jv_types.specs.declared.place.Place.{Place}
use Rattle.jv_types.specs.declared.place.Place.TheVariants as places
use Rattle.jv_insn.specs.KindSafe.{Covers}
use Rattle.jv_insn.specs.Leaving.{AtStack}
use Rattle.jv_world.specs.MemberPlaces.{IsFirstPlace, NoneIn}
use Rattle.av_rules.specs.Labels.{Passes}
use Rattle.av_rules.specs.Program.{Program, Point, IsPoint, IsSlot, method_of}
use Rattle.av_rules.specs.Rules.Raise.{raise_place}

-- a handler of this catch type catches the label: it catches all, or the label passes its class
abbrev pub CatchesType : Program → Option (List ℕ) → Label → Type 0
CatchesType p None label = Unit {0}
CatchesType p (Some name) label = Passes p label (Class name)

-- a handler covers the instruction and catches the label
abbrev pub Matches : Program → ℕ → Label → Handler → Type 0
Matches p pc label handler = Covers handler pc × CatchesType p handler.catch label

-- where a label goes that the instruction throws: to the one word of the handler's stack, or out of the method
pub data GoesAsThrown (p : Program) (at : Point) (label : Label) (to : Place) : Type 0 where
  caught : (number : ℕ) (handler : Handler) → slice_get at.framed.body.handlers number ≡ Some handler
      → IsFirstPlace (Matches p at.pc label) at.framed.body.handlers number → IsSlot at.framed handler.target (AtStack 0)
      → to ≡ places.Stack (method_of at) handler.target 0 → GoesAsThrown p at label to
  leaves : NoneIn (Matches p at.pc label) at.framed.body.handlers → to ≡ places.Thr (method_of at) → GoesAsThrown p at label to

-- what follows at a program point
abbrev pub CatchAt : Program → Point → Premises Fact → Fact → Type 0
CatchAt p at (One (facts.Pt from label)) (facts.Pt to gone) =
    (from ≡ raise_place at) × GoesAsThrown p at label to × (gone ≡ label)
CatchAt p at _ _ = ⊥

abbrev pub Catch : Program → Premises Fact → Fact → Type 0
Catch p premises fact = (at : Point) × IsPoint p at × CatchAt p at premises fact
