-- Move. The labels of a word go where an instruction leaves that word (JVMS 2.6.1, 2.6.2, 6.5), and those of a local
-- variable also to each handler that covers the instruction (JVMS 2.10).
use Rattle.std.specs.Prelude.{◌≡◌, ℕ, Contains}
use Rattle.jv_fix.specs.Facts.{Premises, One}
use Rattle.jv_types.specs.declared.fact.Fact.{Fact}
use Rattle.jv_types.specs.declared.fact.Fact.TheVariants as facts
use Rattle.jv_types.specs.declared.body.Handler.{Handler}
use Rattle.jv_types.specs.declared.place.Place.{Place}
use Rattle.jv_insn.specs.KindSafe.{Covers}
use Rattle.jv_insn.specs.Leaving.{Place as Word, AtLocal, Leaves}
use Rattle.av_rules.specs.Program.{Program, Point, IsPoint, GoesTo, IsSlot, method_of, depth_of, place_of}

-- an instruction leaves the word at the one place at the other, where the frame has a reference
pub data LeavesWord (at : Point) (from to : Place) : Type 0 where
  goes_on : (pc : ℕ) (source word : Word) → GoesTo at pc → Leaves at.insn (depth_of at) source word → IsSlot at.framed pc word
      → from ≡ place_of (method_of at) at.pc source → to ≡ place_of (method_of at) pc word → LeavesWord at from to
  caught : (handler : Handler) (local : ℕ) → Contains at.framed.body.handlers handler → Covers handler at.pc → IsSlot at.framed handler.target (AtLocal local)
      → from ≡ place_of (method_of at) at.pc (AtLocal local) → to ≡ place_of (method_of at) handler.target (AtLocal local) → LeavesWord at from to

-- what follows at a program point
abbrev pub MoveAt : Program → Point → Premises Fact → Fact → Type 0
MoveAt p at (One (facts.Pt from label)) (facts.Pt to moved) = LeavesWord at from to × (moved ≡ label)
MoveAt p at _ _ = ⊥

abbrev pub Move : Program → Premises Fact → Fact → Type 0
Move p premises fact = (at : Point) × IsPoint p at × MoveAt p at premises fact
