-- Variables: the places along straight code at which one word stands. An instruction that goes on to the next one, and
-- leaves a word as it is, joins the word before it and the word after it, unless some jump or handler also leads there.
use Rattle.std.specs.Prelude.{◌≡◌, ◌<◌, ℕ, false, IsTrue, Some, Contains}
use Rattle.jv_types.specs.Bodies.{at_offset, IsNextStart}
use Rattle.jv_types.specs.declared.body.Body.{Body}
use Rattle.jv_types.specs.declared.body.Handler.{Handler}
use Rattle.jv_types.specs.declared.instruction.Insn.{Insn}
use Rattle.jv_types.specs.declared.place.Place.{Place}
use Rattle.jv_insn.specs.Effects.{effect_of}
use Rattle.jv_insn.specs.Leaving.{Place as Word, AtLocal, AtStack, is_written}
use Rattle.av_rules.specs.Program.{Program, Point, IsPoint, IsSlot, lowest_word, method_of, place_of}

-- ---- places that are joined

-- some instruction of a code jumps to this offset
abbrev pub IsJumpTarget : Body → ℕ → Type 0
IsJumpTarget body pc = (from : ℕ) × (insn : Insn) × (at_offset from body.insns ≡ Some insn) × Contains (effect_of insn).targets pc

-- some handler of a code begins there
abbrev pub IsHandlerTarget : Body → ℕ → Type 0
IsHandlerTarget body pc = (handler : Handler) × Contains body.handlers handler × (handler.target ≡ pc)

-- the instruction leaves a word as it is: a local variable that it doesn't write, or a word of the stack below those
-- that it takes
abbrev pub IsUntouched : Point → Word → Type 0
IsUntouched at (AtLocal local) = is_written at.insn local ≡ false
IsUntouched at (AtStack word) = word < lowest_word at

-- an instruction joins a word before it and the same word before the next one
pub record Joins (p : Program) (at : Point) (word : Word) (next : ℕ) : Type 0 where
  pub point : IsPoint p at
  pub falls : IsTrue (effect_of at.insn).falls
  pub follows : IsNextStart at.pc at.framed.body.insns next
  pub no_jump : ¬ IsJumpTarget at.framed.body next
  pub no_handler : ¬ IsHandlerTarget at.framed.body next
  pub untouched : IsUntouched at word
  pub here : IsSlot at.framed at.pc word
  pub there : IsSlot at.framed next word

-- the first place is joined to the second
abbrev pub AreJoined : Program → Place → Place → Type 0
AreJoined p from to =
    (at : Point) × (word : Word) × (next : ℕ) × Joins p at word next × (from ≡ place_of (method_of at) at.pc word) × (to ≡ place_of (method_of at) next word)

-- ---- variables

-- joined places lead from the one place to the other, which may be the same
pub data Leads (p : Program) : Place → Place → Type 0 where
  same : (from to : Place) → from ≡ to → Leads p from to
  on : (from between to : Place) → Leads p from between → AreJoined p between to → Leads p from to

-- Places by the numbers of their variables: joined places have one number, and from a first place of each number joined
-- places lead to all that have it.
pub record AreVariables (p : Program) (number : Place → ℕ) (first : ℕ → Place) : Type 0 where
  pub joined : (from to : Place) → AreJoined p from to → number from ≡ number to
  pub led : (place : Place) → Leads p (first (number place)) place
