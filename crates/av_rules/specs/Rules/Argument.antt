-- Argument. The labels of a call's arguments go to the parameters of a method that it calls, where the resolved method
-- has that method's name and descriptor (JVMS 2.6.1, 6.5).
use Rattle.std.specs.Prelude.{◌≡◌, ◌+◌, ◌<◌, ◌≤◌, ℕ, ◌==◌, if◌then◌else◌}
use Rattle.jv_fix.specs.Facts.{Premises, Two}
use Rattle.jv_types.specs.declared.fact.Fact.{Fact}
use Rattle.jv_types.specs.declared.fact.Fact.TheVariants as facts
use Rattle.jv_table.specs.declared.ops.TheConstants.{INVOKESTATIC}
use Rattle.jv_types.specs.declared.ids.MethodId.{MethodId}
use Rattle.jv_types.specs.declared.instruction.Insn.{Insn}
use Rattle.jv_types.specs.declared.place.Place.{Place}
use Rattle.jv_insn.specs.Leaving.{words_taken}
use Rattle.av_rules.specs.Dispatching.{CallsAlike}
use Rattle.av_rules.specs.Program.{Program, Point, IsPoint, IsEntryLocal, lowest_word, site_of, stack_place}

-- the first word that a call takes for an argument: the receiver stands before it, but for invokestatic
abbrev pub first_argument : Insn → ℕ
first_argument insn = if insn.op == INVOKESTATIC then 0 else 1

-- the call passes the word at the one place to the other, of the method t
pub record PassesWord (p : Program) (at : Point) (t : MethodId) (from to : Place) : Type 0 where
  pub calls : CallsAlike p at t
  pub word : ℕ
  pub behind_receiver : first_argument at.insn ≤ word
  pub within : word < words_taken at.insn
  pub source : from ≡ stack_place at (lowest_word at + word)
  pub parameter : IsEntryLocal p t word to

-- what follows at a program point
abbrev pub ArgumentAt : Program → Point → Premises Fact → Fact → Type 0
ArgumentAt p at (Two (facts.Edge origin t) (facts.Pt from label)) (facts.Pt to gone) =
    (origin ≡ site_of at) × PassesWord p at t from to × (gone ≡ label)
ArgumentAt p at _ _ = ⊥

abbrev pub Argument : Program → Premises Fact → Fact → Type 0
Argument p premises fact = (at : Point) × IsPoint p at × ArgumentAt p at premises fact
