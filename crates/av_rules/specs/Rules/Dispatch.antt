-- Dispatch. An invokestatic of a method that is entered calls the resolved method; another call calls what each label
-- of its receiver selects, and the receiver stands in that method's first local variable (JVMS 6.5, 2.6.1).
use Rattle.std.specs.Prelude.{◌≡◌}
use Rattle.jv_fix.specs.Facts.{Premises, One}
use Rattle.jv_types.specs.declared.fact.Fact.{Fact}
use Rattle.jv_types.specs.declared.fact.Fact.TheVariants as facts
use Rattle.jv_table.specs.declared.ops.TheConstants.{INVOKESTATIC}
use Rattle.jv_types.specs.declared.fact.CallFrom.{CallFrom}
use Rattle.jv_types.specs.declared.ids.MethodId.{MethodId}
use Rattle.jv_types.specs.declared.label.Label.{Label}
use Rattle.jv_types.specs.declared.place.Place.{Place}
use Rattle.av_conditions.specs.Members.{RefersToMethod}
use Rattle.av_rules.specs.Dispatching.{Runs}
use Rattle.av_rules.specs.Program.{Program, Point, IsPoint, IsEntryLocal, method_of, lowest_word, site_of, stack_place}

-- an invokestatic calls the method
pub record CallsStatic (p : Program) (at : Point) (from : CallFrom) (t : MethodId) : Type 0 where
  pub op : at.insn.op ≡ INVOKESTATIC
  pub refers : RefersToMethod p.world at.insn t
  pub origin : from ≡ site_of at

-- a call runs the method on the objects of a label that stand at its receiver
pub record CallsOn (p : Program) (at : Point) (receiver : Place) (label : Label) (t : MethodId) : Type 0 where
  pub place : receiver ≡ stack_place at (lowest_word at)
  pub runs : Runs p at label t

-- what follows at a program point
abbrev pub DispatchAt : Program → Point → Premises Fact → Fact → Type 0
DispatchAt p at (One (facts.Reach m)) (facts.Edge from t) = (method_of at ≡ m) × CallsStatic p at from t
DispatchAt p at (One (facts.Pt receiver label)) (facts.Edge from t) = CallsOn p at receiver label t × (from ≡ site_of at)
DispatchAt p at (One (facts.Pt receiver label)) (facts.Pt to gone) =
    (t : MethodId) × CallsOn p at receiver label t × IsEntryLocal p t 0 to × (gone ≡ label)
DispatchAt p at _ _ = ⊥

abbrev pub Dispatch : Program → Premises Fact → Fact → Type 0
Dispatch p premises fact = (at : Point) × IsPoint p at × DispatchAt p at premises fact
