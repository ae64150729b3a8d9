-- Return. What a method returns stands on the stack behind each call of it, where the resolved method has that
-- method's name and descriptor (JVMS 6.5, areturn; 2.6.4).
use Rattle.std.specs.Prelude.{◌≡◌}
use Rattle.jv_fix.specs.Facts.{Premises, One, Two}
use Rattle.jv_types.specs.declared.fact.Fact.{Fact}
use Rattle.jv_types.specs.declared.fact.Fact.TheVariants as facts
use Rattle.jv_table.specs.declared.ops.TheConstants.{ARETURN}
use Rattle.jv_types.specs.declared.ids.MethodId.{MethodId}
use Rattle.jv_types.specs.declared.place.Place.{Place}
use Rattle.jv_types.specs.declared.place.Place.TheVariants as places
use Rattle.av_rules.specs.Dispatching.{CallsAlike}
use Rattle.av_rules.specs.Program.{Program, Point, IsPoint, IsPushed, method_of, lowest_word, site_of, stack_place}

-- an areturn returns the word
pub record ReturnsWord (at : Point) (from to : Place) : Type 0 where
  pub op : at.insn.op ≡ ARETURN
  pub source : from ≡ stack_place at (lowest_word at)
  pub returned : to ≡ places.Ret (method_of at)

-- a call pushes what the method t returns
pub record PushesResult (p : Program) (at : Point) (t : MethodId) (from to : Place) : Type 0 where
  pub calls : CallsAlike p at t
  pub returned : from ≡ places.Ret t
  pub pushed : IsPushed at to

-- what follows at a program point
abbrev pub ReturnAt : Program → Point → Premises Fact → Fact → Type 0
ReturnAt p at (One (facts.Pt from label)) (facts.Pt to gone) = ReturnsWord at from to × (gone ≡ label)
ReturnAt p at (Two (facts.Edge origin t) (facts.Pt from label)) (facts.Pt to gone) =
    (origin ≡ site_of at) × PushesResult p at t from to × (gone ≡ label)
ReturnAt p at _ _ = ⊥

abbrev pub Return : Program → Premises Fact → Fact → Type 0
Return p premises fact = (at : Point) × IsPoint p at × ReturnAt p at premises fact
