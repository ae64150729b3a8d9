-- The sixteen rules as one relation.
use Rattle.jv_fix.specs.Facts.{Premises}
use Rattle.jv_types.specs.declared.fact.Fact.{Fact}
use Rattle.av_rules.specs.Program.{Program}
use Rattle.av_rules.specs.Rules.Allocate.{Allocate}
use Rattle.av_rules.specs.Rules.Argument.{Argument}
use Rattle.av_rules.specs.Rules.Cast.{Cast}
use Rattle.av_rules.specs.Rules.Catch.{Catch}
use Rattle.av_rules.specs.Rules.Constant.{Constant}
use Rattle.av_rules.specs.Rules.Dispatch.{Dispatch}
use Rattle.av_rules.specs.Rules.Element.{Element}
use Rattle.av_rules.specs.Rules.Entry.{Entry}
use Rattle.av_rules.specs.Rules.Field.{Field}
use Rattle.av_rules.specs.Rules.Initialise.{Initialise}
use Rattle.av_rules.specs.Rules.MachineRaise.{MachineRaise}
use Rattle.av_rules.specs.Rules.Move.{Move}
use Rattle.av_rules.specs.Rules.Raise.{Raise}
use Rattle.av_rules.specs.Rules.Reach.{Reach}
use Rattle.av_rules.specs.Rules.Return.{Return}
use Rattle.av_rules.specs.Rules.Static.{Static}

-- a fact follows from these premises by one of the rules
pub data Forces (p : Program) (premises : Premises Fact) (fact : Fact) : Type 0 where
  by_entry : Entry p premises fact → Forces p premises fact
  by_reach : Reach p premises fact → Forces p premises fact
  by_move : Move p premises fact → Forces p premises fact
  by_allocate : Allocate p premises fact → Forces p premises fact
  by_constant : Constant p premises fact → Forces p premises fact
  by_cast : Cast p premises fact → Forces p premises fact
  by_field : Field p premises fact → Forces p premises fact
  by_static : Static p premises fact → Forces p premises fact
  by_element : Element p premises fact → Forces p premises fact
  by_dispatch : Dispatch p premises fact → Forces p premises fact
  by_argument : Argument p premises fact → Forces p premises fact
  by_return : Return p premises fact → Forces p premises fact
  by_raise : Raise p premises fact → Forces p premises fact
  by_catch : Catch p premises fact → Forces p premises fact
  by_initialise : Initialise p premises fact → Forces p premises fact
  by_machine : MachineRaise p premises fact → Forces p premises fact
