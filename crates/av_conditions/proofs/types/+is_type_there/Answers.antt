use Rattle.jv_resolve.proofs.Tests.{never}
use Rattle.av_conditions.specs.RightReferences.{IsTypeThere}
use Rattle.av_conditions.proofs.Typing.{absent_not_there, there_by_item}
use Rattle.av_conditions.proofs.types.+is_type_there.Goals as goal

pub returns-in-None : goal.returns-in-None
returns-in-None t c =
    never (IsTypeThere c.args.world.now c.args.type_of.now) (absent_not_there c.args.world.now c.args.type_of.now c.in-Class.name c.in-Class.is c.in-None.ensures.none)

pub returns-in-Array : goal.returns-in-Array
returns-in-Array t c =
    there_by_item c.args.world.now c.args.type_of.now c.in-Array.item c.get.result.now c.is_type_there.result c.in-Array.is c.get.ensures c.is_type_there.ensures
