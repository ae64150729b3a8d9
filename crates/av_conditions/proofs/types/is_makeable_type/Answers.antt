use Rattle.jv_resolve.proofs.Tests.{never}
use Rattle.av_conditions.specs.RightReferences.{IsMakeableType}
use Rattle.av_conditions.proofs.Typing.{absent_not_makeable, makeable_by}
use Rattle.av_conditions.proofs.types.is_makeable_type.Goals as goal

pub returns-in-None : goal.returns-in-None
returns-in-None c =
    never (IsMakeableType c.args.world.now c.args.type_of.now) (absent_not_makeable c.args.world.now c.args.type_of.now c.in-Class.name c.in-Class.is c.in-None.ensures.none)

pub returns-in-Some : goal.returns-in-Some
returns-in-Some c =
    makeable_by c.args.world.now c.args.type_of.now c.in-Class.name c.in-Some.c.number c.shape.result.now c.is_makeable.result c.shape.ensures.world.numbered c.in-Class.is
    c.in-Some.ensures.found c.shape.ensures.shape c.is_makeable.ensures
