-- By the laws of reading an attribute.
use Rattle.std.proofs.Common.{ap, Err}
use Rattle.jv_attr.specs.Steps.AttrReading.{attr_at}
use Rattle.jv_attr.proofs.AttrLaws.{attr_takes, attr_found}
use Rattle.jv_class.proofs.LayoutReading.{nothing_read}
use Rattle.jv_class.proofs.attributes.AttrPartPart.read.Goals as goal

pub returns-in-Ok : goal.returns-in-Ok
returns-in-Ok c = attr_found c.args.self.now.pool.now c.args.self.now.owner c.args.self.now.major c.args.cursor.now c.in-Ok.attr c.read_attr.new.cursor c.in-Ok.ensures.found

pub returns-in-Err-Bad : goal.returns-in-Err-Bad
returns-in-Err-Bad c =
    nothing_read (attr_at c.args.self.now.pool.now c.args.self.now.owner c.args.self.now.major c.args.cursor.now)
    (λ x e. c.in-Err-Bad.ensures.bad (ap Err c.in-Err-Bad.field-0-is) x.0 x.1 (attr_takes c.args.self.now.pool.now c.args.self.now.owner c.args.self.now.major c.args.cursor.now x e))
