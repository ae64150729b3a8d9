use Rattle.jv_verify_refs.proofs.Initialising.{of_this}
use Rattle.jv_verify_refs.proofs.inits.is_of_this.Goals as goal

pub returns : goal.returns
returns c = of_this c.args.step.now c.shape.result.now c.args.name.now c.is_or_extends.result c.shape.ensures.shape c.is_or_extends.ensures
