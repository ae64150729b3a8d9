use Rattle.jv_verify_refs.proofs.Initialising.{this_made_is}
use Rattle.jv_verify_refs.proofs.inits.this_made.Goals as goal

pub returns-clause-found : goal.returns-clause-found
returns-clause-found c = this_made_is c.args.step.now c.args.name.now c.in_ok-made.made (c.is_of_this.ensures.0 c.if-not-is_of_this.false) c.in_ok-made.ensures
