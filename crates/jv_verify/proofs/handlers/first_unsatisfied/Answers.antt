use Rattle.std.specs.Option.{option_copied}
use Rattle.jv_verify.proofs.Covering.{least_unsatisfied}
use Rattle.jv_verify.proofs.handlers.first_unsatisfied.Goals as goal

pub returns : goal.returns
returns c =
    least_unsatisfied c.args.world.now c.args.rows.now c.within-covered.result.now c.args.handler.now (option_copied c.in_ok-there.there) c.first_misfit.result c.requires.rising c.within-covered.ensures c.in_ok-there.ensures
    c.first_misfit.ensures.found c.first_misfit.ensures.none
