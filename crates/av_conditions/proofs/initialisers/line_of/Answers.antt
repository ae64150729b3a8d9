use Rattle.std.proofs.Common.{subst, sym}
use Rattle.av_conditions.specs.Initialisers.{AreLine}
use Rattle.av_conditions.proofs.Entering.{line_made}
use Rattle.av_conditions.proofs.initialisers.line_of.Goals as goal

pub returns : goal.returns
returns c =
    subst (AreLine c.args.world.now c.args.c.number) (sym c.in_ok-push.ensures.items) (line_made c.args.world.now c.args.c c.in_ok-line.line.items c.in_ok-line.ensures.exact)
