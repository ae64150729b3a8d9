use Rattle.av_given.specs.Givens.{application_of}
use Rattle.av_build.proofs.Built.{files_of, stopped_in_typing}
use Rattle.av_build.proofs.building.build.Goals as goal

pub program_of-requires : goal.program_of-requires
program_of-requires c =
    rw (c.as_slice.ensures.value) (files_of c.args.app.files.items (application_of c.args.app.given) c.args.found c.in_ok-world.world c.requires.known c.in_ok-world.ensures)

pub returns-clause-stopped : goal.returns-clause-stopped
returns-clause-stopped c =
    stopped_in_typing c.args.app.files.items (application_of c.args.app.given) c.args.found _ c.in_ok-world.world c.in_ok-world.ensures c.in_ok-check_supertypes.ensures.passes
    c.program_of.result (rw (← c.as_slice.ensures.value) c.program_of.ensures.stopped)
