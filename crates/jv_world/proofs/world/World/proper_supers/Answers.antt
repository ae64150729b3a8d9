use Rattle.std.proofs.Common.{length, refl, ap, arith}
use Rattle.std.proofs.lemmas.Option.{slice_get_read}
use Rattle.jv_world.proofs.world.World.proper_supers.Goals as goal

pub returns-clause-exact : goal.returns-clause-exact
returns-clause-exact c =
    let kept = c.self.invariant in
    let supers = c.self.inside.supers.items in
    rw (← c.self.view_is, c.as_slice.ensures.value)
    (kept.supers_are c.args.c.number c.index.result.now
    (slice_get_read supers (length supers) c.args.c.number c.index.result.now refl (omega (arith, kept.supers_count, c.requires, ap length c.self.view_is)) c.index.ensures))
