use Rattle.jv_verify.proofs.Tables.{table_is_made, first_failing_is_least}
use Rattle.jv_verify.proofs.table.table_of.Goals as goal

pub returns-in-Some-clause-fails : goal.returns-in-Some-clause-fails
returns-in-Some-clause-fails c =
    first_failing_is_least c.args.world.now c.args.method c.args.body.now c.args.maps.now c.in_ok-rows.rows.items c.in_ok-initial.initial c.in-Some.pc
    (record { ready = c.requires.ready; begun = c.in_ok-initial.ensures.found; forced = c.in_ok-rows.ensures.forced }) (rw c.in-Some.is at c.in_ok-rows.ensures.first)

pub returns-in-None-clause-typed : goal.returns-in-None-clause-typed
returns-in-None-clause-typed c =
    table_is_made c.args.world.now c.args.method c.args.body.now c.args.maps.now c.in_ok-rows.rows.items c.in_ok-initial.initial
    (record { ready = c.requires.ready; begun = c.in_ok-initial.ensures.found; forced = c.in_ok-rows.ensures.forced }) (rw c.in-None.is at c.in_ok-rows.ensures.first)
